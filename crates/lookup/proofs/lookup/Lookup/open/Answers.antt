use Rattle.std.proofs.Common.{◌∙◌, ap, sym, subst, refl, ℕ, List, inl, arith}
use Rattle.drive.specs.Journal.{Event, held}
use Rattle.drive.proofs.Reading.{reads_none}
use Rattle.dir.specs.declared.entry.Dir.{Dir}
use Rattle.dir.specs.Directory.{IsDirectory}
use Rattle.recover.specs.Nodes.{IsDirectoryRefused, data_of}
use Rattle.lookup.specs.Lookups.{graph_seen}
use Rattle.lookup.proofs.Looking.{failed, looks_failed, looks_none, looks_short, looks_then}
use Rattle.lookup.proofs.StoredNodes.{lies_at}
use Rattle.lookup.proofs.Walks.{opened, not_refused}
use Rattle.lookup.proofs.lookup.Lookup.open.Goals as goal

pub returns-in_err-at-clause-opened : goal.returns-in_err-at-clause-opened
returns-in_err-at-clause-opened g c k s there d = absurd (c.in_err-at.ensures.unused there.number there.used)

pub returns-in_err-at-clause-looks : goal.returns-in_err-at-clause-looks
returns-in_err-at-clause-looks g c =
    looks_short c.from_residual.result _ c.from_residual.ensures.1 c.in_err-at.ensures.device looks_none

pub returns-in-Some-clause-opened : goal.returns-in-Some-clause-opened
returns-in-Some-clause-opened g c k s there d =
    let J = g.D.Drive.journal c.args.self.now.drive.now in
    let lies = c.in-Some.ensures.lies J k.kept in
    let placed = c.in-Some.opened.0 in
    (opened J placed s c.in-Some.opened.1 (lies_at c.args.self.now.nodes.vat_icb_address c.args.self.now.nodes.numbers.now J c.in_ok-at.at c.args.address placed s c.in_ok-at.ensures.address c.in_ok-at.ensures.used lies.0 lies.1.entry there d) lies.1, tt)

pub returns-in-Some-clause-lies : goal.returns-in-Some-clause-lies
returns-in-Some-clause-lies g c = record { lies = λ k. (c.in-Some.ensures.lies (g.D.Drive.journal c.args.self.now.drive.now) k.kept).1; below = c.in-Some.ensures.below }

pub returns-in-Some-clause-looks : goal.returns-in-Some-clause-looks
returns-in-Some-clause-looks g c = record { same_drive = refl; same_cache = refl; nodes = refl; reads = reads_none _ _; kept = λ honest kept. c.take.ensures.kept (g.D.Drive.journal c.args.self.now.drive.now) kept }

pub returns-in_err-placed-clause-opened : goal.returns-in_err-placed-clause-opened
returns-in_err-placed-clause-opened g c k s there d =
    let there1 = subst (λ (a : ℕ). graph_seen g.D.Drive c.args.self.now a s) (sym c.in_ok-at.ensures.address) there in
    failed c.from_residual-in_err-placed.result _ _ _ c.from_residual-in_err-placed.ensures.1 (inl (c.in_err-placed.ensures.refused k.honest s there1 d))

pub returns-in_err-placed-clause-looks : goal.returns-in_err-placed-clause-looks
returns-in_err-placed-clause-looks g c =
    looks_failed c.from_residual-in_err-placed.result _ c.from_residual-in_err-placed.ensures.1
    (looks_then (record { same_drive = refl; same_cache = refl; nodes = refl; reads = reads_none _ _; kept = λ honest kept. c.take.ensures.kept (g.D.Drive.journal c.args.self.now.drive.now) kept }) c.in_err-placed.ensures.looks)

pub returns-in_err-dir-clause-opened : goal.returns-in_err-dir-clause-opened
returns-in_err-dir-clause-opened g c k s there d =
    let J = g.D.Drive.journal c.args.self.now.drive.now in
    let placed = c.in_ok-placed.placed in
    let entry = c.in_ok-placed.ensures.placed.entry (c.in_err-dir.ensures.reads.honest k.honest) in
    let lies = lies_at c.args.self.now.nodes.vat_icb_address c.args.self.now.nodes.numbers.now J c.in_ok-at.at c.args.address placed s c.in_ok-at.ensures.address c.in_ok-at.ensures.used c.in_ok-placed.ensures.placed.at_is entry there d in
    let refused = subst (λ (K : List Event). IsDirectoryRefused placed.extent (data_of (held K) placed.extent) c.in_err-dir.field-0.0) c.in_ok-placed.ensures.looks.reads.journal (c.in_err-dir.ensures.refused k.honest) in
    failed c.from_residual-in_err-dir.result _ _ _ c.from_residual-in_err-dir.ensures.1 (not_refused J placed s c.in_err-dir.field-0.0 lies refused)

pub returns-in_err-dir-clause-looks : goal.returns-in_err-dir-clause-looks
returns-in_err-dir-clause-looks g c =
    looks_failed c.from_residual-in_err-dir.result _ c.from_residual-in_err-dir.ensures.1
    (looks_then (record { same_drive = refl; same_cache = refl; nodes = refl; reads = reads_none _ _; kept = λ honest kept. c.take.ensures.kept (g.D.Drive.journal c.args.self.now.drive.now) kept })
    (looks_then c.in_ok-placed.ensures.looks (record { same_drive = refl; same_cache = refl; nodes = refl; reads = c.in_err-dir.ensures.reads; kept = λ honest kept. kept })))

pub returns-clause-lies : goal.returns-clause-lies
returns-clause-lies g c =
    let placed = c.in_ok-placed.placed in
    let read = c.in_ok-dir.ensures.directory in
    record {
      lies = λ k.
          let found = read.1 k.honest ∙ ap (λ (K : List Event). data_of (held K) placed.extent) c.in_ok-placed.ensures.looks.reads.journal in
          record {
            entry = c.in_ok-placed.ensures.placed.entry (c.in_ok-dir.ensures.reads.honest k.honest);
            within = omega (arith, c.in_ok-placed.ensures.placed.below, c.args.self.now.within);
            is = subst (λ (d : Dir). IsDirectory d.parent d.entries.entries placed.extent.first placed.extent.size (data_of (held (g.D.Drive.journal c.args.self.now.drive.now)) placed.extent)) (sym c.of.ensures)
                (subst (λ (blocks : List (List ℕ)). IsDirectory c.in_ok-dir.dir.parent c.in_ok-dir.dir.entries.entries placed.extent.first placed.extent.size blocks) found read.3);
          };
      below = c.in_ok-placed.ensures.placed.below;
    }

pub returns-clause-opened : goal.returns-clause-opened
returns-clause-opened g c k s there d =
    let placed = c.in_ok-placed.placed in
    let J = g.D.Drive.journal c.args.self.now.drive.now in
    let entry = c.in_ok-placed.ensures.placed.entry (c.in_ok-dir.ensures.reads.honest k.honest) in
    (opened J placed s _ (lies_at c.args.self.now.nodes.vat_icb_address c.args.self.now.nodes.numbers.now J c.in_ok-at.at c.args.address placed s c.in_ok-at.ensures.address c.in_ok-at.ensures.used c.in_ok-placed.ensures.placed.at_is entry there d) ((returns-clause-lies g c).lies k), tt)

pub returns-clause-looks : goal.returns-clause-looks
returns-clause-looks g c =
    looks_then (record { same_drive = refl; same_cache = refl; nodes = refl; reads = reads_none _ _; kept = λ honest kept. c.take.ensures.kept (g.D.Drive.journal c.args.self.now.drive.now) kept })
    (looks_then c.in_ok-placed.ensures.looks (record { same_drive = refl; same_cache = refl; nodes = refl; reads = c.in_ok-dir.ensures.reads; kept = λ honest kept. kept }))
