use Rattle.std.proofs.Common.{◌∙◌, sym, subst, List, inr}
use Rattle.drive.specs.Journal.{Event, Once}
use Rattle.durability.specs.Runs.Query.{Stat}
use Rattle.lookup.proofs.Listings.{shown_directory, shown_file, shown_none}
use Rattle.lookup.proofs.Looking.{looks_failed, looks_then, missing_told, refused_by, sees_before, sound, sound_next, stored_seen}
use Rattle.lookup.proofs.lookup.Lookup.stat.Goals as goal

pub returns-in_err-node-clause-refused : goal.returns-in_err-node-clause-refused
returns-in_err-node-clause-refused g c tree s =
    refused_by c.from_residual.result _ _ c.from_residual.ensures.1 (missing_told tree c.args.path.now (Stat c.args.path.now) _ (shown_none tree c.args.path.now) (c.in_err-node.ensures.missing tree s))

pub returns-in_err-moment-clause-refused : goal.returns-in_err-moment-clause-refused
returns-in_err-moment-clause-refused g c tree s =
    let p = c.in_ok-node.ensures.looks in
    let here = c.in_ok-node.ensures.found tree (sees_before c.args.self.now tree c.in_err-moment.ensures.looks s) in
    let short = (c.in_err-moment.ensures.read s.honest here.found.stored (stored_seen c.args.path.now c.in_ok-node.node here p)).1 in
    refused_by c.from_residual-in_err-moment.result _ _ c.from_residual-in_err-moment.ensures.1 (inr (inr (inr (inr short))))

pub returns-in_err-moment-clause-looks : goal.returns-in_err-moment-clause-looks
returns-in_err-moment-clause-looks g c = looks_failed c.from_residual-in_err-moment.result _ c.from_residual-in_err-moment.ensures.1 (looks_then c.in_ok-node.ensures.looks c.in_err-moment.ensures.looks)

pub returns-then-not-is_directory-clause-told : goal.returns-then-not-is_directory-clause-told
returns-then-not-is_directory-clause-told g c tree once s =
    let J = g.D.Drive.journal c.args.self.now.drive.now in
    let at = c.args.self.now.nodes.vat_icb_address in
    let entries = c.args.self.now.nodes.numbers.now in
    let p = c.in_ok-node.ensures.looks in
    let here = c.in_ok-node.ensures.found tree (sees_before c.args.self.now tree c.in_ok-moment.ensures.looks s) in
    let read = (c.in_ok-moment.ensures.read s.honest here.found.stored (stored_seen c.args.path.now c.in_ok-node.node here p)).0 in
    let once1 = subst (λ (K : List Event). Once K) (sym p.reads.journal) once in
    shown_file at entries J tree s.tree s.makes c.args.path.now c.in_ok-node.node here c.in_ok-moment.moment c.from.result (sym c.is_directory.ensures ∙ c.if-not-is_directory.true)
    read.moment (λ bytes body. c.from.ensures ∙ read.size once1 bytes body)

pub returns-then-not-is_directory-clause-looks : goal.returns-then-not-is_directory-clause-looks
returns-then-not-is_directory-clause-looks g c = looks_then c.in_ok-node.ensures.looks c.in_ok-moment.ensures.looks

pub returns-in_err-size-clause-refused : goal.returns-in_err-size-clause-refused
returns-in_err-size-clause-refused g c tree s =
    let p = c.in_ok-node.ensures.looks in
    let q = c.in_ok-moment.ensures.looks in
    let r = c.in_err-size.ensures.looks in
    let here = c.in_ok-node.ensures.found tree (sees_before c.args.self.now tree (looks_then q r) s) in
    let there = stored_seen c.args.path.now c.in_ok-node.node here (looks_then p q) in
    let short = (c.in_err-size.ensures.count (sound_next (looks_then p q) r (sound s)) here.found.stored there (sym here.kind ∙ (sym c.is_directory.ensures ∙ c.if-not-is_directory.false))).1 in
    refused_by c.from_residual-in_err-size.result _ _ c.from_residual-in_err-size.ensures.1 (inr (inr (inr (inr short))))

pub returns-in_err-size-clause-looks : goal.returns-in_err-size-clause-looks
returns-in_err-size-clause-looks g c =
    looks_failed c.from_residual-in_err-size.result _ c.from_residual-in_err-size.ensures.1 (looks_then c.in_ok-node.ensures.looks (looks_then c.in_ok-moment.ensures.looks c.in_err-size.ensures.looks))

pub returns-clause-told : goal.returns-clause-told
returns-clause-told g c tree once s =
    let J = g.D.Drive.journal c.args.self.now.drive.now in
    let at = c.args.self.now.nodes.vat_icb_address in
    let entries = c.args.self.now.nodes.numbers.now in
    let p = c.in_ok-node.ensures.looks in
    let q = c.in_ok-moment.ensures.looks in
    let r = c.in_ok-size.ensures.looks in
    let here = c.in_ok-node.ensures.found tree (sees_before c.args.self.now tree (looks_then q r) s) in
    let read = (c.in_ok-moment.ensures.read (r.reads.honest s.honest) here.found.stored (stored_seen c.args.path.now c.in_ok-node.node here p)).0 in
    let dir = sym c.is_directory.ensures ∙ c.if-not-is_directory.false in
    let count = (c.in_ok-size.ensures.count (sound_next (looks_then p q) r (sound s)) here.found.stored (stored_seen c.args.path.now c.in_ok-node.node here (looks_then p q)) (sym here.kind ∙ dir)).0 in
    shown_directory at entries J tree s.tree s.makes c.args.path.now c.in_ok-node.node here c.in_ok-moment.moment c.in_ok-size.size dir read.moment count

pub returns-clause-looks : goal.returns-clause-looks
returns-clause-looks g c = looks_then c.in_ok-node.ensures.looks (looks_then c.in_ok-moment.ensures.looks c.in_ok-size.ensures.looks)
