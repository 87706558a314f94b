use Rattle.std.proofs.Common.{◌≡◌, ◌+◌, ◌-◌, ◌<◌, ◌≤◌, ◌++◌, ◌∙◌, ℕ, List, Some, None, length, refl, sym, subst, ap, arith, length-append}
use Rattle.std.specs.Prelude.{All, IfSome, Option}
use Rattle.std.proofs.lemmas.Bool.{false≢true}
use Rattle.std.proofs.lemmas.Result.{err_from_is_err_and}
use Rattle.limits.specs.declared.TheConstants.{PARTITION_START}
use Rattle.durability.specs.Volume.{Medium}
use Rattle.durability.specs.Plan.{Writing, WritesNodes}
use Rattle.udf.specs.Udf.{udf}
use Rattle.vat.specs.declared.table.Vat.{Vat}
use Rattle.vat.specs.Table.{Table, FitsTable, view}
use Rattle.recover.specs.Below.{AreBelow, IsUsed}
use Rattle.recover.specs.declared.node.Node.{Node}
use Rattle.planning.specs.Plan.{AreLaid, IsTablePlaced, file_list, file_writings, file_written, directories_list, directories_writings, directories_written}
use Rattle.table_update.specs.NextTable.{all_placed, without_gone}
use Rattle.table_update.specs.TableChange.{IsRemovable}
use Rattle.planning.specs.Writings.{new_file}
use Rattle.planning.specs.declared.change.NewDirectory.{NewDirectory}
use Rattle.recover.proofs.BelowLemmas.{below_later}
use Rattle.planning.proofs.Plans.{length-padded, placed_append}
use Rattle.planning.proofs.Taking.{directories_used, file_used, gone_there}
use Rattle.planning.proofs.Writings.{writes-append}
use Rattle.planning.proofs.plan.LastTable.place.Goals as goal

pub place_table-requires-clause-leads : goal.place_table-requires-clause-leads
place_table-requires-clause-leads c =
    let start = c.new-numbers.result.next in
    let begins : start + PARTITION_START ≡ c.args.next = omega (arith, c.new-numbers.ensures.next, c.requires.agrees.on, c.requires.agrees.keeps.low) in
    let first = below_later c.args.self.now.vat_icb_address (start + PARTITION_START) c.args.vat.entries.items (omega (arith, begins, c.requires.agrees.on)) c.requires.begun.below in
    let end = c.enter_directories.new.numbers.next in
    let previous : c.take_away.new.vat.previous ≡ Some (c.args.self.now.vat_icb_address - PARTITION_START) =
    c.in_ok-take_away.ensures.gone.stays.previous ∙ c.in_ok-directories.ensures.enters.stays.previous ∙ c.in_ok-file.ensures.enters.stays.previous ∙ c.requires.begun.previous in
    let low : c.args.self.now.vat_icb_address - PARTITION_START < end =
    omega (arith, begins, c.in_ok-file.ensures.enters.next, c.in_ok-directories.ensures.enters.next, c.requires.agrees.on, c.requires.agrees.keeps.low) in
    record {
      below = c.in_ok-take_away.ensures.gone.below (end + PARTITION_START) (c.in_ok-directories.ensures.enters.below (c.in_ok-file.ensures.enters.below first));
      previous = subst (λ (p : Option ℕ). IfSome p (λ n. n < end)) (sym previous) low;
    }

pub returns-clause-plan : goal.returns-clause-plan
returns-clause-plan c =
    let next = c.args.next in
    let start = c.new-numbers.result.next in
    let node_end = c.enter_directories.new.numbers.next in
    let file = c.in_ok-file.file in
    let directories = c.in_ok-directories.directories.items in
    let table = c.in_ok-table.table in
    let at = table.at in
    let vat = table.vat in
    let nodes = file_list file ++ directories_list directories in
    let low : PARTITION_START ≤ next = omega (arith, c.requires.agrees.on, c.requires.agrees.keeps.low) in
    let begins : start ≡ next - PARTITION_START = c.new-numbers.ensures.next in
    let size : node_end ≡ next - PARTITION_START + length nodes = omega (arith, begins, c.in_ok-file.ensures.enters.next, c.in_ok-directories.ensures.enters.next, length-append (file_list file) (directories_list directories)) in
    let after : next + 1 ≤ at = omega (arith, low, size, c.in_ok-table.ensures.placed.number, length-padded table.gap table.bytes.items, c.in_ok-table.ensures.some) in
    let commits : vat.sessions.commits ≡ c.args.self.now.vat.now.sessions.commits + 1 =
    ap (λ (v : Vat). v.sessions.commits) c.in_ok-table.ensures.vat ∙ c.in_ok-take_away.ensures.gone.stays.commits ∙ c.in_ok-directories.ensures.enters.stays.commits ∙ c.in_ok-file.ensures.enters.stays.commits ∙ c.requires.begun.commits in
    let unique : vat.sessions.next_unique ≡ c.args.vat.sessions.next_unique =
    ap (λ (v : Vat). v.sessions.next_unique) c.in_ok-table.ensures.vat ∙ c.in_ok-take_away.ensures.gone.stays.unique ∙ c.in_ok-directories.ensures.enters.stays.unique ∙ c.in_ok-file.ensures.enters.stays.unique in
    let first = below_later c.args.self.now.vat_icb_address (start + PARTITION_START) c.args.vat.entries.items (omega (arith, begins, low, c.requires.agrees.on)) c.requires.begun.below in
    let gone = c.in_ok-take_away.ensures.gone.below (node_end + PARTITION_START) (c.in_ok-directories.ensures.enters.below (c.in_ok-file.ensures.enters.below first)) in
    let all : AreBelow at c.take_away.new.vat.entries.items = below_later (node_end + PARTITION_START) at c.take_away.new.vat.entries.items (omega (arith, c.in_ok-table.ensures.placed.number)) gone in
    let second : (medium : Medium) → WritesNodes udf medium (directories_writings directories) (start + length (file_list file)) (directories_list directories) (directories_written directories) =
    λ medium. subst (λ n. WritesNodes udf medium (directories_writings directories) n (directories_list directories) (directories_written directories)) c.in_ok-file.ensures.enters.next (c.in_ok-directories.ensures.written medium) in
    record {
      begins = c.in_ok-new.ensures;
      low = low;
      nodes = λ medium kept.
          subst (λ n. WritesNodes udf medium (file_writings medium c.args.moment file ++ directories_writings directories) n nodes (file_written file ++ directories_written directories)) begins
          (writes-append medium (file_writings medium c.args.moment file) (directories_writings directories) start (file_list file) (directories_list directories) (file_written file) (directories_written directories) (c.in_ok-file.ensures.written medium kept) second);
      laid = subst (λ n. AreLaid n directories) (c.in_ok-file.ensures.enters.next ∙ ap (λ n. n + length (file_list file)) begins) c.in_ok-directories.ensures.placed.laid;
      table = subst (λ n. IsTablePlaced n c.args.moment table) size c.in_ok-table.ensures.placed;
      fits = omega (arith, c.in_ok-table.ensures.within, c.in_ok-directories.ensures.end, c.in_ok-file.ensures.end, c.new-numbers.ensures.end, c.requires.agrees.least);
      keeps = record {
        low = omega (arith, after, c.requires.agrees.on, c.requires.agrees.keeps.low);
        fits = subst (λ (v : Vat). FitsTable (view v)) (sym c.in_ok-table.ensures.vat) c.in_ok-take_away.ensures.gone.fits;
        entries = subst (λ (v : Vat). AreBelow at v.entries.items) (sym c.in_ok-table.ensures.vat) all;
        few_commits = omega (arith, commits, after, c.requires.agrees.on, c.requires.agrees.keeps.few_commits);
        few_unique = omega (arith, commits, unique, c.requires.begun.unique, c.requires.begun.commits);
      };
    }

pub returns-clause-makes : goal.returns-clause-makes
returns-clause-makes c =
    let file = file_written c.in_ok-file.file in
    let directories = directories_written c.in_ok-directories.directories.items in
    record {
      code = refl;
      commit = refl;
      moment_is = refl;
      writings = λ medium. ap (λ (ws : List Writing). ws ++ directories_writings c.in_ok-directories.directories.items) (c.in_ok-file.ensures.writings medium)
          ∙ ap (λ (ws : List Writing). new_file medium c.args.moment c.args.change.file ++ ws) c.in_ok-directories.ensures.placed.writings;
      kept = c.in_ok-file.ensures.kept;
      table = ap view c.in_ok-table.ensures.vat
          ∙ c.in_ok-take_away.ensures.gone.table
          ∙ ap (without_gone c.args.change.removed) (c.in_ok-directories.ensures.enters.table ∙ ap (all_placed directories) c.in_ok-file.ensures.enters.table ∙ sym (placed_append file directories (view c.args.vat)));
    }

pub returns-in_err-file-clause-refused : goal.returns-in_err-file-clause-refused
returns-in_err-file-clause-refused c medium takes =
    let p = err_from_is_err_and c.from_residual.result c.from_residual.ensures.1 in
    rw p.1 (p.2 ∙ c.in_err-file.ensures.used (file_used medium None c.args.moment c.args.change (view c.args.vat) takes))

pub returns-in_err-directories-clause-refused : goal.returns-in_err-directories-clause-refused
returns-in_err-directories-clause-refused c medium takes =
    let p = err_from_is_err_and c.from_residual-in_err-directories.result c.from_residual-in_err-directories.ensures.1 in
    let used = directories_used medium None c.args.moment c.args.change (view c.args.vat) takes c.in_ok-file.file (c.in_ok-file.ensures.writings medium) in
    let there = subst (λ (t : Table). All (λ (d : NewDirectory). IsUsed d.address t.entries) c.args.change.directories.items) (sym c.in_ok-file.ensures.enters.table) used in
    rw p.1 (p.2 ∙ c.in_err-directories.ensures.used there)

pub returns-in_err-take_away-clause-refused : goal.returns-in_err-take_away-clause-refused
returns-in_err-take_away-clause-refused c medium takes =
    let gone = gone_there medium None c.args.moment c.args.change (view c.args.vat) takes c.in_ok-file.file (c.in_ok-file.ensures.writings medium) c.in_ok-directories.directories.items c.in_ok-directories.ensures.placed.writings in
    let table = c.in_ok-directories.ensures.enters.table ∙ ap (all_placed (directories_written c.in_ok-directories.directories.items)) c.in_ok-file.ensures.enters.table in
    let there = subst (λ (t : Table). IfSome c.args.change.removed (λ (node : Node). IsRemovable node.kind node.address t)) (sym table) gone in
    absurd (false≢true (sym (c.in_err-take_away.ensures.there there)))

pub returns-in_err-new-clause-refused : goal.returns-in_err-new-clause-refused
returns-in_err-new-clause-refused c medium takes =
    let p = err_from_is_err_and c.from_residual-in_err-new.result c.from_residual-in_err-new.ensures.1 in
    rw p.1 p.2
