use Rattle.std.proofs.lemmas.Result.{err_from_is_err_and}
use Rattle.std.specs.Prelude.{is_some}
use Rattle.std.proofs.Common.{List, length, ◌<◌, take, subst, arith}
use Rattle.std.proofs.lemmas.List.Sums.{count_by-le-length}
use Rattle.drive.specs.Journal.{Event, held}
use Rattle.recover.specs.State.{CountsTree, IsTreeRefused}
use Rattle.recover.proofs.Held.{length-held}
use Rattle.recover.proofs.Refusals.{no_tree}
use Rattle.recover.proofs.States.{few_nodes, is_shown}
use Rattle.recover.proofs.state.state_sharing.Goals as goal

pub check_tree-requires-clause-few : goal.check_tree-requires-clause-few
check_tree-requires-clause-few g c = (few_nodes _ c.in_ok-state.state.vat _ c.in_ok-state.ensures.table.1).1

pub returns-clause-shown : goal.returns-clause-shown
returns-clause-shown g c = λ h.
    let J : List Event = g.D.Drive.journal c.args.drive.now in
    let tree = subst (λ (K : List Event). CountsTree (take c.args.at (held K)) c.in_ok-state.state.vat) c.described.ensures.reads.reads.journal (c.in_ok-check_tree.ensures.tree h) in
    let long : c.args.at < length (held J) = omega (arith, length-held J, c.requires.within) in
    is_shown _ (held J) c.args.at _ c.requires.low long (c.in_ok-state.ensures.described (c.check_tree.ensures.reads.reads.honest h)) tree c.in_ok-check_tree.ensures.counts

pub returns-clause-sound : goal.returns-clause-sound
returns-clause-sound g c =
    let limits = c.in_ok-state.ensures.limits in
    let table = c.in_ok-state.ensures.table in
    record {
      low = limits.0;
      high = limits.1;
      fits = limits.2;
      bytes = table.0;
      table = table.1;
      counted = c.in_ok-check_tree.ensures.counts;
      nodes = omega (arith, table.1.table.fits.used, count_by-le-length is_some c.in_ok-state.state.vat.entries.items);
    }

pub returns-clause-table : goal.returns-clause-table
returns-clause-table g c = λ h.
    let d = c.in_ok-state.ensures.described (c.check_tree.ensures.reads.reads.honest h) in
    record { entry = d.entry; is_entry = d.is_entry; below = d.below; is = d.table }

pub returns-in_err-state-clause-refused : goal.returns-in_err-state-clause-refused
returns-in_err-state-clause-refused g c =
    let q = err_from_is_err_and c.from_residual.result c.from_residual.ensures.1 in
    rw (q.1, q.2) c.in_err-state.ensures.refused

pub returns-in_err-check_tree-clause-refused : goal.returns-in_err-check_tree-clause-refused
returns-in_err-check_tree-clause-refused g c =
    let q = err_from_is_err_and c.from_residual-in_err-check_tree.result c.from_residual-in_err-check_tree.ensures.1 in
    rw (q.1, q.2) (λ h.
    let J : List Event = g.D.Drive.journal c.args.drive.now in
    let long : c.args.at < length (held J) = omega (arith, length-held J, c.requires.within) in
    let d = c.in_ok-state.ensures.described (c.check_tree.ensures.reads.reads.honest h) in
    no_tree (held J) c.args.at c.requires.low long d.entry d.is_entry c.in_ok-state.state.vat d.table c.in_ok-state.state.label d.formatted c.in_ok-state.state.capacity d.front (g.D.Drive.capacity c.args.drive.now) _
    (subst (λ (K : List Event). IsTreeRefused (take c.args.at (held K)) c.args.at c.in_ok-state.state.vat c.in_err-check_tree.field-0.0) c.described.ensures.reads.reads.journal (c.in_err-check_tree.ensures.refused h)))
