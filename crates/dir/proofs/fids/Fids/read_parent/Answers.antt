use Rattle.std.proofs.Common.{true, subst}
use Rattle.dir.specs.Directory.{of_parent}
use Rattle.dir.specs.Identifier.{Identifier}
use Rattle.dir.specs.Item.{said}
use Rattle.dir.specs.Reads.{ReadsIdentifier}
use Rattle.dir.proofs.Entries.{parent_said, parent_Fits, parent_in_place}
use Rattle.dir.proofs.Errors.{if_err}
use Rattle.dir.proofs.fids.Fids.read_parent.Goals as goal

pub returns-clause-ok : goal.returns-clause-ok
returns-clause-ok c =
    let read = c.in_ok-item.ensures.ok in
    subst (λ (y : Identifier). ReadsIdentifier true c.args.first c.args.self.now c.read.new.self y) (parent_said (said c.in_ok-item.item) read.place) read

pub returns-in_err-item-clause-err : goal.returns-in_err-item-clause-err
returns-in_err-item-clause-err c =
    if_err c.from_residual.result _ (λ parent rest fits short there stood.
    c.in_err-item.ensures.err (of_parent parent) rest (parent_Fits parent fits) (parent_in_place parent) short there stood)
