use Rattle.std.proofs.Common.{ap, ◌∙◌}
use Rattle.model.specs.Plain.{texts_in}
use Rattle.model.proofs.PlainPaths.{copied_more}
use Rattle.model.proofs.plain.paths.copied.Goals as goal

pub loop-name-preserved : goal.loop-name-preserved
loop-name-preserved c =
    ap texts_in c.in_ok-push.ensures.items ∙ copied_more c.args.names.now c.loop-name.copy.items c.name-item.result c.in_ok-clone.field-0 c.loop-name.name-index c.loop-name-test.true c.loop-name.invariant c.name-item.is c.in_ok-clone.ensures.cases
