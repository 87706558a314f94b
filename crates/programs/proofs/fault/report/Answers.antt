use Rattle.programs.specs.FaultLines.{said_on}
use Rattle.programs.proofs.Saying.{reported}
use Rattle.programs.proofs.fault.report.Goals as goal

pub returns-in-Usage-clause-describes : goal.returns-in-Usage-clause-describes
returns-in-Usage-clause-describes g c = reported c.args.name.now c.args.outcome c.in-Err.fault c.say.result _ (said_on g.E.Write c.say.new.errors) _ c.in-Err.is c.say.ensures.ok c.say.ensures.err c.say.ensures.failures c.flush.ensures.bytes c.flush.ensures.failures

pub returns-in_default-clause-describes : goal.returns-in_default-clause-describes
returns-in_default-clause-describes g c = reported c.args.name.now c.args.outcome c.in-Err.fault c.say.result _ (said_on g.E.Write c.say.new.errors) _ c.in-Err.is c.say.ensures.ok c.say.ensures.err c.say.ensures.failures c.flush.ensures.bytes c.flush.ensures.failures
