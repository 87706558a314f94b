use Rattle.std.proofs.Common.{refl, None, true}
use Rattle.engine.specs.Situation.{situation}
use Rattle.programs.proofs.Applying.{unmade_answers, memory_answers}
use Rattle.programs.proofs.FailedReads.{counts_store}
use Rattle.programs.proofs.requests.apply_in_memory.Goals as goal

pub returns-in_err-format-clause-answers : goal.returns-in_err-format-clause-answers
returns-in_err-format-clause-answers g c =
    unmade_answers c.from_residual.result _ _ c.args.capacity _ _ _ _ _ c.from_residual.ensures.1 refl
    c.new-drive.ensures.capacity c.new-drive.ensures.journal c.in_err-format.ensures.err c.in_err-format.ensures.label c.in_err-format.ensures.small

pub returns-clause-answers : goal.returns-clause-answers
returns-clause-answers g c =
    memory_answers c.apply.result c.args.capacity c.new-drive.result.capacity c.format.new.drive.capacity _ c.new-drive.result.events.list.items _ _ _
    (situation None c.apply.new.drive.events.list.items c.apply.new.drive.failures c.apply.new.drive.capacity true c.apply.new.drive.given.writes) _ _ _ _
    c.requires c.new-drive.ensures.capacity c.format.ensures.follows.capacity c.new-drive.ensures.journal c.in_ok-format.ensures.ok refl c.apply.ensures.applies

pub returns-in_err-format-clause-failures : goal.returns-in_err-format-clause-failures
returns-in_err-format-clause-failures g c = counts_store c.from_residual.result _ _ _ c.from_residual.ensures.1 refl
