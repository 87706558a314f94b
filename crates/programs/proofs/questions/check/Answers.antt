use Rattle.std.proofs.Common.{inl, ◌∙◌}
use Rattle.programs.specs.Questions.Question.{Soundness}
use Rattle.programs.proofs.Failing.{counts_put, counts_refused}
use Rattle.programs.proofs.Printing.{shows_put, shows_refused, sound_said, sound_refused}
use Rattle.programs.proofs.questions.check.Goals as goal

pub returns-in_err-commits-clause-prints : goal.returns-in_err-commits-clause-prints
returns-in_err-commits-clause-prints g c =
    shows_refused Soundness c.from_residual.result _ _ _ _ _ c.from_residual.ensures.1 (sound_refused _ _ _ _ c.in_err-commits.ensures.refused)

pub returns-in_err-line-clause-prints : goal.returns-in_err-line-clause-prints
returns-in_err-line-clause-prints g c =
    shows_refused Soundness c.from_residual-in_err-line.result _ _ _ _ _ c.from_residual-in_err-line.ensures.1 (λ honest once. inl tt)

pub returns-clause-prints : goal.returns-clause-prints
returns-clause-prints g c =
    shows_put Soundness c.put.result _ _ _ _ _ _ c.put.ensures.puts
    (sound_said _ _ _ _ _ c.in_ok-commits.ensures.recovers c.in_ok-commits.ensures.counts (c.as_bytes.ensures.value ∙ c.in_ok-line.ensures))

pub returns-in_err-commits-clause-failures : goal.returns-in_err-commits-clause-failures
returns-in_err-commits-clause-failures g c =
    counts_refused c.from_residual.result _ _ _ c.from_residual.ensures.1 c.in_err-commits.ensures.reads.failures

pub returns-in_err-line-clause-failures : goal.returns-in_err-line-clause-failures
returns-in_err-line-clause-failures g c =
    counts_refused c.from_residual-in_err-line.result _ _ _ c.from_residual-in_err-line.ensures.1 c.in_ok-commits.ensures.reads.failures

pub returns-clause-failures : goal.returns-clause-failures
returns-clause-failures g c =
    counts_put c.put.result _ _ _ _ _ c.put.ensures.puts c.in_ok-commits.ensures.reads.failures
