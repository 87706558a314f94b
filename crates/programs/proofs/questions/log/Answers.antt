use Rattle.std.proofs.Common.{inl, ap, ◌∙◌}
use Rattle.programs.specs.Lines.{commits_text}
use Rattle.programs.specs.Questions.Question.{Commits}
use Rattle.programs.proofs.Failing.{counts_put, counts_refused, counts_then}
use Rattle.programs.proofs.Printing.{shows_put, shows_refused, commits_said, commits_refused, commits_short}
use Rattle.programs.proofs.questions.log.Goals as goal

pub returns-in_err-store-clause-prints : goal.returns-in_err-store-clause-prints
returns-in_err-store-clause-prints g c =
    shows_refused Commits c.from_residual.result _ _ _ _ _ c.from_residual.ensures.1 (λ honest once. inl (c.in_err-store.ensures.refused honest))

pub returns-in_err-commits-clause-prints : goal.returns-in_err-commits-clause-prints
returns-in_err-commits-clause-prints g c =
    shows_refused Commits c.from_residual-in_err-commits.result _ _ _ _ _ c.from_residual-in_err-commits.ensures.1
    (commits_refused _ _ c.in_ok-store.store _ _ _ c.in_ok-store.ensures.reads.journal c.in_err-commits.ensures.reads.honest c.in_ok-store.ensures.recovers _ (c.in_err-commits.ensures.refused c.in_ok-store.ensures.stopped))

pub returns-in_err-lines-clause-prints : goal.returns-in_err-lines-clause-prints
returns-in_err-lines-clause-prints g c =
    shows_refused Commits c.from_residual-in_err-lines.result _ _ _ _ _ c.from_residual-in_err-lines.ensures.1
    (commits_short _ _ c.in_ok-store.store _ _ _ c.in_ok-store.ensures.reads.journal c.in_ok-commits.ensures.reads.honest c.in_ok-store.ensures.recovers)

pub returns-clause-prints : goal.returns-clause-prints
returns-clause-prints g c =
    shows_put Commits c.put.result _ _ _ _ _ _ c.put.ensures.puts
    (commits_said _ _ c.in_ok-store.store _ _ _ c.in_ok-store.ensures.reads.journal c.in_ok-commits.ensures.reads.honest c.in_ok-store.ensures.recovers _ _ _ c.in_ok-store.ensures.reads.capacity c.in_ok-commits.ensures.history c.in_ok-commits.ensures.all
    (c.as_bytes.ensures.value ∙ (c.in_ok-lines.ensures ∙ ap commits_text c.deref.ensures.value)))

pub returns-in_err-store-clause-failures : goal.returns-in_err-store-clause-failures
returns-in_err-store-clause-failures g c =
    counts_refused c.from_residual.result _ _ _ c.from_residual.ensures.1 c.in_err-store.ensures.reads.failures

pub returns-in_err-commits-clause-failures : goal.returns-in_err-commits-clause-failures
returns-in_err-commits-clause-failures g c =
    counts_refused c.from_residual-in_err-commits.result _ _ _ c.from_residual-in_err-commits.ensures.1 (counts_then _ _ _ _ c.in_ok-store.ensures.reads.failures c.in_err-commits.ensures.reads.failures)

pub returns-in_err-lines-clause-failures : goal.returns-in_err-lines-clause-failures
returns-in_err-lines-clause-failures g c =
    counts_refused c.from_residual-in_err-lines.result _ _ _ c.from_residual-in_err-lines.ensures.1 (counts_then 0 _ _ _ c.in_ok-store.ensures.reads.failures c.in_ok-commits.ensures.reads.failures)

pub returns-clause-failures : goal.returns-clause-failures
returns-clause-failures g c =
    counts_put c.put.result _ _ _ _ _ c.put.ensures.puts (counts_then 0 _ _ _ c.in_ok-store.ensures.reads.failures c.in_ok-commits.ensures.reads.failures)
