use Rattle.std.proofs.Common.{inl}
use Rattle.programs.specs.Questions.Question.{Bytes_at}
use Rattle.programs.proofs.Failing.{counts_refused, counts_then}
use Rattle.programs.proofs.Printing.{shows_file, shows_refused}
use Rattle.programs.proofs.questions.get.Goals as goal

pub returns-in_err-store-clause-prints : goal.returns-in_err-store-clause-prints
returns-in_err-store-clause-prints g c =
    shows_refused (Bytes_at c.args.path.now) c.from_residual.result _ _ _ _ _ c.from_residual.ensures.1 (λ honest once. inl (c.in_err-store.ensures.refused honest))

pub returns-clause-prints : goal.returns-clause-prints
returns-clause-prints g c =
    shows_file _ _ c.in_ok-store.store _ _ _ c.in_ok-store.ensures.reads.journal c.put_file.ensures.reads.honest c.in_ok-store.ensures.recovers c.args.path.now c.put_file.result _ _ _ c.in_ok-store.ensures.reads.capacity c.put_file.ensures.puts

pub returns-in_err-store-clause-failures : goal.returns-in_err-store-clause-failures
returns-in_err-store-clause-failures g c =
    counts_refused c.from_residual.result _ _ _ c.from_residual.ensures.1 c.in_err-store.ensures.reads.failures

pub returns-clause-failures : goal.returns-clause-failures
returns-clause-failures g c = counts_then _ _ _ _ c.in_ok-store.ensures.reads.failures c.put_file.ensures.reads.failures
