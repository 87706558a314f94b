use Rattle.std.proofs.Common.{List, inl, ap, ◌∙◌}
use Rattle.request.specs.declared.answer.Listed.{Listed}
use Rattle.lookup.specs.Asked.{said_names}
use Rattle.programs.specs.Lines.{names_text}
use Rattle.programs.specs.Questions.Question.{Names_at}
use Rattle.programs.proofs.Failing.{counts_put, counts_refused, counts_then}
use Rattle.programs.proofs.Printing.{shows_put, shows_refused, names_said, names_refused, names_short}
use Rattle.programs.proofs.questions.list.Goals as goal

pub returns-in_err-store-clause-prints : goal.returns-in_err-store-clause-prints
returns-in_err-store-clause-prints g c =
    shows_refused (Names_at c.args.path.now) c.from_residual.result _ _ _ _ _ c.from_residual.ensures.1 (λ honest once. inl (c.in_err-store.ensures.refused honest))

pub returns-in_err-listing-clause-prints : goal.returns-in_err-listing-clause-prints
returns-in_err-listing-clause-prints g c =
    shows_refused (Names_at c.args.path.now) c.from_residual-in_err-listing.result _ _ _ _ _ c.from_residual-in_err-listing.ensures.1
    (names_refused _ _ c.in_ok-store.store _ _ _ c.in_ok-store.ensures.reads.journal c.in_err-listing.ensures.reads.honest c.in_ok-store.ensures.recovers c.args.path.now _ c.in_ok-store.ensures.stopped c.in_err-listing.ensures.refused)

pub returns-in_err-lines-clause-prints : goal.returns-in_err-lines-clause-prints
returns-in_err-lines-clause-prints g c =
    shows_refused (Names_at c.args.path.now) c.from_residual-in_err-lines.result _ _ _ _ _ c.from_residual-in_err-lines.ensures.1
    (names_short _ _ c.in_ok-store.store _ _ _ c.in_ok-store.ensures.reads.journal c.in_ok-listing.ensures.reads.honest c.in_ok-store.ensures.recovers c.args.path.now)

pub returns-clause-prints : goal.returns-clause-prints
returns-clause-prints g c =
    shows_put (Names_at c.args.path.now) c.put.result _ _ _ _ _ _ c.put.ensures.puts
    (names_said _ _ c.in_ok-store.store _ _ _ c.in_ok-store.ensures.reads.journal c.in_ok-listing.ensures.reads.honest c.in_ok-store.ensures.recovers c.args.path.now c.in_ok-listing.listing _ c.in_ok-listing.ensures.reported
    (c.as_bytes.ensures.value ∙ (c.in_ok-lines.ensures ∙ ap (λ (names : List Listed). names_text (said_names names)) c.names.ensures.names)))

pub returns-in_err-store-clause-failures : goal.returns-in_err-store-clause-failures
returns-in_err-store-clause-failures g c =
    counts_refused c.from_residual.result _ _ _ c.from_residual.ensures.1 c.in_err-store.ensures.reads.failures

pub returns-in_err-listing-clause-failures : goal.returns-in_err-listing-clause-failures
returns-in_err-listing-clause-failures g c =
    counts_refused c.from_residual-in_err-listing.result _ _ _ c.from_residual-in_err-listing.ensures.1 (counts_then _ _ _ _ c.in_ok-store.ensures.reads.failures c.in_err-listing.ensures.reads.failures)

pub returns-in_err-lines-clause-failures : goal.returns-in_err-lines-clause-failures
returns-in_err-lines-clause-failures g c =
    counts_refused c.from_residual-in_err-lines.result _ _ _ c.from_residual-in_err-lines.ensures.1 (counts_then 0 _ _ _ c.in_ok-store.ensures.reads.failures c.in_ok-listing.ensures.reads.failures)

pub returns-clause-failures : goal.returns-clause-failures
returns-clause-failures g c =
    counts_put c.put.result _ _ _ _ _ c.put.ensures.puts (counts_then 0 _ _ _ c.in_ok-store.ensures.reads.failures c.in_ok-listing.ensures.reads.failures)
