use Rattle.std.proofs.Common.{ℕ, ◌≤◌, sym, subst}
use Rattle.programs.proofs.Telling.{at_most_two, done_with, said_done, tells_refusal}
use Rattle.programs.proofs.daemons.daemon_on.Goals as goal

pub returns-clause-status : goal.returns-clause-status
returns-clause-status g c = subst (λ (n : ℕ). n ≤ 2) (sym c.report.ensures.status) (at_most_two c.serve_words-outcome.result)

pub returns-clause-run : goal.returns-clause-run
returns-clause-run g c done = done_with c.serve_words-outcome.result _ _ c.serve_words-outcome.ensures.run c.report.ensures.status done

pub returns-clause-reports : goal.returns-clause-reports
returns-clause-reports g c least =
    tells_refusal _ c.serve_words-outcome.result _ _ _ _ _ _ c.serve_words-outcome.ensures.refused c.serve_words-outcome.ensures.unreported c.report.ensures.status c.report.ensures.describes least

pub returns-clause-described : goal.returns-clause-described
returns-clause-described g c done = said_done c.serve_words-outcome.result _ _ _ _ c.serve_words-outcome.ensures.described c.report.ensures.status c.report.ensures.describes done
