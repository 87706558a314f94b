use Rattle.std.proofs.Common.{List, inl, inr, subst}
use Rattle.drive.specs.Journal.{Event, held}
use Rattle.recover.specs.Tables.{IsAtRefused}
use Rattle.recover.specs.declared.fault.StoreFault.{StoreFault}
use Rattle.embedding.specs.declared.told.CommitStatus.{CommitStatus}
use Rattle.embedding.specs.Commits.{TellsCommit}
use Rattle.embedding.proofs.Asking.{if_ok, if_err}
use Rattle.embedding.proofs.commits.commit_before.Goals as goal

pub returns-in-Ok-clause-reported : goal.returns-in-Ok-clause-reported
returns-in-Ok-clause-reported g c =
    if_ok c.commit_at.result
    (λ (told : CommitStatus) said honest. (
      c.in-Ok.at,
      c.in-Ok.ensures.found (c.commit_at.ensures.honest honest),
      subst (λ (J : List Event). TellsCommit (held J) c.in-Ok.at told) c.in-Ok.ensures.journal (said honest),
    ))
    c.commit_at.ensures.reported

pub returns-in-Ok-clause-refused : goal.returns-in-Ok-clause-refused
returns-in-Ok-clause-refused g c =
    if_err c.commit_at.result
    (λ (fault : StoreFault) said honest. inr (
      c.in-Ok.at,
      c.in-Ok.ensures.found (c.commit_at.ensures.honest honest),
      subst (λ (J : List Event). IsAtRefused (held J) c.in-Ok.at fault) c.in-Ok.ensures.journal (said honest),
    ))
    c.commit_at.ensures.refused

pub returns-in-Err-clause-refused : goal.returns-in-Err-clause-refused
returns-in-Err-clause-refused g c = λ honest. inl (c.in-Err.ensures.refused honest)
