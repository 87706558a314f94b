use Rattle.std.proofs.Common.{List, refl, subst}
use Rattle.drive.specs.Journal.{Event, held}
use Rattle.vat.specs.Table.{view}
use Rattle.recover.specs.Tables.{HasTableAt, IsAtRefused}
use Rattle.embedding.proofs.commits.commit_at.Goals as goal

pub returns-in-Err-table_at-clause-refused : goal.returns-in-Err-table_at-clause-refused
returns-in-Err-table_at-clause-refused g c = λ h.
    subst (λ (J : List Event). IsAtRefused (held J) c.args.at c.in-Err-table_at.fault) c.in-Ok.ensures.reads.journal (c.in-Err-table_at.ensures.refused h)

pub returns-clause-reported : goal.returns-clause-reported
returns-clause-reported g c = λ h. record {
  table = view c.in-Ok-table_at.vat;
  there = subst (λ (J : List Event). HasTableAt (held J) c.args.at (view c.in-Ok-table_at.vat)) c.in-Ok.ensures.reads.journal (c.in-Ok-table_at.ensures.table h);
  commit = refl;
  entry = c.in-Ok.entry;
  icb = c.in-Ok.ensures.found (c.in-Ok-table_at.ensures.reads.honest h);
  moment = c.moment.ensures.value;
}
