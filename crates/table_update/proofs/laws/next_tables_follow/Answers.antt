use Rattle.table_update.proofs.ChangesTaken.{changes_are_taken}
use Rattle.table_update.proofs.NextSizes.{next_tables_are_long, next_tables_are_sized}
use Rattle.table_update.proofs.NextTables.{next_tables_follow}
use Rattle.table_update.proofs.laws.next_tables_follow.Goals as goal

pub returns-clause-follows : goal.returns-clause-follows
returns-clause-follows c = next_tables_follow

pub returns-clause-taken : goal.returns-clause-taken
returns-clause-taken c = changes_are_taken

pub returns-clause-long : goal.returns-clause-long
returns-clause-long c = next_tables_are_long

pub returns-clause-sized : goal.returns-clause-sized
returns-clause-sized c = next_tables_are_sized
