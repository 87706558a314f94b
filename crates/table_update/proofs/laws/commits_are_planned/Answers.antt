use Rattle.table_update.proofs.Committed.{commits_are_part, commits_are_whole, tables_stand}
use Rattle.table_update.proofs.laws.commits_are_planned.Goals as goal

pub returns-clause-whole : goal.returns-clause-whole
returns-clause-whole c = commits_are_whole

pub returns-clause-part : goal.returns-clause-part
returns-clause-part c = commits_are_part

pub returns-clause-table : goal.returns-clause-table
returns-clause-table c = tables_stand
