use Rattle.table_update.proofs.Counting.{files_are_counted, names_are_counted, names_are_short}
use Rattle.table_update.proofs.Reckoning.{need_is_reckoned}
use Rattle.table_update.proofs.laws.need_is_reckoned.Goals as goal

pub returns-clause-need : goal.returns-clause-need
returns-clause-need c = need_is_reckoned

pub returns-clause-names : goal.returns-clause-names
returns-clause-names c = names_are_counted

pub returns-clause-short : goal.returns-clause-short
returns-clause-short c = names_are_short

pub returns-clause-files : goal.returns-clause-files
returns-clause-files c = files_are_counted
