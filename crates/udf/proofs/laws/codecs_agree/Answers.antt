use Rattle.udf.proofs.Said.{entries_agree, directories_agree, tables_agree, sizes_agree}
use Rattle.udf.proofs.laws.codecs_agree.Goals as goal

pub returns-clause-entries : goal.returns-clause-entries
returns-clause-entries c = entries_agree

pub returns-clause-directories : goal.returns-clause-directories
returns-clause-directories c = directories_agree

pub returns-clause-tables : goal.returns-clause-tables
returns-clause-tables c = tables_agree

pub returns-clause-sizes : goal.returns-clause-sizes
returns-clause-sizes c = sizes_agree
