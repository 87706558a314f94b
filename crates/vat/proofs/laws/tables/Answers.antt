use Rattle.vat.proofs.TableReads.{one_table, nodes_have_entries, takes_so_many, stands_later}
use Rattle.vat.proofs.laws.tables.Goals as goal

pub returns-clause-one : goal.returns-clause-one
returns-clause-one c = one_table

pub returns-clause-bounded : goal.returns-clause-bounded
returns-clause-bounded c = nodes_have_entries

pub returns-clause-size : goal.returns-clause-size
returns-clause-size c = takes_so_many

pub returns-clause-later : goal.returns-clause-later
returns-clause-later c = stands_later
