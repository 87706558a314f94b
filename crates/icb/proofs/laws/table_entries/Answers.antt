use Rattle.icb.proofs.VatIcbs.{others_are_none, entries_begin, descriptors_are_none}
use Rattle.icb.proofs.laws.table_entries.Goals as goal

pub returns-clause-others : goal.returns-clause-others
returns-clause-others c = others_are_none

pub returns-clause-begin : goal.returns-clause-begin
returns-clause-begin c = entries_begin

pub returns-clause-descriptors : goal.returns-clause-descriptors
returns-clause-descriptors c = descriptors_are_none
