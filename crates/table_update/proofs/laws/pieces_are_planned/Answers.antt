use Rattle.table_update.proofs.PlanPieces.{nodes_are_written, pieces_are_planned}
use Rattle.table_update.proofs.laws.pieces_are_planned.Goals as goal

pub returns-clause-written : goal.returns-clause-written
returns-clause-written c = nodes_are_written

pub returns-clause-planned : goal.returns-clause-planned
returns-clause-planned c = pieces_are_planned
