use Rattle.engine.proofs.InTurn.{writes_are_their_own, writes_begin}
use Rattle.engine.proofs.laws.writes_are_in_turn.Goals as goal

pub returns-clause-begin : goal.returns-clause-begin
returns-clause-begin c = writes_begin

pub returns-clause-own : goal.returns-clause-own
returns-clause-own c = writes_are_their_own
