use Rattle.engine.proofs.Pieces.{Written}
use Rattle.engine.proofs.streams.put_all.Given as goal

-- what was written so far is a prefix of the bytes
abbrev pub invariant-loop : goal.invariant-loop
invariant-loop g l = Written (g.W.Write.contents l.fn.writer) (g.W.Write.contents l.writer) l.bytes l.rest
