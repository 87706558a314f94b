use Rattle.std.specs.Prelude.{◌≡◌, length}
use Rattle.engine.proofs.Pieces.{Written}
use Rattle.programs.proofs.errors.ErrorStream.put.Given as goal

-- what was written so far is a prefix of the bytes, and no write failed
abbrev pub invariant-loop-rest : goal.invariant-loop-rest
invariant-loop-rest g l = Written (g.W.Write.contents l.fn.self.stream) (g.W.Write.contents l.self.stream) l.bytes l.rest × (l.self.failures ≡ l.fn.self.failures)

abbrev pub decreases-loop-rest : goal.decreases-loop-rest
decreases-loop-rest g l = length l.rest
