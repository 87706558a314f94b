use Rattle.std.specs.Prelude.{◌≡◌}
use Rattle.std.specs.Io.KnownBytes.{Keeps}
use Rattle.programs.proofs.errors.ErrorStream.write.Given as goal

abbrev pub invariant-loop : goal.invariant-loop
invariant-loop g l = Keeps (g.W.Write.contents l.fn.self.stream) (g.W.Write.contents l.self.stream) × (l.self.failures ≡ l.fn.self.failures)
