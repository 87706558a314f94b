use Rattle.std.proofs.Common.{◌≡◌, map, Bor, List, ℕ}
use Rattle.request.proofs.path.Path.of_names.Given as goal

abbrev pub invariant-loop-part : goal.invariant-loop-part
invariant-loop-part l = l.path ≡ map (λ (part : Bor (List ℕ)). part.now) l.yielded
