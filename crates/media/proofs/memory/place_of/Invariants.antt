use Rattle.media.specs.InMemory.{AreOthers}
use Rattle.media.proofs.memory.place_of.Given as goal

abbrev pub invariant-loop-place : goal.invariant-loop-place
invariant-loop-place l = AreOthers l.slots l.path l.place
