use Rattle.std.proofs.Common.{◌≡◌, take}
use Rattle.model.specs.Plain.{texts_in}
use Rattle.model.proofs.plain.paths.copied.Given as goal

abbrev pub invariant-loop-name : goal.invariant-loop-name
invariant-loop-name l = texts_in l.copy.items ≡ take l.name-index (texts_in l.names)
