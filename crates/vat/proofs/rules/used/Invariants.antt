use Rattle.std.proofs.Common.{◌≡◌, ◌≤◌, take}
use Rattle.vat.specs.Entry.{words}
use Rattle.vat.specs.Rules.{used_of}
use Rattle.vat.proofs.rules.used.Given as goal

abbrev pub invariant-loop-i : goal.invariant-loop-i
invariant-loop-i l = record { count : l.used ≡ used_of (take l.i (words l.text)); bound : l.used ≤ l.i }
