use Rattle.std.proofs.Common.{◌≡◌, map, take}
use Rattle.vat.specs.Entry.{number_entry, words}
use Rattle.vat.proofs.decode.fill_entries.Given as goal

abbrev pub invariant-loop-i : goal.invariant-loop-i
invariant-loop-i l = take l.i l.entries ≡ map number_entry (take l.i (words l.text))
