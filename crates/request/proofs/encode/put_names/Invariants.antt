use Rattle.std.proofs.Common.{◌≡◌, ◌++◌, length, take}
use Rattle.std.specs.Int.{w16, to_le_bytes}
use Rattle.std.specs.List.{flat_map}
use Rattle.request.specs.Answers.{listed_field}
use Rattle.request.proofs.encode.put_names.Given as goal

abbrev pub invariant-loop-listed : goal.invariant-loop-listed
invariant-loop-listed l =
    l.out.items ≡ l.fn.out.items ++ (to_le_bytes w16 (length l.names) ++ flat_map listed_field (take l.listed-index l.names))
