use Rattle.std.proofs.Common.{◌≡◌, ◌≤◌, ◌*◌, length, take}
use Rattle.std.specs.List.{flat_map}
use Rattle.request.specs.Answers.{listed_field}
use Rattle.request.proofs.encode.names_len.Given as goal

abbrev pub invariant-loop-listed : goal.invariant-loop-listed
invariant-loop-listed l =
    (l.total ≤ 1023 * l.listed-index) × (l.total ≡ length (flat_map listed_field (take l.listed-index l.listed-items)))
