use Rattle.std.proofs.Common.{◌≡◌, ◌-◌, ◌≤◌, take}
use Rattle.std.specs.List.{remove}
use Rattle.dir.specs.Size.{data_end, end_of_data, name_sizes}
use Rattle.dir.proofs.kept.size_without.Given as goal

abbrev pub invariant-loop-left : goal.invariant-loop-left
invariant-loop-left l = record {
  end : end_of_data l.size ≡ data_end (take l.left (name_sizes (remove l.dir.entries.entries l.index)));
  full : (end_of_data l.size).full ≤ l.left - 1;
}
