use Rattle.std.proofs.Common.{◌≡◌, ◌-◌, ◌≤◌, length, take}
use Rattle.std.specs.Prelude.{fold}
use Rattle.std.specs.List.{All}
use Rattle.osta.specs.Compressed.{compressed}
use Rattle.dir.specs.Size.{end_of_data, next_end, parent_end, name_sizes}
use Rattle.dir.proofs.entry.Dir.data_size.Given as goal

abbrev pub invariant-loop-i : goal.invariant-loop-i
invariant-loop-i l = record {
  end : end_of_data l.size ≡ fold next_end parent_end (take l.i (name_sizes l.self.entries.entries));
  full : (end_of_data l.size).full ≤ l.i - 1;
  short : All (λ e. length (compressed e.0) ≤ 255) (take l.i l.self.entries.entries);
}
