use Rattle.std.proofs.Common.{◌≡◌, ◌*◌, ◌≤◌, take}
use Rattle.std.specs.List.{All}
use Rattle.dir.specs.Directory.{IsDirectoryEntry}
use Rattle.dir.specs.Size.{name_sizes, plain_sizes}
use Rattle.dir.proofs.entry.Dir.plain_size.Given as goal

-- the names so far
abbrev pub invariant-loop-i : goal.invariant-loop-i
invariant-loop-i l = record {
  size : l.size ≡ plain_sizes (name_sizes (take l.i l.self.entries.entries));
  proper : All IsDirectoryEntry (take l.i l.self.entries.entries);
  small : l.size ≤ 296 * l.i;
}
