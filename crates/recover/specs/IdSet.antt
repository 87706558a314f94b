-- A set of numbers as it is kept: the small ones in a table, the others as a hash set.
use Rattle.std.specs.Prelude.{false, if◌then◌else◌, get_or, nat_lt, nat_eq}
use Rattle.std.specs.HashSet.{contains}
use Rattle.recover.specs.declared.id_set.IdSet.{IdSet}
use Rattle.recover.specs.Forest.{Numbers}

-- the numbers that are in it
abbrev pub marked : IdSet → Numbers
marked marks n = if nat_lt n 262144 then get_or marks.near.items n false else contains nat_eq marks.far n
