use Rattle.std.proofs.Common.{◌≡◌, ◌-◌, ◌*◌, ◌/◌, drop, length}
use Rattle.limits.specs.declared.TheConstants.{FILE_BYTES}
use Rattle.udf.specs.Udf.{all_firsts, firsts_in}
use Rattle.recover.specs.Walk.{last_of}
use Rattle.recover.proofs.extents.last_extent.Given as goal

-- the last of all is that of those that are left
abbrev pub invariant-loop-index : goal.invariant-loop-index
invariant-loop-index l =
    last_of l.last (l.size - FILE_BYTES * l.index) (firsts_in (length l.descriptors / 16 - l.index) (drop (16 * l.index) l.descriptors))
    ≡ last_of l.initial.last l.size (all_firsts l.descriptors)
