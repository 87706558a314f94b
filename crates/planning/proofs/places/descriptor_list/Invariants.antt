use Rattle.std.proofs.Common.{◌≡◌, ◌-◌, ◌*◌, drop, length}
use Rattle.limits.specs.declared.TheConstants.{ENTRY_DESCRIPTORS, FILE_BYTES}
use Rattle.planning.proofs.Listing.{AreListed}
use Rattle.planning.proofs.places.descriptor_list.Given as goal

-- so many blocks list what is not listed in the entry
abbrev pub invariant-loop-index : goal.invariant-loop-index
invariant-loop-index l = record {
  long : length l.blocks.items ≡ l.index;
  listed : AreListed (l.size - FILE_BYTES * (ENTRY_DESCRIPTORS - 1)) l.next (drop (16 * (ENTRY_DESCRIPTORS - 1)) l.all) l.blocks.items;
}
