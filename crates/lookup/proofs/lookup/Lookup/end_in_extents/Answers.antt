use Rattle.std.proofs.Common.{refl}
use Rattle.lookup.proofs.Ending.{are_full}
use Rattle.lookup.proofs.lookup.Lookup.end_in_extents.Goals as goal

pub new-requires : goal.new-requires
new-requires g c = are_full c.args.size c.args.descriptors.items c.args.descriptors.items refl c.requires.limit c.requires.full c.requires.long c.requires.are
