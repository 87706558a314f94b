use Rattle.vat.proofs.Places.{padded_is}
use Rattle.planning.proofs.write.block_of.Goals as goal

pub returns : goal.returns
returns c = padded_is c.args.text.now c.copy_from_slice.new.self c.copy_from_slice.ensures.after c.requires
