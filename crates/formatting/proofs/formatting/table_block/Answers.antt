use Rattle.vat.proofs.Places.{padded_is}
use Rattle.formatting.proofs.formatting.table_block.Goals as goal

pub returns : goal.returns
returns c = padded_is c.args.table.now c.copy_from_slice.new.self c.copy_from_slice.ensures.after c.requires
