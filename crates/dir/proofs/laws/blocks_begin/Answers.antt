use Rattle.dir.proofs.Begins.{blocks_begin}
use Rattle.dir.proofs.laws.blocks_begin.Goals as goal

pub returns : goal.returns
returns c = blocks_begin
