use Rattle.recover.proofs.reading.read_into.Goals as goal

pub returns-in-Ok-clause-block : goal.returns-in-Ok-clause-block
returns-in-Ok-clause-block g c = c.blocks_are_bytes.ensures
