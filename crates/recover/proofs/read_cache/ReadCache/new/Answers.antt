use Rattle.recover.proofs.read_cache.ReadCache.new.Goals as goal

pub returns : goal.returns
returns c medium = record { front = tt; entries = c.new.ensures medium; before = c.new-2.ensures medium; met = c.new-3.ensures medium }
