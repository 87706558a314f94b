use Rattle.codec_tests.proofs.reads.reads_after.Goals as goal

pub shared_state-requires : goal.shared_state-requires
shared_state-requires c = c.new-known.ensures _
