use Rattle.std.proofs.Common.{refl, arith}
use Rattle.programs.proofs.Tallies.{payload_ends, payload_more}
use Rattle.programs.proofs.counting.FrameCount.take_of_payload.Goals as goal

pub returns-then-self-eq0 : goal.returns-then-self-eq0
returns-then-self-eq0 c bytes byte h =
    payload_ends c.args.self.now _ bytes byte c.requires.goes_on refl refl c.saturating_add-self.ensures (omega arith) (omega arith) h

pub returns-else-self-eq0 : goal.returns-else-self-eq0
returns-else-self-eq0 c bytes byte h =
    payload_more c.args.self.now _ bytes byte c.requires.goes_on refl refl refl (omega arith) (omega arith) h
