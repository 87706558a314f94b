use Rattle.std.proofs.Common.{◌*◌, length, take, drop, ap, ◌∙◌, arith}
use Rattle.vat.proofs.Places.{take_front}
use Rattle.vat.proofs.place.block_text.Goals as goal

pub returns-clause-value : goal.returns-clause-value
returns-clause-value c = c.split_at-2.ensures.front ∙ ap (take c.min.result) c.split_at.ensures.back ∙ take_front 2048 (drop (2048 * c.args.i) c.args.bytes.now) c.min.result (omega (arith, c.min.ensures, ap length c.split_at.ensures.back))
