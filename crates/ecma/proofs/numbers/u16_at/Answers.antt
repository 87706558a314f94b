use Rattle.std.proofs.Common.{ℕ, List, ap, ◌∙◌}
use Rattle.byteorder.specs.Endian.{little_number}
use Rattle.ecma.proofs.Reading.{u16_read}
use Rattle.ecma.proofs.numbers.u16_at.Goals as goal

pub returns : goal.returns
returns c =
    c.read_u16.ensures ∙ ap (λ (field : List ℕ). little_number 2 field) c.split_at.ensures.back ∙ u16_read c.args.at c.args.bytes.now
