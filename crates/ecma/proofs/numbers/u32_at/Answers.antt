use Rattle.std.proofs.Common.{ℕ, List, ap, ◌∙◌}
use Rattle.byteorder.specs.Endian.{little_number}
use Rattle.ecma.proofs.Reading.{u32_read}
use Rattle.ecma.proofs.numbers.u32_at.Goals as goal

pub returns : goal.returns
returns c =
    c.read_u32.ensures ∙ ap (λ (field : List ℕ). little_number 4 field) c.split_at.ensures.back ∙ u32_read c.args.at c.args.bytes.now
