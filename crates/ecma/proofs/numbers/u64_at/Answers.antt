use Rattle.std.proofs.Common.{ℕ, List, ap, ◌∙◌}
use Rattle.byteorder.specs.Endian.{little_number}
use Rattle.ecma.proofs.Reading.{u64_read}
use Rattle.ecma.proofs.numbers.u64_at.Goals as goal

pub returns : goal.returns
returns c =
    c.read_u64.ensures ∙ ap (λ (field : List ℕ). little_number 8 field) c.split_at.ensures.back ∙ u64_read c.args.at c.args.bytes.now
