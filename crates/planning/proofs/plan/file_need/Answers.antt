use Rattle.std.proofs.Common.{List, ℕ, length, ap, arith}
use Rattle.std.specs.Int.{div_ceil}
use Rattle.limits.specs.declared.TheConstants.{BLOCK_BYTES}
use Rattle.planning.specs.Needs.{file_need}
use Rattle.planning.proofs.plan.file_need.Goals as goal

pub returns-clause-value : goal.returns-clause-value
returns-clause-value c =
    let same = ap (λ (bs : List ℕ). div_ceil (length bs) BLOCK_BYTES) c.outside_of-outside.ensures.value in
    omega (arith, c.from.ensures, c.from-2.ensures, c.block_count.ensures, c.descriptor_blocks.ensures.count, same, ap file_need c.in-Some.is)
