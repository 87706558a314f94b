use Rattle.std.proofs.Common.{ℕ, ◌+◌, ◌<◌, List, get_or, refl, sym, subst, arith}
use Rattle.std.proofs.lemmas.Bool.{both_ways}
use Rattle.std.specs.Int.{w32, w64, to_le_bytes}
use Rattle.ecma.specs.Field.{IsAt}
use Rattle.ecma.proofs.InBytes.{both_at, front_at, back_at}
use Rattle.icb.proofs.Fields.{stamp_is}
use Rattle.icb.proofs.rules.is_stamp_again.Goals as goal

pub returns-then-not-is_u64_at : goal.returns-then-not-is_u64_at
returns-then-not-is_u64_at c =
    let block = c.args.block.now in
    let small : (i : ℕ) → get_or block i 0 < 256 = λ i. omega (arith, c.fits-block i) in
    let spelled = stamp_is block c.u64_at-front.result c.u32_at-back.result small c.told-block c.u64_at-front.ensures c.u32_at-back.ensures in (
      (λ no. absurd cc),
      (λ all. absurd (both_ways _ c.if-not-is_u64_at.true (c.is_u64_at.ensures.1
          (front_at c.args.at (to_le_bytes w64 c.u64_at-front.result) (to_le_bytes w32 c.u32_at-back.result) block (subst (λ (x : List ℕ). IsAt c.args.at x block) spelled all))))),
    )

pub returns : goal.returns
returns c =
    let block = c.args.block.now in
    let small : (i : ℕ) → get_or block i 0 < 256 = λ i. omega (arith, c.fits-block i) in
    let front = to_le_bytes w64 c.u64_at-front.result in
    let back = to_le_bytes w32 c.u32_at-back.result in
    let spelled = stamp_is block c.u64_at-front.result c.u32_at-back.result small c.told-block c.u64_at-front.ensures c.u32_at-back.ensures in (
      (λ yes. subst (λ (x : List ℕ). IsAt c.args.at x block) (sym spelled) (both_at c.args.at (c.args.at + 8) front back block refl (c.is_u64_at.ensures.0 c.if-not-is_u64_at.false) (c.is_u32_at.ensures.0 yes))),
      (λ all. c.is_u32_at.ensures.1 (back_at c.args.at (c.args.at + 8) front back block refl (subst (λ (x : List ℕ). IsAt c.args.at x block) spelled all))),
    )
