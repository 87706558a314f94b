use Rattle.std.proofs.Common.{◌≢◌, ℕ, sym, subst, arith}
use Rattle.icb.specs.Extents.{AreEntryDescriptors}
use Rattle.icb.specs.Rules.{flags_at}
use Rattle.icb.proofs.rules.has_extent.Goals as goal

pub returns : goal.returns
returns c =
    let block = c.args.block.now in
    let other : flags_at block ≢ 3 = λ three. omega (arith, three, c.u16_at.ensures, c.if-u16_at-eq-BYTES_INSIDE.false) in (
      (λ yes _. subst (λ (n : ℕ). AreEntryDescriptors 176 n block) c.u64_at.ensures (c.are_entry_descriptors.ensures.0 yes)),
      (λ has. c.are_entry_descriptors.ensures.1 (subst (λ (n : ℕ). AreEntryDescriptors 176 n block) (sym c.u64_at.ensures) (has other))),
    )
