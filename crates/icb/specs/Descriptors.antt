-- What makes a block a descriptor block (ECMA-167 4/14.5), in the order in which the faults are reported.
use Rattle.std.specs.Prelude.{◌≡◌, ℕ, suc, ◌*◌, ◌+◌, ◌-◌, ◌%◌, ◌==◌, nat_le, if◌then◌else◌, List, [], ◌∷◌, take, drop, replicate}
use Rattle.std.specs.Int.{w32, to_le_bytes}
use Rattle.limits.specs.declared.TheConstants.{BLOCK_BYTES, BLOCK_DESCRIPTORS}
use Rattle.ecma.specs.Field.{IsAt}
use Rattle.ecma.specs.Numbers.{u32_at}
use Rattle.ecma.specs.Tag.{Sealed}
use Rattle.icb.specs.declared.fault.IcbFault.{IcbFault}
use Rattle.icb.specs.declared.fault.IcbFault.TheVariants as faults
use Rattle.icb.specs.Extents.{slots, AreDescriptors}

-- where the descriptors end
abbrev pub descriptors_end : List ℕ → ℕ
descriptors_end block = if nat_le (u32_at 20 block) (16 * BLOCK_DESCRIPTORS) then (if u32_at 20 block % 16 == 0 then 24 + u32_at 20 block else 24) else 24

abbrev pub descriptor_rules : ℕ → ℕ → List ℕ → List (IcbFault × Type 0)
descriptor_rules size number block =
    (faults.Tag, Sealed 258 number (take (descriptors_end block) block))
    ∷ (faults.Fixed, IsAt 16 (to_le_bytes w32 0) block)
    ∷ (faults.Lengths, u32_at 20 block ≡ 16 * slots BLOCK_DESCRIPTORS size)
    ∷ (faults.Extent, AreDescriptors BLOCK_DESCRIPTORS 24 size (suc number) block)
    ∷ (faults.Tail, drop (descriptors_end block) block ≡ replicate (BLOCK_BYTES - descriptors_end block) 0)
    ∷ []
