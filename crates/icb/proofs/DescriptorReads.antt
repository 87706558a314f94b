-- A block that keeps the rules is a descriptor block, and a descriptor block keeps them.
use Rattle.std.proofs.Common.{◌≡◌, ℕ, suc, ◌*◌, ◌%◌, ◌+◌, ◌-◌, ◌≤◌, Bool, cond, eqb, List, [], ◌∷◌, ◌++◌, length, take, drop, replicate, refl, sym, ap, subst, ◌∙◌, IsTrue, is_ok, Result, Ok, Err, IfOk, IfErr, arith}
use Rattle.std.specs.Int.{w32, to_le_bytes}
use Rattle.std.specs.List.{concat}
use Rattle.std.proofs.lemmas.Bool.{eq-eqb, le-leb}
use Rattle.std.proofs.lemmas.List.{drop-drop, drop_at, drop-take, length-append, length-drop, length-take, take-take, take_at}
use Rattle.ecma.specs.Descriptor.{IsDescriptor}
use Rattle.ecma.specs.Field.{IsAt}
use Rattle.ecma.specs.FirstFault.{AllHold, IsFirst}
use Rattle.ecma.specs.Numbers.{u32_at}
use Rattle.ecma.specs.Tag.{Sealed}
use Rattle.ecma.proofs.Descriptors.{laid_out, whole_descriptor}
use Rattle.ecma.proofs.Faults.{no_fault}
use Rattle.ecma.proofs.InBytes.{u32_is}
use Rattle.ecma.proofs.Pieces.{IsBytes, concat_onto, cut, onto, u32_stands}
use Rattle.icb.specs.declared.fault.IcbFault.{IcbFault}
use Rattle.icb.specs.Descriptors.{descriptor_rules, descriptors_end}
use Rattle.icb.specs.Extents.{AreDescriptors, IsDescriptorBlock, descriptors_body, descriptors_in, slots}
use Rattle.icb.proofs.DescriptorParts.{descriptors_part, descriptors_whole}

-- what is after the tag, piece by piece
abbrev pieces : List ℕ → List (List ℕ)
pieces descriptors = to_le_bytes w32 0 ∷ to_le_bytes w32 (length descriptors) ∷ descriptors ∷ []

-- where as many descriptors end as a block has room for
pub end_is : (block : List ℕ) (count : ℕ) → u32_at 20 block ≡ 16 * count → count ≤ 126 → descriptors_end block ≡ 24 + 16 * count
end_is block count len few =
    let n = u32_at 20 block in
    ap (λ (b : Bool). cond b (cond (eqb (n % 16) 0) (24 + n) 24) 24) (le-leb n 2_016 (omega (arith, len, few)))
    ∙ ap (λ (b : Bool). cond b (24 + n) 24) (eq-eqb (n % 16) 0 (omega (arith, len)))
    ∙ omega (arith, len)

-- what a reader cuts out of the block are the descriptors in it
pub front_is : (block front : List ℕ) (end count : ℕ) → end ≡ descriptors_end block → front ≡ take end block → length front ≡ end → u32_at 20 block ≡ 16 * count → count ≤ 126
    → take (length front - 24) (drop 24 front) ≡ descriptors_in block
front_is block front end count end-is front-is long len few =
    let n = 16 * count in
    let ends : end ≡ 24 + n = end-is ∙ end_is block count len few in
    let inner : drop 24 front ≡ take n (drop 24 block) = ap (drop 24) front-is ∙ ap (λ (m : ℕ). drop 24 (take m block)) ends ∙ drop-take 24 n block in
    ap (λ (m : ℕ). take m (drop 24 front)) (let size : length front - 24 ≡ n = omega (arith, long, ends) in size)
    ∙ ap (take n) inner
    ∙ take-take n n (drop 24 block) (omega arith)
    ∙ ap (λ (m : ℕ). take m (drop 24 block)) (sym len)

-- a block that keeps the rules is a descriptor block
pub is_descriptors : (size number : ℕ) (block : List ℕ) → length block ≡ 2048 → IsBytes block → AllHold (descriptor_rules size number block) → IsDescriptorBlock size number block
is_descriptors size number block room bytes rules =
    let count = slots 126 size in
    let n = 16 * count in
    let end = descriptors_end block in
    let descriptors : List ℕ = take n (drop 24 block) in
    let rest : List ℕ = replicate (2048 - end) 0 in
    let len : u32_at 20 block ≡ n = rules.1.1.0 in
    let tail = rules.1.1.1.1.0 in
    let ends : end ≡ 24 + n = end_is block count len (omega arith) in
    let long : length descriptors ≡ n = omega (arith, length-take n (drop 24 block), length-drop 24 block, room) in
    let stands : IsAt 24 descriptors block = ap (λ (m : ℕ). take m (drop 24 block)) long in
    let p24 = cut 24 end descriptors block rest (omega (arith, ends, long)) stands tail in
    let p20 = cut 20 24 (to_le_bytes w32 (length descriptors)) block _ refl (u32_stands 20 block (length descriptors) bytes (omega arith) (len ∙ sym long)) p24 in
    let p16 = cut 16 20 (to_le_bytes w32 0) block _ refl rules.1.0 p20 in
    record {
      descriptors = descriptors;
      long = long;
      are = descriptors_part 126 24 size (suc number) block (omega arith) rules.1.1.1.0;
      whole = whole_descriptor 258 number end (concat (pieces descriptors)) block room (omega (arith, ends)) (omega (arith, ends)) rules.0 tail (p16 ∙ sym (concat_onto (pieces descriptors) rest));
    }

-- what is in a descriptor block with these descriptors
pub record Reads (descriptors block : List ℕ) : Type 0 where
  pub rest : List ℕ
  pub previous : IsAt 16 (to_le_bytes w32 0) block
  pub len : u32_at 20 block ≡ length descriptors
  pub after : drop 24 block ≡ descriptors ++ rest

pub reads : (number : ℕ) (descriptors block : List ℕ) → length descriptors ≤ 2_016 → IsDescriptor 258 number (descriptors_body descriptors) block → Reads descriptors block
reads number descriptors block few whole =
    let body = laid_out 258 number (pieces descriptors) block whole in
    let all : List ℕ = onto (pieces descriptors) body.0 in
    let from : (k : ℕ) → drop (16 + k) block ≡ drop k all = λ k. sym (drop-drop k 16 block) ∙ ap (drop k) body.1 in
    record {
      rest = body.0;
      previous = ap (take 4) (from 0);
      len = u32_is 20 (length descriptors) block (omega (arith, few)) (ap (take 4) (from 4));
      after = from 8;
    }

-- the descriptors of such a block are in it
pub part_is : (descriptors block : List ℕ) → Reads descriptors block → descriptors_in block ≡ descriptors
part_is descriptors block r =
    ap (λ (m : ℕ). take m (drop 24 block)) r.len ∙ ap (take (length descriptors)) r.after ∙ take_at descriptors r.rest (length descriptors) refl

-- a descriptor block keeps the rules
pub keeps : (size number : ℕ) (block : List ℕ) → IsDescriptorBlock size number block → AllHold (descriptor_rules size number block)
keeps size number block is =
    let count = slots 126 size in
    let n = 16 * count in
    let d = is.whole in
    let r = reads number is.descriptors block (omega (arith, is.long)) d in
    let len : u32_at 20 block ≡ n = r.len ∙ is.long in
    let ends : descriptors_end block ≡ 24 + n = end_is block count len (omega arith) in
    let sum : length (drop 16 d.descriptor) ≡ 8 + length is.descriptors = ap length d.fields ∙ omega (arith, length-append is.descriptors []) in
    let end : descriptors_end block ≡ length d.descriptor = omega (arith, ends, sum, is.long, length-drop 16 d.descriptor, d.sealed.long) in
    let zeros : List ℕ = replicate (2048 - length d.descriptor) 0 in
    let front : take (descriptors_end block) block ≡ d.descriptor =
    ap (λ (m : ℕ). take m block) end ∙ ap (take (length d.descriptor)) d.whole ∙ take_at d.descriptor zeros (length d.descriptor) refl in
    let back : drop (descriptors_end block) block ≡ replicate (2048 - descriptors_end block) 0 =
    ap (λ (m : ℕ). drop m block) end ∙ ap (drop (length d.descriptor)) d.whole ∙ drop_at d.descriptor zeros (length d.descriptor) refl ∙ ap (λ (m : ℕ). replicate (2048 - m) 0) (sym end) in
    let there : take n (drop 24 block) ≡ is.descriptors = ap (λ (m : ℕ). take m (drop 24 block)) (sym len) ∙ part_is is.descriptors block r in
    let each : AreDescriptors 126 24 size (suc number) block =
    descriptors_whole 126 24 size (suc number) block (omega arith) (subst (λ (x : List ℕ). AreDescriptors 126 0 size (suc number) x) (sym there) is.are) in (
      subst (λ (x : List ℕ). Sealed 258 number x) (sym front) d.sealed,
      (r.previous, (len, (each, (back, tt)))),
    )

-- what the tests of a block answer is exact
pub only_descriptors : {X : Type 0} (size number : ℕ) (block : List ℕ) (r : Result X IcbFault) → IfErr r (IsFirst (descriptor_rules size number block)) → IsDescriptorBlock size number block → IsTrue (is_ok r)
only_descriptors size number block (Ok x) fault is = refl
only_descriptors size number block (Err f) fault is = absurd (no_fault (descriptor_rules size number block) f fault (keeps size number block is))

pub found_descriptors : {X : Type 0} (size number : ℕ) (block : List ℕ) (r : Result X IcbFault) → length block ≡ 2048 → IsBytes block → IfOk r (λ _. AllHold (descriptor_rules size number block)) → IfOk r (λ _. IsDescriptorBlock size number block)
found_descriptors size number block (Ok x) room bytes rules = is_descriptors size number block room bytes rules
found_descriptors size number block (Err f) room bytes rules = tt
