-- A sealed descriptor is the cells of its tag and then its body, and these are sealed: so there is one.
use Rattle.std.proofs.Common.{◌≡◌, ℕ, ◌+◌, ◌-◌, ◌^◌, ◌<◌, List, [], ◌∷◌, ◌++◌, length, drop, get_or, replicate, refl, sym, ap, subst, ◌∙◌, arith, inl, inr}
use Rattle.std.specs.Int.{w16, w32, to_le_bytes}
use Rattle.std.proofs.lemmas.Bool.{cases_lt}
use Rattle.std.proofs.lemmas.List.{length-drop, get_or_append_left, get_or-drop, get_or_past}
use Rattle.ecma.specs.Crc.{IsCrc, crc_of}
use Rattle.ecma.specs.Descriptor.{IsDescriptor, descriptor_block, padded}
use Rattle.ecma.specs.Numbers.{u16_at, u32_at}
use Rattle.ecma.specs.Tag.{Sealed, tag_cells, tag_sum}
use Rattle.ecma.proofs.Pieces.{IsBytes, cut, u8_stands, u16_stands, u32_stands}
use Rattle.ecma.proofs.Remainders.{IsCrc-unique, IsCrc-crc_of}

-- the cells of a tag with its checksum as it is
cells : ℕ → ℕ → ℕ → ℕ → ℕ → List ℕ → List ℕ
cells id sum crc len loc body =
    to_le_bytes w16 id ++ (to_le_bytes w16 3 ++ (sum ∷ (0 ∷ (to_le_bytes w16 1 ++ (to_le_bytes w16 crc ++ (to_le_bytes w16 len ++ (to_le_bytes w32 loc ++ body)))))))

pub sealed_is : (id loc : ℕ) (bytes body : List ℕ) → IsBytes bytes → Sealed id loc bytes → drop 16 bytes ≡ body
    → bytes ≡ tag_cells id (crc_of body) (length body) loc ++ body
unfolding cells
sealed_is id loc bytes body fits s after =
    let long = s.long in
    let crc_is : u16_at 8 bytes ≡ crc_of body =
    IsCrc-unique (drop 16 bytes) _ _ s.crc (IsCrc-crc_of (drop 16 bytes) (λ i. rw get_or-drop (fits (16 + i)))) ∙ ap crc_of after in
    let len_is : u16_at 10 bytes ≡ length body = s.crc_length ∙ sym (length-drop 16 bytes) ∙ ap length after in
    let p12 = cut 12 16 (to_le_bytes w32 loc) bytes body refl (u32_stands 12 bytes loc fits (omega arith) s.location) after in
    let p10 = cut 10 12 (to_le_bytes w16 (length body)) bytes _ refl (u16_stands 10 bytes (length body) fits (omega arith) len_is) p12 in
    let p8 = cut 8 10 (to_le_bytes w16 (crc_of body)) bytes _ refl (u16_stands 8 bytes (crc_of body) fits (omega arith) crc_is) p10 in
    let p6 = cut 6 8 (to_le_bytes w16 1) bytes _ refl (u16_stands 6 bytes 1 fits (omega arith) s.serial) p8 in
    let p5 = cut 5 6 (0 ∷ []) bytes _ refl (u8_stands 5 bytes 0 (omega arith) s.reserved) p6 in
    let p4 = cut 4 5 (get_or bytes 4 0 ∷ []) bytes _ refl (u8_stands 4 bytes (get_or bytes 4 0) (omega arith) refl) p5 in
    let p2 = cut 2 4 (to_le_bytes w16 3) bytes _ refl (u16_stands 2 bytes 3 fits (omega arith) s.version) p4 in
    let p0 = cut 0 2 (to_le_bytes w16 id) bytes _ refl (u16_stands 0 bytes id fits (omega arith) s.identifier) p2 in
    let whole : bytes ≡ cells id (get_or bytes 4 0) (crc_of body) (length body) loc body = p0 in
    let sum : get_or bytes 4 0 ≡ tag_sum (cells id (get_or bytes 4 0) (crc_of body) (length body) loc body) = s.checksum ∙ ap tag_sum whole in
    whole ∙ ap (λ (x : ℕ). cells id x (crc_of body) (length body) loc body) sum

pub is_sealed : (id loc : ℕ) (body : List ℕ) → id < 2 ^ 16 → loc < 2 ^ 32 → length body < 2 ^ 16 → IsBytes body
    → Sealed id loc (tag_cells id (crc_of body) (length body) loc ++ body)
is_sealed id loc body id-fits loc-fits len-fits fits =
    let crc = IsCrc-crc_of body fits in
    let below = crc.below in
    let crc_is : u16_at 8 (tag_cells id (crc_of body) (length body) loc ++ body) ≡ crc_of body = omega arith in
    record {
      long = omega arith;
      identifier = omega arith;
      version = omega arith;
      checksum = refl;
      reserved = refl;
      serial = omega arith;
      crc_length = omega arith;
      crc = subst (λ (r : ℕ). IsCrc body r) (sym crc_is) crc;
      location = omega arith;
    }

-- one descriptor with this body
pub one_seal : (id loc : ℕ) (a b : List ℕ) → IsBytes a → IsBytes b → Sealed id loc a → Sealed id loc b → drop 16 a ≡ drop 16 b → a ≡ b
one_seal id loc a b a-fits b-fits a-sealed b-sealed same =
    sealed_is id loc a (drop 16 b) a-fits a-sealed same ∙ sym (sealed_is id loc b (drop 16 b) b-fits b-sealed refl)

-- the beginning of bytes is bytes
front_fits : (front rest : List ℕ) → IsBytes (front ++ rest) → IsBytes front
front_fits front rest fits i = elim (cases_lt i (length front)) [
  | inl lt ↦ rw (sym (get_or_append_left front rest 0 i lt)) (fits i)
  | inr le ↦ rw (get_or_past front i 0 le) (omega arith)
]

-- one block with a descriptor with this body
pub one_descriptor : (id loc : ℕ) (body a b : List ℕ) → IsBytes a → IsBytes b → IsDescriptor id loc body a → IsDescriptor id loc body b → a ≡ b
one_descriptor id loc body a b a-fits b-fits x y =
    let left : IsBytes x.descriptor = front_fits x.descriptor _ (rw x.whole at a-fits) in
    let right : IsBytes y.descriptor = front_fits y.descriptor _ (rw y.whole at b-fits) in
    let same = one_seal id loc x.descriptor y.descriptor left right x.sealed y.sealed (x.fields ∙ sym y.fields) in
    x.whole ∙ ap padded same ∙ sym y.whole

-- the block of the one descriptor with this body
pub block_is : (id loc : ℕ) (body block : List ℕ) → IsBytes block → IsDescriptor id loc body block → block ≡ descriptor_block id loc body
unfolding descriptor_block
block_is id loc body block fits x =
    x.whole ∙ ap padded (sealed_is id loc x.descriptor body (front_fits x.descriptor _ (rw x.whole at fits)) x.sealed x.fields)

pub is_block : (id loc : ℕ) (body : List ℕ) → id < 2 ^ 16 → loc < 2 ^ 32 → length body < 2 ^ 16 → IsBytes body → IsDescriptor id loc body (descriptor_block id loc body)
unfolding descriptor_block
is_block id loc body id-fits loc-fits len-fits fits = record {
  descriptor = tag_cells id (crc_of body) (length body) loc ++ body;
  «sealed» = is_sealed id loc body id-fits loc-fits len-fits fits;
  fields = refl;
  whole = refl;
}

-- a byte of the tag is in the block
tag_byte : (id loc : ℕ) (body block : List ℕ) (d : IsDescriptor id loc body block) (i : ℕ) → i < 16 → get_or block i 0 ≡ get_or d.descriptor i 0
tag_byte id loc body block d i low =
    ap (λ (x : List ℕ). get_or x i 0) d.whole ∙ get_or_append_left d.descriptor (replicate (2048 - length d.descriptor) 0) 0 i (omega (arith, low, d.sealed.long))

-- a descriptor begins with its identifier, and has its location
pub begins : (id loc : ℕ) (body block : List ℕ) → IsDescriptor id loc body block → u16_at 0 block ≡ id
begins id loc body block d = omega (arith, tag_byte id loc body block d 0 (omega arith), tag_byte id loc body block d 1 (omega arith), d.sealed.identifier)

pub located : (id loc : ℕ) (body block : List ℕ) → IsDescriptor id loc body block → u32_at 12 block ≡ loc
located id loc body block d =
    omega (arith, tag_byte id loc body block d 12 (omega arith), tag_byte id loc body block d 13 (omega arith), tag_byte id loc body block d 14 (omega arith), tag_byte id loc body block d 15 (omega arith), d.sealed.location)

-- the bytes of a tag, one by one
abbrev each_byte : List ℕ → List ℕ
each_byte s =
    get_or s 0 0 ∷ get_or s 1 0 ∷ get_or s 2 0 ∷ get_or s 3 0 ∷ get_or s 4 0 ∷ get_or s 5 0 ∷ get_or s 6 0 ∷ get_or s 7 0
    ∷ get_or s 8 0 ∷ get_or s 9 0 ∷ get_or s 10 0 ∷ get_or s 11 0 ∷ get_or s 12 0 ∷ get_or s 13 0 ∷ get_or s 14 0 ∷ get_or s 15 0 ∷ []

pub tag_each : (s : List ℕ) → length s ≡ 16 → s ≡ each_byte s
tag_each (a ∷ b ∷ c ∷ d ∷ e ∷ f ∷ g ∷ h ∷ i ∷ j ∷ k ∷ l ∷ m ∷ n ∷ o ∷ p ∷ []) long = refl
tag_each _ long = absurd (omega arith)
