-- The fields between the tag and the implementation use, one by one.
use Rattle.std.proofs.Common.{◌≡◌, get_or, ℕ, ◌≤◌, List, [], ◌∷◌, ◌++◌, length, refl, arith}
use Rattle.std.specs.Prelude.{slice_index}
use Rattle.std.specs.Int.{w16, w32, to_le_bytes}
use Rattle.ecma.specs.Field.{IsAt}
use Rattle.ecma.specs.Numbers.{u32_at}
use Rattle.ecma.proofs.InBytes.{both_at, front_at, back_at}
use Rattle.ecma.proofs.Pieces.{IsBytes, u8_stands, u16_stands, u32_stands}
use Rattle.dir.specs.Split.{HasIdentifierFields, name_size, use_size}

-- those that are the same in each identifier
pub record AreConstants (bytes : List ℕ) : Type 0 where
  pub version : IsAt 16 (to_le_bytes w16 1) bytes
  pub size : IsAt 20 (to_le_bytes w32 2048) bytes
  pub partition : IsAt 28 (to_le_bytes w16 1) bytes
  pub flags : IsAt 30 (to_le_bytes w16 0) bytes

-- what is from each of them on, of bytes that say so much
abbrev from_use : List ℕ → List ℕ
from_use bytes = to_le_bytes w16 (use_size bytes) ++ []

abbrev from_unique : List ℕ → List ℕ
from_unique bytes = to_le_bytes w32 (u32_at 32 bytes) ++ from_use bytes

abbrev from_flags : List ℕ → List ℕ
from_flags bytes = to_le_bytes w16 0 ++ from_unique bytes

abbrev from_partition : List ℕ → List ℕ
from_partition bytes = to_le_bytes w16 1 ++ from_flags bytes

abbrev from_icb : List ℕ → List ℕ
from_icb bytes = to_le_bytes w32 (u32_at 24 bytes) ++ from_partition bytes

abbrev from_size : List ℕ → List ℕ
from_size bytes = to_le_bytes w32 2048 ++ from_icb bytes

abbrev from_kind : List ℕ → List ℕ
from_kind bytes = (slice_index bytes 18 ∷ name_size bytes ∷ []) ++ from_size bytes

-- the others say what they say
pub fields_stand : (bytes : List ℕ) → IsBytes bytes → 38 ≤ length bytes → AreConstants bytes → HasIdentifierFields bytes
fields_stand bytes are long same =
    let used = both_at 36 38 (to_le_bytes w16 (use_size bytes)) [] bytes refl (u16_stands 36 bytes (use_size bytes) are (omega arith) refl) refl in
    let unique = both_at 32 36 (to_le_bytes w32 (u32_at 32 bytes)) (from_use bytes) bytes refl (u32_stands 32 bytes (u32_at 32 bytes) are (omega arith) refl) used in
    let flags = both_at 30 32 (to_le_bytes w16 0) (from_unique bytes) bytes refl same.flags unique in
    let partition = both_at 28 30 (to_le_bytes w16 1) (from_flags bytes) bytes refl same.partition flags in
    let icb = both_at 24 28 (to_le_bytes w32 (u32_at 24 bytes)) (from_partition bytes) bytes refl (u32_stands 24 bytes (u32_at 24 bytes) are (omega arith) refl) partition in
    let size = both_at 20 24 (to_le_bytes w32 2048) (from_icb bytes) bytes refl same.size icb in
    let name = both_at 19 20 (name_size bytes ∷ []) (from_size bytes) bytes refl (u8_stands 19 bytes (name_size bytes) (omega arith) refl) size in
    let kind = both_at 18 19 (slice_index bytes 18 ∷ []) (name_size bytes ∷ from_size bytes) bytes refl (u8_stands 18 bytes (slice_index bytes 18) (omega arith) refl) name in
    both_at 16 18 (to_le_bytes w16 1) (from_kind bytes) bytes refl same.version kind

pub fields_apart : (bytes : List ℕ) → HasIdentifierFields bytes → AreConstants bytes
fields_apart bytes has =
    let kind = back_at 16 18 (to_le_bytes w16 1) (from_kind bytes) bytes refl has in
    let size = back_at 18 20 (slice_index bytes 18 ∷ name_size bytes ∷ []) (from_size bytes) bytes refl kind in
    let icb = back_at 20 24 (to_le_bytes w32 2048) (from_icb bytes) bytes refl size in
    let partition = back_at 24 28 (to_le_bytes w32 (u32_at 24 bytes)) (from_partition bytes) bytes refl icb in
    let flags = back_at 28 30 (to_le_bytes w16 1) (from_flags bytes) bytes refl partition in
    record {
      version = front_at 16 (to_le_bytes w16 1) (from_kind bytes) bytes has;
      size = front_at 20 (to_le_bytes w32 2048) (from_icb bytes) bytes size;
      partition = front_at 28 (to_le_bytes w16 1) (from_flags bytes) bytes partition;
      flags = front_at 30 (to_le_bytes w16 0) (from_unique bytes) bytes flags;
    }

-- as many bytes as these fields take, one by one
abbrev each_field : List ℕ → List ℕ
each_field s =
    get_or s 0 0 ∷ get_or s 1 0 ∷ get_or s 2 0 ∷ get_or s 3 0 ∷ get_or s 4 0 ∷ get_or s 5 0 ∷ get_or s 6 0 ∷ get_or s 7 0
    ∷ get_or s 8 0 ∷ get_or s 9 0 ∷ get_or s 10 0 ∷ get_or s 11 0 ∷ get_or s 12 0 ∷ get_or s 13 0 ∷ get_or s 14 0 ∷ get_or s 15 0
    ∷ get_or s 16 0 ∷ get_or s 17 0 ∷ get_or s 18 0 ∷ get_or s 19 0 ∷ get_or s 20 0 ∷ get_or s 21 0 ∷ []

pub fields_each : (s : List ℕ) → length s ≡ 22 → s ≡ each_field s
fields_each (a ∷ b ∷ c ∷ d ∷ e ∷ f ∷ g ∷ h ∷ i ∷ j ∷ k ∷ l ∷ m ∷ n ∷ o ∷ p ∷ q ∷ r ∷ s ∷ t ∷ u ∷ v ∷ []) long = refl
fields_each _ long = absurd (omega arith)
