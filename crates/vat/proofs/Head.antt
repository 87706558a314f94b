-- What is before the records.
use Rattle.std.proofs.Common.{◌≡◌, ℕ, ◌+◌, ◌*◌, ◌<◌, ◌^◌, List, [], ◌∷◌, ◌++◌, length, take, drop, get_or, replicate, codes, refl, sym, ap, ◌∙◌, arith}
use Rattle.std.specs.Int.{w16, w32, to_le_bytes}
use Rattle.std.specs.List.{concat}
use Rattle.std.proofs.lemmas.List.{append-nil, drop_all, length-append, drop_at, take_at, drop-drop}
use Rattle.ecma.specs.Field.{IsAt}
use Rattle.ecma.specs.Numbers.{u16_at, u32_at}
use Rattle.ecma.proofs.Pieces.{onto, IsBytes, cut, u16_stands, u32_stands}
use Rattle.vat.specs.declared.table.Version.{Version}
use Rattle.vat.specs.Version.{version_number, record_size}
use Rattle.vat.specs.Table.{middle_parts, head_parts, sessions_size}
use Rattle.vat.proofs.Words.{cell}

pub length-head : (size previous files directories version count next commits : ℕ) (label : List ℕ) → length label ≡ 128
    → length (concat (head_parts size label (middle_parts previous files directories version count next commits))) ≡ 196
length-head size previous files directories version count next commits label len =
    omega (arith, len, length-append label (concat (middle_parts previous files directories version count next commits)))

-- what is written over zeros field by field, from numbers that calls gave
pub head_written : (version : Version) (room number count clients previous entry files directories next commits : ℕ) (label field written : List ℕ) → length label ≡ 128 → label ≡ field
    → count ≡ clients → room ≡ record_size version → previous ≡ entry → number ≡ version_number version
    → written ≡ concat (head_parts (44 + room * count) label (middle_parts previous files directories number count next commits))
    ++ drop (length (concat (head_parts (44 + room * count) label (middle_parts previous files directories number count next commits)))) (replicate 196 0)
    → written ≡ concat (head_parts (sessions_size version clients) field (middle_parts entry files directories (version_number version) clients next commits))
head_written version room number count clients previous entry files directories next commits label field written len label-is count-is room-is previous-is number-is put =
    let whole = concat (head_parts (44 + room * count) label (middle_parts previous files directories number count next commits)) in
    let size : length whole ≡ 196 = length-head (44 + room * count) previous files directories number count next commits label len in
    let nothing : drop (length whole) (replicate 196 0) ≡ [] = drop_all (length whole) (replicate 196 0) (omega (arith, size)) in
    let all : written ≡ whole = put ∙ ap (λ (x : List ℕ). whole ++ x) nothing ∙ append-nil whole in
    rw (← label-is, ← count-is, ← room-is, ← previous-is, ← number-is) all

-- ---- reading

-- what is read before the records
pub record ReadsHead (size : ℕ) (label : List ℕ) (previous files directories version count next commits : ℕ) (rest bytes : List ℕ) : Type 0 where
  pub header : u16_at 0 bytes ≡ 152 + size
  pub implementation_use : u16_at 2 bytes ≡ size
  pub label_is : take 128 (drop 4 bytes) ≡ label
  pub previous_is : u32_at 132 bytes ≡ previous
  pub files_are : u32_at 136 bytes ≡ files
  pub directories_are : u32_at 140 bytes ≡ directories
  pub revisions : IsAt 144 (concat (to_le_bytes w16 0x0201 ∷ to_le_bytes w16 0x0201 ∷ to_le_bytes w16 0x0201 ∷ [])) bytes
  pub reserved : u16_at 150 bytes ≡ 0
  pub identifier : IsAt 152 (concat ((0 ∷ codes "*udfburn sessions") ∷ replicate 14 0 ∷ [])) bytes
  pub version_is : u16_at 184 bytes ≡ version
  pub count_is : u16_at 186 bytes ≡ count
  pub next_is : u32_at 188 bytes ≡ next
  pub commits_are : u32_at 192 bytes ≡ commits
  pub after : drop 196 bytes ≡ rest
  pub long : 196 + length rest ≡ length bytes

pub reads_head : (size : ℕ) (label : List ℕ) (previous files directories version count next commits : ℕ) (rest bytes : List ℕ)
    → length label ≡ 128 → 152 + size < 2 ^ 16 → previous < 2 ^ 32 → files < 2 ^ 32 → directories < 2 ^ 32 → version < 2 ^ 16 → count < 2 ^ 16 → next < 2 ^ 32 → commits < 2 ^ 32
    → bytes ≡ onto (head_parts size label (middle_parts previous files directories version count next commits)) rest
    → ReadsHead size label previous files directories version count next commits rest bytes
reads_head size label previous files directories version count next commits rest bytes len l1 l2 l3 l4 l5 l6 l7 l8 whole =
    let middle = onto (middle_parts previous files directories version count next commits) rest in
    let front : (k : ℕ) → get_or bytes k 0 ≡ get_or (onto (head_parts size label (middle_parts previous files directories version count next commits)) rest) k 0 = λ k. ap (λ (x : List ℕ). get_or x k 0) whole in
    let four : drop 4 bytes ≡ label ++ middle = ap (drop 4) whole in
    let from : drop 132 bytes ≡ middle = sym (drop-drop 128 4 bytes) ∙ ap (drop 128) four ∙ drop_at label middle 128 len in
    let at : (k j : ℕ) → j ≡ 132 + k → get_or bytes j 0 ≡ get_or middle k 0 = λ k j e. sym (cell 132 k j bytes e) ∙ ap (λ (x : List ℕ). get_or x k 0) from in
    let tail : (k : ℕ) → drop (132 + k) bytes ≡ drop k middle = λ k. sym (drop-drop k 132 bytes) ∙ ap (drop k) from in
    record {
      header = omega (arith, front 0, front 1);
      implementation_use = omega (arith, front 2, front 3);
      label_is = ap (take 128) four ∙ take_at label middle 128 len;
      previous_is = omega (arith, at 0 132 refl, at 1 133 refl, at 2 134 refl, at 3 135 refl);
      files_are = omega (arith, at 4 136 refl, at 5 137 refl, at 6 138 refl, at 7 139 refl);
      directories_are = omega (arith, at 8 140 refl, at 9 141 refl, at 10 142 refl, at 11 143 refl);
      revisions = ap (take 6) (tail 12);
      reserved = omega (arith, at 18 150 refl, at 19 151 refl);
      identifier = ap (take 32) (tail 20);
      version_is = omega (arith, at 52 184 refl, at 53 185 refl);
      count_is = omega (arith, at 54 186 refl, at 55 187 refl);
      next_is = omega (arith, at 56 188 refl, at 57 189 refl, at 58 190 refl, at 59 191 refl);
      commits_are = omega (arith, at 60 192 refl, at 61 193 refl, at 62 194 refl, at 63 195 refl);
      after = tail 64;
      long = omega (arith, ap length whole, length-append label middle, len);
    }

-- ---- and back

pub head_again : (size : ℕ) (label : List ℕ) (previous files directories version count next commits : ℕ) (rest bytes : List ℕ) → IsBytes bytes → length label ≡ 128
    → ReadsHead size label previous files directories version count next commits rest bytes
    → bytes ≡ onto (head_parts size label (middle_parts previous files directories version count next commits)) rest
head_again size label previous files directories version count next commits rest bytes fits len r =
    let long = r.long in
    let p192 = cut 192 196 (to_le_bytes w32 commits) bytes rest refl (u32_stands 192 bytes commits fits (omega arith) r.commits_are) r.after in
    let p188 = cut 188 192 (to_le_bytes w32 next) bytes _ refl (u32_stands 188 bytes next fits (omega arith) r.next_is) p192 in
    let p186 = cut 186 188 (to_le_bytes w16 count) bytes _ refl (u16_stands 186 bytes count fits (omega arith) r.count_is) p188 in
    let p184 = cut 184 186 (to_le_bytes w16 version) bytes _ refl (u16_stands 184 bytes version fits (omega arith) r.version_is) p186 in
    let p152 = cut 152 184 (concat ((0 ∷ codes "*udfburn sessions") ∷ replicate 14 0 ∷ [])) bytes _ refl r.identifier p184 in
    let p150 = cut 150 152 (to_le_bytes w16 0) bytes _ refl (u16_stands 150 bytes 0 fits (omega arith) r.reserved) p152 in
    let p144 = cut 144 150 (concat (to_le_bytes w16 0x0201 ∷ to_le_bytes w16 0x0201 ∷ to_le_bytes w16 0x0201 ∷ [])) bytes _ refl r.revisions p150 in
    let p140 = cut 140 144 (to_le_bytes w32 directories) bytes _ refl (u32_stands 140 bytes directories fits (omega arith) r.directories_are) p144 in
    let p136 = cut 136 140 (to_le_bytes w32 files) bytes _ refl (u32_stands 136 bytes files fits (omega arith) r.files_are) p140 in
    let p132 = cut 132 136 (to_le_bytes w32 previous) bytes _ refl (u32_stands 132 bytes previous fits (omega arith) r.previous_is) p136 in
    let p4 = cut 4 132 label bytes _ (omega (arith, len)) (ap (λ (n : ℕ). take n (drop 4 bytes)) len ∙ r.label_is) p132 in
    let p2 = cut 2 4 (to_le_bytes w16 size) bytes _ refl (u16_stands 2 bytes size fits (omega arith) r.implementation_use) p4 in
    cut 0 2 (to_le_bytes w16 (152 + size)) bytes _ refl (u16_stands 0 bytes (152 + size) fits (omega arith) r.header) p2
