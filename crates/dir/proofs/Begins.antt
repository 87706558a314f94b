-- Each block of a directory begins with the tag of an identifier.
use Rattle.std.proofs.Common.{◌≡◌, ℕ, zero, suc, ◌+◌, ◌-◌, ◌*◌, ◌%◌, ◌<◌, ◌≤◌, Bool, true, false, List, [], ◌∷◌, ◌++◌, length, get_or, replicate, refl, ap, ◌∙◌, append_assoc, arith, inl, inr}
use Rattle.std.specs.Prelude.{if◌then◌else◌}
use Rattle.std.specs.List.{All, concat}
use Rattle.std.proofs.lemmas.Bool.{cases_lt}
use Rattle.std.proofs.lemmas.List.{get_or_append_left, get_or-append_right, length-append, length-replicate}
use Rattle.ecma.specs.Numbers.{u16_at}
use Rattle.dir.specs.declared.entry.Entry.{Entry}
use Rattle.dir.specs.Directory.{identifiers, IsDirectory, BlocksBegin}
use Rattle.dir.specs.Identifier.{Identifier, plain_size, identifier}
use Rattle.ecma.specs.Blocks.{block_count}
use Rattle.dir.specs.Layout.{stays, laid, onward, FitsInBlock, identifier_end}
use Rattle.dir.specs.Split.{FitsIdentifier}
use Rattle.dir.proofs.Spelled.{length-identifier, tag-identifier}
use Rattle.dir.proofs.Placing.{plain_bounds, laid-nil, laid-put, onward-full, onward-within, stands_within, stands_next}
use Rattle.dir.proofs.Refusals.{all_Fit}

-- two bytes after a prefix
later_front : (front after : List ℕ) (i : ℕ) → length front ≤ i → u16_at i (front ++ after) ≡ u16_at (i - length front) after
later_front front after i past =
    let next : i + 1 - length front ≡ i - length front + 1 = omega arith in
    omega (
      arith,
      get_or-append_right front after (length front) i 0 refl past,
      get_or-append_right front after (length front) (i + 1) 0 refl (omega arith) ∙ ap (λ (k : ℕ). get_or after k 0) next,
    )

-- an identifier that may be put ends within the block
end_between : (at : ℕ) (x : Identifier) (xs : List Identifier) → at + plain_size (length x.name) ≤ 2048 → (at + plain_size (length x.name) ≤ identifier_end at x xs) × (identifier_end at x xs ≤ 2048)
end_between at x xs room = by (stays xs (2048 - (at + plain_size (length x.name))))
  where
    by : (b : Bool)
        → (at + plain_size (length x.name) ≤ (if b then at + plain_size (length x.name) else 2048)) × ((if b then at + plain_size (length x.name) else 2048) ≤ 2048)
    by true = (omega arith, room)
    by false = (room, omega arith)

-- of identifiers that are laid from a place of a block on, one begins at each block's start within their bytes
laid_begins : (xs : List Identifier) (number at i : ℕ) (after : List ℕ) → All FitsIdentifier xs → at < 2048 → FitsInBlock at xs → (at + i) % 2048 ≡ 0 → i < length (laid number at xs)
    → u16_at i (laid number at xs ++ after) ≡ 257
laid_begins [] number at i after fit inside stood start within = absurd (omega (arith, ap length (laid-nil number at)))
laid_begins (x ∷ xs) number at i after fit inside stood start within =
    let room = stands_within at x xs (fit 0 x (omega arith)).name (omega arith) stood in
    let bounds = end_between at x xs room in
    let plain = plain_bounds (length x.name) in
    let end : ℕ = identifier_end at x xs in
    let more : ℕ = end - (at + plain_size (length x.name)) in
    let one : List ℕ = identifier number x more in
    let size : length one ≡ end - at = omega (arith, bounds.0, length-identifier number more x) in
    let put : laid number at (x ∷ xs) ≡ one ++ onward number end xs = laid-put number at x xs room in
    let all : length (laid number at (x ∷ xs)) ≡ length one + length (onward number end xs) = ap length put ∙ length-append one (onward number end xs) in
    let whole : laid number at (x ∷ xs) ++ after ≡ one ++ (onward number end xs ++ after) = ap (λ (t : List ℕ). t ++ after) put ∙ append_assoc one (onward number end xs) after in
    let rest : All FitsIdentifier xs = λ k d lt. fit (suc k) d (omega arith) in
    ap (u16_at i) whole ∙ elim (cases_lt i (length one)) [
      | inl here ↦
          let none : i ≡ 0 = omega (arith, here, size, bounds.1, start) in
          ap (λ (k : ℕ). u16_at k (one ++ (onward number end xs ++ after))) none ∙ tag-identifier number more x (onward number end xs ++ after)
      | inr past ↦
          let j : ℕ = i - length one in
          later_front one (onward number end xs ++ after) i past ∙ elim (cases_lt end 2048) [
            | inl lt ↦
                let same = onward-within number end xs lt in
                ap (λ (t : List ℕ). u16_at j (t ++ after)) same
                ∙ laid_begins xs number end j after rest lt (stands_next at x xs lt) (omega (arith, size, bounds.0, start, past)) (omega (arith, within, all, past, ap length same))
            | inr ge ↦
                let full : end ≡ 2048 = omega (arith, ge, bounds.1) in
                let same = onward-full number end xs full in
                ap (λ (t : List ℕ). u16_at j (t ++ after)) same
                ∙ laid_begins xs (number + 1) 0 j after rest (omega arith) (inl refl) (omega (arith, size, full, start, past)) (omega (arith, within, all, past, ap length same))
          ]
    ]

-- ---- blocks, one after the other

joined_length : (blocks : List (List ℕ)) → All (λ block. length block ≡ 2048) blocks → length (concat blocks) ≡ 2048 * length blocks
joined_length [] sized = refl
joined_length (b ∷ blocks) sized = omega (arith, length-append b (concat blocks), sized 0 b (omega arith), joined_length blocks (λ k d lt. sized (suc k) d (omega arith)))

joined_byte : (blocks : List (List ℕ)) (j k : ℕ) (d : List ℕ) → All (λ block. length block ≡ 2048) blocks → j < length blocks → k < 2048
    → get_or (concat blocks) (2048 * j + k) 0 ≡ get_or (get_or blocks j d) k 0
joined_byte [] j k d sized there low = absurd (omega arith)
joined_byte (b ∷ blocks) zero k d sized there low =
    let place : 2048 * zero + k ≡ k = omega arith in
    ap (λ (n : ℕ). get_or (b ++ concat blocks) n 0) place ∙ get_or_append_left b (concat blocks) 0 k (omega (arith, low, sized 0 b (omega arith)))
joined_byte (b ∷ blocks) (suc j) k d sized there low =
    let place : 2048 * suc j + k - 2048 ≡ 2048 * j + k = omega arith in
    get_or-append_right b (concat blocks) 2048 (2048 * suc j + k) 0 (sized 0 b (omega arith)) (omega arith)
    ∙ ap (λ (n : ℕ). get_or (concat blocks) n 0) place ∙ joined_byte blocks j k d (λ i e lt. sized (suc i) e (omega arith)) (omega arith) low

module _ (parent first size : ℕ) (entries : List (List ℕ × Entry)) (blocks : List (List ℕ)) (sized : All (λ block. length block ≡ 2048) blocks) (is : IsDirectory parent entries first size blocks) where
  abbrev ids : List Identifier
  ids = identifiers parent entries

  abbrev zeros : List ℕ
  zeros = replicate (2048 * block_count size - size) 0

  count : length blocks ≡ block_count size
  count =
      omega (arith, joined_length blocks sized, ap length is.bytes, length-append (laid first 0 ids) zeros, length-replicate {A = ℕ} (2048 * block_count size - size) 0, is.size_is)

  begins : All (λ block. u16_at 0 block ≡ 257) blocks
  begins k d lt =
      let within : 2048 * k < length (laid first 0 ids) = omega (arith, lt, count, is.size_is) in
      let tag = laid_begins ids first 0 (2048 * k) zeros (all_Fit parent entries is.parent_fits is.named) (omega arith) (inl refl) (omega arith) within in
      let low : get_or (concat blocks) (2048 * k) 0 ≡ get_or (get_or blocks k d) 0 0 = ap (λ (n : ℕ). get_or (concat blocks) n 0) (omega arith) ∙ joined_byte blocks k 0 d sized lt (omega arith) in
      let high = joined_byte blocks k 1 d sized lt (omega arith) in
      let word : u16_at (2048 * k) (concat blocks) ≡ 257 = ap (u16_at (2048 * k)) is.bytes ∙ tag in
      omega (arith, low, high, word)

pub blocks_begin : BlocksBegin
blocks_begin parent first size entries blocks sized is = (count parent first size entries blocks sized is, begins parent first size entries blocks sized is)
