-- What may be left of writes, whatever their blocks are.
use Rattle.std.proofs.Common.{◌≡◌, ◌⊎◌, inl, inr, ℕ, zero, suc, ◌-◌, ◌≤◌, ◌<◌, Bool, true, false, if◌then◌else◌, List, [], ◌∷◌, ◌++◌, length, take, slice_get, Some, refl, sym, ◌∙◌, ap, subst, arith, append_assoc, length-append}
use Rattle.std.proofs.lemmas.List.{take-append-le, length-take}
use Rattle.std.proofs.lemmas.Option.{same_Some}
use Rattle.drive.proofs.Turns.{joined_append}
use Rattle.drive.specs.Writes.{unwritten, joined, LastIsAlone, IsTorn, IsLeft, torn_by}
use Rattle.durability.specs.Formats.{Block}
use Rattle.durability.proofs.Lists.{side, get-take, take_past}

-- of one block: nothing, zeros, or the block
pub one_torn : (b : Block) (left : List Block) → IsTorn (b ∷ []) left → (left ≡ []) ⊎ ((left ≡ unwritten ∷ []) ⊎ (left ≡ b ∷ []))
one_torn b [] torn = inl refl
one_torn b (x ∷ []) torn = elim (torn.each 0 (omega arith)) [
  | inl same ↦ inr (inr (ap (λ (c : Block). c ∷ []) (same_Some x b same)))
  | inr blank ↦ inr (inl (ap (λ (c : Block). c ∷ []) (same_Some x unwritten blank)))
]
one_torn b (x ∷ y ∷ left) torn = absurd (omega (arith, torn.short))

-- Where a block goes out alone after the others: what is left of the others, or all of them and after them zeros or the block.
pub last_left : (writes : List (List Block)) (mark : Block) (left : List Block) → IsLeft (writes ++ (mark ∷ []) ∷ []) left
    → IsLeft writes left ⊎ ((left ≡ joined writes ++ unwritten ∷ []) ⊎ (left ≡ joined writes ++ mark ∷ []))
last_left [] mark left (inl torn) = one_torn mark left torn
last_left [] mark left (inr (rest, whole, none)) = inr (inr (whole ∙ ap (λ (xs : List Block). mark ∷ xs) none))
last_left (write ∷ writes) mark left (inl torn) = inl (inl torn)
last_left (write ∷ writes) mark left (inr (rest, whole, more)) =
    let afterwards : (b : Block) → rest ≡ joined writes ++ b ∷ [] → left ≡ joined (write ∷ writes) ++ b ∷ [] =
    λ b e. whole ∙ ap (λ (xs : List Block). write ++ xs) e ∙ sym (append_assoc write (joined writes) (b ∷ [])) in
    elim (last_left writes mark rest more) [
      | inl part ↦ inl (inr (rest, whole, part))
      | inr all ↦ elim all [ inl blank ↦ inr (inl (afterwards unwritten blank)) | inr is ↦ inr (inr (afterwards mark is)) ]
    ]

-- what is left is no longer than what was written
pub left_short : (writes : List (List Block)) (left : List Block) → IsLeft writes left → length left ≤ length (joined writes)
left_short [] left none = omega (arith, ap (λ (xs : List Block). length xs) none)
left_short (write ∷ writes) left (inl torn) = omega (arith, torn.short, length-append write (joined writes))
left_short (write ∷ writes) left (inr (rest, whole, more)) =
    omega (arith, left_short writes rest more, ap (λ (xs : List Block). length xs) whole, length-append write rest, length-append write (joined writes))

-- a prefix of them is left of them, and so are none and all
pub fronts_left : (k : ℕ) (writes : List (List Block)) → IsLeft writes (take k (joined writes))
fronts_left k [] = no_more k
  where
    no_more : (n : ℕ) → take n (joined []) ≡ []
    no_more zero = refl
    no_more (suc n) = refl
fronts_left k (write ∷ writes) = go (side k (length write)) (fronts_left (k - length write) writes)
  where
    front : IsTorn write (take k write)
    front = record { short = omega (arith, length-take k write); each = λ i h. inl (get-take k write i (omega (arith, h, length-take k write))) }

    go : (k < length write) ⊎ (length write ≤ k) → IsLeft writes (take (k - length write) (joined writes)) → IsLeft (write ∷ writes) (take k (joined (write ∷ writes)))
    go (inl low) more = inl (subst (λ (xs : List Block). IsTorn write xs) (sym (take-append-le k write (joined writes) (omega (arith, low)))) front)
    go (inr high) more = inr (take (k - length write) (joined writes), take_past k (k - length write) write (joined writes) (omega (arith, high)), more)

-- what is left of fewer writes
pub left_more : (writes others : List (List Block)) (left : List Block) → IsLeft writes left → IsLeft (writes ++ others) left
left_more [] [] left is = is
left_more [] (write ∷ others) left none =
    let few : length left ≡ 0 = ap (λ (xs : List Block). length xs) none in
    inl (record { short = omega (arith, few); each = λ i h. absurd (omega (arith, few, h)) })
left_more (write ∷ writes) others left (inl torn) = inl torn
left_more (write ∷ writes) others left (inr (rest, whole, more)) = inr (rest, whole, left_more writes others rest more)

pub joined_writes : (blocks : List Block) (mark : Block) (writes : List (List Block)) → LastIsAlone blocks mark writes → joined writes ≡ blocks ++ mark ∷ []
joined_writes blocks mark writes are = ap joined are.writes_are ∙ joined_append are.before ((mark ∷ []) ∷ []) ∙ ap (λ (xs : List Block). xs ++ mark ∷ []) are.order

pub writes_short : (blocks : List Block) (mark : Block) (writes : List (List Block)) (left : List Block) → LastIsAlone blocks mark writes → IsLeft writes left → length left ≤ length (blocks ++ mark ∷ [])
writes_short blocks mark writes left are is = omega (arith, left_short writes left is, ap (λ (xs : List Block). length xs) (joined_writes blocks mark writes are))

-- of some writes and more: what is left of the first, or all of these and what is left of the others
pub split_left : (writes others : List (List Block)) (left : List Block) → IsLeft (writes ++ others) left → IsLeft writes left ⊎ ((rest : List Block) × (left ≡ joined writes ++ rest) × IsLeft others rest)
split_left [] others left is = inr (left, refl, is)
split_left (write ∷ writes) others left (inl torn) = inl (inl torn)
split_left (write ∷ writes) others left (inr (rest, whole, more)) = elim (split_left writes others rest more) [
  | inl part ↦ inl (inr (rest, whole, part))
  | inr afterwards ↦ inr (afterwards.0, whole ∙ ap (λ (xs : List Block). write ++ xs) afterwards.1 ∙ sym (append_assoc write (joined writes) afterwards.0), afterwards.2)
]

-- after writes that are whole
pub whole_left : (before writes : List (List Block)) (left : List Block) → IsLeft writes left → IsLeft (before ++ writes) (joined before ++ left)
whole_left [] writes left is = is
whole_left (write ∷ before) writes left is = inr (joined before ++ left, append_assoc write (joined before) left, whole_left before writes left is)

length-torn_by : (keep : ℕ → Bool) (write : List Block) → length (torn_by keep write) ≡ length write
length-torn_by keep [] = refl
length-torn_by keep (block ∷ blocks) = ap suc (length-torn_by (λ i. keep (suc i)) blocks)

get-torn_by : (keep : ℕ → Bool) (write : List Block) (i : ℕ) → i < length write
    → (slice_get (torn_by keep write) i ≡ slice_get write i) ⊎ (slice_get (torn_by keep write) i ≡ Some unwritten)
get-torn_by keep [] i h = absurd (omega arith)
get-torn_by keep (block ∷ blocks) zero h = go (keep 0)
  where
    go : (kept : Bool) → (Some (if kept then block else unwritten) ≡ Some block) ⊎ (Some (if kept then block else unwritten) ≡ Some unwritten)
    go true = inl refl
    go false = inr refl
get-torn_by keep (block ∷ blocks) (suc i) h = get-torn_by (λ j. keep (suc j)) blocks i (omega arith)

-- whichever blocks are kept of a prefix of the write that had not returned
pub choices_left : (before : List (List Block)) (write : List Block) (others : List (List Block)) (keep : ℕ → Bool) (n : ℕ) → IsLeft (before ++ write ∷ others) (joined before ++ take n (torn_by keep write))
choices_left before write others keep n = whole_left before (write ∷ others) (take n (torn_by keep write)) (inl (record { short = omega (arith, size); each = each }))
  where
    size : length (take n (torn_by keep write)) ≤ length write
    size = omega (arith, length-take n (torn_by keep write), length-torn_by keep write)

    each : (i : ℕ) → i < length (take n (torn_by keep write)) → (slice_get (take n (torn_by keep write)) i ≡ slice_get write i) ⊎ (slice_get (take n (torn_by keep write)) i ≡ Some unwritten)
    each i h = rw (get-take n (torn_by keep write) i (omega (arith, h, length-take n (torn_by keep write)))) (get-torn_by keep write i (omega (arith, h, size)))
