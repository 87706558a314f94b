-- Where identifiers are put.
use Rattle.std.proofs.Common.{◌≡◌, ℕ, ◌+◌, ◌-◌, ◌%◌, ◌<◌, ◌≤◌, Bool, true, false, List, [], ◌∷◌, ◌++◌, length, refl, sym, ap, ◌∙◌, arith, inl, inr}
use Rattle.std.specs.Prelude.{IsTrue, ◌⊎◌, ◌==◌, if◌then◌else◌}
use Rattle.std.proofs.lemmas.Bool.{eq-eqb}
use Rattle.std.proofs.lemmas.Bool.Decides.{nat_tests}
use Rattle.std.proofs.lemmas.List.{length-append}
use Rattle.dir.specs.Identifier.{Identifier, plain_size, identifier}
use Rattle.dir.specs.Layout.{fits, stays, laid, onward, FitsInBlock, identifier_end}
use Rattle.dir.specs.Split.{name_size}
use Rattle.dir.proofs.Spelled.{length-identifier, name_size-identifier}

pub fits_cases : (size left : ℕ) → IsTrue (fits size left) → (size ≡ left) ⊎ (size + 32 ≤ left)
fits_cases size left so = grind (arith, nat_tests)

pub fits_exactly : (size : ℕ) → IsTrue (fits size size)
fits_exactly size = grind (arith, nat_tests)

pub fits_with : (size left : ℕ) → size + 32 ≤ left → IsTrue (fits size left)
fits_with size left room = grind (arith, nat_tests)

pub fits_none : (size : ℕ) → 0 < size → fits size 0 ≡ false
fits_none size some = grind (arith, nat_tests)

pub plain_bounds : (len : ℕ) → (38 + len ≤ plain_size len) × (plain_size len ≤ 41 + len) × (plain_size len % 4 ≡ 0)
plain_bounds len = (omega arith, omega arith, omega arith)

-- the next identifier is put after the first
pub laid-stays : (number at : ℕ) (x : Identifier) (rest : List Identifier) → stays rest (2048 - (at + plain_size (length x.name))) ≡ true
    → laid number at (x ∷ rest) ≡ identifier number x 0 ++ laid number (at + plain_size (length x.name)) rest
unfolding laid
laid-stays number at x rest e =
    let left = 2048 - (at + plain_size (length x.name)) in
    ap (λ (b : Bool). if b then identifier number x 0 ++ laid number (at + plain_size (length x.name)) rest else identifier number x left ++ laid (number + 1) 0 rest) e

-- the next identifier is put into the next block
pub laid-leaves : (number at : ℕ) (x : Identifier) (rest : List Identifier) → stays rest (2048 - (at + plain_size (length x.name))) ≡ false
    → laid number at (x ∷ rest) ≡ identifier number x (2048 - (at + plain_size (length x.name))) ++ laid (number + 1) 0 rest
unfolding laid
laid-leaves number at x rest e =
    let left = 2048 - (at + plain_size (length x.name)) in
    ap (λ (b : Bool). if b then identifier number x 0 ++ laid number (at + plain_size (length x.name)) rest else identifier number x left ++ laid (number + 1) 0 rest) e

pub laid-nil : (number at : ℕ) → laid number at [] ≡ []
unfolding laid
laid-nil number at = refl

pub onward-nil : (number at : ℕ) → onward number at [] ≡ []
onward-nil number at = elim (at == 2048) as (λ b. (if b then laid (number + 1) 0 [] else laid number at []) ≡ []) [
  | true ↦ laid-nil (number + 1) 0
  | false ↦ laid-nil number at
]

pub onward-full : (number at : ℕ) (xs : List Identifier) → at ≡ 2048 → onward number at xs ≡ laid (number + 1) 0 xs
onward-full number at xs e = ap (λ (b : Bool). if b then laid (number + 1) 0 xs else laid number at xs) (eq-eqb at 2048 e)

pub onward-within : (number at : ℕ) (xs : List Identifier) → at < 2048 → onward number at xs ≡ laid number at xs
onward-within number at xs lt =
    let e : (at == 2048) ≡ false = grind (arith, nat_tests) in
    ap (λ (b : Bool). if b then laid (number + 1) 0 xs else laid number at xs) e

-- one identifier, and what comes after it
pub laid-put : (number at : ℕ) (x : Identifier) (rest : List Identifier) → at + plain_size (length x.name) ≤ 2048
    → laid number at (x ∷ rest) ≡ identifier number x (identifier_end at x rest - (at + plain_size (length x.name))) ++ onward number (identifier_end at x rest) rest
laid-put number at x [] room =
    let end = at + plain_size (length x.name) in
    let none : end - end ≡ 0 = omega arith in
    laid-stays number at x [] refl ∙ ap (λ (r : List ℕ). identifier number x 0 ++ r) (laid-nil number end ∙ sym (onward-nil number end))
    ∙ ap (λ (m : ℕ). identifier number x m ++ onward number end []) (sym none)
laid-put number at x (y ∷ rest) room =
    let end = at + plain_size (length x.name) in
    let left = 2048 - end in
    by (stays (y ∷ rest) left) refl
  where
    by : (b : Bool) → stays (y ∷ rest) (2048 - (at + plain_size (length x.name))) ≡ b
        → laid number at (x ∷ y ∷ rest) ≡ identifier number x (identifier_end at x (y ∷ rest) - (at + plain_size (length x.name))) ++ onward number (identifier_end at x (y ∷ rest)) (y ∷ rest)
    by true e =
        let end = at + plain_size (length x.name) in
        let end_is : identifier_end at x (y ∷ rest) ≡ end = ap (λ (b : Bool). if b then end else 2048) e in
        let bounds = plain_bounds (length y.name) in
        let inside : end < 2048 = elim (fits_cases (plain_size (length y.name)) (2048 - end) e) [ inl same ↦ omega arith | inr less ↦ omega arith ] in
        let none : end - end ≡ 0 = omega arith in
        laid-stays number at x (y ∷ rest) e
        ∙ ap (λ (r : List ℕ). identifier number x 0 ++ r) (sym (onward-within number end (y ∷ rest) inside))
        ∙ ap (λ (m : ℕ). identifier number x m ++ onward number end (y ∷ rest)) (sym none)
        ∙ ap (λ (n : ℕ). identifier number x (n - end) ++ onward number n (y ∷ rest)) (sym end_is)
    by false e =
        let end = at + plain_size (length x.name) in
        let end_is : identifier_end at x (y ∷ rest) ≡ 2048 = ap (λ (b : Bool). if b then end else 2048) e in
        laid-leaves number at x (y ∷ rest) e
        ∙ ap (λ (r : List ℕ). identifier number x (2048 - end) ++ r) (sym (onward-full number 2048 (y ∷ rest) refl))
        ∙ ap (λ (n : ℕ). identifier number x (n - end) ++ onward number n (y ∷ rest)) (sym end_is)

-- the first identifier of a block, or one that may be put, ends within the block
pub stands_within : (at : ℕ) (x : Identifier) (rest : List Identifier) → length x.name ≤ 255 → at ≤ 2048 → FitsInBlock at (x ∷ rest) → at + plain_size (length x.name) ≤ 2048
stands_within at x rest short inside stood =
    let bounds = plain_bounds (length x.name) in
    elim stood [
      | inl start ↦ omega arith
      | inr so ↦ elim (fits_cases (plain_size (length x.name)) (2048 - at) so) [ inl same ↦ omega arith | inr less ↦ omega arith ]
    ]

-- and there the next one is, or begins a block
pub stands_next : (at : ℕ) (x : Identifier) (rest : List Identifier) → identifier_end at x rest < 2048 → FitsInBlock (identifier_end at x rest) rest
stands_next at x rest inside = by (stays rest (2048 - (at + plain_size (length x.name)))) refl
  where
    by : (b : Bool) → stays rest (2048 - (at + plain_size (length x.name))) ≡ b → FitsInBlock (identifier_end at x rest) rest
    by true e =
        let end = at + plain_size (length x.name) in
        let end_is : identifier_end at x rest ≡ end = ap (λ (b : Bool). if b then end else 2048) e in
        inr (ap (λ (n : ℕ). stays rest (2048 - n)) end_is ∙ e)
    by false e =
        let end = at + plain_size (length x.name) in
        let end_is : identifier_end at x rest ≡ 2048 = ap (λ (b : Bool). if b then end else 2048) e in
        absurd (omega arith)

-- the length of the first name is in the bytes
pub name_size-laid : (number at : ℕ) (x : Identifier) (rest : List Identifier) → at + plain_size (length x.name) ≤ 2048
    → name_size (laid number at (x ∷ rest)) ≡ length x.name
name_size-laid number at x rest room =
    ap name_size (laid-put number at x rest room)
    ∙ name_size-identifier number (identifier_end at x rest - (at + plain_size (length x.name))) x (onward number (identifier_end at x rest) rest)

pub length-laid : (number at : ℕ) (x : Identifier) (rest : List Identifier) → at + plain_size (length x.name) ≤ 2048
    → 40 ≤ length (laid number at (x ∷ rest))
length-laid number at x rest room =
    let more = identifier_end at x rest - (at + plain_size (length x.name)) in
    let bounds = plain_bounds (length x.name) in
    omega (
      arith,
      ap length (laid-put number at x rest room),
      length-append (identifier number x more) (onward number (identifier_end at x rest) rest),
      length-identifier number more x,
    )
