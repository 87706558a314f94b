-- One identifier of the data is read: what was read is there, and what is there is read.
use Rattle.std.proofs.Common.{◌≡◌, ℕ, ◌+◌, ◌-◌, ◌%◌, ◌^◌, ◌<◌, ◌≤◌, Bool, true, false, List, [], ◌∷◌, ◌++◌, length, take, drop, replicate, refl, sym, ap, subst, ◌∙◌, arith, inl, inr}
use Rattle.std.specs.Prelude.{IsTrue, ◌⊎◌, if◌then◌else◌}
use Rattle.std.proofs.lemmas.Bool.{cases_lt}
use Rattle.std.proofs.lemmas.List.{take-append-drop, take_at, drop_at, length-append, length-take, get_or-take, get_or_past}
use Rattle.ecma.proofs.Pieces.{IsBytes}
use Rattle.dir.specs.Identifier.{Identifier, plain_size, use_of, identifier}
use Rattle.dir.specs.Layout.{fits, stays, laid, onward, FitsInBlock, identifier_end}
use Rattle.dir.specs.Split.{name_size, use_size, size_of, identifier_in, IsSplit, HasHead, IsPadded, IsLengthened, FitsIdentifier}
use Rattle.dir.proofs.Spelled.{length-identifier, name_size-identifier, use_size-identifier}
use Rattle.dir.proofs.Placing.{fits_cases, fits_exactly, fits_with, plain_bounds, laid-put, stands_within, stands_next, name_size-laid, length-laid, onward-nil, onward-full}
use Rattle.dir.proofs.Reading.{use_whole, size_whole, length-said_by, identifier_read, said_by-identifier, HasHead-identifier, filled-identifier, padding-identifier}
use Rattle.dir.proofs.Splits.{name_size-front, use_size-front}

-- the beginning of bytes are bytes
pub bytes_front : (n : ℕ) (bytes : List ℕ) → IsBytes bytes → IsBytes (take n bytes)
bytes_front n bytes all i = elim (cases_lt i n) [
  | inl lt ↦ let e = get_or-take n bytes i 0 lt in omega (arith, e, all i)
  | inr le ↦ let e = get_or_past (take n bytes) i 0 (omega (arith, length-take n bytes)) in omega (arith, e)
]

-- how an end that was read is the one that the layout asks for
end_read : (at : ℕ) (x : Identifier) (rest : List Identifier) (bytes after : List ℕ) (number : ℕ)
    → length x.name ≡ name_size bytes → length bytes ≡ plain_size (name_size bytes) + use_size bytes → at < 2048 → at + length bytes ≤ 2048
    → ((y : Identifier) (r : List Identifier) → rest ≡ y ∷ r → length y.name ≤ 255)
    → IsPadded at bytes after → after ≡ onward number (at + length bytes) rest
    → (at + length bytes < 2048 → FitsInBlock (at + length bytes) rest)
    → identifier_end at x rest ≡ at + length bytes
end_read at x [] bytes after number len size inside room short p there stood =
    elim p.lengthened [
      | inl none ↦ omega arith
      | inr long ↦ let few = long.next in absurd (omega (arith, ap length (there ∙ onward-nil number (at + length bytes))))
    ]
end_read at x (y ∷ rest) bytes after number len size inside room short p there stood =
    elim p.lengthened [
      | inl none ↦
          elim (cases_lt (at + length bytes) 2048) [
            | inl within ↦
                let here : at + plain_size (length x.name) ≡ at + length bytes = omega arith in
                let some = plain_bounds (length x.name) in
                elim (stood within) [
                  | inl start ↦ absurd (omega arith)
                  | inr so ↦
                      let stay : stays (y ∷ rest) (2048 - (at + plain_size (length x.name))) ≡ true = ap (λ (n : ℕ). stays (y ∷ rest) (2048 - n)) here ∙ so in
                      ap (λ (b : Bool). if b then at + plain_size (length x.name) else 2048) stay ∙ here
                ]
            | inr past ↦
                let full : at + plain_size (length x.name) ≡ 2048 = omega arith in
                let any : (b : Bool) → (if b then at + plain_size (length x.name) else 2048) ≡ 2048 = λ b. both b (at + plain_size (length x.name)) full in
                any (stays (y ∷ rest) (2048 - (at + plain_size (length x.name)))) ∙ omega arith
          ]
      | inr long ↦
          let whole = long.full in
          let left : 2048 - (at + plain_size (length x.name)) ≡ use_size bytes = omega arith in
          let bounds = plain_bounds (length y.name) in
          let few = short y rest refl in
          let next : name_size after ≡ length y.name =
          ap name_size (there ∙ onward-full number (at + length bytes) (y ∷ rest) whole) ∙ name_size-laid (number + 1) 0 y rest (omega arith) in
          let leave : stays (y ∷ rest) (2048 - (at + plain_size (length x.name))) ≡ false =
          ap (λ (n : ℕ). fits (plain_size (length y.name)) n) left ∙ ap (λ (n : ℕ). fits (plain_size n) (use_size bytes)) (sym next) ∙ long.left in
          ap (λ (b : Bool). if b then at + plain_size (length x.name) else 2048) leave ∙ sym whole
    ]
  where
    both : (b : Bool) (n : ℕ) → n ≡ 2048 → (if b then n else 2048) ≡ 2048
    both true n e = e
    both false n e = refl

-- what was read is there, if what is read after it does
pub read_stands : (number at : ℕ) (bytes : List ℕ) (rest : List Identifier) → IsBytes bytes → at < 2048 → IsSplit at bytes
    → HasHead number (take (size_of bytes) bytes) → IsPadded at (take (size_of bytes) bytes) (drop (size_of bytes) bytes)
    → ((y : Identifier) (r : List Identifier) → rest ≡ y ∷ r → length y.name ≤ 255)
    → drop (size_of bytes) bytes ≡ onward number (at + size_of bytes) rest
    → (at + size_of bytes < 2048 → FitsInBlock (at + size_of bytes) rest)
    → (bytes ≡ laid number at (identifier_in (take (size_of bytes) bytes) ∷ rest)) × FitsInBlock at (identifier_in (take (size_of bytes) bytes) ∷ rest)
read_stands number at bytes rest all inside split head p short there stood =
    let n = size_of bytes in
    let one = take n bytes in
    let x = identifier_in one in
    let whole = split.whole in
    let long = split.long in
    let len : length one ≡ n = omega (arith, length-take n bytes) in
    let l = name_size-front n bytes (omega arith) in
    let u = use_size-front n bytes (omega arith) in
    let size : size_of one ≡ length one = omega (arith, l, u) in
    let u4 = use_whole at one (drop n bytes) p in
    let parts = size_whole one u4 in
    let name : length x.name ≡ name_size one = length-said_by one size in
    let room : at + length one ≤ 2048 = elim (fits_cases n (2048 - at) split.within) [ inl same ↦ omega arith | inr less ↦ omega arith ] in
    let here : at + n ≡ at + length one = omega arith in
    let end : identifier_end at x rest ≡ at + length one =
    end_read at x rest one (drop n bytes) number name (omega arith) inside room short p
    (there ∙ ap (λ (m : ℕ). onward number m rest) here)
    (λ lt. subst (λ (m : ℕ). FitsInBlock m rest) here (stood (omega arith))) in
    let same : one ≡ identifier number x (use_size one) = identifier_read number at one (drop n bytes) (bytes_front n bytes all) head size p in
    let fit : at + plain_size (length x.name) ≤ 2048 = omega (arith, ap plain_size name) in
    let more : identifier_end at x rest - (at + plain_size (length x.name)) ≡ use_size one = omega (arith, ap plain_size name) in
    let put : laid number at (x ∷ rest) ≡ identifier number x (use_size one) ++ onward number (at + n) rest =
    laid-put number at x rest fit ∙ ap (λ (m : ℕ). identifier number x m ++ onward number (identifier_end at x rest) rest) more
    ∙ ap (λ (m : ℕ). identifier number x (use_size one) ++ onward number m rest) (end ∙ sym here) in (
      sym (take-append-drop n bytes) ∙ ap (λ (t : List ℕ). t ++ drop n bytes) same ∙ ap (λ (t : List ℕ). identifier number x (use_size one) ++ t) there ∙ sym put,
      inr (elim (fits_cases n (2048 - at) split.within) [
        | inl full ↦ elim p.lengthened [
          | inl none ↦ let e : plain_size (length x.name) ≡ 2048 - at = omega (arith, ap plain_size name) in subst (λ (m : ℕ). IsTrue (fits (plain_size (length x.name)) m)) e (fits_exactly (plain_size (length x.name)))
          | inr lengthened ↦ let some = lengthened.some in fits_with (plain_size (length x.name)) (2048 - at) (omega (arith, ap plain_size name))
        ]
        | inr less ↦ fits_with (plain_size (length x.name)) (2048 - at) (omega (arith, ap plain_size name))
      ]),
    )

-- what the layout has at the beginning
pub record Found (number at : ℕ) (bytes : List ℕ) (x : Identifier) (rest : List Identifier) : Type 0 where
  pub split : IsSplit at bytes
  pub head : HasHead number (take (size_of bytes) bytes)
  pub says : identifier_in (take (size_of bytes) bytes) ≡ x
  pub padded : IsPadded at (take (size_of bytes) bytes) (drop (size_of bytes) bytes)
  pub after : drop (size_of bytes) bytes ≡ onward number (at + size_of bytes) rest
  pub next : at + size_of bytes < 2048 → FitsInBlock (at + size_of bytes) rest

-- how far an identifier of the layout is lengthened
more_cases : (at : ℕ) (x : Identifier) (rest : List Identifier)
    → (identifier_end at x rest ≡ at + plain_size (length x.name))
    ⊎ ((identifier_end at x rest ≡ 2048) × (stays rest (2048 - (at + plain_size (length x.name))) ≡ false))
more_cases at x rest = by (stays rest (2048 - (at + plain_size (length x.name)))) refl
  where
    by : (b : Bool) → stays rest (2048 - (at + plain_size (length x.name))) ≡ b
        → (identifier_end at x rest ≡ at + plain_size (length x.name)) ⊎ ((identifier_end at x rest ≡ 2048) × (stays rest (2048 - (at + plain_size (length x.name))) ≡ false))
    by true e = inl (ap (λ (b : Bool). if b then at + plain_size (length x.name) else 2048) e)
    by false e = inr (ap (λ (b : Bool). if b then at + plain_size (length x.name) else 2048) e, e)

-- an identifier that is lengthened at all is lengthened by an EntityID or more, and another one comes after it
lengthened_by : (number at more : ℕ) (x : Identifier) (rest : List Identifier) (bytes after : List ℕ)
    → at % 4 ≡ 0 → length x.name ≤ 255 → at < 2048 → FitsInBlock at (x ∷ rest)
    → ((y : Identifier) (r : List Identifier) → rest ≡ y ∷ r → length y.name ≤ 255)
    → more + (at + plain_size (length x.name)) ≡ 2048 → stays rest (2048 - (at + plain_size (length x.name))) ≡ false
    → length bytes ≡ plain_size (length x.name) + more → use_size bytes ≡ more
    → after ≡ laid (number + 1) 0 rest
    → (more ≡ 0) ⊎ IsLengthened at bytes after
lengthened_by number at more x [] bytes after at4 short inside stood next_short full leave len use_is there = absurd (cc)
lengthened_by number at more x (y ∷ rest) bytes after at4 short inside stood next_short full leave len use_is there =
    let bounds = plain_bounds (length x.name) in
    let next = plain_bounds (length y.name) in
    let few = next_short y rest refl in
    let room : 0 + plain_size (length y.name) ≤ 2048 = omega arith in
    let name : name_size after ≡ length y.name = ap name_size there ∙ name_size-laid (number + 1) 0 y rest room in
    let left : 2048 - (at + plain_size (length x.name)) ≡ more = omega arith in
    let long : 38 ≤ length after = omega (arith, ap length there, length-laid (number + 1) 0 y rest room) in
    let lengthened : 32 ≤ more → IsLengthened at bytes after = λ (some : 32 ≤ more). record {
      some = omega arith;
      whole = omega arith;
      full = omega arith;
      next = long;
      left =
          ap (λ (n : ℕ). fits (plain_size n) (use_size bytes)) name ∙ ap (λ (n : ℕ). fits (plain_size (length y.name)) n) (use_is ∙ sym left) ∙ leave;
    } in
    elim stood [
      | inl start ↦ inr (lengthened (omega arith))
      | inr so ↦ elim (fits_cases (plain_size (length x.name)) (2048 - at) so) [
        | inl same ↦ inl (omega arith)
        | inr less ↦ inr (lengthened (omega arith))
      ]
    ]

-- what the layout has at the beginning is found there
pub laid_found : (number at : ℕ) (bytes : List ℕ) (x : Identifier) (rest : List Identifier) → IsBytes bytes → number < 2 ^ 32
    → at < 2048 → at % 4 ≡ 0 → FitsIdentifier x → ((y : Identifier) (r : List Identifier) → rest ≡ y ∷ r → length y.name ≤ 255)
    → bytes ≡ laid number at (x ∷ rest) → FitsInBlock at (x ∷ rest) → Found number at bytes x rest
laid_found number at bytes x rest all in_range inside at4 f next_short there stood =
    let plain = plain_size (length x.name) in
    let bounds = plain_bounds (length x.name) in
    let short = f.name in
    let room = stands_within at x rest short (omega arith) stood in
    let end = identifier_end at x rest in
    let more = end - (at + plain) in
    let tail = onward number end rest in
    let within : (at + plain ≤ end) × (end ≤ 2048) = elim (more_cases at x rest) [ inl e ↦ (omega arith, omega arith) | inr e ↦ let e0 = e.0 in (omega arith, omega arith) ] in
    let low = within.0 in
    let high = within.1 in
    let end4 : end % 4 ≡ 0 = elim (more_cases at x rest) [ inl e ↦ omega arith | inr e ↦ let e0 = e.0 in omega arith ] in
    let put : bytes ≡ identifier number x more ++ tail = there ∙ laid-put number at x rest room in
    let l : name_size bytes ≡ length x.name = ap name_size put ∙ name_size-identifier number more x tail in
    let u : use_size bytes ≡ more = ap use_size put ∙ use_size-identifier number more x tail (omega arith) in
    let u4 : use_size bytes % 4 ≡ 0 = omega arith in
    let n_is : size_of bytes ≡ plain + more = size_whole bytes u4 ∙ omega (arith, ap plain_size l) in
    let len = length-identifier number more x in
    let count : length bytes ≡ plain + more + length tail = omega (arith, ap length put, length-append (identifier number x more) tail) in
    let one : take (size_of bytes) bytes ≡ identifier number x more =
    ap (λ (t : List ℕ). take (size_of bytes) t) put ∙ take_at (identifier number x more) tail (size_of bytes) (omega arith) in
    let two : drop (size_of bytes) bytes ≡ tail =
    ap (λ (t : List ℕ). drop (size_of bytes) t) put ∙ drop_at (identifier number x more) tail (size_of bytes) (omega arith) in
    let here : end ≡ at + size_of bytes = omega arith in
    let bytes_one = bytes_front (size_of bytes) bytes all in
    let front_l : name_size (take (size_of bytes) bytes) ≡ length x.name = name_size-front (size_of bytes) bytes (omega arith) ∙ l in
    let front_u : use_size (take (size_of bytes) bytes) ≡ more = use_size-front (size_of bytes) bytes (omega arith) ∙ u in
    let front_len : length (take (size_of bytes) bytes) ≡ plain + more = ap length one ∙ len in
    record {
      split = record {
        long = omega arith;
        whole = omega arith;
        within = elim (more_cases at x rest) [
          | inl e ↦
              let none : size_of bytes ≡ plain = omega arith in
              elim stood [
                | inl start ↦ fits_with (size_of bytes) (2048 - at) (omega arith)
                | inr so ↦ subst (λ (m : ℕ). IsTrue (fits m (2048 - at))) (sym none) so
              ]
          | inr e ↦
              let e0 = e.0 in
              let full : size_of bytes ≡ 2048 - at = omega arith in
              subst (λ (m : ℕ). IsTrue (fits (size_of bytes) m)) full (fits_exactly (size_of bytes))
        ];
      };
      head = HasHead-identifier number more x (take (size_of bytes) bytes) f in_range (omega arith) bytes_one one;
      says = said_by-identifier number more x (take (size_of bytes) bytes) f (omega arith) one;
      padded = record {
        filled =
            ap (λ (n : ℕ). take n (drop 38 (take (size_of bytes) bytes))) front_u ∙ filled-identifier number more x (take (size_of bytes) bytes) one
            ∙ ap use_of (sym front_u);
        padding =
            ap (λ (n : ℕ). drop (38 + n + name_size (take (size_of bytes) bytes)) (take (size_of bytes) bytes)) front_u
            ∙ ap (λ (n : ℕ). drop (38 + more + n) (take (size_of bytes) bytes)) front_l
            ∙ padding-identifier number more x (take (size_of bytes) bytes) one
            ∙ ap (λ (n : ℕ). replicate n 0) (omega arith);
        lengthened = elim (more_cases at x rest) [
          | inl e ↦ inl (omega arith)
          | inr e ↦
              let e0 = e.0 in
              elim (lengthened_by number at more x rest (take (size_of bytes) bytes) (drop (size_of bytes) bytes) at4 short inside stood next_short (omega arith) e.1 front_len front_u
              (two ∙ onward-full number end rest e0)) [
                | inl none ↦ inl (front_u ∙ none)
                | inr long ↦ inr long
              ]
        ];
      };
      after = two ∙ ap (λ (m : ℕ). onward number m rest) here;
      next = λ (lt : at + size_of bytes < 2048). subst (λ (m : ℕ). FitsInBlock m rest) here (stands_next at x rest (omega arith));
    }
