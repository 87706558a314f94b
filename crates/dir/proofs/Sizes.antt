-- The size of a directory's data, from the lengths of its names.
use Rattle.std.proofs.Common.{◌≡◌, ℕ, suc, ◌+◌, ◌-◌, ◌*◌, ◌/◌, ◌<◌, ◌≤◌, Bool, true, false, List, [], ◌∷◌, length, map, zero, refl, sym, ap, subst, ◌∙◌, arith, inl, inr}
use Rattle.std.specs.Prelude.{fold, slice_index_or, if◌then◌else◌}
use Rattle.std.specs.List.{All}
use Rattle.std.proofs.lemmas.Bool.Decides.{nat_tests}
use Rattle.std.proofs.lemmas.List.{length-append}
use Rattle.osta.specs.Compressed.{compressed}
use Rattle.osta.proofs.Names.{name_few}
use Rattle.dir.specs.declared.entry.Entry.{Entry}
use Rattle.dir.specs.Directory.{of_parent, of_name, identifiers, IsDirectoryEntry}
use Rattle.dir.specs.Identifier.{Identifier, plain_size, identifier}
use Rattle.dir.specs.Layout.{fits, laid}
use Rattle.dir.specs.Size.{End, next_end, parent_end, data_end, end_bytes, plain_sizes, name_sizes}
use Rattle.dir.proofs.Spelled.{length-identifier}
use Rattle.dir.proofs.Placing.{plain_bounds, fits_cases, laid-stays, laid-leaves, laid-nil}

-- an identifier that is put, and those after it
laid_end : (number full at : ℕ) (x : Identifier) (xs : List Identifier) → length x.name ≤ 255 → ((k : ℕ) (d : Identifier) → k < length xs → length (slice_index_or xs k d).name ≤ 255)
    → at + plain_size (length x.name) ≤ 2048
    → full * 2048 + at + length (laid number at (x ∷ xs)) ≡ end_bytes (fold next_end (record { full = full; used = at + plain_size (length x.name) }) (map (λ (y : Identifier). length y.name) xs))
laid_end number full at x [] short all room =
    omega (
      arith,
      ap length (laid-stays number at x [] refl),
      length-append (identifier number x 0) (laid number (at + plain_size (length x.name)) []),
      length-identifier number 0 x,
      ap length (laid-nil number (at + plain_size (length x.name))),
    )
laid_end number full at x (y ∷ r) short all room =
    let bounds = plain_bounds (length y.name) in
    let few : length y.name ≤ 255 = all 0 y (omega arith) in
    let after : (k : ℕ) (d : Identifier) → k < length r → length (slice_index_or r k d).name ≤ 255 =
    λ (k : ℕ) (d : Identifier) (lt : k < length r). all (suc k) d (omega arith) in
    by (fits (plain_size (length y.name)) (2048 - (at + plain_size (length x.name)))) refl
    (λ (inside : at + plain_size (length x.name) + plain_size (length y.name) ≤ 2048). laid_end number full (at + plain_size (length x.name)) y r few after inside)
    (laid_end (number + 1) (full + 1) 0 y r few after (omega arith))
  where
    by : (b : Bool) → fits (plain_size (length y.name)) (2048 - (at + plain_size (length x.name))) ≡ b
        → (at + plain_size (length x.name) + plain_size (length y.name) ≤ 2048
        → full * 2048 + (at + plain_size (length x.name)) + length (laid number (at + plain_size (length x.name)) (y ∷ r))
        ≡ end_bytes (fold next_end (record { full = full; used = at + plain_size (length x.name) + plain_size (length y.name) }) (map (λ (z : Identifier). length z.name) r)))
        → (full + 1) * 2048 + 0 + length (laid (number + 1) 0 (y ∷ r))
        ≡ end_bytes (fold next_end (record { full = full + 1; used = 0 + plain_size (length y.name) }) (map (λ (z : Identifier). length z.name) r))
        → full * 2048 + at + length (laid number at (x ∷ y ∷ r))
        ≡ end_bytes (fold next_end (next_end (record { full = full; used = at + plain_size (length x.name) }) (length y.name)) (map (λ (z : Identifier). length z.name) r))
    by true e here there =
        let next : Bool → End = λ (b : Bool). if b then record { full = full; used = at + plain_size (length x.name) + plain_size (length y.name) } else record { full = full + 1; used = plain_size (length y.name) } in
        let end = at + plain_size (length x.name) in
        let inside : end + plain_size (length y.name) ≤ 2048 = elim (fits_cases (plain_size (length y.name)) (2048 - end) e) [
          | inl q ↦ let bounds = plain_bounds (length y.name) in omega arith
          | inr q ↦ omega arith
        ] in
        let rest = here inside in
        omega (arith, rest, ap length (laid-stays number at x (y ∷ r) e), length-append (identifier number x 0) (laid number end (y ∷ r)), length-identifier number 0 x)
        ∙ ap (λ (b : Bool). end_bytes (fold next_end (next b) (map (λ (z : Identifier). length z.name) r))) (sym e)
    by false e here there =
        let next : Bool → End = λ (b : Bool). if b then record { full = full; used = at + plain_size (length x.name) + plain_size (length y.name) } else record { full = full + 1; used = plain_size (length y.name) } in
        let end = at + plain_size (length x.name) in
        let start : 0 + plain_size (length y.name) ≡ plain_size (length y.name) = omega arith in
        let rest = there ∙ ap (λ (u : ℕ). end_bytes (fold next_end (record { full = full + 1; used = u }) (map (λ (z : Identifier). length z.name) r))) start in
        omega (arith, rest, ap length (laid-leaves number at x (y ∷ r) e), length-append (identifier number x (2048 - end)) (laid (number + 1) 0 (y ∷ r)), length-identifier number (2048 - end) x)
        ∙ ap (λ (b : Bool). end_bytes (fold next_end (next b) (map (λ (z : Identifier). length z.name) r))) (sym e)

pub fits_not : (size left : ℕ) → fits size left ≡ false → left < size + 32
fits_not size left e = grind (arith, nat_tests)

-- a block that is left has 1,720 bytes of identifiers at least
filled : (lens : List ℕ) (e : End) (before : ℕ) → ((k : ℕ) (d : ℕ) → k < length lens → slice_index_or lens k d ≤ 255) → e.full * 1720 + e.used ≤ before
    → (fold next_end e lens).full * 1720 + (fold next_end e lens).used ≤ before + plain_sizes lens
filled [] e before short low = omega arith
filled (len ∷ lens) e before short low =
    by (fits (plain_size len) (2048 - e.used)) refl
    (λ (n : End) (more : n.full * 1720 + n.used ≤ before + plain_size len).
    let rest = filled lens n (before + plain_size len) (λ k d lt. short (suc k) d (omega arith)) more in omega arith)
  where
    by : (b : Bool) → fits (plain_size len) (2048 - e.used) ≡ b
        → ((n : End) → n.full * 1720 + n.used ≤ before + plain_size len → (fold next_end n lens).full * 1720 + (fold next_end n lens).used ≤ before + (plain_size len + plain_sizes lens))
        → (fold next_end (next_end e len) lens).full * 1720 + (fold next_end (next_end e len) lens).used ≤ before + (plain_size len + plain_sizes lens)
    by true q goes =
        let next : Bool → End = λ (b : Bool). if b then record { full = e.full; used = e.used + plain_size len } else record { full = e.full + 1; used = plain_size len } in
        goes (next_end e len) (subst (λ (b : Bool). (next b).full * 1720 + (next b).used ≤ before + plain_size len) (sym q) (omega arith))
    by false q goes =
        let next : Bool → End = λ (b : Bool). if b then record { full = e.full; used = e.used + plain_size len } else record { full = e.full + 1; used = plain_size len } in
        let bounds = plain_bounds len in
        let few = short 0 len (omega arith) in
        let tight = fits_not (plain_size len) (2048 - e.used) q in
        goes (next_end e len) (subst (λ (b : Bool). (next b).full * 1720 + (next b).used ≤ before + plain_size len) (sym q) (omega arith))

pub few_blocks : (lens : List ℕ) → All (λ len. len ≤ 255) lens → (data_end lens).full + 1 ≤ 1 + (40 + plain_sizes lens) / 1720
few_blocks lens short = let low = filled lens parent_end 40 (λ k d lt. short k d lt) (omega arith) in omega arith

names_short : (entries : List (List ℕ × Entry)) → All IsDirectoryEntry entries → (k : ℕ) (d : Identifier) → k < length (map (λ (e : List ℕ × Entry). of_name e.0 e.1) entries)
    → length (slice_index_or (map (λ (e : List ℕ × Entry). of_name e.0 e.1) entries) k d).name ≤ 255
names_short [] all k d lt = absurd (omega arith)
names_short (e ∷ es) all zero d lt = name_few e.0 (all 0 e (omega arith)).name
names_short (e ∷ es) all (suc k) d lt = names_short es (λ j c less. all (suc j) c (omega arith)) k d (omega arith)

lengths_same : (entries : List (List ℕ × Entry)) → map (λ (y : Identifier). length y.name) (map (λ (e : List ℕ × Entry). of_name e.0 e.1) entries) ≡ name_sizes entries
lengths_same [] = refl
lengths_same (e ∷ es) = ap (λ (t : List ℕ). length (compressed e.0) ∷ t) (lengths_same es)

-- the bytes of a directory's data, where its names are short
pub data_sized_by : (number parent : ℕ) (entries : List (List ℕ × Entry))
    → ((k : ℕ) (d : Identifier) → k < length (map (λ (e : List ℕ × Entry). of_name e.0 e.1) entries) → length (slice_index_or (map (λ (e : List ℕ × Entry). of_name e.0 e.1) entries) k d).name ≤ 255)
    → length (laid number 0 (identifiers parent entries)) ≡ end_bytes (data_end (name_sizes entries))
data_sized_by number parent entries short =
    let sized = laid_end number 0 0 (of_parent parent) (map (λ (e : List ℕ × Entry). of_name e.0 e.1) entries) (omega arith) short (omega arith) in
    omega (arith, sized) ∙ ap (λ (t : List ℕ). end_bytes (fold next_end parent_end t)) (lengths_same entries)

-- the same where they are names
pub data_sized : (number parent : ℕ) (entries : List (List ℕ × Entry)) → All IsDirectoryEntry entries
    → length (laid number 0 (identifiers parent entries)) ≡ end_bytes (data_end (name_sizes entries))
data_sized number parent entries all = data_sized_by number parent entries (names_short entries all)

short_names : (entries : List (List ℕ × Entry)) → All (λ (e : List ℕ × Entry). length (compressed e.0) ≤ 255) entries → (k : ℕ) (d : Identifier) → k < length (map (λ (e : List ℕ × Entry). of_name e.0 e.1) entries)
    → length (slice_index_or (map (λ (e : List ℕ × Entry). of_name e.0 e.1) entries) k d).name ≤ 255
short_names [] all k d lt = absurd (omega arith)
short_names (e ∷ es) all zero d lt = all 0 e (omega arith)
short_names (e ∷ es) all (suc k) d lt = short_names es (λ j c less. all (suc j) c (omega arith)) k d (omega arith)

-- the same where each name is spelled in 255 bytes at most
pub data_sized_short : (number parent : ℕ) (entries : List (List ℕ × Entry)) → All (λ (e : List ℕ × Entry). length (compressed e.0) ≤ 255) entries
    → length (laid number 0 (identifiers parent entries)) ≡ end_bytes (data_end (name_sizes entries))
data_sized_short number parent entries all = data_sized_by number parent entries (short_names entries all)
