-- A directory's size, name by name.
use Rattle.std.proofs.Common.{◌≡◌, ℕ, zero, suc, ◌+◌, ◌-◌, ◌*◌, ◌<◌, ◌≤◌, List, [], ◌∷◌, length, take, drop, get_or, Bool, true, false, Some, refl, sym, ap, subst, ◌∙◌, arith, inl, inr}
use Rattle.std.specs.Prelude.{fold, slice_get, if◌then◌else◌}
use Rattle.std.specs.List.{All}
use Rattle.std.proofs.lemmas.List.Sums.{fold_more}
use Rattle.std.proofs.lemmas.List.{get_or-take, length-take-le, take_all}
use Rattle.std.proofs.lemmas.Bool.{cases_lt}
use Rattle.std.proofs.lemmas.Option.{slice_get_within, get_or_from_slice_get}
use Rattle.osta.specs.Compressed.{compressed}
use Rattle.dir.specs.declared.entry.Entry.{Entry}
use Rattle.dir.specs.Directory.{identifiers}
use Rattle.dir.specs.Identifier.{plain_size}
use Rattle.ecma.specs.Blocks.{block_count}
use Rattle.dir.specs.Layout.{fits, blocked, laid, identifier_blocks}
use Rattle.dir.specs.Size.{End, end_bytes, next_end, parent_end, name_sizes, plain_sizes}
use Rattle.dir.proofs.Sizes.{data_sized_short, fits_not}
use Rattle.dir.proofs.Placing.{plain_bounds}

pub length-blocked : (count : ℕ) (bytes : List ℕ) → length (blocked count bytes) ≡ count
length-blocked zero bytes = refl
length-blocked (suc count) bytes = ap suc (length-blocked count (drop 2048 bytes))

name_size_at : (entries : List (List ℕ × Entry)) (i : ℕ) (e : List ℕ × Entry) → i < length entries → get_or (name_sizes entries) i 0 ≡ length (compressed (get_or entries i e).0)
name_size_at [] i e lt = absurd (omega arith)
name_size_at (x ∷ xs) zero e lt = refl
name_size_at (x ∷ xs) (suc i) e lt = name_size_at xs i e (omega arith)

length-name_sizes : (entries : List (List ℕ × Entry)) → length (name_sizes entries) ≡ length entries
length-name_sizes [] = refl
length-name_sizes (x ∷ xs) = ap suc (length-name_sizes xs)

-- one name more
pub end_more : (entries : List (List ℕ × Entry)) (i : ℕ) (e : List ℕ × Entry) → slice_get entries i ≡ Some e
    → fold next_end parent_end (take (i + 1) (name_sizes entries)) ≡ next_end (fold next_end parent_end (take i (name_sizes entries))) (length (compressed e.0))
end_more entries i e is =
    let lt = slice_get_within entries i e is in
    fold_more next_end parent_end (name_sizes entries) i 0 (omega (arith, length-name_sizes entries))
    ∙ ap (λ n. next_end (fold next_end parent_end (take i (name_sizes entries))) n) (name_size_at entries i e lt ∙ ap (λ (x : List ℕ × Entry). length (compressed x.0)) (get_or_from_slice_get entries i e e is))

pub plain_more : (entries : List (List ℕ × Entry)) (i : ℕ) (e : List ℕ × Entry) → slice_get entries i ≡ Some e
    → plain_sizes (name_sizes (take (i + 1) entries)) ≡ plain_sizes (name_sizes (take i entries)) + plain_size (length (compressed e.0))
plain_more [] i e found = absurd (cc)
plain_more (x ∷ es) zero e found = let same : x ≡ e = cc in omega (arith, ap (λ (y : List ℕ × Entry). plain_size (length (compressed y.0))) same)
plain_more (x ∷ es) (suc i) e found =
    let next : suc i + 1 ≡ suc (i + 1) = omega arith in
    omega (arith, ap (λ n. plain_sizes (name_sizes (take n (x ∷ es)))) next, plain_more es i e found)

pub plain_few : (entries : List (List ℕ × Entry)) → All (λ (e : List ℕ × Entry). length (compressed e.0) ≤ 255) entries → plain_sizes (name_sizes entries) ≤ 296 * length entries
plain_few [] short = omega arith
plain_few (e ∷ es) short =
    let bounds = plain_bounds (length (compressed e.0)) in
    omega (arith, bounds, short 0 e (omega arith), plain_few es (λ k d lt. short (suc k) d (omega (arith, lt))))

-- one name more is short
pub short_more : (entries : List (List ℕ × Entry)) (i : ℕ) (e : List ℕ × Entry) → slice_get entries i ≡ Some e → length (compressed e.0) ≤ 255
    → All (λ (x : List ℕ × Entry). length (compressed x.0) ≤ 255) (take i entries) → All (λ (x : List ℕ × Entry). length (compressed x.0) ≤ 255) (take (i + 1) entries)
short_more entries i e is few all k d lt =
    let inside = slice_get_within entries i e is in
    let long = length-take-le (i + 1) entries (omega arith) in
    let first = length-take-le i entries (omega arith) in
    elim (cases_lt k i) [
      | inl less ↦ subst (λ (x : List ℕ × Entry). length (compressed x.0) ≤ 255) (get_or-take i entries k d less ∙ sym (get_or-take (i + 1) entries k d (omega arith))) (all k d (omega arith))
      | inr more ↦
          let same : k ≡ i = omega arith in
          let at_end : get_or (take (i + 1) entries) k d ≡ e = get_or-take (i + 1) entries k d (omega arith) ∙ ap (λ n. get_or entries n d) same ∙ get_or_from_slice_get entries i e d is in
          subst (λ (x : List ℕ × Entry). length (compressed x.0) ≤ 255) (sym at_end) few
    ]

-- the names all counted
pub size_is : (parent : ℕ) (entries : List (List ℕ × Entry)) (n first : ℕ) → length entries ≤ n → All (λ (x : List ℕ × Entry). length (compressed x.0) ≤ 255) (take n entries)
    → end_bytes (fold next_end parent_end (take n (name_sizes entries))) ≡ length (laid first 0 (identifiers parent entries))
size_is parent entries n first all short =
    let names = subst (λ (es : List (List ℕ × Entry)). All (λ (x : List ℕ × Entry). length (compressed x.0) ≤ 255) es) (take_all n entries all) short in
    ap (λ (ns : List ℕ). end_bytes (fold next_end parent_end ns)) (take_all n (name_sizes entries) (omega (arith, length-name_sizes entries)))
    ∙ sym (data_sized_short first parent entries names)

-- and then blocks are as many as the size says
pub blocks_are : (parent : ℕ) (entries : List (List ℕ × Entry)) (n first : ℕ) → length entries ≤ n → All (λ (x : List ℕ × Entry). length (compressed x.0) ≤ 255) (take n entries)
    → length (identifier_blocks first (identifiers parent entries)) ≡ block_count (length (laid 0 0 (identifiers parent entries)))
blocks_are parent entries n first all short =
    length-blocked (block_count (length (laid first 0 (identifiers parent entries)))) (laid first 0 (identifiers parent entries))
    ∙ ap block_count (sym (size_is parent entries n first all short) ∙ size_is parent entries n 0 all short)

-- a name takes one block more at most
pub next_full : (e : End) (len : ℕ) → (next_end e len).full ≤ e.full + 1
next_full e len = by (fits (plain_size len) (2048 - e.used))
  where
    next : Bool → End
    next b = if b then record { full = e.full; used = e.used + plain_size len } else record { full = e.full + 1; used = plain_size len }

    by : (b : Bool) → (next b).full ≤ e.full + 1
    by true = omega arith
    by false = omega arith

-- the first name is put after the parent
pub first_full : (len : ℕ) → len ≤ 255 → (next_end parent_end len).full ≡ 0
first_full len few = by (fits (plain_size len) (2048 - 40)) refl
  where
    next : Bool → End
    next b = if b then record { full = 0; used = 40 + plain_size len } else record { full = 0 + 1; used = plain_size len }

    by : (b : Bool) → fits (plain_size len) (2048 - 40) ≡ b → (next b).full ≡ 0
    by true e = refl
    by false e = absurd (let bounds = plain_bounds len in let left = fits_not (plain_size len) (2048 - 40) e in omega arith)

-- each name but the first takes one block more at most
pub full_more : (e : End) (entries : List ℕ) (i len : ℕ) → len ≤ 255 → e ≡ fold next_end parent_end (take i entries) → e.full ≤ i - 1 → (next_end e len).full ≤ i + 1 - 1
full_more e lens zero len few is full = omega (arith, ap (λ (x : End). (next_end x len).full) is, first_full len few)
full_more e lens (suc i) len few is full = omega (arith, next_full e len)
