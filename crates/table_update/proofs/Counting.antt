-- The sizes of names and files, as they are counted in turn.
use Rattle.std.proofs.Common.{◌≡◌, ℕ, ◌+◌, ◌*◌, ◌≤◌, ◌==◌, nat_lt, cond, Bool, true, false, List, [], ◌∷◌, ◌++◌, length, take, map, refl, sym, ap, ◌∙◌, arith}
use Rattle.std.specs.Prelude.{sum}
use Rattle.std.specs.Int.{div_ceil}
use Rattle.std.proofs.lemmas.Bool.{eqb-true}
use Rattle.std.proofs.lemmas.List.{take_more}
use Rattle.std.proofs.lemmas.List.Sums.{sum_by-cons}
use Rattle.std.proofs.lemmas.List.Elements.{All-head, All-tail}
use Rattle.limits.specs.declared.TheConstants.{BLOCK_BYTES}
use Rattle.model.specs.Tree.{Name}
use Rattle.durability.specs.Formats.{identifier_size, identifiers_size}
use Rattle.durability.specs.Volume.{blocks_for, descriptor_blocks}
use Rattle.durability.specs.Commit.{file_blocks}
use Rattle.udf.specs.Udf.{spelled_length}
use Rattle.table_update.specs.Outside.{outside}
use Rattle.table_update.specs.Need.{NamesAreCounted, NamesAreShort, FilesAreCounted}

abbrev size_of : Name → ℕ
size_of name = identifier_size (spelled_length name)

sizes_pushed : (names : List Name) (name : Name) → sum (map size_of (names ++ name ∷ [])) ≡ sum (map size_of names) + size_of name
sizes_pushed [] name = sum_by-cons (λ (n : ℕ). n) (size_of name) [] ∙ (let none : size_of name + 0 ≡ 0 + size_of name = omega arith in none)
sizes_pushed (x ∷ names) name =
    let more = sizes_pushed names name in
    omega (arith, sum_by-cons (λ (n : ℕ). n) (size_of x) (map size_of (names ++ name ∷ [])), sum_by-cons (λ (n : ℕ). n) (size_of x) (map size_of names), more)

-- padded to a multiple of 4
padded : (n : ℕ) → identifier_size n ≡ div_ceil (38 + n) 4 * 4
padded n = omega arith

pub names_are_counted : NamesAreCounted
names_are_counted names i name lt is =
    let one : take (i + 1) names ≡ take i names ++ name ∷ [] = take_more names i name lt ∙ ap (λ (x : Name). take i names ++ x ∷ []) (sym is) in
    let all : sum (map size_of (take (i + 1) names)) ≡ sum (map size_of (take i names)) + size_of name = ap (λ (ns : List Name). sum (map size_of ns)) one ∙ sizes_pushed (take i names) name in
    omega (arith, all, padded (spelled_length name))

few : (n : ℕ) → n ≤ 255 → identifier_size n ≤ 296
few n le = omega arith

pub names_are_short : NamesAreShort
names_are_short [] all = omega arith
names_are_short (name ∷ names) all =
    let rest : identifiers_size spelled_length names ≤ 40 + 296 * length names = names_are_short names (All-tail (λ n. spelled_length n ≤ 255) name names all) in
    let head : size_of name ≤ 296 = few (spelled_length name) (All-head (λ n. spelled_length n ≤ 255) name names all) in
    omega (arith, rest, head, sum_by-cons (λ (n : ℕ). n) (size_of name) (map size_of names))

pub files_are_counted : FilesAreCounted
files_are_counted kept bytes short = go (kept == 0) refl
  where
    new : (b : Bool) → 2 * div_ceil (length (cond b bytes [])) BLOCK_BYTES ≡ 2 * cond b (blocks_for (length bytes)) 0
    new true = refl
    new false = refl

    -- a file that is written whole is in one extent
    go : (b : Bool) → (kept == 0) ≡ b
        → 2 * div_ceil (length (cond b (outside bytes) bytes)) BLOCK_BYTES + descriptor_blocks (kept + length bytes) + 1 ≡ cond b (2 * file_blocks (length bytes) + 1) (2 * blocks_for (length bytes) + descriptor_blocks (kept + length bytes) + 1)
    go true is = (let none : kept ≡ 0 = eqb-true kept 0 is in omega (arith, none, short, new (nat_lt 1872 (length bytes))))
    go false is = refl
