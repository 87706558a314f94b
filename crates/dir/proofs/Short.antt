-- A directory takes no more blocks than the lengths of its names allow.
use Rattle.std.proofs.Common.{◌≡◌, ℕ, zero, suc, ◌+◌, ◌-◌, ◌≤◌, Bool, true, false, List, [], ◌∷◌, length, refl, arith, inl, inr}
use Rattle.std.specs.Prelude.{fold, if◌then◌else◌}
use Rattle.std.specs.List.{All}
use Rattle.osta.proofs.Names.{name_few}
use Rattle.dir.specs.declared.entry.Entry.{Entry}
use Rattle.dir.specs.Directory.{IsDirectoryEntry}
use Rattle.dir.specs.Identifier.{plain_size}
use Rattle.dir.specs.Layout.{fits}
use Rattle.dir.specs.Size.{End, next_end, parent_end, data_end, name_sizes, DirectoriesAreShort}
use Rattle.dir.proofs.Begins.{blocks_begin}
use Rattle.dir.proofs.Placing.{plain_bounds, fits_cases}
use Rattle.dir.proofs.Sizes.{data_sized, few_blocks}

abbrev next_if : End → ℕ → Bool → End
next_if e size b = if b then record { full = e.full; used = e.used + size } else record { full = e.full + 1; used = size }

next_within : (e : End) (len : ℕ) → len ≤ 255 → e.used ≤ 2048 → (next_end e len).used ≤ 2048
next_within e len few room = by (fits (plain_size len) (2048 - e.used)) refl
  where
    by : (b : Bool) → fits (plain_size len) (2048 - e.used) ≡ b → (next_if e (plain_size len) b).used ≤ 2048
    by true q = elim (fits_cases (plain_size len) (2048 - e.used) q) [ inl same ↦ omega arith | inr less ↦ omega arith ]
    by false q = let bounds = plain_bounds len in omega arith

-- no identifier ends past its block
used_within : (lens : List ℕ) (e : End) → All (λ len. len ≤ 255) lens → e.used ≤ 2048 → (fold next_end e lens).used ≤ 2048
used_within [] e short room = room
used_within (len ∷ lens) e short room = used_within lens (next_end e len) (λ k d lt. short (suc k) d (omega arith)) (next_within e len (short 0 len (omega arith)) room)

sizes_few : (entries : List (List ℕ × Entry)) → All IsDirectoryEntry entries → All (λ len. len ≤ 255) (name_sizes entries)
sizes_few [] all k d lt = absurd (omega arith)
sizes_few (e ∷ es) all zero d lt = name_few e.0 (all 0 e (omega arith)).name
sizes_few (e ∷ es) all (suc k) d lt = sizes_few es (λ j c less. all (suc j) c (omega arith)) k d (omega arith)

pub directories_short : DirectoriesAreShort
directories_short parent first size entries blocks sized is =
    let lens = name_sizes entries in
    let short = sizes_few entries is.named in
    let used : (data_end lens).used ≤ 2048 = used_within lens parent_end short (omega arith) in
    let few = few_blocks lens short in
    let count = (blocks_begin parent first size entries blocks sized is).0 in
    let end = data_sized first parent entries is.named in
    let bound : length blocks ≤ (data_end lens).full + 1 = omega (arith, used, count, is.size_is, end) in
    omega (arith, bound, few)
