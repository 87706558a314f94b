-- The size of a directory's data, from the lengths of its names.
use Rattle.std.specs.Prelude.{◌≡◌, ℕ, ◌+◌, ◌-◌, ◌*◌, ◌/◌, ◌≤◌, if◌then◌else◌, List, [], ◌∷◌, fold, length, map}
use Rattle.std.specs.List.{All}
use Rattle.limits.specs.declared.TheConstants.{BLOCK_BYTES, LEAST_FILLED_BYTES}
use Rattle.osta.specs.Compressed.{compressed}
use Rattle.dir.specs.declared.entry.Entry.{Entry}
use Rattle.dir.specs.declared.size.DataSize.{DataSize}
use Rattle.dir.specs.Directory.{identifiers, IsDirectoryEntry, IsDirectory}
use Rattle.dir.specs.Identifier.{plain_size}
use Rattle.dir.specs.Layout.{fits, laid}

-- where identifiers end: so many bytes of the block after so many full blocks
pub record End : Type 0 where
  pub full : ℕ
  pub used : ℕ

abbrev pub end_of_data : DataSize → End
end_of_data s = record { full = s.full; used = s.used }

-- the end of the parent's identifier
abbrev pub parent_end : End
parent_end = record { full = 0; used = 40 }

-- the end of an identifier of a name of so many bytes, after one that ends there
abbrev pub next_end : End → ℕ → End
next_end e len =
    let size = plain_size len in
    if fits size (BLOCK_BYTES - e.used) then record { full = e.full; used = e.used + size }
    else record { full = e.full + 1; used = size }

-- the end of the last of names of these lengths, after the parent
abbrev pub data_end : List ℕ → End
data_end lens = fold next_end parent_end lens

abbrev pub end_bytes : End → ℕ
end_bytes e = e.full * BLOCK_BYTES + e.used

-- the lengths of the names of entries
abbrev pub name_sizes : List (List ℕ × Entry) → List ℕ
name_sizes entries = map (λ e. length (compressed e.0)) entries

-- the bytes of unlengthened identifiers of names of these lengths
abbrev pub plain_sizes : List ℕ → ℕ
plain_sizes [] = 0
plain_sizes (len ∷ lens) = plain_size len + plain_sizes lens

-- the data of a directory ends where the lengths of its names say
abbrev pub DataIsSized : Type 0
DataIsSized =
    (number parent : ℕ) (entries : List (List ℕ × Entry)) → All IsDirectoryEntry entries
    → length (laid number 0 (identifiers parent entries)) ≡ end_bytes (data_end (name_sizes entries))

-- no more blocks are taken than the lengths of the identifiers allow: one that another follows has so many of their bytes
abbrev pub BlocksAreFew : Type 0
BlocksAreFew = (lens : List ℕ) → All (λ len. len ≤ 255) lens → (data_end lens).full + 1 ≤ 1 + (40 + plain_sizes lens) / LEAST_FILLED_BYTES

-- so a directory takes no more
abbrev pub DirectoriesAreShort : Type 0
DirectoriesAreShort =
    (parent first size : ℕ) (entries : List (List ℕ × Entry)) (blocks : List (List ℕ)) → All (λ block. length block ≡ BLOCK_BYTES) blocks
    → IsDirectory parent entries first size blocks → length blocks ≤ 1 + (40 + plain_sizes (name_sizes entries)) / LEAST_FILLED_BYTES
