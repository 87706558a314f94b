-- Identifiers as bytes that are kept from one layout to the next.
use Rattle.std.specs.Prelude.{◌≡◌, ℕ, ◌-◌, ◌≤◌, List, length, map, take, drop}
use Rattle.std.specs.List.{All, flat_map}
use Rattle.dir.specs.declared.entry.Entry.{Entry}
use Rattle.dir.specs.declared.kept.Identifiers.{Identifiers}
use Rattle.dir.specs.Identifier.{Identifier, identifier}
use Rattle.dir.specs.Directory.{of_name, directory_count, IsDirectoryEntry}
use Rattle.dir.specs.Size.{end_of_data, data_end, name_sizes}
use Rattle.osta.specs.Compressed.{compressed}

-- an identifier for the block number 0, not lengthened
abbrev pub plain : Identifier → List ℕ
plain x = identifier 0 x 0

-- the identifiers of names
abbrev pub named : List (List ℕ × Entry) → List Identifier
named entries = map (λ e. of_name e.0 e.1) entries

-- the bytes of the identifiers of so many names that are left where so many identifiers are laid, the parent's first
abbrev pub AreLeft : ℕ → ℕ → List (List ℕ × Entry) → List ℕ → Type 0
AreLeft known next entries bytes = bytes ≡ flat_map plain (drop (next - 1) (take known (named entries)))

-- a directory can say this of a name. What a struct keeps has one proof at most, so the fact alone is kept, and
-- proofs/Fronts.antt shows that it is enough
abbrev pub IsEntryInRange : List ℕ × Entry → Type 0
IsEntryInRange e = ∥ IsDirectoryEntry e ∥₁

-- they are those of a prefix of a directory's names, and what is kept beside them is what these add up to
pub record IsIdentifierPrefix (ids : Identifiers) (entries : List (List ℕ × Entry)) : Type 0 where
  pub few : ids.count ≤ length entries
  pub proper : All IsEntryInRange (take ids.count entries)
  pub bytes : ids.bytes.items ≡ flat_map plain (take ids.count (named entries))
  pub size : end_of_data ids.size ≡ data_end (take ids.count (name_sizes entries))
  pub full : (end_of_data ids.size).full ≤ ids.count - 1
  pub directories : ids.directories ≡ directory_count (take ids.count entries)

-- so many of a directory's names may be kept: that many there are, and each is short
pub record AreKnown (known : ℕ) (entries : List (List ℕ × Entry)) : Type 0 where
  pub few : known ≤ length entries
  pub short : All (λ (e : List ℕ × Entry). length (compressed e.0) ≤ 255) (take known entries)
