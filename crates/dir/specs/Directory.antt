-- Directories: a parent, and names in stored order (ECMA-167 4/8.6).
use Rattle.std.specs.Prelude.{◌≡◌, ℕ, ◌*◌, ◌-◌, ◌^◌, ◌<◌, ◌≤◌, nat_eq, Bool, true, false, List, [], ◌∷◌, ◌++◌, length, map, replicate}
use Rattle.std.specs.Cmp.Lexicographic.{pointwise}
use Rattle.std.specs.List.{All, IsDistinct, concat, count_by}
use Rattle.std.specs.Map.{keys_of, values_of}
use Rattle.limits.specs.declared.TheConstants.{BLOCK_BYTES, PARTITION_BLOCKS, DIRECTORY_NAMES}
use Rattle.ecma.specs.Numbers.{u16_at}
use Rattle.osta.specs.Compressed.{compressed}
use Rattle.osta.specs.Name.{IsName}
use Rattle.dir.specs.declared.entry.Dir.{Dir}
use Rattle.dir.specs.declared.entry.Entry.{Entry}
use Rattle.dir.specs.declared.entry.Kind.{Kind}
use Rattle.dir.specs.declared.entry.Kind.TheVariants.{File, Directory}
use Rattle.dir.specs.Identifier.{Identifier}
use Rattle.ecma.specs.Blocks.{block_count}
use Rattle.dir.specs.Layout.{laid, identifier_blocks}
use Rattle.dir.specs.Split.{AreBytes}

-- the file characteristics of a name
abbrev pub characteristics_of : Kind → ℕ
characteristics_of File = 0
characteristics_of Directory = 2

-- whether a name is of a directory
abbrev pub is_directory : Kind → Bool
is_directory File = false
is_directory Directory = true

-- how many names are of directories
abbrev pub directory_count : List (List ℕ × Entry) → ℕ
directory_count entries = count_by (λ (entry : Entry). is_directory entry.kind) (values_of entries)

-- the identifier of the directory above
abbrev pub of_parent : ℕ → Identifier
of_parent icb = record { name = []; characteristics = 0x0A; icb = icb; unique = 0 }

-- the identifier of a name
abbrev pub of_name : List ℕ → Entry → Identifier
of_name text e = record { name = compressed text; characteristics = characteristics_of e.kind; icb = e.virtual_address; unique = e.unique }

-- the identifiers of a directory in their order
abbrev pub identifiers : ℕ → List (List ℕ × Entry) → List Identifier
identifiers parent entries = of_parent parent ∷ map (λ e. of_name e.0 e.1) entries

abbrev pub identifiers_of : Dir → List Identifier
identifiers_of dir = identifiers dir.parent dir.entries.entries

-- the blocks of a directory, the first having this number
abbrev pub directory_blocks : Dir → ℕ → List (List ℕ)
directory_blocks dir first = identifier_blocks first (identifiers_of dir)

-- the information length of a directory
abbrev pub directory_size : Dir → ℕ
directory_size dir = length (laid 0 0 (identifiers_of dir))

-- what a directory can say of a name
pub record IsDirectoryEntry (e : List ℕ × Entry) : Type 0 where
  pub name : IsName e.0
  pub icb : e.1.virtual_address < 2 ^ 32
  pub unique : e.1.unique < 2 ^ 32

-- blocks are the data of the directory with this parent and these names: its identifiers as they are laid from the
-- first block's number on, and zeros after them
pub record IsDirectory (parent : ℕ) (entries : List (List ℕ × Entry)) (first size : ℕ) (blocks : List (List ℕ)) : Type 0 where
  pub parent_fits : parent < 2 ^ 32
  pub few : length entries ≤ DIRECTORY_NAMES
  pub named : All IsDirectoryEntry entries
  pub distinct : IsDistinct (pointwise nat_eq) (keys_of entries)
  pub size_is : size ≡ length (laid first 0 (identifiers parent entries))
  pub bytes : concat blocks ≡ laid first 0 (identifiers parent entries) ++ replicate (BLOCK_BYTES * block_count size - size) 0

-- blocks are the data of one directory at most
abbrev pub OneDirectory : Type 0
OneDirectory =
    (first size p q : ℕ) (es fs : List (List ℕ × Entry)) (blocks : List (List ℕ)) → first ≤ PARTITION_BLOCKS → AreBytes (concat blocks)
    → IsDirectory p es first size blocks → IsDirectory q fs first size blocks → (p ≡ q) × (es ≡ fs)

-- the blocks of identifiers are the data of their directory
abbrev pub LaidIsDirectory : Type 0
LaidIsDirectory =
    (parent first : ℕ) (entries : List (List ℕ × Entry)) → parent < 2 ^ 32 → length entries ≤ DIRECTORY_NAMES → All IsDirectoryEntry entries
    → IsDistinct (pointwise nat_eq) (keys_of entries)
    → IsDirectory parent entries first (length (laid first 0 (identifiers parent entries))) (identifier_blocks first (identifiers parent entries))

-- a directory's data takes as many blocks as its size says, and each begins with the tag of an identifier
abbrev pub BlocksBegin : Type 0
BlocksBegin =
    (parent first size : ℕ) (entries : List (List ℕ × Entry)) (blocks : List (List ℕ)) → All (λ block. length block ≡ BLOCK_BYTES) blocks
    → IsDirectory parent entries first size blocks → (length blocks ≡ block_count size) × All (λ block. u16_at 0 block ≡ 257) blocks
