-- The virtual allocation table (UDF 2.01 2.2.10): what it says, and its one spelling.
use Rattle.std.specs.Prelude.{◌≡◌, ℕ, ◌+◌, ◌*◌, ◌^◌, ◌<◌, ◌≤◌, ◌≢◌, ◌↔◌, List, [], ◌∷◌, ◌++◌, length, codes, replicate, slice_get, Option, Some, is_some, IfSome, IsNone, All, AllPairs, count_by}
use Rattle.std.specs.Int.{w16, w32, to_le_bytes}
use Rattle.std.specs.List.{concat, flat_map}
use Rattle.limits.specs.declared.TheConstants.{ADDRESSES, CLIENTS, FIRST_UNIQUE}
use Rattle.osta.specs.Dstring.{dstring}
use Rattle.osta.specs.Label.{IsLabel}
use Rattle.vat.specs.declared.record.Record.{Record}
use Rattle.vat.specs.declared.table.Version.{Version}
use Rattle.vat.specs.declared.table.Vat.{Vat}
use Rattle.vat.specs.Version.{version_number, record_size}
use Rattle.vat.specs.Record.{record_bytes, IsKept}
use Rattle.vat.specs.Entry.{unused, entry_number, entry_bytes}

-- what a table says, apart from where it lies in memory
pub record Table : Type 0 where
  pub label : List ℕ  -- the text, in UTF-8
  pub previous : Option ℕ  -- the block number of the entry of the table before
  pub files : ℕ
  pub directories : ℕ  -- the root counted
  pub version : Version
  pub next_unique : ℕ
  pub commits : ℕ
  pub records : List Record  -- in order of the clients' first commits
  pub entries : List (Option ℕ)  -- for each virtual address its block number

abbrev pub view : Vat → Table
view vat = record {
  label = vat.label;
  previous = vat.previous;
  files = vat.files;
  directories = vat.directories;
  version = vat.sessions.version;
  next_unique = vat.sessions.next_unique;
  commits = vat.sessions.commits;
  records = vat.sessions.records.items;
  entries = vat.entries.items;
}

-- how many bytes the implementation use takes
abbrev pub sessions_size : Version → ℕ → ℕ
sessions_size version count = 44 + record_size version * count

-- what is between the label and the records, piece by piece
abbrev pub middle_parts : ℕ → ℕ → ℕ → ℕ → ℕ → ℕ → ℕ → List (List ℕ)
middle_parts previous files directories version count next_unique commits =
    to_le_bytes w32 previous  -- 132 previous VAT ICB location
    ∷ to_le_bytes w32 files  -- 136 number of files
    ∷ to_le_bytes w32 directories  -- 140 number of directories
    ∷ to_le_bytes w16 0x0201  -- 144 minimum UDF read revision
    ∷ to_le_bytes w16 0x0201  -- 146 minimum UDF write revision
    ∷ to_le_bytes w16 0x0201  -- 148 maximum UDF write revision
    ∷ to_le_bytes w16 0  -- 150 reserved
    ∷ (0 ∷ codes "*udfburn sessions") ∷ replicate 14 0  -- 152 implementation use: the identifier of the sessions
    ∷ to_le_bytes w16 version  -- 184 their version
    ∷ to_le_bytes w16 count  -- 186 number of records
    ∷ to_le_bytes w32 next_unique  -- 188 next unique ID
    ∷ to_le_bytes w32 commits  -- 192 commits
    ∷ []

-- what is before the records
abbrev pub head_parts : ℕ → List ℕ → List (List ℕ) → List (List ℕ)
head_parts size label middle =
    to_le_bytes w16 (152 + size)  -- 0 length of header
    ∷ to_le_bytes w16 size  -- 2 length of implementation use
    ∷ label  -- 4 logical volume identifier
    ∷ middle

abbrev pub middle_of : Table → List (List ℕ)
middle_of t = middle_parts (entry_number t.previous) t.files t.directories (version_number t.version) (length t.records) t.next_unique t.commits

abbrev pub head_bytes : Table → List ℕ
head_bytes t = concat (head_parts (sessions_size t.version (length t.records)) (dstring 128 t.label) (middle_of t))

abbrev pub table_bytes : Table → List ℕ
table_bytes t = head_bytes t ++ (flat_map (record_bytes t.version) t.records ++ flat_map entry_bytes t.entries)

-- what has a spelling
pub record FitsTable (t : Table) : Type 0 where
  pub label : IsLabel t.label
  -- the first table alone has none before it
  pub first : IsNone t.previous ↔ (t.commits ≡ 0)
  pub previous : IfSome t.previous (λ p. p < unused)
  pub commits : t.commits < 2 ^ 32
  pub next_unique : FIRST_UNIQUE ≤ t.next_unique
  pub next_unique_fits : t.next_unique < 2 ^ 32
  pub clients : length t.records ≤ CLIENTS
  pub records : All (IsKept t.version t.commits) t.records
  pub distinct : AllPairs (λ a b. a.client ≢ b.client) t.records
  pub few : 2 ≤ length t.entries
  pub many : length t.entries ≤ ADDRESSES
  pub numbers : All (λ e. IfSome e (λ n. n < unused)) t.entries
  -- the file set and the root are there
  pub file_set : (number : ℕ) × (slice_get t.entries 0 ≡ Some (Some number))
  pub root : (number : ℕ) × (slice_get t.entries 1 ≡ Some (Some number))
  -- each node has an entry, and so has the file set
  pub used : count_by is_some t.entries ≡ 1 + (t.files + t.directories)

-- the bytes are the table's
pub record IsTable (t : Table) (bytes : List ℕ) : Type 0 where
  pub fits : FitsTable t
  pub whole : bytes ≡ table_bytes t

-- the same, with all that it names below the block number of its own entry
pub record IsTableAt (icb : ℕ) (t : Table) (bytes : List ℕ) : Type 0 where
  pub table : IsTable t bytes
  pub previous : IfSome t.previous (λ p. p < icb)
  pub entries : All (λ e. IfSome e (λ n. n < icb)) t.entries
