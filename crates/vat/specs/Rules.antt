-- What makes bytes a table, in the order in which the faults are reported.
use Rattle.std.specs.Prelude.{◌≡◌, ◌≢◌, ℕ, ◌+◌, ◌-◌, ◌*◌, ◌%◌, ◌<◌, ◌≤◌, ◌==◌, ◌⊎◌, not, List, [], ◌∷◌, length, take, drop, map, codes, replicate, slice_index, IsSome, unwrap_or, count_by}
use Rattle.std.specs.Int.{w16, to_le_bytes}
use Rattle.std.specs.List.{concat, flat_map, AllByRecursion}
use Rattle.limits.specs.declared.TheConstants.{ADDRESSES, CLIENTS, FIRST_UNIQUE, TABLE_HEAD_BYTES}
use Rattle.ecma.specs.Field.{IsAt}
use Rattle.ecma.specs.Numbers.{u16_at, u32_at, u64_at}
use Rattle.osta.specs.Label.{IsLabelDstring}
use Rattle.vat.specs.declared.fault.VatFault.{VatFault}
use Rattle.vat.specs.declared.fault.VatFault.TheVariants as faults
use Rattle.vat.specs.declared.table.Version.{Version}
use Rattle.vat.specs.declared.table.Version.TheVariants.{One, Two}
use Rattle.vat.specs.declared.record.Reply.{Reply}
use Rattle.vat.specs.declared.record.Record.{Record}
use Rattle.vat.specs.Reply.{nothing}
use Rattle.vat.specs.Version.{version_of, record_size}
use Rattle.vat.specs.Record.{SpellsRecord, IsKept, record_bytes}
use Rattle.vat.specs.Entry.{unused, words, number_entry}
use Rattle.vat.specs.Table.{Table}

abbrev pub number_of_fault : VatFault → ℕ
number_of_fault faults.Header = 41
number_of_fault faults.Label = 42
number_of_fault faults.Version = 43
number_of_fault faults.Record = 44
number_of_fault faults.ClientTwice = 45
number_of_fault faults.Entry = 46
number_of_fault faults.Count = 47
number_of_fault faults.Memory = 65

-- the version of the sessions; lengths of a version that is unknown are computed as those of the first
abbrev pub version_at : List ℕ → Version
version_at bytes = unwrap_or (version_of (u16_at 184 bytes)) One

abbrev pub count_at : List ℕ → ℕ
count_at bytes = u16_at 186 bytes

abbrev pub commits_at : List ℕ → ℕ
commits_at bytes = u32_at 192 bytes

abbrev pub record_size_at : List ℕ → ℕ
record_size_at bytes = record_size (version_at bytes)

-- the numbers after the header
abbrev pub numbers_at : List ℕ → List ℕ
numbers_at bytes = words (drop (u16_at 0 bytes) bytes)

pub record HasHeader (icb : ℕ) (bytes : List ℕ) : Type 0 where
  pub long : TABLE_HEAD_BYTES ≤ length bytes
  pub header : u16_at 0 bytes ≡ 152 + u16_at 2 bytes
  pub records : u16_at 2 bytes ≡ 44 + record_size_at bytes * count_at bytes
  pub whole : u16_at 0 bytes ≤ length bytes
  pub entries : (length bytes - u16_at 0 bytes) % 4 ≡ 0
  pub reserved : u16_at 150 bytes ≡ 0
  -- in the first table there is none before it, and else it is below the table's own
  pub first : commits_at bytes ≡ 0 → u32_at 132 bytes ≡ unused
  pub previous : commits_at bytes ≢ 0 → u32_at 132 bytes < icb

abbrev pub label_field : List ℕ → List ℕ
label_field bytes = take 128 (drop 4 bytes)

pub record HasLabel (bytes : List ℕ) : Type 0 where
  pub label : List ℕ
  pub spelled : IsLabelDstring label (label_field bytes)

abbrev pub HasRevisions : List ℕ → Type 0
HasRevisions bytes = IsAt 144 (concat (to_le_bytes w16 0x0201 ∷ to_le_bytes w16 0x0201 ∷ to_le_bytes w16 0x0201 ∷ [])) bytes

abbrev pub reply_at : ℕ → List ℕ → Reply
reply_at at text = record { code = u16_at at text; commit = u32_at (at + 4) text }

-- where the bytes of a record begin
abbrev pub record_place : List ℕ → ℕ → ℕ
record_place bytes i = TABLE_HEAD_BYTES + record_size_at bytes * i

abbrev pub record_text : List ℕ → ℕ → List ℕ
record_text bytes i = take (record_size_at bytes) (drop (record_place bytes i) bytes)

pub record HasRecords (bytes : List ℕ) : Type 0 where
  pub identifier : IsAt 152 (concat ((0 ∷ codes "*udfburn sessions") ∷ replicate 14 0 ∷ [])) bytes
  pub version : IsSome (version_of (u16_at 184 bytes))
  pub clients : count_at bytes ≤ CLIENTS
  pub each : (i : ℕ) → i < count_at bytes → SpellsRecord (version_at bytes) (commits_at bytes) (record_text bytes i)

-- what is in the four places of replies, where the version has them
abbrev pub places_in : Version → List ℕ → List Reply
places_in One text = reply_at 16 text ∷ nothing ∷ nothing ∷ nothing ∷ []
places_in Two text = reply_at 16 text ∷ reply_at 24 text ∷ reply_at 32 text ∷ reply_at 40 text ∷ []

abbrev pub HasClients : List ℕ → Type 0
HasClients bytes = (i j : ℕ) → i < j → j < count_at bytes → u64_at (record_place bytes i) bytes ≢ u64_at (record_place bytes j) bytes

-- each number is below the VAT ICB, or unused after those of the file set and the root
abbrev pub AreNumbers : ℕ → List ℕ → Type 0
AreNumbers icb numbers = (i : ℕ) → i < length numbers → (slice_index numbers i < icb) ⊎ ((slice_index numbers i ≡ unused) × (2 ≤ i))

abbrev pub HasEntries : ℕ → List ℕ → Type 0
HasEntries icb bytes = AreNumbers icb (numbers_at bytes)

abbrev pub used_of : List ℕ → ℕ
used_of numbers = count_by (λ n. not (n == unused)) numbers

pub record HasCounts (bytes : List ℕ) : Type 0 where
  pub few : 2 ≤ length (numbers_at bytes)
  pub many : length (numbers_at bytes) ≤ ADDRESSES
  pub used : used_of (numbers_at bytes) ≡ 1 + (u32_at 136 bytes + u32_at 140 bytes)
  pub next_unique : FIRST_UNIQUE ≤ u32_at 188 bytes

abbrev pub table_rules : ℕ → List ℕ → List (VatFault × Type 0)
table_rules icb bytes =
    (faults.Header, HasHeader icb bytes)
    ∷ (faults.Label, HasLabel bytes)
    ∷ (faults.Version, HasRevisions bytes)
    ∷ (faults.Record, HasRecords bytes)
    ∷ (faults.ClientTwice, HasClients bytes)
    ∷ (faults.Entry, HasEntries icb bytes)
    ∷ (faults.Count, HasCounts bytes)
    ∷ []

-- the records that the bytes have
pub record SaysRecords (records : List Record) (bytes : List ℕ) : Type 0 where
  pub count : length records ≡ count_at bytes
  pub kept : AllByRecursion (IsKept (version_at bytes) (commits_at bytes)) records
  pub whole : flat_map (record_bytes (version_at bytes)) records ≡ take (record_size_at bytes * count_at bytes) (drop TABLE_HEAD_BYTES bytes)

-- what the bytes say
pub record DescribesTable (t : Table) (bytes : List ℕ) : Type 0 where
  pub label : IsLabelDstring t.label (label_field bytes)
  pub previous : t.previous ≡ number_entry (u32_at 132 bytes)
  pub files : t.files ≡ u32_at 136 bytes
  pub directories : t.directories ≡ u32_at 140 bytes
  pub version : t.version ≡ version_at bytes
  pub next_unique : t.next_unique ≡ u32_at 188 bytes
  pub commits : t.commits ≡ commits_at bytes
  pub records : SaysRecords t.records bytes
  pub entries : t.entries ≡ map number_entry (numbers_at bytes)
