-- The tables of a medium, and why none is read.
use Rattle.std.specs.Prelude.{◌≡◌, ℕ, ◌+◌, ◌-◌, ◌≤◌, ◌⊎◌, ⊤, List, Option, Some, None, slice_get}
use Rattle.std.specs.Int.{div_ceil}
use Rattle.limits.specs.declared.TheConstants.{BLOCK_BYTES, PARTITION_START}
use Rattle.ecma.specs.FirstFault.{IsFirst}
use Rattle.icb.specs.declared.entry.Kind.TheVariants as kinds
use Rattle.icb.specs.Entry.{Fields, IsEntry}
use Rattle.icb.specs.Entry.Place.{Extent}
use Rattle.icb.specs.VatIcb.{IsVatIcb}
use Rattle.vat.specs.declared.fault.VatFault.{VatFault}
use Rattle.vat.specs.Rules.{table_rules, number_of_fault}
use Rattle.vat.specs.Table.{Table, IsTableAt}
use Rattle.recover.specs.declared.fault.StoreFault.{StoreFault}
use Rattle.recover.specs.declared.fault.StoreFault.TheVariants.{Device, Memory, Damaged}
use Rattle.recover.specs.declared.table.TableEntry.{TableEntry}
use Rattle.recover.specs.Blocks.{medium_bytes_at}

-- the block at this address of the partition is a VAT ICB for its number
pub record HasVatIcb (medium : List (List ℕ)) (at : ℕ) : Type 0 where
  pub block : List ℕ
  pub there : slice_get medium at ≡ Some block
  pub is : IsVatIcb block (at - PARTITION_START)

-- none is, from this address on
abbrev pub HasNoneFrom : List (List ℕ) → ℕ → Type 0
HasNoneFrom medium from = (at : ℕ) → from ≤ at → HasVatIcb medium at → ⊥

-- the address of the last VAT ICB, if there is one
abbrev pub IsLastVatIcb : List (List ℕ) → Option ℕ → Type 0
IsLastVatIcb medium None = HasNoneFrom medium PARTITION_START
IsLastVatIcb medium (Some at) = (PARTITION_START ≤ at) × HasVatIcb medium at × HasNoneFrom medium (at + 1)

-- what a VAT ICB says
abbrev pub table_fields : TableEntry → Fields
table_fields e = record { kind = kinds.Vat; moment = e.moment; links = 0; unique = 0; size = e.size; place = Extent e.first }

-- the block at this address is a VAT ICB that says so
pub record IsEntryAt (medium : List (List ℕ)) (at : ℕ) (entry : TableEntry) : Type 0 where
  pub block : List ℕ
  pub there : slice_get medium at ≡ Some block
  pub is : IsEntry (table_fields entry) (at - PARTITION_START) block

-- the data of the table lie below an address
abbrev pub HasDataBelow : ℕ → TableEntry → Type 0
HasDataBelow at e = e.first + PARTITION_START + div_ceil e.size BLOCK_BYTES ≤ at

abbrev pub table_data_of : List (List ℕ) → TableEntry → List ℕ
table_data_of medium e = medium_bytes_at medium (e.first + PARTITION_START) e.size

-- why an entry was not read: there is none, or its data do not lie below it
abbrev pub IsEntryRefused : List (List ℕ) → ℕ → StoreFault → Type 0
IsEntryRefused medium at Device = ⊤
IsEntryRefused medium at (Damaged block cause) =
    (block ≡ at) × (((cause ≡ 78) × (HasVatIcb medium at → ⊥)) ⊎ ((cause ≡ 72) × (e : TableEntry) × IsEntryAt medium at e × (HasDataBelow at e → ⊥)))
IsEntryRefused medium at _ = ⊥

-- why the table with this entry, at a block number, was not read from its data
abbrev pub IsTableRefused : ℕ → TableEntry → List ℕ → StoreFault → Type 0
IsTableRefused icb e bytes Device = ⊤
IsTableRefused icb e bytes Memory = ⊤
IsTableRefused icb e bytes (Damaged block cause) =
    (block ≡ e.first + PARTITION_START) × (fault : VatFault) × (cause ≡ number_of_fault fault) × IsFirst (table_rules icb bytes) fault
IsTableRefused icb e bytes _ = ⊥

-- the table whose entry is at this address
pub record HasTableAt (medium : List (List ℕ)) (at : ℕ) (table : Table) : Type 0 where
  pub entry : TableEntry
  pub is_entry : IsEntryAt medium at entry
  pub below : HasDataBelow at entry
  pub is : IsTableAt (at - PARTITION_START) table (table_data_of medium entry)

-- why no table was read whose entry is at this address
abbrev pub IsAtRefused : List (List ℕ) → ℕ → StoreFault → Type 0
IsAtRefused medium at fault =
    IsEntryRefused medium at fault
    ⊎ ((e : TableEntry) × IsEntryAt medium at e × HasDataBelow at e × IsTableRefused (at - PARTITION_START) e (table_data_of medium e) fault)

-- why a link to this address, from a table of so many commits, leads to no table: none is there, or not that of one commit less
abbrev pub IsLinkRefused : List (List ℕ) → ℕ → ℕ → StoreFault → Type 0
IsLinkRefused medium at commits fault =
    IsAtRefused medium at fault
    ⊎ ((fault ≡ Damaged at 78) × (table : Table) × HasTableAt medium at table × (table.commits + 1 ≡ commits → ⊥))

-- one step of the chain: none before the first table, else the entry that the table names, of the table with one commit less
abbrev pub IsBefore : List (List ℕ) → ℕ → Option ℕ → Type 0
IsBefore medium at None = (table : Table) × HasTableAt medium at table × (table.previous ≡ None)
IsBefore medium at (Some earlier) =
    (table : Table) × HasTableAt medium at table × (number : ℕ) × (table.previous ≡ Some number) × (earlier ≡ number + PARTITION_START)
    × (before : Table) × HasTableAt medium earlier before × (before.commits + 1 ≡ table.commits)

-- why no step of the chain was taken: no table is at this address, or its link leads to none of one commit less
abbrev pub IsBeforeRefused : List (List ℕ) → ℕ → StoreFault → Type 0
IsBeforeRefused medium at fault =
    IsAtRefused medium at fault
    ⊎ ((table : Table) × HasTableAt medium at table × (number : ℕ) × (table.previous ≡ Some number) × IsLinkRefused medium (number + PARTITION_START) table.commits fault)
