-- What is kept by a state that was read back from a medium, and what it says.
use Rattle.std.specs.Prelude.{◌≡◌, ℕ, ◌+◌, ◌-◌, ◌*◌, ◌≤◌, ⊤, List, length, take, Option, Some, slice_get}
use Rattle.limits.specs.declared.TheConstants.{LEAST_CAPACITY, GREATEST_CAPACITY, PARTITION_START, FORMAT_BLOCKS, FIRST_UNIQUE}
use Rattle.icb.specs.FileSet.{IsFileSet}
use Rattle.model.specs.Graph.{MakesTree}
use Rattle.model.specs.Identities.{HasIdentities}
use Rattle.model.specs.Session.{State as ModelState}
use Rattle.model.specs.Tree.{Tree, IsTree, files_of, directories_of}
use Rattle.durability.specs.Volume.{Describes, graph_of}
use Rattle.udf.specs.Said.{model_table}
use Rattle.udf.specs.Udf.{udf}
use Rattle.vat.specs.declared.table.Vat.{Vat}
use Rattle.vat.specs.Table.{IsTableAt, view}
use Rattle.volume.specs.Front.{IsFront}
use Rattle.recover.specs.declared.fault.StoreFault.{StoreFault}
use Rattle.recover.specs.declared.fault.StoreFault.TheVariants.{Device, Memory, Damaged}
use Rattle.recover.specs.declared.state.State.{State}
use Rattle.recover.specs.declared.table.TableEntry.{TableEntry}
use Rattle.recover.specs.Tables.{HasDataBelow, IsEntryAt, table_data_of}

-- the table counts the root, and no more commits and unique IDs than the blocks below its entry leave room for
pub record HasPlausibleCounts (at : ℕ) (vat : Vat) : Type 0 where
  pub root : 1 ≤ vat.directories
  pub few_commits : 2 * vat.sessions.commits + (FORMAT_BLOCKS - 1) ≤ at
  pub few_unique : vat.sessions.next_unique ≤ FIRST_UNIQUE + vat.sessions.commits

-- the state of a table whose entry is at this address, on a drive of this capacity
pub record HasSoundTable (at capacity : ℕ) (state : State) : Type 0 where
  pub low : LEAST_CAPACITY ≤ state.capacity
  pub high : state.capacity ≤ GREATEST_CAPACITY
  pub fits : state.capacity ≤ capacity
  pub bytes : List ℕ
  pub table : IsTableAt (at - PARTITION_START) (view state.vat) bytes
  pub counted : HasPlausibleCounts at state.vat
  -- each node has an entry beside that of the file set
  pub nodes : 1 + (state.vat.files + state.vat.directories) ≤ length state.vat.entries.items

-- why no volume header was read from these blocks
abbrev pub IsFrontRefused : List (List ℕ) → StoreFault → Type 0
IsFrontRefused blocks Device = ⊤
IsFrontRefused blocks (Damaged block cause) = (cause ≡ 71) × ((label : List ℕ) (moment capacity : ℕ) → IsFront label moment capacity blocks → ⊥)
IsFrontRefused blocks _ = ⊥

-- the file set descriptor has virtual address 0, and this label and moment
pub record HasFileSet (medium : List (List ℕ)) (entries : List (Option ℕ)) (label : List ℕ) (moment : ℕ) : Type 0 where
  pub number : ℕ
  pub used : slice_get entries 0 ≡ Some (Some number)
  pub block : List ℕ
  pub there : slice_get medium (number + PARTITION_START) ≡ Some block
  pub is : IsFileSet (record { label = label; moment = moment }) block

-- why the file set was not read: there is none with this label and moment
abbrev pub IsSetRefused : List (List ℕ) → List (Option ℕ) → List ℕ → ℕ → StoreFault → Type 0
IsSetRefused medium entries label moment Device = ⊤
IsSetRefused medium entries label moment (Damaged block cause) = HasFileSet medium entries label moment → ⊥
IsSetRefused medium entries label moment _ = ⊥

-- what is described there, but for the tree, on a drive of this capacity
pub record IsDescribed (capacity : ℕ) (medium : List (List ℕ)) (at : ℕ) (state : State) : Type 0 where
  pub entry : TableEntry
  pub is_entry : IsEntryAt medium at entry
  pub below : HasDataBelow at entry
  pub table : IsTableAt (at - PARTITION_START) (view state.vat) (table_data_of medium entry)
  pub moment : entry.moment ≡ state.moment
  pub label : state.vat.label ≡ state.label
  pub formatted : ℕ  -- the moment of the format
  pub front : IsFront state.label formatted state.capacity (take PARTITION_START medium)
  pub fits : state.capacity ≤ capacity
  pub set : HasFileSet (take at medium) state.vat.entries.items state.label formatted

-- the nodes that a table leads to make a tree, which the table counts
pub record CountsTree (medium : List (List ℕ)) (vat : Vat) : Type 0 where
  pub tree : Tree
  pub is : IsTree tree
  pub makes : MakesTree (graph_of udf medium vat.entries.items) tree
  pub identities : HasIdentities tree vat.sessions.next_unique
  pub files : vat.files ≡ files_of tree
  pub directories : vat.directories ≡ directories_of tree

-- why the nodes were refused: they make no tree that the table counts, or there is no room for its commits and unique IDs
abbrev pub IsTreeRefused : List (List ℕ) → ℕ → Vat → StoreFault → Type 0
IsTreeRefused medium at vat Device = ⊤
IsTreeRefused medium at vat Memory = ⊤
IsTreeRefused medium at vat (Damaged block cause) = CountsTree medium vat → 2 * vat.sessions.commits + (FORMAT_BLOCKS - 1) ≤ at → vat.sessions.next_unique ≤ FIRST_UNIQUE + vat.sessions.commits → ⊥
IsTreeRefused medium at vat _ = ⊥

-- What was read is the state at a VAT ICB: the one that the blocks below it describe, on a drive of this
-- capacity, by this table.
pub record IsShown (capacity : ℕ) (medium : List (List ℕ)) (at : ℕ) (state : State) : Type 0 where
  pub said : ModelState
  pub block : List ℕ
  pub there : slice_get medium at ≡ Some block
  pub tells : Describes udf capacity state.capacity (take at medium) at block said
  pub moment : said.moment ≡ state.moment
  pub table : tells.table ≡ model_table (view state.vat)
  pub label : state.vat.label ≡ state.label

-- no state is described there, on a drive of this capacity
abbrev pub DescribesNoState : ℕ → List (List ℕ) → ℕ → Type 0
DescribesNoState capacity medium at = (volume : ℕ) (block : List ℕ) (said : ModelState) → slice_get medium at ≡ Some block → Describes udf capacity volume (take at medium) at block said → ⊥

-- why no state was read: the drive failed, memory was short, or none is described
abbrev pub IsStateRefused : ℕ → List (List ℕ) → ℕ → StoreFault → Type 0
IsStateRefused capacity medium at Device = ⊤
IsStateRefused capacity medium at Memory = ⊤
IsStateRefused capacity medium at (Damaged block cause) = DescribesNoState capacity medium at
IsStateRefused capacity medium at _ = ⊥
