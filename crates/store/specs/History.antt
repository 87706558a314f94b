-- The commits of a volume, as its chain of tables reports them.
use Rattle.std.specs.Prelude.{◌≡◌, ⊤, ℕ, zero, suc, ◌+◌, ◌<◌, ◌≤◌, List, [], ◌∷◌, length, slice_index_or, All, Option, Some, None}
use Rattle.limits.specs.declared.TheConstants.{PARTITION_START}
use Rattle.vat.specs.Table.{Table, view}
use Rattle.vat.specs.declared.table.Vat.{Vat}
use Rattle.recover.specs.declared.fault.StoreFault.{StoreFault}
use Rattle.recover.specs.declared.fault.StoreFault.TheVariants.{Device, Memory, Damaged}
use Rattle.recover.specs.State.{IsShown, DescribesNoState}
use Rattle.recover.specs.declared.state.State.{State}
use Rattle.recover.specs.Tables.{HasTableAt, IsBefore}
use Rattle.store.specs.declared.history.Commit.{Commit}

-- what is reported of the commit whose VAT ICB is at an address
abbrev pub report_of : ℕ → Table → Commit
report_of at table = record { commit = table.commits; vat_icb_address = at; files = table.files; directories = table.directories }

-- the commits below a table with this link and so many commits, the newest first, down to the format
abbrev pub IsChain : List (List ℕ) → Option ℕ → ℕ → List Commit → Type 0
IsChain medium link commits [] = (link ≡ None) × (commits ≡ 0)
IsChain medium link commits (c ∷ earlier) =
    (number : ℕ) × (link ≡ Some number) × (table : Table) × HasTableAt medium (number + PARTITION_START) table × (table.commits + 1 ≡ commits)
    × (c ≡ report_of (number + PARTITION_START) table) × IsChain medium table.previous table.commits earlier

-- all commits from the one whose VAT ICB is at an address down to the format
abbrev pub IsHistory : List (List ℕ) → ℕ → List Commit → Type 0
IsHistory medium at commits = (table : Table) × HasTableAt medium at table × (earlier : List Commit) × (commits ≡ report_of at table ∷ earlier)
    × IsChain medium table.previous table.commits earlier

-- so many steps of the chain lead from one address to another
abbrev pub ChainLeads : List (List ℕ) → ℕ → ℕ → ℕ → Type 0
ChainLeads medium from zero to = from ≡ to
ChainLeads medium from (suc steps) to = (at : ℕ) × ChainLeads medium from steps at × IsBefore medium at (Some to)

-- the table whose entry is at an address is that of so many commits, and the chain leads there
pub record IsTableOf (medium : List (List ℕ)) (from commits at : ℕ) (vat : Vat) : Type 0 where
  pub steps : ℕ
  pub leads : ChainLeads medium from steps at
  pub table : HasTableAt medium at (view vat)
  pub commits_are : vat.sessions.commits ≡ commits

-- the state after each of the commits is described by the blocks, on a drive of this capacity
abbrev pub AreShown : ℕ → List (List ℕ) → List Commit → Type 0
AreShown capacity medium commits = All (λ (c : Commit). (state : State) × IsShown capacity medium c.vat_icb_address state) commits

-- each commit from the one whose VAT ICB is at an address, and the state after it
pub record IsChecked (capacity : ℕ) (medium : List (List ℕ)) (at : ℕ) : Type 0 where
  pub commits : List Commit
  pub history : IsHistory medium at commits
  pub shown : AreShown capacity medium commits

-- why the commits were not reported: the drive failed, memory was short, or no list is all of them
abbrev pub IsHistoryRefused : List (List ℕ) → ℕ → StoreFault → Type 0
IsHistoryRefused medium at Device = ⊤
IsHistoryRefused medium at Memory = ⊤
IsHistoryRefused medium at (Damaged block cause) = (commits : List Commit) → IsHistory medium at commits → ⊥
IsHistoryRefused medium at _ = ⊥

-- from an address the chain leads to a table of more commits than these, and no further
pub record BreaksOff (medium : List (List ℕ)) (from commits : ℕ) : Type 0 where
  pub steps : ℕ
  pub at : ℕ
  pub leads : ChainLeads medium from steps at
  pub table : Table
  pub there : HasTableAt medium at table
  pub more : commits < table.commits
  pub none : (earlier : ℕ) → IsBefore medium at (Some earlier) → ⊥

-- why the table of so many commits was not found along the chain: the drive failed, memory was short, or it breaks off before
abbrev pub IsWayRefused : List (List ℕ) → ℕ → ℕ → StoreFault → Type 0
IsWayRefused medium from commits Device = ⊤
IsWayRefused medium from commits Memory = ⊤
IsWayRefused medium from commits (Damaged block cause) = (table : Table) → HasTableAt medium from table → commits ≤ table.commits → BreaksOff medium from commits
IsWayRefused medium from commits _ = ⊥

-- at the address of one of the commits no state is described
abbrev pub HasUntold : ℕ → List (List ℕ) → List Commit → Type 0
HasUntold capacity medium commits = (i : ℕ) × (i < length commits) × ((c : Commit) → DescribesNoState capacity medium (slice_index_or commits i c).vat_icb_address)

-- why not each state was shown: the drive failed, memory was short, or in no list that is all commits is each of them described
abbrev pub IsUnchecked : ℕ → List (List ℕ) → ℕ → StoreFault → Type 0
IsUnchecked capacity medium at Device = ⊤
IsUnchecked capacity medium at Memory = ⊤
IsUnchecked capacity medium at (Damaged block cause) = (commits : List Commit) → IsHistory medium at commits → HasUntold capacity medium commits
IsUnchecked capacity medium at _ = ⊥
