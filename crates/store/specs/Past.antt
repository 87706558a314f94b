-- The past states, as a store reports them.
use Rattle.std.specs.Prelude.{◌≡◌, ⊤, ℕ, ◌<◌, ◌≤◌, Bool, IsTrue, List, [], length, take, Option, Result, Ok, Err}
use Rattle.drive.specs.Journal.{Event, Once, held, next_of}
use Rattle.model.specs.Graph.{MakesTree}
use Rattle.model.specs.Session.{State}
use Rattle.model.specs.Tree.{IsTree, Tree, identity_at}
use Rattle.durability.specs.Volume.{RecoveredTo, RecoversTo}
use Rattle.udf.specs.Said.{model_table}
use Rattle.udf.specs.Udf.{udf}
use Rattle.vat.specs.declared.table.Vat.{Vat}
use Rattle.vat.specs.Table.{view}
use Rattle.recover.specs.declared.fault.StoreFault.{StoreFault}
use Rattle.recover.specs.declared.fault.StoreFault.TheVariants.{Device, Memory, Damaged, NoCommit}
use Rattle.lookup.specs.declared.cache.DirectoryCache.{DirectoryCache}
use Rattle.lookup.specs.Cache.{AreKept}
use Rattle.lookup.specs.Shows.{HasNodesOf, graph_below}

-- the state after so many commits was recovered, and this table, whose entry is at an address, leads to its nodes
pub record IsPast (capacity volume : ℕ) (journal : List Event) (commits : ℕ) (S : State) (at : ℕ) (vat : Vat) : Type 0 where
  pub past : RecoveredTo udf capacity volume (held journal) commits S
  pub tree : IsTree S.tree
  pub makes : MakesTree (graph_below at vat.entries.items journal) S.tree
  pub root : identity_at S.tree [] ≡ 0
  pub within : at < next_of journal
  pub records : (model_table (view vat)).records ≡ S.records
  pub next : vat.sessions.next_unique ≡ S.next_identity
  pub commits_are : vat.sessions.commits ≡ commits

-- why the state after so many commits, of as many as there are now, is not shown: the drive failed, memory was short,
-- there are fewer, or none was recovered
abbrev pub IsPastRefused : ℕ → ℕ → List (List ℕ) → ℕ → ℕ → StoreFault → Type 0
IsPastRefused capacity volume medium now commits Device = ⊤
IsPastRefused capacity volume medium now commits Memory = ⊤
IsPastRefused capacity volume medium now commits NoCommit = now < commits
IsPastRefused capacity volume medium now commits (Damaged block cause) = (S : State) → RecoveredTo udf capacity volume medium commits S → ⊥
IsPastRefused capacity volume medium now commits _ = ⊥

-- a state was recovered after each of so many commits
abbrev pub AllRecovered : ℕ → ℕ → List (List ℕ) → ℕ → Type 0
AllRecovered capacity volume medium commits = (k : ℕ) → k ≤ commits → (S : State) × RecoveredTo udf capacity volume medium k S

-- why so many commits are not reported: the drive failed, memory was short, or after one of them no state was recovered
abbrev pub IsCheckRefused : ℕ → ℕ → List (List ℕ) → ℕ → StoreFault → Type 0
IsCheckRefused capacity volume medium commits Device = ⊤
IsCheckRefused capacity volume medium commits Memory = ⊤
IsCheckRefused capacity volume medium commits (Damaged block cause) = AllRecovered capacity volume medium commits → ⊥
IsCheckRefused capacity volume medium commits _ = ⊥

-- what is answered for so many commits: how many there are, where a state was recovered after each
abbrev pub CountsCommits : ℕ → ℕ → List (List ℕ) → ℕ → Result ℕ StoreFault → Type 0
CountsCommits capacity volume medium commits (Ok n) = (n ≡ commits) × AllRecovered capacity volume medium commits
CountsCommits capacity volume medium commits (Err fault) = IsCheckRefused capacity volume medium commits fault

-- why the commits of the state to which a medium recovers are not reported
abbrev pub IsRecoveredCheckRefused : ℕ → List (List ℕ) → StoreFault → Type 0
IsRecoveredCheckRefused capacity medium fault = (volume : ℕ) × (S : State) × RecoversTo udf capacity volume medium S × IsCheckRefused capacity volume medium S.commits fault

-- What a snapshot shows stays where the journal goes on, each address once, as after any run: its nodes make the same tree,
-- with whatever directories lie there, and its VAT ICB is on the medium.
abbrev pub SnapshotsStay : Type 0
SnapshotsStay =
    (honest still : Bool) (J J' : List Event) (directories kept : DirectoryCache) (at : ℕ) (entries : List (Option ℕ)) (t : Tree) → HasNodesOf honest J directories at entries t → at ≤ next_of J
    → Once J' → take (length J) J' ≡ J → IsTrue still → AreKept J' kept → HasNodesOf still J' kept at entries t × (at ≤ next_of J')
