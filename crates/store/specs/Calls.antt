-- What the calls of a store say on a drive that is honest, of the recovered state on its journal.
use Rattle.std.specs.Prelude.{◌≡◌, ◌⊎◌, ℕ, ◌+◌, ◌<◌, ◌≤◌, false, List, [], ◌∷◌, ◌++◌, length, Result, Ok, Err}
use Rattle.drive.specs.Journal.{Event, held, written, Once}
use Rattle.drive.specs.Writes.{IsLeft, LastIsCut, joined}
use Rattle.request.specs.declared.answer.Reply as told
use Rattle.request.specs.declared.answer.Listed.{Listed}
use Rattle.request.specs.declared.answer.NodeStatus.{NodeStatus}
use Rattle.recover.specs.declared.fault.StoreFault.{StoreFault}
use Rattle.recover.specs.declared.fault.StoreFault.TheVariants as fault
use Rattle.recover.specs.Faults.{IsShortage}
use Rattle.model.specs.Tree.{Path}
use Rattle.model.specs.Session.{State, Request, reply_to, after_one, after}
use Rattle.durability.specs.Volume.{RecoversTo}
use Rattle.durability.specs.Commit.{need}
use Rattle.durability.specs.Journal.{Advances}
use Rattle.durability.specs.Plan.{IsPlanned}
use Rattle.durability.specs.Runs.{Answer, told as shows}
use Rattle.durability.specs.Runs.Answer.{NotFound, IsDirectory, NotDirectory, TooLong, Data, Names, NodeIs}
use Rattle.durability.specs.Runs.Query.{Get, List_, Stat, Read}
use Rattle.udf.specs.Udf.{udf, spelled_length}
use Rattle.udf.specs.Said.{model_table}
use Rattle.vat.specs.Table.{view}
use Rattle.store.specs.declared.store.Store.{Store}
use Rattle.lookup.specs.Cache.{AreKept}
use Rattle.lookup.specs.Asked.{is_directory, said_names}
use Rattle.store.specs.Sessions.{reply_said}

-- The journal recovers to the state, in which each address is written once, and the store keeps what the last table says,
-- and directories that lie there.
pub record IsOpenOn (capacity volume : ℕ) (journal : List Event) (S : State) (store : Store) : Type 0 where
  pub once : Once journal
  pub stands : RecoversTo udf capacity volume (held journal) S
  pub at : store.vat_icb_address ≡ stands.at
  pub table : model_table (view store.vat) ≡ stands.tells.table
  pub capacity_is : store.capacity ≡ volume
  pub kept : AreKept journal store.directories

-- so it does as long as it is not stopped
abbrev pub IsStillOpenOn : (capacity volume : ℕ) → List Event → State → Store → Type 0
IsStillOpenOn capacity volume journal S store = store.is_stopped ≡ false → IsOpenOn capacity volume journal S store

-- ---- opening

-- the drive is opened, unless it fails or memory is short
abbrev pub Opens : (capacity volume : ℕ) → List Event → State → Result Store StoreFault → Type 0
Opens capacity volume journal S (Ok store) = IsOpenOn capacity volume journal S store × (store.is_stopped ≡ false)
Opens capacity volume journal S (Err refusal) = IsShortage refusal

-- ---- a new request

-- It was committed, with its own reply, in no more blocks than it may need, and there was room for as many.
pub record IsCommitDone (capacity volume : ℕ) (before : List Event) (S : State) (request : Request) (reply : told.Reply) (afterwards : List Event) (store : Store) : Type 0 where
  pub reply_is : reply_said reply ≡ reply_to S request
  pub advances : Advances udf capacity volume before S afterwards (after_one S request)
  pub some : length before < length afterwards
  pub few : length afterwards ≤ length before + need spelled_length S request
  pub room : length before + need spelled_length S request ≤ volume
  pub knows : IsStillOpenOn capacity volume afterwards (after_one S request) store

-- The drive failed: a prefix of its blocks may be written, and the request committed where all are.
pub record IsFailed (capacity volume : ℕ) (before : List Event) (S : State) (request : Request) (afterwards : List Event) (store : Store) : Type 0 where
  pub done : List Request
  pub whether : (done ≡ []) ⊎ ((done ≡ request ∷ []) × (length before < length afterwards))
  pub advances : Advances udf capacity volume before S afterwards (after S done)
  pub few : length afterwards ≤ length before + need spelled_length S request
  pub room : length before < length afterwards → length before + need spelled_length S request ≤ volume
  pub knows : IsStillOpenOn capacity volume afterwards (after S done) store

-- Nothing was written.
pub record IsLeftUnwritten (capacity volume : ℕ) (before : List Event) (S : State) (afterwards : List Event) (store : Store) : Type 0 where
  pub journal : afterwards ≡ before
  pub knows : IsStillOpenOn capacity volume afterwards S store

abbrev pub RefusesRequest : (capacity volume : ℕ) → List Event → State → Request → StoreFault → List Event → Store → Type 0
RefusesRequest capacity volume before S request refusal afterwards store =
    ((refusal ≡ fault.Device) × IsFailed capacity volume before S request afterwards store)
    ⊎ (((refusal ≡ fault.Memory) × IsLeftUnwritten capacity volume before S afterwards store)
    ⊎ ((refusal ≡ fault.Full) × IsLeftUnwritten capacity volume before S afterwards store × (volume < length before + need spelled_length S request)))

-- what became of a new request at the recovered state
abbrev pub Applies : (capacity volume : ℕ) → List Event → State → Request → Result told.Reply StoreFault → List Event → Store → Type 0
Applies capacity volume before S request (Ok reply) afterwards store = IsCommitDone capacity volume before S request reply afterwards store
Applies capacity volume before S request (Err refusal) afterwards store = RefusesRequest capacity volume before S request refusal afterwards store

-- The writes that a call made, each once the one before it was whole. Where none failed, the journal goes on by the blocks of
-- all. Where the drive failed, there was no write, or the journal goes on by the blocks of all but the last and a prefix of
-- the last. Whatever a power loss leaves of them, each from where it began, the state before the call is recovered, or the
-- one after the request.
pub record CommitSurvivesPowerLoss (capacity volume : ℕ) (before : List Event) (S : State) (request : Request) (writes : List (List (List ℕ))) (failed : ℕ) (afterwards : List Event) (later : List (List (List ℕ))) : Type 0 where
  pub added : List (List (List ℕ))
  pub writes_are : later ≡ writes ++ added
  pub whole : failed ≡ 0 → afterwards ≡ before ++ written (length before) (joined added)
  pub cut : 0 < failed → ((added ≡ []) × (afterwards ≡ before)) ⊎ LastIsCut (length before) before added afterwards
  pub torn : (left : List (List ℕ)) (journal : List Event) → IsLeft added left → journal ≡ before ++ written (length before) left
      → Advances udf capacity volume before S journal S ⊎ Advances udf capacity volume before S journal (after_one S request)

-- A request was committed: its blocks, and after them its VAT ICB, the mark, are those that are planned for it at the recovered
-- state, and the journal goes on by these and nothing else.
pub record IsCommitPlanned (capacity volume : ℕ) (before : List Event) (S : State) (request : Request) (afterwards : List Event) : Type 0 where
  pub stands : RecoversTo udf capacity volume (held before) S
  pub blocks : List (List ℕ)
  pub mark : List ℕ
  pub planned : IsPlanned udf capacity volume (held before) S stands request blocks mark
  pub journal : afterwards ≡ before ++ written (length before) (blocks ++ mark ∷ [])

-- ---- queries

-- Each query is answered what the tree shows, unless the drive fails or memory is short.
abbrev pub GetRefuses : Answer → StoreFault → Type 0
GetRefuses shown refusal =
    IsShortage refusal
    ⊎ (((refusal ≡ fault.NotFound) × (shown ≡ NotFound)) ⊎ (((refusal ≡ fault.IsDirectory) × (shown ≡ IsDirectory)) ⊎ ((refusal ≡ fault.TooLong) × (shown ≡ TooLong))))

abbrev pub ReadRefuses : Answer → StoreFault → Type 0
ReadRefuses shown refusal = IsShortage refusal ⊎ (((refusal ≡ fault.NotFound) × (shown ≡ NotFound)) ⊎ ((refusal ≡ fault.IsDirectory) × (shown ≡ IsDirectory)))

abbrev pub ListRefuses : Answer → StoreFault → Type 0
ListRefuses shown refusal = IsShortage refusal ⊎ (((refusal ≡ fault.NotFound) × (shown ≡ NotFound)) ⊎ ((refusal ≡ fault.NotDirectory) × (shown ≡ NotDirectory)))

abbrev pub StatRefuses : Answer → StoreFault → Type 0
StatRefuses shown refusal = IsShortage refusal ⊎ ((refusal ≡ fault.NotFound) × (shown ≡ NotFound))

abbrev pub Gets : State → Path → Result (List ℕ) StoreFault → Type 0
Gets S path (Ok bytes) = shows S.tree (Get path) ≡ Data bytes
Gets S path (Err refusal) = GetRefuses (shows S.tree (Get path)) refusal

abbrev pub Reads : State → Path → ℕ → ℕ → Result (List ℕ) StoreFault → Type 0
Reads S path offset count (Ok bytes) = shows S.tree (Read path offset count) ≡ Data bytes
Reads S path offset count (Err refusal) = ReadRefuses (shows S.tree (Read path offset count)) refusal

abbrev pub Lists : State → Path → Result (List Listed) StoreFault → Type 0
Lists S path (Ok names) = shows S.tree (List_ path) ≡ Names (said_names names)
Lists S path (Err refusal) = ListRefuses (shows S.tree (List_ path)) refusal

abbrev pub Stats : State → Path → Result NodeStatus StoreFault → Type 0
Stats S path (Ok status) = shows S.tree (Stat path) ≡ NodeIs (is_directory status.kind) status.moment status.size
Stats S path (Err refusal) = StatRefuses (shows S.tree (Stat path)) refusal
