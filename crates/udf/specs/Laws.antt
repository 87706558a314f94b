-- What the laws of the medium say by these formats, each the contract of a public function.
use Rattle.std.specs.Prelude.{◌≡◌, ◌↔◌, ◌⊎◌, ℕ, ◌+◌, ◌-◌, ◌≤◌, List, [], ◌∷◌, ◌++◌, length, take}
use Rattle.limits.specs.declared.TheConstants.{FORMAT_BLOCKS}
use Rattle.drive.specs.Journal.{Event, held, Once, AddsPrefix}
use Rattle.model.specs.Session.{State, Request, after_one, formatted}
use Rattle.model.specs.Laws.{IsSound}
use Rattle.durability.specs.Formats.{Block}
use Rattle.durability.specs.Volume.{Medium, NoneImitates, RecoversTo, RecoveredTo}
use Rattle.durability.specs.Step.{CarriesOut, IsFormat}
use Rattle.durability.specs.Plan.{IsPlanned}
use Rattle.durability.specs.Commit.{need}
use Rattle.durability.specs.Journal.{Advances, HoldsOnJournal}
use Rattle.durability.specs.Runs.{Delivery, Answer, Runs, Holds}
use Rattle.udf.specs.Udf.{udf, spelled_length}

-- ---- what is recovered

-- a medium recovers to at most one state, whatever drive and volume it is read in
abbrev pub OneStateIsRecovered : Type 0
OneStateIsRecovered = (capacity volume other_capacity other_volume : ℕ) (medium : Medium) (S T : State) → RecoversTo udf capacity volume medium S → RecoversTo udf other_capacity other_volume medium T → S ≡ T

-- it is sound
abbrev pub RecoveredIsSound : Type 0
RecoveredIsSound = (capacity volume : ℕ) (medium : Medium) (S : State) → RecoversTo udf capacity volume medium S → IsSound S

-- at most one state was recovered after a number of commits
abbrev pub OnePast : Type 0
OnePast = (capacity volume other_capacity other_volume : ℕ) (medium : Medium) (commits : ℕ) (S T : State) → RecoveredTo udf capacity volume medium commits S → RecoveredTo udf other_capacity other_volume medium commits T → S ≡ T

-- and there is none above the count of the recovered one, which is itself the last
abbrev pub PastIsWithin : Type 0
PastIsWithin = (capacity volume : ℕ) (medium : Medium) (commits : ℕ) (S T : State) → RecoveredTo udf capacity volume medium commits S → RecoversTo udf capacity volume medium T → commits ≤ T.commits

abbrev pub RecoveredIsLast : Type 0
RecoveredIsLast = (capacity volume : ℕ) (medium : Medium) (S : State) → RecoversTo udf capacity volume medium S → RecoveredTo udf capacity volume medium S.commits S

-- ---- blocks that imitate no VAT ICB

-- what a medium recovers to the longer one does too, and nothing else
abbrev pub RecoversAppended : Type 0
RecoversAppended =
    (capacity volume : ℕ) (S : State) (medium blocks : Medium) → NoneImitates udf (length medium) blocks
    → RecoversTo udf capacity volume medium S ↔ RecoversTo udf capacity volume (medium ++ blocks) S

abbrev pub PastAppended : Type 0
PastAppended =
    (capacity volume : ℕ) (S : State) (medium blocks : Medium) → NoneImitates udf (length medium) blocks → (commits : ℕ)
    → RecoveredTo udf capacity volume medium commits S ↔ RecoveredTo udf capacity volume (medium ++ blocks) commits S

-- ---- commits

-- the planned blocks of a request carry it out
abbrev pub PlannedCarries : Type 0
PlannedCarries =
    (capacity volume : ℕ) (medium : Medium) (S : State) (stands : RecoversTo udf capacity volume medium S) (request : Request) (blocks : List Block) (mark : Block)
    → IsPlanned udf capacity volume medium S stands request blocks mark → CarriesOut udf capacity volume medium S stands request blocks mark

-- they are no more than it may need
abbrev pub PlannedShort : Type 0
PlannedShort =
    (capacity volume : ℕ) (medium : Medium) (S : State) (stands : RecoversTo udf capacity volume medium S) (request : Request) (blocks : List Block) (mark : Block)
    → IsPlanned udf capacity volume medium S stands request blocks mark → length (blocks ++ mark ∷ []) ≤ need spelled_length S request

-- Whichever prefix of them was written: the journal recovers to the old state, or all of them are there and it recovers to the state after the request.
abbrev pub CommitAdvances : Type 0
CommitAdvances =
    (capacity volume : ℕ) (before afterwards : List Event) (S : State) (request : Request) (blocks : List Block) (mark : Block) → Once before
    → (stands : RecoversTo udf capacity volume (held before) S) → IsPlanned udf capacity volume (held before) S stands request blocks mark
    → AddsPrefix before (length before) (blocks ++ mark ∷ []) afterwards
    → Advances udf capacity volume before S afterwards S
    ⊎ ((length afterwards ≡ length before + length (blocks ++ mark ∷ [])) × Advances udf capacity volume before S afterwards (after_one S request))

-- ---- a format

-- before its last block nothing is recovered, and then the new volume
abbrev pub NothingBefore : Type 0
NothingBefore =
    (capacity volume : ℕ) (label : List ℕ) (moment : ℕ) (blocks : List Block) (mark : Block) → IsFormat udf capacity volume label moment blocks mark
    → (k : ℕ) (S : State) → k ≤ FORMAT_BLOCKS - 1 → RecoversTo udf capacity volume (take k (blocks ++ mark ∷ [])) S → ⊥

abbrev pub FormatRecovers : Type 0
FormatRecovers =
    (capacity volume : ℕ) (label : List ℕ) (moment : ℕ) (blocks : List Block) (mark : Block) → IsFormat udf capacity volume label moment blocks mark
    → RecoversTo udf capacity volume (blocks ++ mark ∷ []) (formatted moment)

-- ---- runs

-- a run leaves at each of its prefixes the state after the first of its commits
abbrev pub RunsHold : Type 0
RunsHold =
    (drive volume : ℕ) (S : State) (before afterwards : Medium) (deliveries : List Delivery) (answers : List Answer) (committed : List Request) (S' : State)
    → RecoversTo udf drive volume before S → Runs udf (need spelled_length) drive volume before S deliveries answers committed afterwards S'
    → Holds udf (need spelled_length) drive volume S before afterwards deliveries answers

-- and so on a drive's journal, each address once
abbrev pub RunsHoldOnJournal : Type 0
RunsHoldOnJournal =
    (drive volume : ℕ) (S : State) (before afterwards : List Event) (deliveries : List Delivery) (answers : List Answer) → Once before → Once afterwards
    → take (length before) afterwards ≡ before → Holds udf (need spelled_length) drive volume S (held before) (held afterwards) deliveries answers
    → HoldsOnJournal udf (need spelled_length) drive volume S before afterwards deliveries answers
