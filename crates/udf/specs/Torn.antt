-- What the laws of the medium say, by these formats, of a power loss, whichever blocks of the write that had not returned the disk kept.
use Rattle.std.specs.Prelude.{◌≡◌, ◌⊎◌, ℕ, ◌+◌, ◌≤◌, Bool, List, [], ◌∷◌, ◌++◌, length, take}
use Rattle.drive.specs.Journal.{Event, held, written, Once}
use Rattle.drive.specs.Writes.{joined, LastIsAlone, IsLeft, torn_by}
use Rattle.model.specs.Session.{State, Request, due, after, after_one, formatted}
use Rattle.model.specs.Session.Due.{New}
use Rattle.durability.specs.Formats.{Block}
use Rattle.durability.specs.Volume.{Medium, RecoversTo}
use Rattle.durability.specs.Step.{Moves, IsFormat}
use Rattle.durability.specs.Plan.{zeros, IsPlanned}
use Rattle.durability.specs.Torn.{AreAlike, RecoversToNothing, Endures, AreTried, AreCommitted}
use Rattle.durability.specs.Commit.{need}
use Rattle.durability.specs.Journal.{Advances}
use Rattle.durability.specs.Runs.{Delivery, Answer, Runs}
use Rattle.durability.specs.Runs.Message.{Asks}
use Rattle.durability.specs.Runs.Delivery.{Delivered}
use Rattle.durability.specs.Runs.Answer.{Fault}
use Rattle.udf.specs.Udf.{udf, spelled_length}

-- ---- what may be left

-- a prefix of what was written is among what may be left of it
abbrev pub PrefixesAreLeft : Type 0
PrefixesAreLeft = (k : ℕ) (writes : List (List Block)) → IsLeft writes (take k (joined writes))

-- and so is what may be left where only the first of the writes were begun
abbrev pub FewerAreLeft : Type 0
FewerAreLeft = (writes others : List (List Block)) (left : List Block) → IsLeft writes left → IsLeft (writes ++ others) left

-- and, after whole writes, any choice of the blocks of the next, or of a prefix of it, with zeros in place of the others
abbrev pub ChoicesAreLeft : Type 0
ChoicesAreLeft =
    (before : List (List Block)) (write : List Block) (others : List (List Block)) (keep : ℕ → Bool) (n : ℕ)
    → IsLeft (before ++ write ∷ others) (joined before ++ take n (torn_by keep write))

-- ---- a commit

-- What is left of a commit's writes, without the one of its last block, changes neither the recovered state nor an earlier one.
abbrev pub TornPartIsAlike : Type 0
TornPartIsAlike =
    (capacity volume : ℕ) (medium : Medium) (S : State) (stands : RecoversTo udf capacity volume medium S) (request : Request) (blocks : List Block) (mark : Block)
    → IsPlanned udf capacity volume medium S stands request blocks mark
    → (writes : List (List Block)) (left : List Block) → joined writes ≡ blocks → IsLeft writes left → AreAlike udf capacity volume medium (medium ++ left)

-- With all blocks but the last, and after them nothing or a block of zeros, the old state is recovered, and with the last the state after the request.
abbrev pub LastBlockDecides : Type 0
LastBlockDecides =
    (capacity volume : ℕ) (medium : Medium) (S : State) (stands : RecoversTo udf capacity volume medium S) (request : Request) (blocks : List Block) (mark : Block)
    → IsPlanned udf capacity volume medium S stands request blocks mark
    → Endures udf capacity volume medium S [] (medium ++ blocks)
    × Endures udf capacity volume medium S [] (medium ++ (blocks ++ zeros ∷ []))
    × Endures udf capacity volume medium S (request ∷ []) (medium ++ (blocks ++ mark ∷ []))

-- Whatever is left of a commit whose last block goes out alone: the old state is recovered, or all of it is there and the state after the request is. It is no more than the request may need.
abbrev pub TornCommitMoves : Type 0
TornCommitMoves =
    (capacity volume : ℕ) (medium : Medium) (S : State) (stands : RecoversTo udf capacity volume medium S) (request : Request) (blocks : List Block) (mark : Block)
    → IsPlanned udf capacity volume medium S stands request blocks mark
    → (writes : List (List Block)) (left : List Block) → LastIsAlone blocks mark writes → IsLeft writes left
    → Moves udf capacity volume medium S (medium ++ left) S ⊎ ((left ≡ blocks ++ mark ∷ []) × Moves udf capacity volume medium S (medium ++ left) (after_one S request))

abbrev pub TornCommitShort : Type 0
TornCommitShort =
    (capacity volume : ℕ) (medium : Medium) (S : State) (stands : RecoversTo udf capacity volume medium S) (request : Request) (blocks : List Block) (mark : Block)
    → IsPlanned udf capacity volume medium S stands request blocks mark
    → (writes : List (List Block)) (left : List Block) → LastIsAlone blocks mark writes → IsLeft writes left → length left ≤ need spelled_length S request

-- and so on a drive's journal
abbrev pub TornCommitAdvances : Type 0
TornCommitAdvances =
    (capacity volume : ℕ) (before afterwards : List Event) (S : State) (request : Request) (blocks : List Block) (mark : Block) → Once before
    → (stands : RecoversTo udf capacity volume (held before) S) → IsPlanned udf capacity volume (held before) S stands request blocks mark
    → (writes : List (List Block)) (left : List Block) → LastIsAlone blocks mark writes → IsLeft writes left → afterwards ≡ before ++ written (length before) left
    → Advances udf capacity volume before S afterwards S ⊎ ((left ≡ blocks ++ mark ∷ []) × Advances udf capacity volume before S afterwards (after_one S request))

-- ---- commits in turn

-- At any moment of commits in turn, of which some were answered: the state after these and after the first of the others is recovered, and no other.
abbrev pub AnsweredEndure : Type 0
AnsweredEndure =
    (capacity volume : ℕ) (answered others : List Request) (medium : Medium) (S : State) (before writes : List (List Block)) (left : List Block)
    → RecoversTo udf capacity volume medium S → AreCommitted udf capacity volume medium S answered before
    → AreCommitted udf capacity volume (medium ++ joined before) (after S answered) others writes → IsLeft writes left
    → (j : ℕ) × (j ≤ length others) × Endures udf capacity volume medium S (answered ++ take j others) ((medium ++ joined before) ++ left)

-- Of commits in turn, each after whatever is left of those before it, the state after those that are whole is recovered, and no other.
abbrev pub CommitsEndure : Type 0
CommitsEndure =
    (capacity volume : ℕ) (requests : List Request) (medium : Medium) (S : State) (done : List Request) (afterwards : Medium)
    → RecoversTo udf capacity volume medium S → AreTried udf capacity volume medium S requests done afterwards → Endures udf capacity volume medium S done afterwards

-- In a run it is a delivery that is answered by a fault, so that what holds of runs holds of those with power losses.
abbrev pub TornCommitRuns : Type 0
TornCommitRuns =
    (drive volume : ℕ) (S : State) (before afterwards : Medium) (deliveries : List Delivery) (answers : List Answer) (committed : List Request) (S' : State)
    → Runs udf (need spelled_length) drive volume before S deliveries answers committed afterwards S'
    → (stands : RecoversTo udf drive volume afterwards S') (request : Request) (blocks : List Block) (mark : Block) → IsPlanned udf drive volume afterwards S' stands request blocks mark
    → due S' request.client request.number ≡ New → length afterwards + need spelled_length S' request ≤ volume
    → (writes : List (List Block)) (left : List Block) → LastIsAlone blocks mark writes → IsLeft writes left
    → (done : List Request) × ((done ≡ []) ⊎ ((done ≡ request ∷ []) × (left ≡ blocks ++ mark ∷ [])))
    × Runs udf (need spelled_length) drive volume before S (deliveries ++ Delivered (Asks request) ∷ []) (answers ++ Fault ∷ []) (committed ++ done) (afterwards ++ left) (after S' done)

-- ---- a format

-- What is left of a format's writes, without the one of its last block: nothing is recovered.
abbrev pub TornFormatIsNothing : Type 0
TornFormatIsNothing =
    (capacity volume : ℕ) (label : List ℕ) (moment : ℕ) (blocks : List Block) (mark : Block) → IsFormat udf capacity volume label moment blocks mark
    → (writes : List (List Block)) (left : List Block) → joined writes ≡ blocks → IsLeft writes left → RecoversToNothing udf left

-- Whatever is left of one whose last block goes out alone: nothing is recovered, or all of it is there and the new volume is.
abbrev pub TornFormatRecovers : Type 0
TornFormatRecovers =
    (capacity volume : ℕ) (label : List ℕ) (moment : ℕ) (blocks : List Block) (mark : Block) → IsFormat udf capacity volume label moment blocks mark
    → (writes : List (List Block)) (left : List Block) → LastIsAlone blocks mark writes → IsLeft writes left
    → RecoversToNothing udf left ⊎ ((left ≡ blocks ++ mark ∷ []) × RecoversTo udf capacity volume left (formatted moment))
