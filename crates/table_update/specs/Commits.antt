-- What becomes of a state where the planned blocks of a request are written, all of them or a prefix.
use Rattle.std.specs.Prelude.{◌≡◌, ◌⊎◌, ℕ, ◌+◌, ◌<◌, ◌≤◌, List, [], ◌∷◌, ◌++◌, length}
use Rattle.drive.specs.Journal.{Event, held, Once, AddsPrefix, written}
use Rattle.model.specs.Session.{State, Request, after, after_one}
use Rattle.durability.specs.Formats.{Block}
use Rattle.durability.specs.Volume.{Medium, RecoversTo}
use Rattle.durability.specs.Plan.{IsPlanned}
use Rattle.durability.specs.Commit.{need}
use Rattle.durability.specs.Journal.{Advances}
use Rattle.udf.specs.Udf.{udf, spelled_length}

-- The request is committed, in no more blocks than it may need.
pub record IsWholeCommit (capacity volume : ℕ) (before : List Event) (S : State) (request : Request) (afterwards : List Event) : Type 0 where
  pub advances : Advances udf capacity volume before S afterwards (after_one S request)
  pub some : length before < length afterwards
  pub few : length afterwards ≤ length before + need spelled_length S request

abbrev pub CommitsAreWhole : Type 0
CommitsAreWhole =
    (capacity volume : ℕ) (before afterwards : List Event) (S : State) (request : Request) (blocks : List Block) (mark : Block) → Once before → (stands : RecoversTo udf capacity volume (held before) S)
    → IsPlanned udf capacity volume (held before) S stands request blocks mark → afterwards ≡ before ++ written (length before) (blocks ++ mark ∷ []) → IsWholeCommit capacity volume before S request afterwards

-- The request is committed or not.
pub record IsPart (capacity volume : ℕ) (before : List Event) (S : State) (request : Request) (afterwards : List Event) : Type 0 where
  pub done : List Request
  pub whether : (done ≡ []) ⊎ ((done ≡ request ∷ []) × (length before < length afterwards))
  pub advances : Advances udf capacity volume before S afterwards (after S done)
  pub few : length afterwards ≤ length before + need spelled_length S request

abbrev pub CommitsArePart : Type 0
CommitsArePart =
    (capacity volume : ℕ) (before afterwards : List Event) (S : State) (request : Request) (blocks : List Block) (mark : Block) → Once before → (stands : RecoversTo udf capacity volume (held before) S)
    → IsPlanned udf capacity volume (held before) S stands request blocks mark → AddsPrefix before (length before) (blocks ++ mark ∷ []) afterwards → IsPart capacity volume before S request afterwards

-- after a whole commit the table is the plan's, and its entry the last block
abbrev pub TablesRecover : Type 0
TablesRecover =
    (capacity volume : ℕ) (medium : Medium) (S : State) (request : Request) (blocks : List Block) (mark : Block) (stands : RecoversTo udf capacity volume medium S)
    → (plan : IsPlanned udf capacity volume medium S stands request blocks mark) (T : State) (later : RecoversTo udf capacity volume ((medium ++ blocks) ++ mark ∷ []) T)
    → (later.at ≡ length medium + length blocks) × (later.tells.table ≡ plan.table)
