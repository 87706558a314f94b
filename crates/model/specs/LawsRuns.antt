-- The laws of lists of requests.
use Rattle.std.specs.Prelude.{◌≡◌, ℕ, ◌+◌, Bool, List, ◌++◌}
use Rattle.model.specs.Tree.{Name, Passes}
use Rattle.model.specs.Operation.{code_of}
use Rattle.model.specs.Session.{State, Request, after, after_one, reply_to, with_reply}
use Rattle.model.specs.Runs.{AllPass}
use Rattle.model.specs.Laws.{IsSound}

-- one list after the other
abbrev pub AfterTwice : Type 0
AfterTwice = (state : State) (first second : List Request) → after state (first ++ second) ≡ after (after state first) second

-- What a refusal leaves as it was, and what it moves.
pub record RefusalStays (state : State) (request : Request) : Type 0 where
  pub tree : (after_one state request).tree ≡ state.tree
  pub next_identity : (after_one state request).next_identity ≡ state.next_identity
  pub table_length : (after_one state request).table_length ≡ state.table_length
  pub commits : (after_one state request).commits ≡ state.commits + 1
  pub records : (after_one state request).records ≡ with_reply request.client request.number (reply_to state request) state.records
  pub moment : (after_one state request).moment ≡ request.moment

abbrev pub RefusalsStay : Type 0
RefusalsStay = (state : State) (request : Request) → IsSound state → (code_of request.operation state.tree ≡ 0 → ⊥) → RefusalStays state request

-- what is asked of names and of files' bytes holds after each list of requests that meet it
abbrev pub RunsPass : Type 0
RunsPass = (name_ok : Name → Bool) (bytes_ok : List ℕ → Bool) (state : State) (requests : List Request) → IsSound state
    → AllPass name_ok bytes_ok requests → Passes name_ok bytes_ok state.tree → Passes name_ok bytes_ok (after state requests).tree
