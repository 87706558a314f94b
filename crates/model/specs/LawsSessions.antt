-- The laws of the clients' records: what is due, and for how long a reply is kept.
use Rattle.std.specs.Prelude.{◌≡◌, ◌<◌, ◌≤◌, ◌⊎◌, ℕ, ◌+◌, ◌-◌, List, ◌∷◌, length, slice_get, Some, None}
use Rattle.model.specs.Session.{State, Request, Reply, record_of, due, reply_to, after, formatted, most_clients, kept_replies}
use Rattle.model.specs.Session.Due.{Repeat, Stale, Gap, ClientsFull, New}
use Rattle.model.specs.Runs.{AllNew, AllFromClients, EachOnce, commits_of_client}
use Rattle.model.specs.Records.{HasSessions, latest_of, replies_of}

abbrev pub FormattedHasSessions : Type 0
FormattedHasSessions = (moment : ℕ) → HasSessions (formatted moment)

abbrev pub SessionsStay : Type 0
SessionsStay = (state : State) (requests : List Request) → AllFromClients requests → AllNew state requests → HasSessions state → HasSessions (after state requests)

-- a request is committed once
abbrev pub AllAreOnce : Type 0
AllAreOnce = (state : State) (requests : List Request) → AllNew state requests → EachOnce requests

-- and it is never new again
abbrev pub NeverNewAgain : Type 0
NeverNewAgain = (state : State) (request : Request) (requests : List Request) → AllNew state (request ∷ requests)
    → due (after state (request ∷ requests)) request.client request.number ≡ New → ⊥

-- It is answered by its own reply while its client has made fewer than four requests since, whatever other clients do.
abbrev pub RepliesAreKept : Type 0
RepliesAreKept = (state : State) (request : Request) (requests : List Request) → AllNew state (request ∷ requests) → commits_of_client request.client requests < kept_replies
    → due (after state (request ∷ requests)) request.client request.number ≡ Repeat (reply_to state request)

-- What is due, by the client's latest number n, 0 for a client with no record, and by how many replies k are kept for it.
pub record IsDueByNumber (state : State) (client number n k : ℕ) (replies : List Reply) : Type 0 where
  pub repeat : n < number + k → number ≤ n → (reply : Reply) × (slice_get replies (n - number) ≡ Some reply) × (due state client number ≡ Repeat reply)
  pub stale : number + k ≤ n → due state client number ≡ Stale n
  pub gap : n + 1 < number → due state client number ≡ Gap n
  pub full : number ≡ n + 1 → record_of client state.records ≡ None → most_clients ≤ length state.records → due state client number ≡ ClientsFull
  pub new : number ≡ n + 1 → (record_of client state.records ≡ None → ⊥) ⊎ (length state.records < most_clients) → due state client number ≡ New

abbrev pub DueIsThis : Type 0
DueIsThis = (state : State) (client number : ℕ) → HasSessions state
    → (let o = record_of client state.records in IsDueByNumber state client number (latest_of o) (length (replies_of o)) (replies_of o))
