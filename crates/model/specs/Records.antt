-- What holds of the clients' records, whatever was committed.
use Rattle.std.specs.Prelude.{◌<◌, ◌≤◌, ℕ, ◌-◌, ◌==◌, List, [], ◌∷◌, length, map, Option, Some, None}
use Rattle.std.specs.List.{IsDistinct, AllByRecursion}
use Rattle.model.specs.Session.{State, Reply, ClientRecord, most_clients, kept_replies}

-- the replies' commit numbers fall, from this one at most to 1 at least
abbrev pub FallFrom : ℕ → List Reply → Type 0
FallFrom most [] = Unit {0}
FallFrom most (reply ∷ replies) = (1 ≤ reply.commit) × (reply.commit ≤ most) × FallFrom (reply.commit - 1) replies

-- what holds of a client's record after so many commits
pub record IsRecord (commits : ℕ) (kept : ClientRecord) : Type 0 where
  pub client : 0 < kept.client
  pub some : 1 ≤ length kept.replies
  pub few : length kept.replies ≤ kept_replies
  -- each kept reply is that of a number above 0
  pub numbers : length kept.replies ≤ kept.latest
  pub codes : AllByRecursion (λ reply. reply.code ≤ 10) kept.replies
  pub fall : FallFrom commits kept.replies

pub record HasSessions (state : State) : Type 0 where
  pub distinct : IsDistinct ◌==◌ (map (λ r. r.client) state.records)
  pub few : length state.records ≤ most_clients
  pub kept : AllByRecursion (IsRecord state.commits) state.records

-- a client's latest number, and how many replies are kept for it
abbrev pub latest_of : Option ClientRecord → ℕ
latest_of None = 0
latest_of (Some kept) = kept.latest

abbrev pub replies_of : Option ClientRecord → List Reply
replies_of None = []
replies_of (Some kept) = kept.replies
