-- Lists of requests, each of which is committed.
use Rattle.std.specs.Prelude.{◌≡◌, ◌<◌, ℕ, ◌+◌, cond, ◌==◌, Bool, List, [], ◌∷◌}
use Rattle.model.specs.Tree.{Name}
use Rattle.model.specs.Operation.{OperationPasses}
use Rattle.model.specs.Session.{State, Request, due, after_one}
use Rattle.model.specs.Session.Due.{New}

-- each request is new where it is
abbrev pub AllNew : State → List Request → Type 0
AllNew state [] = Unit {0}
AllNew state (request ∷ requests) = (due state request.client request.number ≡ New) × AllNew (after_one state request) requests

-- each request is of a client: their numbers are above 0
abbrev pub AllFromClients : List Request → Type 0
AllFromClients [] = Unit {0}
AllFromClients (request ∷ requests) = (0 < request.client) × AllFromClients requests

-- no request is twice in the list, by its client and number
abbrev pub IsNotAmong : Request → List Request → Type 0
IsNotAmong request [] = Unit {0}
IsNotAmong request (other ∷ requests) = (other.client ≡ request.client → other.number ≡ request.number → ⊥) × IsNotAmong request requests

abbrev pub EachOnce : List Request → Type 0
EachOnce [] = Unit {0}
EachOnce (request ∷ requests) = IsNotAmong request requests × EachOnce requests

-- how many requests of the list are the client's
abbrev pub commits_of_client : ℕ → List Request → ℕ
commits_of_client client [] = 0
commits_of_client client (request ∷ requests) = cond (request.client == client) 1 0 + commits_of_client client requests

-- what each request brings passes the tests
abbrev pub AllPass : (Name → Bool) → (List ℕ → Bool) → List Request → Type 0
AllPass name_ok bytes_ok [] = Unit {0}
AllPass name_ok bytes_ok (request ∷ requests) = OperationPasses name_ok bytes_ok request.operation × AllPass name_ok bytes_ok requests
