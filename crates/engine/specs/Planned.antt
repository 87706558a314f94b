-- What a message writes that the drive does not fail.
use Rattle.std.specs.Prelude.{◌≡◌, ◌⊎◌, ℕ}
use Rattle.model.specs.Session.{State, Request, due}
use Rattle.model.specs.Session.Due.{New}
use Rattle.store.specs.Calls.{IsCommitPlanned}
use Rattle.engine.specs.Situation.{Situation}

-- Nothing, or what is planned at the recovered state for a request that was asked for and is new.
abbrev pub IsUnwrittenOrPlanned : ℕ → State → (Request → Type 0) → Situation → Situation → Type 0
IsUnwrittenOrPlanned volume S asked before afterwards =
    (afterwards.journal ≡ before.journal)
    ⊎ ((request : Request) × asked request × (due S request.client request.number ≡ New) × IsCommitPlanned before.capacity volume before.journal S request afterwards.journal)
