-- What was carried out of a group that is not settled yet.
use Rattle.std.specs.Prelude.{ℕ, List, Option, Some, None, Result, Ok, Err, ⊤}
use Rattle.engine.specs.Situation.{Situation}
use Rattle.grouping.specs.Groups.{Gathered, CarriedOutSome}

-- Each message so far was answered, or the drive failed, or there was no memory for a mark or for the last answer's frame.
abbrev pub Gathers : {E : Type 0} → Option (Result (Unit {0}) E) → Option (List ℕ) → Option (List ℕ) → Situation → Situation → Option (List ℕ) → Option (List ℕ) → List ℕ → Type 0
Gathers None reader after before afterwards output written marks = ⊤
Gathers (Some (Ok unit)) reader after before afterwards output written marks = Gathered reader after before afterwards output written marks
Gathers (Some (Err fault)) reader after before afterwards output written marks = CarriedOutSome reader after before afterwards output written marks
