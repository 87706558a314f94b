-- A group that stays open between calls.
use Rattle.std.specs.Prelude.{◌≡◌, ℕ, List, ◌++◌, take, Option, None, IsTrue}
use Rattle.drive.specs.Journal.{Event}
use Rattle.drive.specs.Reads.{CountsFailures}
use Rattle.engine.specs.Situation.{Situation}
use Rattle.grouping.specs.Groups.{Gathered}

-- Messages that are complete were answered in a group, and their marks come after those that were there. None was only where none is complete.
pub record AnswersNext (reader after : Option (List ℕ)) (before afterwards : Situation) (output written : Option (List ℕ)) (old new : List ℕ) : Type 0 where
  pub marks : List ℕ
  pub added : new ≡ old ++ marks
  pub gathered : Gathered reader after before afterwards output written marks

-- Of what was written, with what was written last, the blocks below an address are left. The store is forgotten, as by a restart.
pub record IsCutBack (from : ℕ) (before start : Situation) : Type 0 where
  pub store : start.store ≡ None
  pub last : List Event
  pub journal : start.journal ≡ take from (before.journal ++ last)
  pub capacity : start.capacity ≡ before.capacity
  pub failures : CountsFailures 0 before.failures start.failures
  pub honest : IsTrue start.honest → IsTrue before.honest
