-- What is recovered where a disk has a part of a group.
use Rattle.std.specs.Prelude.{◌≡◌, ℕ, ◌≤◌, Bool, List, ◌++◌, length, take}
use Rattle.drive.specs.Writes.{IsTorn, joined}
use Rattle.model.specs.Session.{State, Request, after}
use Rattle.durability.specs.Formats.{Block, Formats}
use Rattle.durability.specs.Volume.{Medium, RecoversTo, RecoveredTo}
use Rattle.durability.specs.Torn.{AreAlike, Endures, AreCommitted}
use Rattle.gathering.specs.Groups.{Commit, with_marks, none_there, first_there, HasMarks, newest, one_by_one, AreInTurn}

module _ (formats : Formats) where
  -- Before the first sync has returned, nothing of the group is recovered, whichever of the blocks the disk has.
  abbrev pub FirstPhase : Type 0
  FirstPhase =
      (capacity volume : ℕ) (medium : Medium) (S : State) (requests : List Request) (group : List Commit) → AreInTurn formats capacity volume medium S requests group
      → (left : List Block) → IsTorn (with_marks none_there group) left → AreAlike formats capacity volume medium (medium ++ left)

  -- After it, with the marks of the first n commits: the state after n requests is recovered, and no other; what was recovered before is remembered, and so is each of these.
  abbrev pub SecondPhase : Type 0
  SecondPhase =
      (capacity volume : ℕ) (medium : Medium) (S : State) (requests : List Request) (group : List Commit) → RecoversTo formats capacity volume medium S
      → AreInTurn formats capacity volume medium S requests group
      → (n : ℕ) → n ≤ length requests → (left : List Block) → HasMarks (first_there n) group left → Endures formats capacity volume medium S (take n requests) (medium ++ left)

  -- With all marks it is the medium that the same commits make one by one.
  abbrev pub Together : Type 0
  Together =
      (capacity volume : ℕ) (medium : Medium) (S : State) (requests : List Request) (group : List Commit) → AreInTurn formats capacity volume medium S requests group
      → AreCommitted formats capacity volume medium S requests (one_by_one group) × (joined (one_by_one group) ≡ with_marks (first_there (length requests)) group)

  -- The state after these requests is recovered, and no other. Each earlier state that can be read is one that could be read with all marks, after as many commits.
  pub record EndsWith (capacity volume : ℕ) (S : State) (done : List Request) (all medium : Medium) : Type 0 where
    pub stands : RecoversTo formats capacity volume medium (after S done)
    pub alone : (other_capacity other_volume : ℕ) (T : State) → RecoversTo formats other_capacity other_volume medium T → T ≡ after S done
    pub past : (commits : ℕ) (T : State) → RecoveredTo formats capacity volume medium commits T → RecoveredTo formats capacity volume all commits T

  -- With any choice of the marks the newest one that is there decides.
  abbrev pub AnyMarks : Type 0
  AnyMarks =
      (capacity volume : ℕ) (medium : Medium) (S : State) (requests : List Request) (group : List Commit) → RecoversTo formats capacity volume medium S
      → AreInTurn formats capacity volume medium S requests group
      → (there : ℕ → Bool) (left : List Block) → HasMarks there group left
      → EndsWith capacity volume S (take (newest there group) requests) (medium ++ with_marks (first_there (length requests)) group) (medium ++ left)
