-- How the writes of a drive wait for the disk.
use Rattle.std.specs.Prelude.{◌≡◌, ℕ, ◌+◌, Bool, true, false, List, [], length}
use Rattle.drive.specs.Journal.{Event}

pub record Gathering : Type 0 where
  pub gathers : Bool  -- writes wait until they are settled
  pub waited : ℕ  -- how many writes were given to it while they waited
  pub phases : List (List Event)  -- what the disk was given by settles, in order, each phase before a sync

-- no write waits: each is on the disk when it returns
abbrev pub waits_never : Gathering
waits_never = record { gathers = false; waited = 0; phases = [] }

-- a drive that gathers counts each write that it is given, and another none
abbrev pub CountsWaited : Bool → (old new : ℕ) → (before after : ℕ) → Type 0
CountsWaited true old new before after = new + before ≡ old + after
CountsWaited false old new before after = new ≡ old

-- What calls that settle nothing leave, between these writes and those.
pub record KeepsGathering (old new : Gathering) (before after : List (List (List ℕ))) : Type 0 where
  pub gathers : new.gathers ≡ old.gathers
  pub phases : new.phases ≡ old.phases
  pub waited : CountsWaited old.gathers old.waited new.waited (length before) (length after)
