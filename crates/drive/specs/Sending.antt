-- What the writes of a drive have been given over some calls, from an address on, whatever became of them.
use Rattle.std.specs.Prelude.{◌≡◌, ℕ, Bool, false, List, [], ◌++◌}
use Rattle.drive.specs.Writes.{joined, LastIsAlone, WritesInTurn}
use Rattle.drive.specs.declared.Drive.{Ghosts}

-- The blocks were given to writes, in order: all of them, or, where a write failed, those up to the last one that it was given.
pub record Sends {D : Type 0} (drive : Ghosts D) (at : ℕ) (blocks : List (List ℕ)) (failed : Bool) (old new : D) : Type 0 where
  pub added : List (List (List ℕ))
  pub rest : List (List ℕ)
  pub writes : drive.writes new ≡ drive.writes old ++ added
  pub order : joined added ++ rest ≡ blocks
  pub whole : failed ≡ false → rest ≡ []
  pub in_turn : WritesInTurn at failed (drive.journal old) added (drive.journal new)

-- The same, and after the writes of these blocks one of the last block alone: all of these writes, or, where one failed, those up to that one.
pub record SendsAlone {D : Type 0} (drive : Ghosts D) (at : ℕ) (blocks : List (List ℕ)) (last : List ℕ) (failed : Bool) (old new : D) : Type 0 where
  pub added : List (List (List ℕ))
  pub others : List (List (List ℕ))
  pub writes : drive.writes new ≡ drive.writes old ++ added
  pub alone : LastIsAlone blocks last (added ++ others)
  pub whole : failed ≡ false → others ≡ []
  pub in_turn : WritesInTurn at failed (drive.journal old) added (drive.journal new)
