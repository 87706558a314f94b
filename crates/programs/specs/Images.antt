-- What media hold before and after a command on one of the images.
use Rattle.std.specs.Prelude.{◌≡◌, ℕ, true, Bool, List, [], Option, Some, None, Result, Err, IsTrue}
use Rattle.std.specs.Io.KnownBytes.{Keeps}
use Rattle.drive.specs.Journal.{Event, Once, counted}
use Rattle.drive.specs.declared.Drive.{Ghosts as DriveGhosts}
use Rattle.media.specs.Held.{Held, IsFresh, Same, SameBut, SameOrMade, initial_journal}
use Rattle.media.specs.declared.Media.{Ghosts}
use Rattle.recover.specs.declared.fault.StoreFault.TheVariants.{Device}
use Rattle.engine.specs.Situation.{Situation, situation}
use Rattle.programs.specs.declared.fault.Fault.{Fault}
use Rattle.programs.specs.declared.fault.Fault.TheVariants.{Store}

-- the journal of the image at each path, whether all that was found there so far is what was held, what the last look after
-- the last whole block of each found, and how many calls failed
pub record Images : Type 0 where
  pub held : Held
  pub honest : Bool
  pub looked : List ℕ → Option (List ℕ)
  pub failures : ℕ

abbrev pub images_on : {M D : Type 0} → Ghosts M D → M → Images
images_on media m = record { held = media.held m; honest = media.honest m; looked = media.looked m; failures = media.failures m }

-- each path holds what it held, and the media are as honest as before
pub record AreUntouched (before afterwards : Images) : Type 0 where
  pub same : Same before.held afterwards.held
  pub honest : afterwards.honest ≡ before.honest

-- a call on the media failed
abbrev pub HasFailed : Images → Images → Type 0
HasFailed before afterwards = afterwards.failures ≡ counted true before.failures

-- what a drive has at first is what is held at its path
abbrev pub IsThere : Option (List Event) → List Event → Type 0
IsThere image journal = image ≡ Some journal

-- the same, or nothing, where there was no image and one was made
abbrev pub IsThereOrMade : Option (List Event) → List Event → Type 0
IsThereOrMade image journal = initial_journal image ≡ journal

-- A drive was taken out of the media, for the image at this path. Where they are honest then, it has what was held there; and
-- media that were honest before are so where the drive has that.
pub record IsOpened {D : Type 0} (drive : DriveGhosts D) (Finds : Option (List Event) → List Event → Type 0) (capacity : ℕ) (path : List ℕ) (d : D) (before afterwards : Images) : Type 0 where
  pub found : IsTrue afterwards.honest → Finds (before.held path) (drive.journal d)
  pub agreed : Finds (before.held path) (drive.journal d) → afterwards.honest ≡ before.honest
  pub others : SameBut path before.held afterwards.held
  pub honest : IsTrue afterwards.honest → IsTrue before.honest
  pub fresh : IsFresh drive capacity d

-- And it was put back, with what it has then.
pub record IsPutBack {D : Type 0} (drive : DriveGhosts D) (path : List ℕ) (d : D) (before afterwards : Images) : Type 0 where
  pub held : afterwards.held path ≡ Some (drive.journal d)
  pub others : SameBut path before.held afterwards.held
  pub drive_honest : IsTrue afterwards.honest → IsTrue (drive.honest d)
  pub agreed : IsTrue (drive.honest d) → afterwards.honest ≡ before.honest
  pub honest : IsTrue afterwards.honest → IsTrue before.honest
  pub looked : afterwards.looked ≡ before.looked
  pub failures : afterwards.failures ≡ before.failures

-- The image at this path was looked at, and nothing else is another.
pub record MayLook (path : List ℕ) (before afterwards : Images) : Type 0 where
  pub held : afterwards.held ≡ before.held
  pub honest : afterwards.honest ≡ before.honest
  pub others : SameBut path before.looked afterwards.looked

-- This was done on the drive of the image at this path, from its opening on, and the path holds what that left. Where the
-- media are honest in the end, they were so before, the drive began with what the path held, and each read gave what was written.
-- The media are no less honest than before unless one of these failed.
pub record OnMedia (Finds : Option (List Event) → List Event → Type 0) (capacity : ℕ) (path : List ℕ) (Did : Situation → Situation → Type 0) (before afterwards : Images) : Type 0 where
  pub journal : List Event
  pub once : Once journal
  pub last : Situation
  pub did : Did (situation None journal 0 capacity true []) last
  pub found : IsTrue afterwards.honest → Finds (before.held path) journal
  pub left : afterwards.held path ≡ Some last.journal
  pub others : SameBut path before.held afterwards.held
  pub drive_honest : IsTrue afterwards.honest → IsTrue last.honest
  pub honest : IsTrue afterwards.honest → IsTrue before.honest
  pub agreed : Finds (before.held path) journal → IsTrue last.honest → afterwards.honest ≡ before.honest

-- it was opened, and no more
abbrev pub IsUnchanged : Situation → Situation → Type 0
IsUnchanged before afterwards = afterwards ≡ before

-- The image could not be had, and nothing was printed or changed.
pub record Unopened {T : Type 0} (outcome : Result T Fault) (before afterwards : Images) (output written : Option (List ℕ)) : Type 0 where
  pub fault : outcome ≡ Err (Store Device)
  pub unwritten : Keeps output written
  pub untouched : AreUntouched before afterwards
  pub failed : HasFailed before afterwards

-- no image was changed, but that one of no blocks may have been made at this path, where none was
pub record MayBeMade (path : List ℕ) (before afterwards : Images) : Type 0 where
  pub same : SameOrMade path before.held afterwards.held
  pub honest : afterwards.honest ≡ before.honest

-- The image could not be had or made, and nothing was printed.
pub record Unmade {T : Type 0} (path : List ℕ) (outcome : Result T Fault) (before afterwards : Images) (output written : Option (List ℕ)) : Type 0 where
  pub fault : outcome ≡ Err (Store Device)
  pub unwritten : Keeps output written
  pub made : MayBeMade path before afterwards
  pub failed : HasFailed before afterwards
