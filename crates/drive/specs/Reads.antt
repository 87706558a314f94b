-- What a call leaves of a drive: one that writes nothing, one that reads nothing, and one that may do both.
use Rattle.std.specs.Prelude.{◌≡◌, ℕ, ◌+◌, ◌-◌, ◌^◌, ◌<◌, ◌≤◌, Bool, if◌then◌else◌, IsTrue}
use Rattle.drive.specs.Gathering.{KeepsGathering}
use Rattle.drive.specs.Journal.{counted}
use Rattle.drive.specs.declared.Drive.{Ghosts}

-- so many failures were counted at least, while the count is below its top
abbrev pub CountsFailures : ℕ → ℕ → ℕ → Type 0
CountsFailures n before now = now < 2 ^ 64 - 1 → before + n ≤ now

-- one for a call that failed
abbrev pub one_if : Bool → ℕ
one_if failed = if failed then 1 else 0

-- Nothing was written, at least so many failures were counted, and no misread is forgotten. Honesty is not gained, and stays where no misread was added.
pub record ReadsOnly {D : Type 0} (drive : Ghosts D) (failed : ℕ) (old new : D) : Type 0 where
  pub journal : drive.journal new ≡ drive.journal old
  pub writes : drive.writes new ≡ drive.writes old
  pub capacity : drive.capacity new ≡ drive.capacity old
  pub failures : CountsFailures failed (drive.failures old) (drive.failures new)
  pub misreads : drive.misreads old ≤ drive.misreads new
  pub honest : IsTrue (drive.honest new) → IsTrue (drive.honest old)
  pub stays : drive.misreads new ≡ drive.misreads old → IsTrue (drive.honest old) → IsTrue (drive.honest new)
  pub gathering : drive.gathering new ≡ drive.gathering old

-- Whatever was written, a failure was counted where one was met, and nothing was read.
pub record WritesOnly {D : Type 0} (drive : Ghosts D) (failed : Bool) (old new : D) : Type 0 where
  pub capacity : drive.capacity new ≡ drive.capacity old
  pub failures : drive.failures new ≡ counted failed (drive.failures old)
  pub misreads : drive.misreads new ≡ drive.misreads old
  pub honest : drive.honest new ≡ drive.honest old
  pub gathering : KeepsGathering (drive.gathering old) (drive.gathering new) (drive.writes old) (drive.writes new)

-- Whatever was written and read, the rest is as of a call that writes nothing.
pub record ReadsAndWrites {D : Type 0} (drive : Ghosts D) (failed : ℕ) (old new : D) : Type 0 where
  pub capacity : drive.capacity new ≡ drive.capacity old
  pub failures : CountsFailures failed (drive.failures old) (drive.failures new)
  pub misreads : drive.misreads old ≤ drive.misreads new
  pub honest : IsTrue (drive.honest new) → IsTrue (drive.honest old)
  pub stays : drive.misreads new ≡ drive.misreads old → IsTrue (drive.honest old) → IsTrue (drive.honest new)
  pub gathering : KeepsGathering (drive.gathering old) (drive.gathering new) (drive.writes old) (drive.writes new)
