-- What a schedule, and a fault that comes once, do to the calls of a drive, and what is left of the fault.
use Rattle.std.specs.Prelude.{ℕ, ◌-◌, nat_le, min, ◌==◌, ◌||◌, Bool, false, if◌then◌else◌, List, Option, Some, None, is_some, unwrap_or, find}
use Rattle.std.specs.Option.{option_map}
use Rattle.drive.specs.declared.fault.Fault.{Fault}
use Rattle.drive.specs.declared.fault.Fault.TheVariants.{AfterBlocks, Next, Read}
use Rattle.drive.specs.declared.fault.Scheduled.{Scheduled}

-- how many blocks a write of so many adds where the fault makes it fail
abbrev pub cut_by : Option Fault → ℕ → Option ℕ
cut_by None count = None
cut_by (Some (AfterBlocks n)) count = if nat_le n count then Some n else None
cut_by (Some (Next n)) count = None
cut_by (Some (Read n)) count = None

-- what is left when so many blocks were added
abbrev pub after_adding : Option Fault → ℕ → Option Fault
after_adding None count = None
after_adding (Some (AfterBlocks n)) count = if nat_le n count then None else Some (AfterBlocks (n - count))
after_adding (Some (Next n)) count = Some (Next n)
after_adding (Some (Read n)) count = Some (Read n)

-- whether a call of `next` fails
abbrev pub next_fails : Option Fault → Bool
next_fails None = false
next_fails (Some (AfterBlocks n)) = false
next_fails (Some (Next n)) = nat_le n 1
next_fails (Some (Read n)) = false

abbrev pub after_next : Option Fault → Option Fault
after_next None = None
after_next (Some (AfterBlocks n)) = Some (AfterBlocks n)
after_next (Some (Next n)) = if nat_le n 1 then None else Some (Next (n - 1))
after_next (Some (Read n)) = Some (Read n)

-- whether a call of `read` fails
abbrev pub read_fails : Option Fault → Bool
read_fails None = false
read_fails (Some (AfterBlocks n)) = false
read_fails (Some (Next n)) = false
read_fails (Some (Read n)) = nat_le n 1

abbrev pub after_read : Option Fault → Option Fault
after_read None = None
after_read (Some (AfterBlocks n)) = Some (AfterBlocks n)
after_read (Some (Next n)) = Some (Next n)
after_read (Some (Read n)) = if nat_le n 1 then None else Some (Read (n - 1))

-- how many blocks the call of this number adds at most, where the schedule makes it fail
abbrev pub scheduled_at : List Scheduled → ℕ → Option ℕ
scheduled_at schedule call = option_map (λ (s : Scheduled). s.keep) (find (λ (s : Scheduled). s.call == call) schedule)

-- how many of so many blocks a write adds, by the schedule alone, and then by the fault too
abbrev pub added_on_schedule : Option ℕ → ℕ → ℕ
added_on_schedule scheduled count = min (unwrap_or scheduled count) count

abbrev pub blocks_before_fault : Option ℕ → Option Fault → ℕ → ℕ
blocks_before_fault scheduled armed count = unwrap_or (cut_by armed (added_on_schedule scheduled count)) (added_on_schedule scheduled count)

-- whether it fails
abbrev pub write_fails : Option ℕ → Option Fault → ℕ → Bool
write_fails scheduled armed count = is_some scheduled || is_some (cut_by armed (added_on_schedule scheduled count))
