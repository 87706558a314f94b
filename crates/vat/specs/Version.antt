-- The versions of the sessions, which differ in the room of a record.
use Rattle.std.specs.Prelude.{ℕ, ◌==◌, if◌then◌else◌, Option, Some, None}
use Rattle.limits.specs.declared.TheConstants.{KEPT_REPLIES, RECORD_BYTES}
use Rattle.vat.specs.declared.table.Version.{Version}
use Rattle.vat.specs.declared.table.Version.TheVariants.{One, Two}

abbrev pub version_number : Version → ℕ
version_number One = 1
version_number Two = 2

abbrev pub version_of : ℕ → Option Version
version_of number = if number == 1 then Some One else (if number == 2 then Some Two else None)

-- how many replies a record has room for
abbrev pub places : Version → ℕ
places One = 1
places Two = KEPT_REPLIES

-- how many bytes a record takes: two numbers, and eight bytes for each place
abbrev pub record_size : Version → ℕ
record_size One = 24
record_size Two = RECORD_BYTES
