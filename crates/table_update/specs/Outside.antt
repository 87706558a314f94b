-- Where the bytes of a file are.
use Rattle.std.specs.Prelude.{ℕ, ◌==◌, nat_lt, if◌then◌else◌, List, [], length}
use Rattle.limits.specs.declared.TheConstants.{INSIDE_BYTES}

-- the bytes that lie outside the file's entry: all of more than 1,872, and else none
abbrev pub outside : List ℕ → List ℕ
outside bytes = if nat_lt INSIDE_BYTES (length bytes) then bytes else []

-- those of the bytes that are written after so many that stay: there they are all outside
abbrev pub outside_after : ℕ → List ℕ → List ℕ
outside_after kept bytes = if kept == 0 then outside bytes else bytes
