-- What a command reads of its input, and how many reads of it failed.
use Rattle.std.specs.Prelude.{◌≡◌, ℕ, Bool, false, List, Option, Result, Ok, Err}
use Rattle.std.specs.declared.io.Read.{Ghosts}
use Rattle.drive.specs.Journal.{counted}
use Rattle.engine.specs.Streams.{is_read}
use Rattle.engine.specs.declared.reading.CountedReader.{CountedReader}
use Rattle.programs.specs.declared.fault.Fault.{Fault}
use Rattle.programs.specs.declared.fault.Fault.TheVariants.{Usage, Path, Socket, Store, Stream}

-- the most bytes of an input that are read at once
abbrev pub most_at_once : ℕ
most_at_once = 4194304

-- What an input has left, where that is known, and how many reads of it failed.
pub record Input : Type 0 where
  pub remaining : Option (List ℕ)
  pub failures : ℕ

abbrev pub input_on : {R : Type 0} → Ghosts R → CountedReader R → Input
input_on read input = record { remaining = read.remaining input.stream; failures = input.failures }

-- it was refused for a read that failed
abbrev pub is_read_refused : {T : Type 0} → Result T Fault → Bool
is_read_refused (Ok x) = false
is_read_refused (Err Usage) = false
is_read_refused (Err Path) = false
is_read_refused (Err Socket) = false
is_read_refused (Err (Store fault)) = false
is_read_refused (Err (Stream fault)) = is_read fault

-- a read is counted exactly where that is the outcome
abbrev pub CountsReads : {T : Type 0} → Result T Fault → ℕ → ℕ → Type 0
CountsReads outcome before after = after ≡ counted (is_read_refused outcome) before
