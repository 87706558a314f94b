-- What the notes on a group mean for the journal and the phases of a drive over a file. The numbers are the address of its first block, and 0 where the file may have all its blocks but the marks, 1 where it may have the marks too, 2 where its blocks were taken back.
use Rattle.std.specs.Prelude.{ℕ, suc, ◌==◌, if◌then◌else◌, List, [], ◌∷◌, ◌++◌, take, drop, slice_index}
use Rattle.drive.specs.Journal.{Event}
use Rattle.settling.specs.Phases.{blanked, marked}

abbrev pub journal_left : List ℕ → List Event → List Event
journal_left numbers J = if slice_index numbers 1 == 2 then take (slice_index numbers 0) J else J

abbrev pub phases_after : List ℕ → List ℕ → List Event → List (List Event) → List (List Event)
phases_after numbers marks J phases =
    if slice_index numbers 1 == 0 then phases ++ blanked marks (drop (slice_index numbers 0) J) ∷ []
    else (if slice_index numbers 1 == 1 then phases ++ marked marks (drop (slice_index numbers 0) J) ∷ [] else phases)

-- a write that waits is noted with 3
abbrev pub waited_after : List ℕ → ℕ → ℕ
waited_after numbers waited = if slice_index numbers 1 == 3 then suc waited else waited
