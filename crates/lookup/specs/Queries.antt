-- What a query is answered.
use Rattle.std.specs.Prelude.{◌≡◌, ◌⊎◌, ◌<◌, ℕ, Bool, List, None, IfOk, IfErr, Result, length}
use Rattle.std.specs.FinMap.{get}
use Rattle.dir.specs.declared.entry.Entry.{Entry}
use Rattle.limits.specs.declared.TheConstants.{FILE_BYTES}
use Rattle.model.specs.Tree.{Name, Path, Tree}
use Rattle.model.specs.Graph.{Stored}
use Rattle.model.specs.Graph.Body.{Bytes}
use Rattle.durability.specs.Runs as runs
use Rattle.durability.specs.Runs.{Answer, Query, told}
use Rattle.drive.specs.declared.Drive.{Ghosts}
use Rattle.recover.specs.Faults.{IsShortage}
use Rattle.recover.specs.declared.fault.StoreFault.{StoreFault}
use Rattle.recover.specs.declared.fault.StoreFault.TheVariants.{NotFound, IsDirectory, NotDirectory, TooLong}
use Rattle.udf.specs.Said.{names_directory}
use Rattle.lookup.specs.Lookups.{Sees}
use Rattle.lookup.specs.declared.lookup.Lookup.{Lookup}

-- the path leads nowhere, or the node could not be read
abbrev pub IsMissing : Tree → Path → StoreFault → Type 0
IsMissing tree path fault = ((fault ≡ NotFound) × (get tree path ≡ None)) ⊎ IsShortage fault

-- the refusal is the answer, or the answer could not be read
abbrev pub IsQueryRefused : Answer → StoreFault → Type 0
IsQueryRefused answer fault =
    ((fault ≡ NotFound) × (answer ≡ runs.Answer.NotFound))
    ⊎ (((fault ≡ IsDirectory) × (answer ≡ runs.Answer.IsDirectory))
    ⊎ (((fault ≡ NotDirectory) × (answer ≡ runs.Answer.NotDirectory))
    ⊎ (((fault ≡ TooLong) × (answer ≡ runs.Answer.TooLong)) ⊎ IsShortage fault)))

-- the bytes of a file that is stored, refused where they are more than one answer holds, the drive failed or memory was short
abbrev pub AnswersWhole : Stored → Result (List ℕ) StoreFault → Type 0
AnswersWhole s result =
    IfOk result (λ bytes. s.body ≡ Bytes bytes)
    × IfErr result (λ fault. ((fault ≡ TooLong) × ((bytes : List ℕ) → s.body ≡ Bytes bytes → FILE_BYTES < length bytes)) ⊎ IsShortage fault)

-- a name of a directory, with whether it leads to another
abbrev pub name_told : List ℕ × Entry → Bool × Name
name_told e = (names_directory e.1.kind, e.0)

-- A query is told what the tree shows, or refused because it shows none, the drive failed or memory was short.
abbrev pub Tells : {D T : Type 0} (drive : Ghosts D) → Lookup D drive → Lookup D drive → Query → (T → Answer) → Result T StoreFault → Type 0
Tells drive old new query answer result = (tree : Tree) → Sees drive old new tree → IfOk result (λ value. told tree query ≡ answer value) × IfErr result (IsQueryRefused (told tree query))
