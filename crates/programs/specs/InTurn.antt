-- Processes of `udfburn` one after another over the same media, each known by the contract of `run_command` alone.
use Rattle.std.specs.Prelude.{◌≡◌, ℕ, min, List, [], ◌∷◌, Option, Some, Ok, IsTrue}
use Rattle.std.specs.Io.KnownBytes.{Appends}
use Rattle.limits.specs.declared.TheConstants.{GREATEST_CAPACITY}
use Rattle.drive.specs.Journal.{Event, Once, held}
use Rattle.model.specs.Session.{State, after, formatted}
use Rattle.model.specs.Tree.{Path}
use Rattle.durability.specs.Volume.{RecoversTo}
use Rattle.udf.specs.Udf.{udf}
use Rattle.request.specs.Path.{IsPath, path_text}
use Rattle.programs.specs.FaultLines.{Said}
use Rattle.programs.specs.Images.{Images}
use Rattle.programs.specs.Inputs.{Input}
use Rattle.programs.specs.Processes.{AreRuns}
use Rattle.programs.specs.Processes.Process.{Command}
use Rattle.programs.specs.Questions.{IsFileAt}
use Rattle.programs.specs.Tasks.{IsWhollyDone, Task, task_of}
use Rattle.programs.specs.Tasks.Task.{Format, Apply_to_image, Get_bytes}

-- A process ended with status 0, and so all was done that its words ask for: this task. `run_command` says it of the media that
-- it was lent, as they were before it and as they are after it.
pub record HasDone (task : Task) (before afterwards : Images) (input left : Input) (output written : Option (List ℕ)) (errors told : Said) : Type 0 where
  pub whole : IsWhollyDone before afterwards input left output written errors told
  pub asks : task_of whole.asked ≡ task

-- An `apply` and then a `get`, of two processes: they are runs on the image, and what was printed is what the path has in the
-- state after all that was committed.
pub record GetsWhatWasApplied (image text : List ℕ) (volume : ℕ) (S : State) (before : List Event) (last : Images) (input left output written untouched rest out printed : Option (List ℕ)) : Type 0 where
  pub runs : AreRuns image (Command (Apply_to_image image) (Ok tt) input left output written ∷ Command (Get_bytes image text) (Ok tt) untouched rest out printed ∷ []) volume S before last
  pub path : Path
  pub is_path : IsPath path
  pub text_is : text ≡ path_text path
  pub bytes : List ℕ
  pub said : IsFileAt (after S runs.done).tree path bytes
  pub shown : Appends out printed bytes

-- Of two processes, on an image that recovers to a state: the second begins on what the first left.
abbrev pub TwoProcesses : Type 0
TwoProcesses =
    (image text : List ℕ) (first second last : Images) (volume : ℕ) (S : State) (before : List Event) (i l : Input) (o w : Option (List ℕ)) (e f : Said) (j k : Input) (p v : Option (List ℕ)) (d q : Said)
    → HasDone (Apply_to_image image) first second i l o w e f → HasDone (Get_bytes image text) second last j k p v d q → IsTrue last.honest
    → first.held image ≡ Some before → Once before → RecoversTo udf GREATEST_CAPACITY volume (held before) S
    → GetsWhatWasApplied image text volume S before last i.remaining l.remaining o w j.remaining k.remaining p v

-- Of three, of which the first formatted the image: it need not be there before.
abbrev pub ThreeProcesses : Type 0
ThreeProcesses =
    (image label text : List ℕ) (moment capacity : ℕ) (first second third last : Images) (g h : Input) (r m : Option (List ℕ)) (s t : Said) (i l : Input) (o w : Option (List ℕ)) (e f : Said) (j k : Input) (p v : Option (List ℕ)) (d q : Said)
    → HasDone (Format image label moment capacity) first second g h r m s t → HasDone (Apply_to_image image) second third i l o w e f → HasDone (Get_bytes image text) third last j k p v d q
    → IsTrue last.honest
    → (before : List Event) × GetsWhatWasApplied image text (min capacity GREATEST_CAPACITY) (formatted moment) before last i.remaining l.remaining o w j.remaining k.remaining p v
