-- What the words of `udfburn` ask for, by their bytes, and what is done of it.
use Rattle.std.specs.Prelude.{◌≡◌, ◌⊎◌, ⊤, ℕ, List, take, codes, Option, Some, None, Result, Err, IsOk}
use Rattle.command_line.specs.declared.command.Command.{Command}
use Rattle.command_line.specs.declared.command.Command.TheVariants as commands
use Rattle.command_line.specs.declared.command.Storage.TheVariants.{Image, Memory}
use Rattle.command_line.specs.Commands.{Asks}
use Rattle.engine.specs.declared.serving.ServeFault.TheVariants as stream
use Rattle.programs.specs.declared.fault.Fault.{Fault}
use Rattle.programs.specs.declared.fault.Fault.TheVariants.{Stream}
use Rattle.programs.specs.Applied.{AppliesToImage, AnswersInMemory}
use Rattle.programs.specs.Copies.{SendsFrames}
use Rattle.programs.specs.FaultLines.{Said, Reports}
use Rattle.programs.specs.Images.{AreUntouched, Images}
use Rattle.programs.specs.Inputs.{CountsReads, Input}
use Rattle.programs.specs.NewVolumes.{MakesOnImage}
use Rattle.programs.specs.Questions.{ShowsImage, ShowsPath}
use Rattle.programs.specs.Questions.Question.{Names_at, Bytes_at, Commits, Soundness}
use Rattle.programs.specs.Status.{status_of}

pub data Task : Type 0 where
  Format : (image label : List ℕ) (moment capacity : ℕ) → Task
  Apply_to_image : (image : List ℕ) → Task
  Apply_in_memory : (capacity : ℕ) → Task
  List_names : (image path : List ℕ) → Task
  Get_bytes : (image path : List ℕ) → Task
  Log : (image : List ℕ) → Task
  Check : (image : List ℕ) → Task
  Send : Task

-- which socket is meant makes no difference that a clause could name
abbrev pub task_of : Command → Task
task_of (commands.Format image label moment capacity) = Format image.now label.now moment capacity
task_of (commands.Apply (Image path)) = Apply_to_image path.now
task_of (commands.Apply (Memory capacity)) = Apply_in_memory capacity
task_of (commands.List image path) = List_names image.now path.now
task_of (commands.Get image path) = Get_bytes image.now path.now
task_of (commands.Log image) = Log image.now
task_of (commands.Check image) = Check image.now
task_of (commands.Send socket) = Send

-- what was done, by the outcome: of the images that are held, and of what is read and written
abbrev pub IsTaskDone : {T : Type 0} → Task → Result T Fault → Images → Images → Option (List ℕ) → Option (List ℕ) → Option (List ℕ) → Option (List ℕ) → Type 0
IsTaskDone (Format image label moment capacity) outcome old new input left output written = (left ≡ input) × MakesOnImage image label moment capacity outcome old new output written
IsTaskDone (Apply_to_image image) outcome old new input left output written = AppliesToImage image outcome old new input left output written
IsTaskDone (Apply_in_memory capacity) outcome old new input left output written = AreUntouched old new × AnswersInMemory outcome capacity input left output written
IsTaskDone (List_names image path) outcome old new input left output written = (left ≡ input) × ShowsPath Names_at image path outcome old new output written
IsTaskDone (Get_bytes image path) outcome old new input left output written = (left ≡ input) × ShowsPath Bytes_at image path outcome old new output written
IsTaskDone (Log image) outcome old new input left output written = (left ≡ input) × ShowsImage Commits image outcome old new output written
IsTaskDone (Check image) outcome old new input left output written = (left ≡ input) × ShowsImage Soundness image outcome old new output written
IsTaskDone Send outcome old new input left output written = AreUntouched old new × SendsFrames outcome input left output written

-- a command that writes to no image
abbrev pub IsReading : Task → Type 0
IsReading (Format image label moment capacity) = ⊥
IsReading (Apply_to_image image) = ⊥
IsReading (Apply_in_memory capacity) = ⊤
IsReading (List_names image path) = ⊤
IsReading (Get_bytes image path) = ⊤
IsReading (Log image) = ⊤
IsReading (Check image) = ⊤
IsReading Send = ⊤

-- An `apply` is refused for a read exactly if a read of its input failed, and no other command reads its input but `send`,
-- which is also refused so for a read of its socket, or if answers are missing.
abbrev pub CountsTaskReads : {T : Type 0} → Task → Result T Fault → ℕ → ℕ → Type 0
CountsTaskReads (Format image label moment capacity) outcome before after = after ≡ before
CountsTaskReads (Apply_to_image image) outcome before after = CountsReads outcome before after
CountsTaskReads (Apply_in_memory capacity) outcome before after = CountsReads outcome before after
CountsTaskReads (List_names image path) outcome before after = after ≡ before
CountsTaskReads (Get_bytes image path) outcome before after = after ≡ before
CountsTaskReads (Log image) outcome before after = after ≡ before
CountsTaskReads (Check image) outcome before after = after ≡ before
CountsTaskReads Send outcome before after = ⊤

-- There is an outcome by which that was done. It has this status, and a fault's line was said.
pub record Ends (task : Task) (status : ℕ) (old new : Images) (input left : Input) (output written : Option (List ℕ)) (errors told : Said) : Type 0 where
  pub outcome : Result (Unit {0}) Fault
  pub does : IsTaskDone task outcome old new input.remaining left.remaining output written
  pub reads : CountsTaskReads task outcome input.failures left.failures
  pub status_is : status ≡ status_of outcome
  pub reports : Reports (codes "udfburn") outcome errors told

-- a beginning of the bytes, where those are known
abbrev pub IsPrefixOf : Option (List ℕ) → Option (List ℕ) → Type 0
IsPrefixOf None written = ⊤
IsPrefixOf (Some bytes) None = ⊥
IsPrefixOf (Some bytes) (Some written) = (count : ℕ) × (written ≡ take count bytes)

-- what is reported of an outcome: the same, or that it went well and the output failed in the end
abbrev pub IsToldAs : Result (Unit {0}) Fault → Result (Unit {0}) Fault → Type 0
IsToldAs outcome told = (told ≡ outcome) ⊎ (IsOk outcome × (told ≡ Err (Stream stream.Write)))

-- Something was done by an outcome, and of what was written with it a prefix is there. The status and the line are those of
-- what is reported of it.
pub record HasPrefix (task : Task) (status : ℕ) (old new : Images) (input left : Input) (output written : Option (List ℕ)) (errors told : Said) : Type 0 where
  pub outcome : Result (Unit {0}) Fault
  pub gathered : Option (List ℕ)
  pub does : IsTaskDone task outcome old new input.remaining left.remaining output gathered
  pub reads : CountsTaskReads task outcome input.failures left.failures
  pub front : IsPrefixOf gathered written
  pub told_as : Result (Unit {0}) Fault
  pub is_told : IsToldAs outcome told_as
  pub status_is : status ≡ status_of told_as
  pub reports : Reports (codes "udfburn") told_as errors told

-- There are words of a command, and all was done that they ask for.
pub record IsWhollyDone (old new : Images) (input left : Input) (output written : Option (List ℕ)) (errors told : Said) : Type 0 where
  pub words : List (List ℕ)
  pub asked : Command
  pub asks : Asks words asked
  pub ends : Ends (task_of asked) 0 old new input left output written errors told

-- There are words of a command, and of what was written for them a prefix is there.
pub record IsPartlyDone (status : ℕ) (old new : Images) (input left : Input) (output written : Option (List ℕ)) (errors told : Said) : Type 0 where
  pub words : List (List ℕ)
  pub asked : Command
  pub asks : Asks words asked
  pub front : HasPrefix (task_of asked) status old new input left output written errors told
