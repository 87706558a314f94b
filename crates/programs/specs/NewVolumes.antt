-- What a command leaves that makes a volume.
use Rattle.std.specs.Prelude.{◌≡◌, ◌⊎◌, ◌↔◌, ◌<◌, ℕ, Bool, true, IfErr, IsNone, IsSome, List, Option, Result, Ok, Err, IsErr}
use Rattle.std.specs.Io.KnownBytes.{Appends, Keeps}
use Rattle.limits.specs.declared.TheConstants.{LEAST_CAPACITY}
use Rattle.drive.specs.Journal.{Event, counted}
use Rattle.drive.specs.Reads.{CountsFailures}
use Rattle.osta.specs.FirstFault.{first_text_fault}
use Rattle.osta.specs.Label.{label_faults}
use Rattle.recover.specs.declared.fault.StoreFault.{StoreFault}
use Rattle.recover.specs.declared.fault.StoreFault.TheVariants as stores
use Rattle.formatting.specs.Beginning.{IsBegun, IsUnbegun}
use Rattle.formatting.specs.NewVolume.{FormatSurvivesPowerLoss, words_on, IsFormatted, IsFormatRefused}
use Rattle.engine.specs.Streams.{PutsPrefix}
use Rattle.engine.specs.declared.serving.ServeFault.TheVariants as stream
use Rattle.engine.specs.Situation.{Situation}
use Rattle.programs.specs.declared.fault.Fault.{Fault}
use Rattle.programs.specs.declared.fault.Fault.TheVariants.{Usage, Path, Socket, Store, Stream}
use Rattle.programs.specs.Images.{Images, IsThereOrMade, OnMedia, Unmade}
use Rattle.programs.specs.Lines.{formatted_text}
use Rattle.programs.specs.Status.{drive_failures}

-- The format was finished, so that on an honest drive the new volume is recovered, and then that was printed. Where the format is
-- refused, nothing was.
abbrev pub MakesVolume : {T : Type 0} → List ℕ → ℕ → ℕ → Result T Fault → List Event → List Event → Bool → Option (List ℕ) → Option (List ℕ) → Type 0
MakesVolume label moment capacity (Ok x) before afterwards honest output written =
    IsFormatted capacity (words_on capacity label moment) before afterwards honest × Appends output written formatted_text
MakesVolume label moment capacity (Err Usage) before afterwards honest output written = ⊥
MakesVolume label moment capacity (Err Path) before afterwards honest output written = ⊥
MakesVolume label moment capacity (Err Socket) before afterwards honest output written = ⊥
MakesVolume label moment capacity (Err (Store fault)) before afterwards honest output written =
    IsFormatRefused capacity (words_on capacity label moment) before afterwards honest fault × Keeps output written
MakesVolume label moment capacity (Err (Stream stream.Read)) before afterwards honest output written = ⊥
MakesVolume label moment capacity (Err (Stream stream.Memory)) before afterwards honest output written = ⊥
MakesVolume label moment capacity (Err (Stream stream.Write)) before afterwards honest output written =
    IsFormatted capacity (words_on capacity label moment) before afterwards honest × PutsPrefix output written formatted_text

-- The label is refused exactly where the text is none, and the capacity where the label is right and it is too small.
pub record AreWordsRefused {T : Type 0} (label : List ℕ) (capacity : ℕ) (outcome : Result T Fault) : Type 0 where
  pub text : (outcome ≡ Err (Store stores.Label)) ↔ IsSome (first_text_fault (label_faults label))
  pub size : (outcome ≡ Err (Store stores.Small)) ↔ (IsNone (first_text_fault (label_faults label)) × (capacity < LEAST_CAPACITY))

-- why what a look found after the last whole block of an image is refused
abbrev pub IsLookRefused : ℕ → List ℕ → ℕ → List Event → Option (List ℕ) → Fault → Type 0
IsLookRefused capacity label moment journal look fault = (cause : StoreFault) × (fault ≡ Store cause) × IsUnbegun capacity label moment journal look cause

-- What a look found after the last whole block of an image was refused, and nothing was done. The drive failed, or the look, where
-- that is told.
pub record Unbegun {T : Type 0} (label : List ℕ) (moment capacity : ℕ) (outcome : Result T Fault) (before afterwards : Situation) (look output written : Option (List ℕ)) (earlier later : ℕ) : Type 0 where
  pub refused : IsErr outcome
  pub why : IfErr outcome (IsLookRefused capacity label moment before.journal look)
  pub journal : afterwards.journal ≡ before.journal
  pub writes : afterwards.writes ≡ before.writes
  pub unwritten : Keeps output written
  pub failed : CountsFailures (drive_failures outcome) before.failures afterwards.failures ⊎ (later ≡ counted true earlier)

-- A volume was made, by writes of which a power loss leaves nothing or the new volume, where a look found no other bytes after the
-- last whole block of the image; or what it found was refused. The failures of the media are counted from before the look.
abbrev pub MakesOn : {T : Type 0} → List ℕ → ℕ → ℕ → Result T Fault → Situation → Situation → Option (List ℕ) → Option (List ℕ) → Option (List ℕ) → ℕ → ℕ → Type 0
MakesOn label moment capacity outcome before afterwards look output written earlier later =
    Unbegun label moment capacity outcome before afterwards look output written earlier later
    ⊎ (IsBegun capacity label moment before.journal look × AreWordsRefused label capacity outcome × CountsFailures (drive_failures outcome) before.failures afterwards.failures
    × MakesVolume label moment capacity outcome before.journal afterwards.journal afterwards.honest output written
    × FormatSurvivesPowerLoss capacity (words_on capacity label moment) before.journal before.writes afterwards.journal afterwards.writes afterwards.honest)

-- the same on the image at a path, which is made where it is missing, by what was found there
abbrev pub MakesOnImage : {T : Type 0} → List ℕ → List ℕ → ℕ → ℕ → Result T Fault → Images → Images → Option (List ℕ) → Option (List ℕ) → Type 0
MakesOnImage image label moment capacity outcome old new output written =
    Unmade image outcome old new output written ⊎ OnMedia IsThereOrMade capacity image (λ before afterwards. MakesOn label moment capacity outcome before afterwards (new.looked image) output written old.failures new.failures) old new
