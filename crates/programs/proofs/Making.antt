-- A volume was made, or it was refused.
use Rattle.std.proofs.Common.{◌≡◌, ◌⊎◌, ℕ, List, Bool, true, Option, None, Result, Ok, Err, refl, sym, subst, ◌∙◌, inl, inr}
use Rattle.std.specs.Prelude.{IsErrAnd, IsTrue}
use Rattle.media.specs.Held.{Held, SameBut}
use Rattle.drive.specs.Journal.{Event, counted}
use Rattle.drive.specs.Reads.{CountsFailures}
use Rattle.drive.specs.declared.Drive.{Ghosts}
use Rattle.formatting.specs.Beginning.{IsBegun}
use Rattle.formatting.specs.NewVolume.{FormatSurvivesPowerLoss, words_on, IsFormatted, IsFormatRefused}
use Rattle.recover.specs.declared.fault.StoreFault.{StoreFault}
use Rattle.engine.specs.Situation.{situation_on}
use Rattle.engine.specs.declared.serving.ServeFault.TheVariants as streams
use Rattle.programs.specs.declared.fault.Fault.{Fault}
use Rattle.programs.specs.declared.fault.Fault.TheVariants.{Usage, Path, Socket, Store, Stream}
use Rattle.programs.specs.Images.{Images, IsOpened, IsPutBack, IsThereOrMade, MayLook}
use Rattle.programs.specs.Lines.{PutsBytes, formatted_text}
use Rattle.programs.specs.NewVolumes.{AreWordsRefused, IsLookRefused, MakesVolume, MakesOn, MakesOnImage}
use Rattle.programs.specs.Status.{drive_failures}
use Rattle.programs.proofs.Opening.{keeps_self, on_media}

pub makes_put : {T : Type 0} (label : List ℕ) (moment capacity : ℕ) (outcome : Result T Fault) (J K : List Event) (honest : Bool) (o w : Option (List ℕ)) → PutsBytes outcome o w formatted_text
    → IsFormatted capacity (words_on capacity label moment) J K honest → MakesVolume label moment capacity outcome J K honest o w
makes_put label moment capacity (Ok x) J K honest o w puts made = (made, puts)
makes_put label moment capacity (Err Usage) J K honest o w puts made = puts
makes_put label moment capacity (Err Path) J K honest o w puts made = puts
makes_put label moment capacity (Err Socket) J K honest o w puts made = puts
makes_put label moment capacity (Err (Store fault)) J K honest o w puts made = absurd puts
makes_put label moment capacity (Err (Stream streams.Read)) J K honest o w puts made = puts
makes_put label moment capacity (Err (Stream streams.Write)) J K honest o w puts made = (made, puts)
makes_put label moment capacity (Err (Stream streams.Memory)) J K honest o w puts made = puts

pub makes_refused : {T : Type 0} (label : List ℕ) (moment capacity : ℕ) (outcome : Result T Fault) (J K : List Event) (honest : Bool) (o : Option (List ℕ)) (fault : StoreFault) → IsErrAnd outcome (λ f. f ≡ Store fault)
    → IsFormatRefused capacity (words_on capacity label moment) J K honest fault → MakesVolume label moment capacity outcome J K honest o o
makes_refused {T} label moment capacity (Ok x) J K honest o fault is refused = absurd is
makes_refused {T} label moment capacity (Err f) J K honest o fault is refused =
    subst (λ (g : Fault). MakesVolume {T = T} label moment capacity (Err g) J K honest o o) (sym is) (refused, keeps_self o)

-- ---- on an image that was opened

-- what was found there after the last whole block is refused, by the fault of the command
pub unbegun_on : {T D : Type 0} (drive : Ghosts D) (label : List ℕ) (moment : ℕ) (outcome : Result T Fault) (fault : Fault) (d e : D) (look o : Option (List ℕ)) (earlier later : ℕ) → IsErrAnd outcome (λ f. f ≡ fault) → IsLookRefused (drive.capacity d) label moment (drive.journal d) look fault
    → drive.journal e ≡ drive.journal d → drive.writes e ≡ drive.writes d → CountsFailures (drive_failures {T = T} (Err fault)) (drive.failures d) (drive.failures e) ⊎ (later ≡ counted true earlier) → MakesOn label moment (drive.capacity d) outcome (situation_on drive None d) (situation_on drive None e) look o o earlier later
unbegun_on drive label moment (Ok x) fault d e look o earlier later is why journal writes failed = absurd is
unbegun_on {T} drive label moment (Err f) fault d e look o earlier later is why journal writes failed =
    inl (record { refused = refl; why = subst (λ (g : Fault). IsLookRefused (drive.capacity d) label moment (drive.journal d) look g) (sym is) why; journal = journal; writes = writes; unwritten = keeps_self o; failed = subst (λ (g : Fault). CountsFailures (drive_failures {T = T} (Err g)) (drive.failures d) (drive.failures e) ⊎ (later ≡ counted true earlier)) (sym is) failed })

pub makes_on : {T D : Type 0} (drive : Ghosts D) (label : List ℕ) (moment room : ℕ) (outcome : Result T Fault) (before : List Event) (written : List (List (List ℕ))) (d e : D) (look o w : Option (List ℕ)) (earlier later : ℕ) → room ≡ drive.capacity d → before ≡ drive.journal d → written ≡ drive.writes d
    → IsBegun (drive.capacity d) label moment (drive.journal d) look → AreWordsRefused label room outcome → CountsFailures (drive_failures outcome) (drive.failures d) (drive.failures e) → MakesVolume label moment room outcome before (drive.journal e) (drive.honest e) o w
    → FormatSurvivesPowerLoss room (words_on room label moment) before written (drive.journal e) (drive.writes e) (drive.honest e)
    → MakesOn label moment (drive.capacity d) outcome (situation_on drive None d) (situation_on drive None e) look o w earlier later
makes_on drive label moment room outcome before written d e look o w earlier later same journal writes begun words failures h withstands = inr (
  begun,
  subst (λ (n : ℕ). AreWordsRefused label n outcome) same words,
  failures,
  subst (λ (n : ℕ). MakesVolume label moment n outcome (drive.journal d) (drive.journal e) (drive.honest e) o w) same
      (subst (λ (j : List Event). MakesVolume label moment room outcome j (drive.journal e) (drive.honest e) o w) journal h),
  subst (λ (n : ℕ). FormatSurvivesPowerLoss n (words_on n label moment) (drive.journal d) (drive.writes d) (drive.journal e) (drive.writes e) (drive.honest e)) same
      (subst (λ (j : List Event). FormatSurvivesPowerLoss room (words_on room label moment) j (drive.writes d) (drive.journal e) (drive.writes e) (drive.honest e)) journal
      (subst (λ (ws : List (List (List ℕ))). FormatSurvivesPowerLoss room (words_on room label moment) before ws (drive.journal e) (drive.writes e) (drive.honest e)) writes withstands)),
)

-- an image that was opened, and then looked at
opened_seen : {D : Type 0} (drive : Ghosts D) (image : List ℕ) (capacity : ℕ) (d : D) (before between seen : Images) → IsOpened drive IsThereOrMade capacity image d before between → MayLook image between seen
    → IsOpened drive IsThereOrMade capacity image d before seen
opened_seen drive image capacity d before between seen opened look = record {
  found = λ honest. opened.found (subst (λ (b : Bool). IsTrue b) look.honest honest);
  agreed = λ there. look.honest ∙ opened.agreed there;
  others = subst (λ (held : Held). SameBut image before.held held) (sym look.held) opened.others;
  honest = λ honest. opened.honest (subst (λ (b : Bool). IsTrue b) look.honest honest);
  fresh = opened.fresh;
}

pub makes_image : {T D : Type 0} (drive : Ghosts D) (image label : List ℕ) (moment capacity : ℕ) (outcome : Result T Fault) (d e : D) (before between seen afterwards : Images) (o w : Option (List ℕ))
    → IsOpened drive IsThereOrMade capacity image d before between → between.failures ≡ before.failures → MayLook image between seen → IsPutBack drive image e seen afterwards
    → MakesOn label moment (drive.capacity d) outcome (situation_on drive None d) (situation_on drive None e) (seen.looked image) o w between.failures seen.failures → MakesOnImage image label moment capacity outcome before afterwards o w
makes_image drive image label moment capacity outcome d e before between seen afterwards o w opened uncounted look back h =
    inr (on_media drive IsThereOrMade capacity image (λ first last. MakesOn label moment capacity outcome first last (afterwards.looked image) o w before.failures afterwards.failures) d e before seen afterwards (opened_seen drive image capacity d before between seen opened look) back
    (subst (λ (looked : List ℕ → Option (List ℕ)). MakesOn label moment capacity outcome (situation_on drive None d) (situation_on drive None e) (looked image) o w before.failures afterwards.failures) (sym back.looked)
    (subst (λ (n : ℕ). MakesOn label moment n outcome (situation_on drive None d) (situation_on drive None e) (seen.looked image) o w before.failures afterwards.failures) opened.fresh.size
    (subst (λ (earlier : ℕ). MakesOn label moment (drive.capacity d) outcome (situation_on drive None d) (situation_on drive None e) (seen.looked image) o w earlier afterwards.failures) uncounted
    (subst (λ (later : ℕ). MakesOn label moment (drive.capacity d) outcome (situation_on drive None d) (situation_on drive None e) (seen.looked image) o w between.failures later) (sym back.failures) h)))))
