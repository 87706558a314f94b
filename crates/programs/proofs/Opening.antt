-- What is done on the drive of an image, from its opening until it is put back.
use Rattle.std.proofs.Common.{◌≡◌, ℕ, true, List, [], Option, Some, None, Result, Ok, Err, refl, ◌∙◌, ap, subst}
use Rattle.std.specs.Prelude.{IsErrAnd}
use Rattle.std.specs.Io.KnownBytes.{Keeps}
use Rattle.drive.specs.Journal.{Event}
use Rattle.drive.specs.declared.Drive.{Ghosts}
use Rattle.media.specs.Held.{IsFresh}
use Rattle.recover.specs.declared.fault.StoreFault.TheVariants.{Device}
use Rattle.engine.specs.Situation.{Situation, situation, situation_on}
use Rattle.programs.specs.declared.fault.Fault.{Fault}
use Rattle.programs.specs.declared.fault.Fault.TheVariants.{Store}
use Rattle.programs.specs.Images.{AreUntouched, HasFailed, Images, IsOpened, IsPutBack, MayBeMade, OnMedia, Unmade, Unopened}

pub keeps_self : (a : Option (List ℕ)) → Keeps a a
keeps_self None = tt
keeps_self (Some xs) = refl

pub keeps_trans : (a b c : Option (List ℕ)) → Keeps a b → Keeps b c → Keeps a c
keeps_trans None b c h k = tt
keeps_trans (Some xs) None c h k = absurd h
keeps_trans (Some xs) (Some ys) None h k = absurd k
keeps_trans (Some xs) (Some ys) (Some zs) h k = k ∙ h

pub untouched : (images : Images) → AreUntouched images images
untouched images = record { same = λ _. refl; honest = refl }

-- what a drive was as it was taken out
opened_as : {D : Type 0} (drive : Ghosts D) (capacity : ℕ) (d : D) → IsFresh drive capacity d → situation_on drive None d ≡ situation None (drive.journal d) 0 capacity true []
opened_as drive capacity d h i = situation None (drive.journal d) (h.failures i) (h.size i) (h.honest i) (h.writes i)

pub on_media : {D : Type 0} (drive : Ghosts D) (Finds : Option (List Event) → List Event → Type 0) (capacity : ℕ) (path : List ℕ) (Did : Situation → Situation → Type 0) (d e : D) (before between afterwards : Images)
    → IsOpened drive Finds capacity path d before between → IsPutBack drive path e between afterwards → Did (situation_on drive None d) (situation_on drive None e) → OnMedia Finds capacity path Did before afterwards
on_media drive Finds capacity path Did d e before between afterwards opened back did = record {
  journal = drive.journal d;
  once = opened.fresh.once;
  last = situation_on drive None e;
  did = subst (λ (s : Situation). Did s (situation_on drive None e)) (opened_as drive capacity d opened.fresh) did;
  found = λ honest. opened.found (back.honest honest);
  left = back.held;
  others = λ other differs. back.others other differs ∙ opened.others other differs;
  drive_honest = back.drive_honest;
  honest = λ honest. opened.honest (back.honest honest);
  agreed = λ there honest. back.agreed honest ∙ opened.agreed there;
}

-- the fault of the opening is that of the command
same_fault : {T : Type 0} (outcome : Result T Fault) (fault : Fault) → IsErrAnd outcome (λ f. f ≡ fault) → fault ≡ Store Device → outcome ≡ Err (Store Device)
same_fault (Ok x) fault is device = absurd is
same_fault (Err f) fault is device = ap (λ (g : Fault). Err g) (is ∙ device)

pub unopened : {T : Type 0} (outcome : Result T Fault) (fault : Fault) (before afterwards : Images) (output : Option (List ℕ)) → IsErrAnd outcome (λ f. f ≡ fault) → fault ≡ Store Device → AreUntouched before afterwards → HasFailed before afterwards
    → Unopened outcome before afterwards output output
unopened outcome fault before afterwards output is device same failed = record { fault = same_fault outcome fault is device; unwritten = keeps_self output; untouched = same; failed = failed }

pub unmade : {T : Type 0} (path : List ℕ) (outcome : Result T Fault) (fault : Fault) (before afterwards : Images) (output : Option (List ℕ)) → IsErrAnd outcome (λ f. f ≡ fault) → fault ≡ Store Device → MayBeMade path before afterwards → HasFailed before afterwards
    → Unmade path outcome before afterwards output output
unmade path outcome fault before afterwards output is device made failed = record { fault = same_fault outcome fault is device; unwritten = keeps_self output; made = made; failed = failed }
