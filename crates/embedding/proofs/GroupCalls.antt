-- Calls on a group that is open.
use Rattle.std.proofs.Common.{◌≡◌, ℕ, ◌≤◌, Bool, true, false, List, length, drop, Option, Some, None, refl, ap, ◌∙◌}
use Rattle.std.specs.Prelude.{IsSome, IfSome, IfErr, OnOk, Result, Ok, Err}
use Rattle.std.proofs.lemmas.List.{drop-append-le}
use Rattle.engine.specs.Served.{frames_of}
use Rattle.engine.specs.Situation.{Situation}
use Rattle.grouping.specs.declared.open_group.OpenGroup.{OpenGroup}
use Rattle.grouping.specs.OpenGroups.{AnswersNext}
use Rattle.embedding.specs.declared.fault.Fault.{Fault}
use Rattle.embedding.specs.Grouped.{AddsBy, AddsNext, LosesGroup, Shown}

-- where there is one, it is one of which that holds
pub one_of : {T : Type 0} {P : T → Type 0} (o : Option T) → IsSome o → IfSome o P → (x : T) × (o ≡ Some x) × P x
one_of None is h = let bad : ◌≡◌ {A = Bool} false true = is in absurd (cc)
one_of (Some x) is h = (x, refl, h)

-- what is answered waits after what waited
pub next_waits : (reader after : Option (List ℕ)) (before afterwards : Situation) (xs ys old new : List ℕ) (taken : ℕ) → taken ≤ length xs → AnswersNext reader after before afterwards (Some xs) (Some ys) old new
    → AnswersNext reader after before afterwards (Some (drop taken xs)) (Some (drop taken ys)) old new
next_waits reader after before afterwards xs ys old new taken within h =
    let told = h.gathered.gathering.told in
    record {
      marks = h.marks;
      added = h.added;
      gathered = record {
        gathering = record {
          told = record {
            messages = told.messages;
            answers = told.answers;
            taken = told.taken;
            answered = told.answered;
            told = ap (λ (l : List ℕ). drop taken l) told.told ∙ drop-append-le taken xs (frames_of told.answers) within;
          };
          none_failed = h.gathered.gathering.none_failed;
          marks_are = h.gathered.gathering.marks_are;
        };
        some = h.gathered.some;
      };
    }

-- by the outcome
pub adds_by : {T : Type 0} (outcome : Result T Fault) (group : OpenGroup) (reader : Option (List ℕ)) (old new : Shown) (open_now : Option OpenGroup) → OnOk outcome (AddsNext group reader old new open_now)
    → IfErr outcome (λ fault. LosesGroup fault group reader old new open_now) → AddsBy outcome group reader old new open_now
adds_by (Ok x) group reader old new open_now adds loses = adds
adds_by (Err fault) group reader old new open_now adds loses = loses
