-- A group that is open: a message more, and what is left where it is taken back.
use Rattle.std.proofs.Common.{◌≡◌, ℕ, List, [], ◌++◌, take, Option, refl, sym, ap, ◌∙◌, arith, append-nil, append_assoc}
use Rattle.drive.specs.Journal.{Event, next_of}
use Rattle.drive.specs.Reads.{CountsFailures}
use Rattle.drive.specs.declared.Drive.{Ghosts}
use Rattle.store.specs.declared.store.Store.{Store}
use Rattle.engine.specs.Situation.{Situation, AddsBlocks, situation_on}
use Rattle.request.specs.declared.answer.Answer.{Answer}
use Rattle.request.specs.declared.message.Message.{Message}
use Rattle.request.specs.Answers.{answer_frame}
use Rattle.request.specs.Frames.{IsIdle}
use Rattle.std.specs.Io.KnownBytes.{Appends}
use Rattle.grouping.specs.Groups.{mark_between}
use Rattle.grouping.specs.OpenGroups.{AnswersNext, IsCutBack}
use Rattle.grouping.proofs.Answers.{going_none}
use Rattle.grouping.proofs.Going.{OneMore, goes_full}

-- none was complete
pub next_none : (reader : Option (List ℕ)) (s : Situation) (o : Option (List ℕ)) (marks : List ℕ) → IsIdle reader → AnswersNext reader reader s s o o marks marks
next_none reader s o marks idle = record {
  marks = [];
  added = sym (append-nil marks);
  gathered = record { gathering = going_none reader s o [] refl; some = λ none. idle };
}

-- one was, and it was answered
pub next_one : {D : Type 0} (drive : Ghosts D) (reader after : Option (List ℕ)) (s : Situation) (store : Option Store) (d e : D) (o w : Option (List ℕ)) (old new : List ℕ) (m : Message) (a : Answer) (before : ℕ)
    → OneMore drive reader reader after s s store d e o o w [] (mark_between before (next_of (drive.journal d))) m a before (going_none reader s o [] refl)
    → Appends o w (answer_frame a) → new ≡ old ++ mark_between before (next_of (drive.journal d)) → AnswersNext reader after s (situation_on drive store e) o w old new
next_one drive reader after s store d e o w old new m a before one told added = record {
  marks = mark_between before (next_of (drive.journal d));
  added = added;
  gathered = goes_full drive reader reader after s s store d e o o w [] (mark_between before (next_of (drive.journal d))) m a before (going_none reader s o [] refl) one told;
}

-- blocks came before it was cut back
pub cut_then : (s t u : Situation) (from : ℕ) → AddsBlocks s t → CountsFailures 0 s.failures t.failures → IsCutBack from t u → IsCutBack from s u
cut_then s t u from adds counted cut = record {
  store = cut.store;
  last = adds.front.0 ++ cut.last;
  journal = cut.journal ∙ ap (λ (J : List Event). take from (J ++ cut.last)) adds.front.1 ∙ ap (λ (J : List Event). take from J) (append_assoc s.journal adds.front.0 cut.last);
  capacity = cut.capacity ∙ adds.capacity;
  failures = λ few. let second = cut.failures few in let first = counted (omega (arith, second, few)) in omega (arith, first, second);
  honest = λ h. adds.honest (cut.honest h);
}
