-- What a power loss leaves of a group, on a drive's journal.
use Rattle.std.proofs.Common.{◌≡◌, ℕ, zero, suc, ◌+◌, ◌≤◌, List, [], ◌∷◌, ◌++◌, length, take, refl, sym, subst, arith}
use Rattle.drive.specs.Journal.{AddsPrefix, Event, held, written, Once}
use Rattle.drive.proofs.Fronts.{front_keeps, front_whole, held_write}
use Rattle.drive.proofs.Once.{once_write}
use Rattle.model.specs.Session.{State, Request, after, after_one}
use Rattle.model.specs.Runs.{AllNew}
use Rattle.model.proofs.Sessions.{each_once}
use Rattle.durability.specs.Formats.{Block}
use Rattle.durability.specs.Torn.{AreAlike, Endures}
use Rattle.durability.specs.Volume.{Medium, RecoversTo, RecoveredTo}
use Rattle.durability.proofs.History.{past_now}
use Rattle.udf.specs.Udf.{udf}
use Rattle.udf.proofs.Formats.{exact, bounded, distinct}
use Rattle.gathering.specs.Groups.{Commit, with_marks, first_there, newest, AreInTurn}
use Rattle.gathering.specs.Laws.{EndsWith}
use Rattle.gathering.proofs.Choice.{any_marks}
use Rattle.gathering.proofs.Phases.{first_phase, second_phase, together}
use Rattle.engine.specs.Losses.{Survives}
use Rattle.group_losses.specs.Laws.{EndsAfter, GroupEndures, GroupSurvivesPowerLoss}
use Rattle.group_losses.proofs.Gathering.{gathered}

-- the first of new requests are new
new_front : (n : ℕ) (S : State) (requests : List Request) → AllNew S requests → AllNew S (take n requests)
new_front zero S [] new = tt
new_front zero S (r ∷ requests) new = tt
new_front (suc n) S [] new = tt
new_front (suc n) S (r ∷ requests) new = (new.0, new_front n (after_one S r) requests new.1)

module _ (capacity volume : ℕ) (S : State) (before : List Event) (once : Once before) (stands : RecoversTo udf capacity volume (held before) S) (left : List Block) (lost : List Event) (is : lost ≡ before ++ written (length before) left) where
  there : held lost ≡ held before ++ left
  there = held_write before lost (length before) left once refl is

  keeps : take (length before) lost ≡ before
  keeps = front_keeps before lost (length before) left (subst (λ (J : List Event). AddsPrefix before (length before) left J) (sym is) (front_whole before (length before) left))

  once_there : Once lost
  once_there = subst Once (sym is) (once_write before (length before) left once refl)

  -- what endures on the medium survives on the journal
  survives : (done : List Request) → AllNew S done → Endures udf capacity volume (held before) S done (held before ++ left) → Survives capacity volume S before done lost
  survives done new e =
      let there_too : Endures udf capacity volume (held before) S done (held lost) = subst (λ (M : Medium). Endures udf capacity volume (held before) S done M) (sym there) e in
      record {
        front = keeps;
        once = once_there;
        stands = there_too.stands;
        new = new;
        each_once = each_once S done new;
        past = there_too.past;
        later = there_too.later;
      }

  -- where both media are alike, nothing was done
  survives_alike : AreAlike udf capacity volume (held before) (held before ++ left) → Survives capacity volume S before [] lost
  survives_alike a =
      let there_too : AreAlike udf capacity volume (held before) (held lost) = subst (λ (M : Medium). AreAlike udf capacity volume (held before) M) (sym there) a in
      record {
        front = keeps;
        once = once_there;
        stands = (there_too.stands S).0 stands;
        new = tt;
        each_once = tt;
        past = λ commits T was. (there_too.past commits T).0 was;
        later = λ j few. later_none there_too j few;
      }
    where
      later_none : AreAlike udf capacity volume (held before) (held lost) → (j : ℕ) → j ≤ 0 → RecoveredTo udf capacity volume (held lost) (S.commits + j) (after S (take j []))
      later_none a zero few = subst (λ (n : ℕ). RecoveredTo udf capacity volume (held lost) n S) (let e : S.commits ≡ S.commits + 0 = omega arith in e) ((a.past S.commits S).0 (past_now udf capacity volume (held before) S stands))
      later_none a (suc j) few = absurd (omega arith)

  ends_after : (done : List Request) (all : List Event) (whole : List Block) → all ≡ before ++ written (length before) whole → EndsWith udf capacity volume S done (held before ++ whole) (held before ++ left) → EndsAfter capacity volume S before done all lost
  ends_after done all whole all_is e = record {
    front = keeps;
    once = once_there;
    ends = subst (λ (M : Medium). EndsWith udf capacity volume S done (held all) M) (sym there)
        (subst (λ (M : Medium). EndsWith udf capacity volume S done M (held before ++ left)) (sym (held_write before all (length before) whole once refl all_is)) e);
  }

endures : (capacity volume : ℕ) (S : State) (before : List Event) (requests : List Request) (group : List Commit) (afterwards : List Event) → Once before → RecoversTo udf capacity volume (held before) S
    → AreInTurn udf capacity volume (held before) S requests group → AllNew S requests → afterwards ≡ before ++ written (length before) (with_marks (first_there (length requests)) group)
    → GroupEndures capacity volume S before requests group afterwards
endures capacity volume S before requests group afterwards once stands turn new journal = record {
  turn = turn;
  new = new;
  journal = journal;
  together = (together udf exact bounded distinct capacity volume (held before) S requests group turn).0;
  first = λ left lost torn is. survives_alike capacity volume S before once stands left lost is (first_phase udf exact bounded distinct capacity volume (held before) S requests group turn left torn);
  second = λ n left lost few has is.
      survives capacity volume S before once stands left lost is (take n requests) (new_front n S requests new) (second_phase udf exact bounded distinct capacity volume (held before) S requests group stands turn n few left has);
  any = λ there left lost has is.
      ends_after capacity volume S before once stands left lost is (take (newest there group) requests) afterwards (with_marks (first_there (length requests)) group) journal
      (any_marks udf exact bounded distinct capacity volume (held before) S requests group stands turn there left has);
}

pub group_survives : GroupSurvivesPowerLoss
group_survives volume messages S before answers afterwards at honest all sound =
    let g = gathered volume messages S before answers afterwards at honest all sound in
    (g.requests, g.group, g.are, g.at, endures before.capacity volume S before.journal g.requests g.group afterwards.journal at.once at.stands g.turn g.new g.journal)
