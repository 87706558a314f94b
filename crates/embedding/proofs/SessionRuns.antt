-- Sessions of the library are runs, each on what the one before it left.
use Rattle.std.proofs.Common.{◌≡◌, ◌⊎◌, inl, inr, ℕ, List, [], ◌∷◌, ◌++◌, Option, Some, None, Result, Ok, Err, IsTrue, refl, sym, ap, ◌∙◌, subst}
use Rattle.std.specs.Prelude.{⊤, map}
use Rattle.limits.specs.declared.TheConstants.{GREATEST_CAPACITY}
use Rattle.drive.specs.Journal.{Event, Once, held}
use Rattle.model.specs.Session.{State, Request, after}
use Rattle.model.proofs.Runs.{after-append}
use Rattle.durability.specs.Volume.{RecoversTo}
use Rattle.udf.specs.Udf.{udf}
use Rattle.engine.specs.Losses.{AreCut, Life, Survives}
use Rattle.engine.specs.Situation.{Situation}
use Rattle.engine.specs.Steps.{HoldsState}
use Rattle.engine.proofs.Lives.{cuts_join}
use Rattle.engine.proofs.Losses.{losses_reach}
use Rattle.engine.proofs.Running.{runs_begin}
use Rattle.grouping.specs.Losses.{life_in}
use Rattle.grouping.proofs.Withstanding.{groups_honest}
use Rattle.embedding.specs.declared.fault.Fault.{Fault}
use Rattle.embedding.specs.declared.fault.Fault.TheVariants as faults
use Rattle.embedding.specs.declared.session.Session.{Session}
use Rattle.embedding.specs.Media.{capacity_on, failures_on, honest_on, journal_on, writes_on}
use Rattle.embedding.specs.SessionRuns.{AllCalled, AllLives, AllSessions, Call, InRun, IsCalled, IsRunUntil, IsSession, LivesOf, LivesUntil, LosesCalls, LosesRun, SessionsAreRuns, lives_in, lives_of_run, run_of, run_of_heard, run_of_open, run_of_stop}
use Rattle.embedding.specs.SessionRuns.Call.{Bring, Ask, Take}
use Rattle.embedding.specs.Sessions.{AnswersStream, HearsBy, StopsBy, gathering_in, seen}
use Rattle.embedding.proofs.Replying.{groups_room}

-- ---- one call

-- What is known of a call that brought bytes, whether its messages were answered or nothing was done.
module _ (bytes : List ℕ) (old new : Session) (P : Option (InRun bytes old new) → Type 0) (none : seen new ≡ seen old → P None) (some : (run : InRun bytes old new) → P (Some run)) where
  by_stop : (fault : Fault) (h : StopsBy fault bytes old new) → P (run_of_stop fault bytes old new h)
  by_stop faults.Memory (inl nothing) = none nothing.seen_is
  by_stop faults.Memory (inr h) = some h.all
  by_stop faults.Device h = absurd h
  by_stop faults.TooLong h = some h.0.all
  by_stop faults.Text h = absurd h
  by_stop faults.Volume h = absurd h
  by_stop faults.Nothing h = absurd h

  by_heard : (outcome : Result ⊤ Fault) (h : HearsBy outcome bytes old new) → P (run_of_heard outcome bytes old new h)
  by_heard (Ok x) h = some h.all
  by_heard (Err fault) h = by_stop fault h

  by_open : (outcome : Result ⊤ Fault) (ended : Option Fault) (heard : ended ≡ None → HearsBy outcome bytes old new) → ((fault : Fault) → ended ≡ Some fault → seen new ≡ seen old)
      → P (run_of_open ended (λ free. run_of_heard outcome bytes old new (heard free)))
  by_open outcome None heard refused = by_heard outcome (heard refl)
  by_open outcome (Some fault) heard refused = none (refused fault refl)

  brings : (outcome : Result ⊤ Fault) (h : AnswersStream outcome bytes old new) (alone : old.group ≡ None) → P (run_of outcome bytes old new h alone)
  brings outcome h alone = by_open outcome old.ended (λ free. h.heard free alone) (λ fault is. ap (λ (s : Session). seen s) (h.refused fault is).1)

-- a medium that is honest after a call was so before
call_honest : (call : Call) (old new : Session) → IsCalled call old new → IsTrue (seen new).honest → IsTrue (seen old).honest
call_honest (Bring bytes) old new (outcome, h, alone) honest =
    brings bytes old new (λ run. IsTrue (seen old).honest) (λ same. subst (λ (s : Situation). IsTrue s.honest) same honest) (λ run. groups_honest run.groups (seen old) (gathering_in old) (seen new) (gathering_in new) run.are honest) outcome h alone
call_honest Ask old new h honest = h.honest honest
call_honest Take old new h honest = subst (λ (s : Situation). IsTrue s.honest) h.seen_is honest

all_honest : (calls : List Call) (old new : Session) → AllCalled calls old new → IsTrue (seen new).honest → IsTrue (seen old).honest
all_honest [] old new same honest = subst (λ (s : Session). IsTrue (seen s).honest) same honest
all_honest (call ∷ calls) old new (between, one, rest) honest = call_honest call old between one (all_honest calls between new rest honest)

-- a call, or several, went on from a state by these runs
record GoesOn (volume : ℕ) (S : State) (old new : Session) (lives : List Life) : Type 0 where
  pub done : List Request
  pub cuts : AreCut (seen old).capacity volume S (seen old).journal lives done (seen new).journal
  pub at : HoldsState volume (after S done) (seen new)
  pub room : (seen new).capacity ≡ (seen old).capacity

module _ (volume : ℕ) where
  goes_nowhere : (S : State) (old new : Session) → (seen new).journal ≡ (seen old).journal → (seen new).capacity ≡ (seen old).capacity → HoldsState volume S (seen new) → GoesOn volume S old new []
  goes_nowhere S old new same room at = record { done = []; cuts = (refl, same); at = at; room = room }

  goes_same : (S : State) (old new : Session) → seen new ≡ seen old → HoldsState volume S (seen old) → GoesOn volume S old new []
  goes_same S old new same at =
      goes_nowhere S old new (ap (λ (s : Situation). s.journal) same) (ap (λ (s : Situation). s.capacity) same) (subst (λ (s : Situation). HoldsState volume S s) (sym same) at)

  goes_run : (S : State) (bytes : List ℕ) (old new : Session) (run : InRun bytes old new) → IsTrue (seen new).honest → HoldsState volume S (seen old) → GoesOn volume S old new (map life_in run.groups)
  goes_run S bytes old new run honest at =
      let (done, cuts, there) = (run.lives volume S honest at).0 in
      record { done = done; cuts = cuts; at = there; room = groups_room run.groups (seen old) (gathering_in old) (seen new) (gathering_in new) run.are }

  goes_bring : (S : State) (bytes : List ℕ) (old new : Session) (outcome : Result ⊤ Fault) (h : AnswersStream outcome bytes old new) (alone : old.group ≡ None) → IsTrue (seen new).honest → HoldsState volume S (seen old)
      → GoesOn volume S old new (lives_of_run bytes old new (run_of outcome bytes old new h alone))
  goes_bring S bytes old new outcome h alone honest at =
      brings bytes old new (λ run. GoesOn volume S old new (lives_of_run bytes old new run)) (λ same. goes_same S old new same at) (λ run. goes_run S bytes old new run honest at) outcome h alone

  goes_then : (S : State) (old between new : Session) (first second : List Life) (one : GoesOn volume S old between first) → GoesOn volume (after S one.done) between new second → GoesOn volume S old new (first ++ second)
  goes_then S old between new first second one more = record {
    done = one.done ++ more.done;
    cuts = cuts_join (seen old).capacity volume S (seen old).journal (seen between).journal (seen new).journal first second one.done more.done one.cuts
        (subst (λ (c : ℕ). AreCut c volume (after S one.done) (seen between).journal second more.done (seen new).journal) one.room more.cuts);
    at = subst (λ (T : State). HoldsState volume T (seen new)) (sym (after-append one.done more.done S)) more.at;
    room = more.room ∙ one.room;
  }

  -- calls that ended
  goes_calls : (calls : List Call) (S : State) (old new : Session) (called : AllCalled calls old new) → IsTrue (seen new).honest → HoldsState volume S (seen old) → GoesOn volume S old new (lives_in calls old new called)
  goes_calls [] S old new same honest at = goes_same S old new (ap (λ (s : Session). seen s) same) at
  goes_calls (Bring bytes ∷ calls) S old new (between, (outcome, h, alone), rest) honest at =
      let one = goes_bring S bytes old between outcome h alone (all_honest calls between new rest honest) at in
      goes_then S old between new (lives_of_run bytes old between (run_of outcome bytes old between h alone)) (lives_in calls between new rest) one (goes_calls calls (after S one.done) between new rest honest one.at)
  goes_calls (Ask ∷ calls) S old new (between, h, rest) honest at =
      let one = goes_nowhere S old between h.journal h.capacity (h.holds volume S (all_honest calls between new rest honest) at) in
      goes_then S old between new [] (lives_in calls between new rest) one (goes_calls calls (after S one.done) between new rest honest one.at)
  goes_calls (Take ∷ calls) S old new (between, h, rest) honest at =
      let one = goes_same S old between h.seen_is at in
      goes_then S old between new [] (lives_in calls between new rest) one (goes_calls calls (after S one.done) between new rest honest one.at)

  -- ---- calls that a power loss cut off

  record Lost (S : State) (old : Session) (lost : List Event) (Are : List Life → Type 0) : Type 0 where
    pub lives : List Life
    pub done : List Request
    pub are : Are lives
    pub cuts : AreCut (seen old).capacity volume S (seen old).journal lives done lost

  lost_run : (S : State) (bytes : List ℕ) (old new : Session) (run : Option (InRun bytes old new)) → IsTrue (seen new).honest → HoldsState volume S (seen old) → (lost : List Event) (loses : LosesRun bytes old new run lost)
      → Lost S old lost (IsRunUntil bytes old new run lost loses)
  lost_run S bytes old new None honest at lost loses = absurd loses
  lost_run S bytes old new (Some run) honest at lost loses =
      let (lives, until, done, cuts) = (run.lives volume S honest at).1 lost loses in record { lives = lives; done = done; are = until; cuts = cuts }

  -- after calls that were answered
  lost_then : (S : State) (old between : Session) (first : List Life) (one : GoesOn volume S old between first) (lost : List Event) (Are More : List Life → Type 0) → ((later : List Life) → More later → Are (first ++ later)) → Lost (after S one.done) between lost More → Lost S old lost Are
  lost_then S old between first one lost Are More are more = record {
    lives = first ++ more.lives;
    done = one.done ++ more.done;
    are = are more.lives more.are;
    cuts = cuts_join (seen old).capacity volume S (seen old).journal (seen between).journal lost first more.lives one.done more.done one.cuts
        (subst (λ (c : ℕ). AreCut c volume (after S one.done) (seen between).journal more.lives more.done lost) one.room more.cuts);
  }

  lost_calls : (calls : List Call) (S : State) (old new : Session) (called : AllCalled calls old new) → IsTrue (seen new).honest → HoldsState volume S (seen old) → (lost : List Event) (loses : LosesCalls calls old new called lost)
      → Lost S old lost (LivesUntil calls old new called lost loses)
  lost_calls [] S old new called honest at lost loses = absurd loses
  lost_calls (Bring bytes ∷ calls) S old new (between, (outcome, h, alone), rest) honest at lost (inl here) =
      let c = lost_run S bytes old between (run_of outcome bytes old between h alone) (all_honest calls between new rest honest) at lost here in
      record { lives = c.lives; done = c.done; are = c.are; cuts = c.cuts }
  lost_calls (Bring bytes ∷ calls) S old new (between, (outcome, h, alone), rest) honest at lost (inr there) =
      let one = goes_bring S bytes old between outcome h alone (all_honest calls between new rest honest) at in
      lost_then S old between (lives_of_run bytes old between (run_of outcome bytes old between h alone)) one lost (LivesUntil (Bring bytes ∷ calls) old new (between, (outcome, h, alone), rest) lost (inr there)) (LivesUntil calls between new rest lost there)
      (λ later are. (later, refl, are)) (lost_calls calls (after S one.done) between new rest honest one.at lost there)
  lost_calls (Ask ∷ calls) S old new (between, h, rest) honest at lost loses =
      let one = goes_nowhere S old between h.journal h.capacity (h.holds volume S (all_honest calls between new rest honest) at) in
      lost_then S old between [] one lost (LivesUntil (Ask ∷ calls) old new (between, h, rest) lost loses) (LivesUntil calls between new rest lost loses) (λ later are. are) (lost_calls calls (after S one.done) between new rest honest one.at lost loses)
  lost_calls (Take ∷ calls) S old new (between, h, rest) honest at lost loses =
      let one = goes_same S old between h.seen_is at in
      lost_then S old between [] one lost (LivesUntil (Take ∷ calls) old new (between, h, rest) lost loses) (LivesUntil calls between new rest lost loses) (λ later are. are) (lost_calls calls (after S one.done) between new rest honest one.at lost loses)

  -- ---- one session

  record Left (S : State) (before afterwards : List Event) (Are : List Life → Type 0) : Type 0 where
    pub lives : List Life
    pub done : List Request
    pub are : Are lives
    pub cuts : AreCut GREATEST_CAPACITY volume S before lives done afterwards

  ended : (calls : List Call) (S : State) (first last : Session) (called : AllCalled calls first last) → IsTrue (seen last).honest → HoldsState volume S (seen first) → (afterwards : List Event) (ends : (afterwards ≡ (seen last).journal) ⊎ LosesCalls calls first last called afterwards)
      → Lost S first afterwards (LivesOf calls first last called afterwards ends)
  ended calls S first last called honest at afterwards (inl same) =
      let all = goes_calls calls S first last called honest at in
      record {
        lives = lives_in calls first last called;
        done = all.done;
        are = refl;
        cuts = subst (λ (J : List Event). AreCut (seen first).capacity volume S (seen first).journal (lives_in calls first last called) all.done J) (sym same) all.cuts;
      }
  ended calls S first last called honest at afterwards (inr loses) = lost_calls calls S first last called honest at afterwards loses

  one_session : (calls : List Call) (S : State) (before afterwards : List Event) (s : IsSession calls before afterwards) → Once before → RecoversTo udf GREATEST_CAPACITY volume (held before) S
      → Left S before afterwards (LivesOf calls s.first s.last s.called afterwards s.ends)
  one_session calls S before afterwards s once stands =
      let medium = s.medium in
      let honest : IsTrue (seen s.first).honest = all_honest calls s.first s.last s.called s.honest in
      let here : Once (journal_on medium) = subst (λ (J : List Event). Once J) (sym s.finds) once in
      let stood : RecoversTo udf GREATEST_CAPACITY volume (held (journal_on medium)) S = subst (λ (J : List Event). RecoversTo udf GREATEST_CAPACITY volume (held J) S) (sym s.finds) stands in
      let begins = (runs_begin volume S (journal_on medium) (failures_on medium) (capacity_on medium) (honest_on medium) (writes_on medium) here (subst (λ (c : ℕ). RecoversTo udf c volume (held (journal_on medium)) S) (sym s.room) stood)).0 in
      let left = ended calls S s.first s.last s.called s.honest (s.opens.holds volume S honest begins) afterwards s.ends in
      let sized = subst (λ (c : ℕ). AreCut c volume S (seen s.first).journal left.lives left.done afterwards) (s.opens.capacity ∙ s.room) left.cuts in
      record {
        lives = left.lives;
        done = left.done;
        are = left.are;
        cuts = subst (λ (J : List Event). AreCut GREATEST_CAPACITY volume S J left.lives left.done afterwards) (s.opens.journal ∙ s.finds) sized;
      }

  -- one after another
  all_sessions : (sessions : List (List Call)) (S : State) (before afterwards : List Event) (all : AllSessions sessions before afterwards) → Once before → RecoversTo udf GREATEST_CAPACITY volume (held before) S
      → Left S before afterwards (AllLives sessions before afterwards all)
  all_sessions [] S before afterwards same once stands = record { lives = []; done = []; are = refl; cuts = (refl, same) }
  all_sessions (calls ∷ sessions) S before afterwards (between, s, rest) once stands =
      let one = one_session calls S before between s once stands in
      let survives : Survives GREATEST_CAPACITY volume S before one.done between = losses_reach GREATEST_CAPACITY volume S before one.lives one.done between once stands one.cuts in
      let more = all_sessions sessions (after S one.done) between afterwards rest survives.once survives.stands in
      record {
        lives = one.lives ++ more.lives;
        done = one.done ++ more.done;
        are = (one.lives, more.lives, refl, one.are, more.are);
        cuts = cuts_join GREATEST_CAPACITY volume S before between afterwards one.lives more.lives one.done more.done one.cuts more.cuts;
      }

pub sessions_are_runs : SessionsAreRuns
sessions_are_runs sessions volume S before afterwards all once stands =
    let left = all_sessions volume sessions S before afterwards all once stands in
    record {
      lives = left.lives;
      done = left.done;
      are = left.are;
      cuts = left.cuts;
      survives = losses_reach GREATEST_CAPACITY volume S before left.lives left.done afterwards once stands left.cuts;
    }
