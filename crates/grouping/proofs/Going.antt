-- A group that goes on, message by message.
use Rattle.std.proofs.Common.{◌≡◌, ℕ, ◌-◌, ◌<◌, ◌≤◌, List, [], ◌∷◌, ◌++◌, length, Option, Result, Ok, Err, Bool, true, false, refl, sym, ap, subst, ◌∙◌, append_assoc, append-nil, lt-ltb, le-ltb}
use Rattle.std.specs.Prelude.{OnOk, OnErr, is_err}
use Rattle.drive.specs.Journal.{Event, Once, next_of}
use Rattle.drive.specs.declared.Drive.{Ghosts}
use Rattle.drive.proofs.Once.{next_once}
use Rattle.settling.specs.Calls.{IsUntouched}
use Rattle.store.specs.declared.store.Store.{Store}
use Rattle.engine.specs.Situation.{Situation, AddsBlocks, IsReady, situation_on}
use Rattle.engine.specs.Answered.{faults}
use Rattle.engine.specs.Delivered.{IsAnswered}
use Rattle.request.specs.declared.answer.Answer.{Answer}
use Rattle.request.specs.declared.message.Message.{Message}
use Rattle.request.specs.Answers.{answer_frame}
use Rattle.request.specs.Frames.{TakesMessage}
use Rattle.std.specs.Io.KnownBytes.{Appends, Keeps}
use Rattle.grouping.specs.Groups.{Gathered, CarriedOut, CarriedOutSome, mark_between, mark_of}
use Rattle.grouping.proofs.Answers.{gathered_more, gathering_more, gathering_some}
use Rattle.grouping.proofs.Settled.{gathered_same, gathering_some_same, going_same, same_shown}

-- nothing came yet
pub adds_none : (s : Situation) → IsReady s → AddsBlocks s s
adds_none s ready = record { ready = ready; front = ([], sym (append-nil s.journal)); capacity = refl; honest = λ h. h }

-- some blocks, and then others
pub adds_then : (s t u : Situation) → AddsBlocks s t → AddsBlocks t u → AddsBlocks s u
adds_then s t u h k = record {
  ready = k.ready;
  front = (h.front.0 ++ k.front.0, k.front.1 ∙ ap (λ (J : List Event). J ++ k.front.0) h.front.1 ∙ append_assoc s.journal h.front.0 k.front.0);
  capacity = k.capacity ∙ h.capacity;
  honest = λ same. h.honest (k.honest same);
}

-- a drive that is untouched shows the same
pub untouched_shows : {D : Type 0} (drive : Ghosts D) (store : Option Store) (d e : D) → IsUntouched drive d e → situation_on drive store d ≡ situation_on drive store e
untouched_shows drive store d e h = sym (same_shown drive store d e h.journal h.failures h.rest)

-- so blocks came to it that came to the other
pub adds_untouched : {D : Type 0} (drive : Ghosts D) (store : Option Store) (s : Situation) (d e : D) → IsUntouched drive d e → AddsBlocks s (situation_on drive store d) → AddsBlocks s (situation_on drive store e)
adds_untouched drive store s d e h k = subst (λ (t : Situation). AddsBlocks s t) (untouched_shows drive store d e h) k

-- a mark by the next addresses is one by the lengths
pub mark_is : (J K : List Event) (before : ℕ) → Once J → Once K → before ≡ next_of J → mark_between before (next_of K) ≡ mark_between (length J) (length K)
mark_is J K before first second is = ap (λ (n : ℕ). mark_between n (next_of K)) (is ∙ next_once J first) ∙ ap (λ (n : ℕ). mark_between (length J) n) (next_once K second)

-- where a result is no error, what holds of an `Ok` holds
pub ok_of : {T E : Type 0} (r : Result T E) (X : Type 0) → is_err r ≡ false → OnOk r X → X
ok_of (Ok v) X is x = x
ok_of (Err e) X is x = let bad : ◌≡◌ {A = Bool} true false = is in absurd (cc)

-- where it is one, what holds of an `Err` holds
pub err_of : {T E : Type 0} (r : Result T E) (X : Type 0) → is_err r ≡ true → OnErr r X → X
err_of (Ok v) X is x = let bad : ◌≡◌ {A = Bool} false true = is in absurd (cc)
err_of (Err e) X is x = x

-- nothing came between two lengths
pub no_mark : (before after : ℕ) → after ≤ before → mark_between before after ≡ []
no_mark before after le = rw (le-ltb before after le) refl

-- or something did
pub some_mark : (before after : ℕ) → before < after → mark_between before after ≡ (after - 1) ∷ []
some_mark before after lt = rw (lt-ltb before after lt) refl

-- the drive as it was
pub untouched_none : {D : Type 0} (drive : Ghosts D) (d : D) → IsUntouched drive d d
untouched_none drive d = record { journal = refl; failures = refl; rest = record { writes = refl; capacity = refl; misreads = refl; honest = refl } }

module _ {D : Type 0} (drive : Ghosts D) (reader between after : Option (List ℕ)) (s t : Situation) (store : Option Store) (d e : D) (o v w : Option (List ℕ)) (marks more : List ℕ) (m : Message) (a : Answer) (before : ℕ) (h : CarriedOut reader between s t o v marks) where
  -- What became of a message more: it was taken and answered without a failure of the drive, and its mark was told to the drive.
  pub record OneMore : Type 0 where
    pub takes : TakesMessage between m after
    pub answered : IsAnswered m t a (situation_on drive store d)
    pub none : faults a ≡ 0
    pub untouched : IsUntouched drive d e
    pub first : Once t.journal
    pub second : Once (drive.journal d)
    pub before_is : before ≡ next_of t.journal
    pub marked : more ≡ marks ++ mark_between before (next_of (drive.journal d))

  marked_there : OneMore → more ≡ marks ++ mark_of t (situation_on drive store d)
  marked_there one = one.marked ∙ ap (λ (l : List ℕ). marks ++ l) (mark_is t.journal (drive.journal d) before one.first one.second one.before_is)

  -- the group goes on
  pub goes_on : OneMore → Appends v w (answer_frame a) → CarriedOut reader after s (situation_on drive store e) o w more
  goes_on one told =
      going_same reader after s s (situation_on drive store d) (situation_on drive store e) o w more refl (untouched_shows drive store d e one.untouched)
      (gathering_more reader between after s t (situation_on drive store d) o v w marks more m a h one.takes one.answered one.none told (marked_there one))

  -- or ends
  pub goes_full : OneMore → Appends v w (answer_frame a) → Gathered reader after s (situation_on drive store e) o w more
  goes_full one told =
      gathered_same reader after s s (situation_on drive store d) (situation_on drive store e) o w more refl (untouched_shows drive store d e one.untouched)
      (gathered_more reader between after s t (situation_on drive store d) o v w marks more m a h one.takes one.answered one.none told (marked_there one))

  -- or ends where there was no memory for the answer's frame
  pub goes_some : OneMore → Keeps v w → CarriedOutSome reader after s (situation_on drive store e) o w more
  goes_some one kept =
      gathering_some_same reader after s s (situation_on drive store d) (situation_on drive store e) o w more refl (untouched_shows drive store d e one.untouched)
      (gathering_some reader between after s t (situation_on drive store d) o v w marks more m a h one.takes one.answered one.none kept (marked_there one))
