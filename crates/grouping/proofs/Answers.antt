-- A group so far, and then a message more.
use Rattle.std.proofs.Common.{◌≡◌, ℕ, List, [], ◌∷◌, ◌++◌, length, Option, refl, sym, ap, subst, ◌∙◌, append_assoc, arith}
use Rattle.std.specs.Io.KnownBytes.{Appends, Keeps}
use Rattle.std.proofs.lemmas.List.{append-nil}
use Rattle.std.proofs.lemmas.Grind.{flat_map-append}
use Rattle.request.specs.declared.answer.Answer.{Answer}
use Rattle.request.specs.declared.message.Message.{Message}
use Rattle.request.specs.Answers.{answer_frame}
use Rattle.request.specs.Frames.{TakesMessage}
use Rattle.engine.specs.Situation.{Situation}
use Rattle.engine.specs.Answered.{faults}
use Rattle.engine.specs.Delivered.{IsAnswered}
use Rattle.engine.specs.Served.{AllAnswered, frames_of}
use Rattle.engine.specs.Streams.{PutsPrefix}
use Rattle.engine.proofs.Messages.{appends_more, front_more, kept_none, no_front, nothing_more, taken_more}
use Rattle.group_losses.specs.Gathered.{NoneFailed}
use Rattle.grouping.specs.Groups.{mark_of, marks_of, Gathered, CarriedOut, CarriedOutSome}

-- one message more was answered
abbrev pub answered_one : (messages : List Message) (answers : List Answer) (s t u : Situation) (m : Message) (a : Answer)
    → AllAnswered messages s answers t → IsAnswered m t a u → AllAnswered (messages ++ m ∷ []) s (answers ++ a ∷ []) u
answered_one [] [] s t u m a h k = (u, subst (λ (x : Situation). IsAnswered m x a u) h k, refl)
answered_one [] (b ∷ answers) s t u m a h k = absurd h
answered_one (n ∷ messages) [] s t u m a h k = absurd h
answered_one (n ∷ messages) (b ∷ answers) s t u m a h k = (h.0, h.1, answered_one messages answers h.0 t u m a h.2 k)

-- its mark comes after theirs
pub marks_one : (messages : List Message) (answers : List Answer) (s t u : Situation) (m : Message) (a : Answer) (h : AllAnswered messages s answers t) (k : IsAnswered m t a u)
    → marks_of (messages ++ m ∷ []) s (answers ++ a ∷ []) u (answered_one messages answers s t u m a h k) ≡ marks_of messages s answers t h ++ mark_of t u
marks_one [] [] s t u m a h k = append-nil (mark_of s u) ∙ ap (λ (x : Situation). mark_of x u) (sym h)
marks_one [] (b ∷ answers) s t u m a h k = absurd h
marks_one (n ∷ messages) [] s t u m a h k = absurd h
marks_one (n ∷ messages) (b ∷ answers) s t u m a h k =
    ap (λ (l : List ℕ). mark_of s h.0 ++ l) (marks_one messages answers h.0 t u m a h.2 k) ∙ sym (append_assoc (mark_of s h.0) (marks_of messages h.0 answers t h.2) (mark_of t u))

frames_one : (answers : List Answer) (a : Answer) → frames_of answers ++ answer_frame a ≡ frames_of (answers ++ a ∷ [])
frames_one answers a = sym (flat_map-append answer_frame answers (a ∷ []) ∙ ap (λ (x : List ℕ). frames_of answers ++ x) (append-nil (answer_frame a)))

-- nor does one more
none_more : (answers : List Answer) (a : Answer) → NoneFailed answers → faults a ≡ 0 → NoneFailed (answers ++ a ∷ [])
none_more [] a h none = (none, tt)
none_more (b ∷ answers) a h none = (h.0, none_more answers a h.1 none)

not_none : (messages : List Message) (m : Message) → messages ++ m ∷ [] ≡ [] → ⊥
not_none [] m e = let bad : length (m ∷ []) ≡ 0 = ap length e in omega (arith, bad)
not_none (n ∷ messages) m e = let bad : length (n ∷ messages ++ m ∷ []) ≡ 0 = ap length e in omega (arith, bad)

-- no message came yet
pub going_none : (reader : Option (List ℕ)) (s : Situation) (o : Option (List ℕ)) (marks : List ℕ) → marks ≡ [] → CarriedOut reader reader s s o o marks
going_none reader s o marks none = record { told = record { messages = []; answers = []; taken = refl; answered = refl; told = nothing_more o }; none_failed = tt; marks_are = none }

module _ (reader between after : Option (List ℕ)) (s t u : Situation) (o v w : Option (List ℕ)) (marks more : List ℕ) (m : Message) (a : Answer) (h : CarriedOut reader between s t o v marks) where
  unfoldable marks_now : (answered : IsAnswered m t a u) → more ≡ marks ++ mark_of t u → more ≡ marks_of (h.told.messages ++ m ∷ []) s (h.told.answers ++ a ∷ []) u (answered_one h.told.messages h.told.answers s t u m a h.told.answered answered)
  marks_now answered is = is ∙ ap (λ (l : List ℕ). l ++ mark_of t u) h.marks_are ∙ sym (marks_one h.told.messages h.told.answers s t u m a h.told.answered answered)

  -- one message more was answered, and its answer's frame was written
  pub gathering_more : TakesMessage between m after → IsAnswered m t a u → faults a ≡ 0 → Appends v w (answer_frame a) → more ≡ marks ++ mark_of t u → CarriedOut reader after s u o w more
  gathering_more takes answered none told is = record {
    told = record {
      messages = h.told.messages ++ m ∷ [];
      answers = h.told.answers ++ a ∷ [];
      taken = taken_more h.told.messages reader between after m h.told.taken takes;
      answered = answered_one h.told.messages h.told.answers s t u m a h.told.answered answered;
      told = subst (λ (x : List ℕ). Appends o w x) (frames_one h.told.answers a) (appends_more o v w (frames_of h.told.answers) (answer_frame a) h.told.told told);
    };
    none_failed = none_more h.told.answers a h.none_failed none;
    marks_are = marks_now answered is;
  }

  -- the same where the group ends
  pub gathered_more : TakesMessage between m after → IsAnswered m t a u → faults a ≡ 0 → Appends v w (answer_frame a) → more ≡ marks ++ mark_of t u → Gathered reader after s u o w more
  unfolding gathering_more
  gathered_more takes answered none told is = record {
    gathering = gathering_more takes answered none told is;
    some = λ e. absurd (not_none h.told.messages m e);
  }

  -- the same where there was no memory for the frame
  pub gathering_some : TakesMessage between m after → IsAnswered m t a u → faults a ≡ 0 → Keeps v w → more ≡ marks ++ mark_of t u → CarriedOutSome reader after s u o w more
  gathering_some takes answered none kept is = record {
    told = record {
      messages = h.told.messages ++ m ∷ [];
      answers = h.told.answers ++ a ∷ [];
      taken = taken_more h.told.messages reader between after m h.told.taken takes;
      answered = answered_one h.told.messages h.told.answers s t u m a h.told.answered answered;
      front = subst (λ (x : List ℕ). PutsPrefix o w x) (frames_one h.told.answers a) (front_more o v w (frames_of h.told.answers) (answer_frame a) h.told.told (no_front v w (answer_frame a) kept));
      left = (h.told.answers, a, refl, appends_more o v w (frames_of h.told.answers) [] h.told.told (kept_none v w kept));
    };
    none_failed = none_more h.told.answers a h.none_failed none;
    marks_are = marks_now answered is;
  }
