-- Groups of a stream, one more at a time.
use Rattle.std.proofs.Common.{◌≡◌, ◌⊎◌, inl, inr, ℕ, zero, suc, ◌+◌, ◌<◌, ◌≤◌, List, [], ◌∷◌, ◌++◌, length, take, Option, Some, None, Result, Ok, Err, refl, sym, ap, subst, ◌∙◌, append-nil, arith, length-append}
use Rattle.std.specs.Prelude.{OnOk, OnErr}
use Rattle.std.specs.Io.KnownBytes.{Appends, Keeps}
use Rattle.std.proofs.lemmas.Grind.{flat_map-append}
use Rattle.std.proofs.lemmas.Nat.{from_le_bytes-to_le_bytes_4}
use Rattle.drive.specs.Gathering.{Gathering}
use Rattle.request.specs.declared.answer.Answer.{Answer}
use Rattle.request.specs.declared.message.Message.{Message}
use Rattle.request.specs.Frames.{IsFirstMessage, IsFramed, IsIdle, IsOverlong, IsPartial, TakesMessage, length_at}
use Rattle.engine.specs.declared.serving.ServeFault.TheVariants as faults
use Rattle.engine.specs.Served.{AllTaken, LastUntold, frames_of}
use Rattle.engine.specs.Situation.{Situation}
use Rattle.engine.specs.Streams.{PutsPrefix}
use Rattle.engine.proofs.Messages.{appends_more, frames_append, front_more, keeps_told, last_more, left_of, nothing_more, taken_less, whole_front}
use Rattle.grouping.specs.Groups.{GroupTold, GroupUntold, IsSettled}
use Rattle.grouping.specs.Served.{Group, IsSettledGroup, IsLoneGroup, AreGroups, answers_of, messages_of}
use Rattle.grouping.specs.Streams.{Grouping, GroupingSome}

-- a prefix of a prefix is one
take_both : (a b : ℕ) (xs : List ℕ) → (m : ℕ) × (take a (take b xs) ≡ take m xs)
take_both zero b xs = (0, refl)
take_both (suc a) zero xs = (0, refl)
take_both (suc a) (suc b) [] = (0, refl)
take_both (suc a) (suc b) (x ∷ xs) = let r = take_both a b xs in (suc r.0, ap (λ (l : List ℕ). x ∷ l) r.1)

-- messages were taken, and then others
taken_append : (messages more : List Message) (reader between after : Option (List ℕ)) → AllTaken reader messages between → AllTaken between more after → AllTaken reader (messages ++ more) after
taken_append [] more reader between after h k = subst (λ (r : Option (List ℕ)). AllTaken r more after) h k
taken_append (m ∷ messages) more reader between after h k = (h.0, h.1, taken_append messages more h.0 between after h.2 k)

-- a message that was taken leaves less
taken_some : (messages : List Message) (reader after : Option (List ℕ)) → AllTaken reader messages after → left_of after ≤ left_of reader
taken_some [] reader after h = omega (arith, ap left_of h)
taken_some (m ∷ messages) reader after h = omega (arith, taken_less reader h.0 m h.1, taken_some messages h.0 after h.2)

overlong_busy : (bytes : List ℕ) → IsOverlong bytes → IsPartial bytes → ⊥
overlong_busy bytes long (inl few) = omega (arith, long.0, few)
overlong_busy bytes long (inr few) = omega (arith, long.1, few.0)

framed_busy : (bytes payload rest : List ℕ) → IsFramed bytes payload rest → IsPartial bytes → ⊥
framed_busy bytes payload rest framed partial =
    let long : length bytes ≡ 4 + (length payload + length rest) = ap length framed.whole ∙ omega (arith, length-append payload rest) in
    let at : length_at bytes ≡ length payload = ap length_at framed.whole ∙ from_le_bytes-to_le_bytes_4 (length payload) (omega (arith, framed.fits)) in
    elim partial [
      | inl short ↦ absurd (omega (arith, short, long))
      | inr more ↦ absurd (omega (arith, more.1, at, long))
    ]

busy_bytes : (bytes : List ℕ) (m : Message) (after : Option (List ℕ)) → TakesMessage (Some bytes) m after → IsPartial bytes → ⊥
busy_bytes bytes m None takes partial = overlong_busy bytes takes.0 partial
busy_bytes bytes m (Some rest) takes partial = framed_busy bytes takes.0 rest takes.1 partial

-- the reader's next message is not there where it is idle
busy : (reader : Option (List ℕ)) (m : Message) → IsFirstMessage reader m → IsIdle reader → ⊥
busy None m first idle = absurd first.1
busy (Some bytes) m first idle = absurd (busy_bytes bytes m first.0 first.1 idle)

messages_more : (groups : List Group) (g : Group) → messages_of (groups ++ g ∷ []) ≡ messages_of groups ++ g.messages
messages_more groups g = flat_map-append (λ (h : Group). h.messages) groups (g ∷ []) ∙ ap (λ (l : List Message). messages_of groups ++ l) (append-nil g.messages)

answers_more : (groups : List Group) (g : Group) → answers_of (groups ++ g ∷ []) ≡ answers_of groups ++ g.answers
answers_more groups g = flat_map-append (λ (h : Group). h.answers) groups (g ∷ []) ∙ ap (λ (l : List Answer). answers_of groups ++ l) (append-nil g.answers)

frames_more : (groups : List Group) (g : Group) → frames_of (answers_of groups) ++ frames_of g.answers ≡ frames_of (answers_of (groups ++ g ∷ []))
frames_more groups g = sym (ap frames_of (answers_more groups g) ∙ frames_append (answers_of groups) g.answers)

pub are_append : (groups more : List Group) (s : Situation) (sg : Gathering) (t : Situation) (tg : Gathering) (u : Situation) (ug : Gathering) → AreGroups groups s sg t tg → AreGroups more t tg u ug → AreGroups (groups ++ more) s sg u ug
are_append [] more s sg t tg u ug h k = subst (λ (x : Situation). AreGroups more x sg u ug) h.0 (subst (λ (y : Gathering). AreGroups more t y u ug) h.1 k)
are_append (g ∷ groups) more s sg t tg u ug h k = (h.0, are_append groups more g.afterwards g.gathering t tg u ug h.1 k)

-- ---- one group

-- a group of which each answer's frame was made
pub record One (reader after : Option (List ℕ)) (before : Situation) (begun : Gathering) (afterwards : Situation) (ended : Gathering) (made : List ℕ) : Type 0 where
  pub group : Group
  pub is : IsSettledGroup before begun group ⊎ IsLoneGroup before begun group
  pub taken : AllTaken reader group.messages after
  pub frames_are : made ≡ frames_of group.answers
  pub ends : group.afterwards ≡ afterwards
  pub gathering : group.gathering ≡ ended
  pub some : group.messages ≡ [] → IsIdle after

-- the same, but there was no memory for the last answer's frame
pub record OneSome (reader after : Option (List ℕ)) (before : Situation) (begun : Gathering) (afterwards : Situation) (ended : Gathering) (made : List ℕ) : Type 0 where
  pub group : Group
  pub is : IsSettledGroup before begun group ⊎ IsLoneGroup before begun group
  pub taken : AllTaken reader group.messages after
  pub count : ℕ
  pub frames_are : made ≡ take count (frames_of group.answers)
  pub others : List Answer
  pub last : Answer
  pub answers_are : group.answers ≡ others ++ last ∷ []
  pub made_are : made ≡ frames_of others
  pub ends : group.afterwards ≡ afterwards
  pub gathering : group.gathering ≡ ended

pub one_told : (reader after : Option (List ℕ)) (before : Situation) (begun : Gathering) (afterwards : Situation) (ended : Gathering) (held made : List ℕ) → held ≡ []
    → GroupTold reader after before begun afterwards ended (Some held) (Some made) → One reader after before begun afterwards ended made
one_told reader after before begun afterwards ended held made none (inl (marks, h, settled)) = record {
  group = record { start = before; messages = h.gathering.told.messages; answers = h.gathering.told.answers; afterwards = afterwards; gathering = ended };
  is = inl (record {
    starts = refl;
    answered = h.gathering.told.answered;
    none_failed = h.gathering.none_failed;
    settled = subst (λ (l : List ℕ). IsSettled l before afterwards begun ended) h.gathering.marks_are settled;
  });
  taken = h.gathering.told.taken;
  frames_are = h.gathering.told.told ∙ ap (λ (l : List ℕ). l ++ frames_of h.gathering.told.answers) none;
  ends = refl;
  gathering = refl;
  some = h.some;
}
one_told reader after before begun afterwards ended held made none (inr (start, starts, alone, told, idle)) = record {
  group = record { start = start; messages = told.messages; answers = told.answers; afterwards = afterwards; gathering = ended };
  is = inr (record { starts = starts; alone = alone; answered = told.answered });
  taken = told.taken;
  frames_are = told.told ∙ ap (λ (l : List ℕ). l ++ frames_of told.answers) none;
  ends = refl;
  gathering = refl;
  some = λ e. idle;
}

pub one_untold : (reader after : Option (List ℕ)) (before : Situation) (begun : Gathering) (afterwards : Situation) (ended : Gathering) (held made : List ℕ) → held ≡ []
    → GroupUntold reader after before begun afterwards ended (Some held) (Some made) → OneSome reader after before begun afterwards ended made
one_untold reader after before begun afterwards ended held made none (inl (marks, h, settled)) = record {
  group = record { start = before; messages = h.told.messages; answers = h.told.answers; afterwards = afterwards; gathering = ended };
  is = inl (record {
    starts = refl;
    answered = h.told.answered;
    none_failed = h.none_failed;
    settled = subst (λ (l : List ℕ). IsSettled l before afterwards begun ended) h.marks_are settled;
  });
  taken = h.told.taken;
  count = h.told.front.0;
  frames_are = h.told.front.1 ∙ ap (λ (l : List ℕ). l ++ take h.told.front.0 (frames_of h.told.answers)) none;
  others = h.told.left.0;
  last = h.told.left.1;
  answers_are = h.told.left.2;
  made_are = h.told.left.3 ∙ ap (λ (l : List ℕ). l ++ (frames_of h.told.left.0 ++ [])) none ∙ append-nil (frames_of h.told.left.0);
  ends = refl;
  gathering = refl;
}
one_untold reader after before begun afterwards ended held made none (inr (start, starts, alone, told)) = record {
  group = record { start = start; messages = told.messages; answers = told.answers; afterwards = afterwards; gathering = ended };
  is = inr (record { starts = starts; alone = alone; answered = told.answered });
  taken = told.taken;
  count = told.front.0;
  frames_are = told.front.1 ∙ ap (λ (l : List ℕ). l ++ take told.front.0 (frames_of told.answers)) none;
  others = told.left.0;
  last = told.left.1;
  answers_are = told.left.2;
  made_are = told.left.3 ∙ ap (λ (l : List ℕ). l ++ (frames_of told.left.0 ++ [])) none ∙ append-nil (frames_of told.left.0);
  ends = refl;
  gathering = refl;
}

-- it takes a message where one is there
pub one_less : (reader after : Option (List ℕ)) (before : Situation) (begun : Gathering) (afterwards : Situation) (ended : Gathering) (made : List ℕ) (m : Message) → IsFirstMessage reader m → One reader after before begun afterwards ended made → left_of after < left_of reader
one_less reader after before begun afterwards ended made m first one = some_taken one.group.messages reader after m first one.taken one.some
  where
    some_taken : (messages : List Message) (reader after : Option (List ℕ)) (m : Message) → IsFirstMessage reader m → AllTaken reader messages after → (messages ≡ [] → IsIdle after) → left_of after < left_of reader
    some_taken [] reader after m first taken idle = absurd (busy reader m first (subst IsIdle taken (idle refl)))
    some_taken (n ∷ messages) reader after m first taken idle = omega (arith, taken_less reader taken.0 n taken.1, taken_some messages taken.0 after taken.2)

-- ---- groups of the messages that are there

pub grouping_none : (reader : Option (List ℕ)) (s : Situation) (sg : Gathering) (o : Option (List ℕ)) → Grouping reader reader s sg s sg o o
grouping_none reader s sg o = record { groups = []; taken = refl; are = (refl, refl); told = nothing_more o }

module _ (reader between after : Option (List ℕ)) (s : Situation) (sg : Gathering) (t : Situation) (tg : Gathering) (u : Situation) (ug : Gathering) (o v w : Option (List ℕ)) (made : List ℕ) (h : Grouping reader between s sg t tg o v) where
  taken_one : (g : Group) → AllTaken between g.messages after → AllTaken reader (messages_of (h.groups ++ g ∷ [])) after
  taken_one g taken = subst (λ (l : List Message). AllTaken reader l after) (sym (messages_more h.groups g)) (taken_append (messages_of h.groups) g.messages reader between after h.taken taken)

  are_one : (g : Group) → IsSettledGroup t tg g ⊎ IsLoneGroup t tg g → g.afterwards ≡ u → g.gathering ≡ ug → AreGroups (h.groups ++ g ∷ []) s sg u ug
  are_one g is ends gathering = are_append h.groups (g ∷ []) s sg t tg u ug h.are (is, (sym ends, sym gathering))

  -- a group more was answered, and its answers' frames were written
  pub grouping_more : One between after t tg u ug made → Appends v w made → Grouping reader after s sg u ug o w
  grouping_more one told = record {
    groups = h.groups ++ one.group ∷ [];
    taken = taken_one one.group one.taken;
    are = are_one one.group one.is one.ends one.gathering;
    told = subst (λ (l : List ℕ). Appends o w l) (frames_more h.groups one.group) (appends_more o v w (frames_of (answers_of h.groups)) (frames_of one.group.answers) h.told (subst (λ (l : List ℕ). Appends v w l) one.frames_are told));
  }

  front_one : (g : Group) → PutsPrefix v w (frames_of g.answers) → PutsPrefix o w (frames_of (answers_of (h.groups ++ g ∷ [])))
  front_one g front = subst (λ (l : List ℕ). PutsPrefix o w l) (frames_more h.groups g) (front_more o v w (frames_of (answers_of h.groups)) (frames_of g.answers) h.told front)

  cut_one : (g : Group) → IsSettledGroup t tg g ⊎ IsLoneGroup t tg g → AllTaken between g.messages after → g.afterwards ≡ u → g.gathering ≡ ug → PutsPrefix v w (frames_of g.answers) → GroupingSome faults.Write reader after s sg u ug o w
  cut_one g is taken ends gathering front = record {
    groups = h.groups ++ g ∷ [];
    taken = taken_one g taken;
    are = are_one g is ends gathering;
    front = front_one g front;
    left = inr (front.0, (h.groups, g, refl, appends_more o v w (frames_of (answers_of h.groups)) (take front.0 (frames_of g.answers)) h.told front.1));
  }

  -- or a write of them failed
  pub grouping_cut : One between after t tg u ug made → PutsPrefix v w made → GroupingSome faults.Write reader after s sg u ug o w
  grouping_cut one front = cut_one one.group one.is one.taken one.ends one.gathering (subst (λ (l : List ℕ). PutsPrefix v w l) one.frames_are front)

  pub grouping_cut_some : OneSome between after t tg u ug made → PutsPrefix v w made → GroupingSome faults.Write reader after s sg u ug o w
  grouping_cut_some one front =
      cut_one one.group one.is one.taken one.ends one.gathering
      (let both = take_both front.0 one.count (frames_of one.group.answers) in
      (both.0, subst (λ (l : List ℕ). Appends v w l) (ap (λ (l : List ℕ). take front.0 l) one.frames_are ∙ both.1) front.1))

  -- or there was no memory for the last one
  pub grouping_some : OneSome between after t tg u ug made → Appends v w made → GroupingSome faults.Memory reader after s sg u ug o w
  grouping_some one told = record {
    groups = h.groups ++ one.group ∷ [];
    taken = taken_one one.group one.taken;
    are = are_one one.group one.is one.ends one.gathering;
    front = front_one one.group (one.count, subst (λ (l : List ℕ). Appends v w l) one.frames_are told);
    left = subst (λ (l : List Answer). LastUntold l 0 o w) (sym (answers_more h.groups one.group))
        (last_more (answers_of h.groups) one.group.answers 0 o v w h.told (one.others, one.last, one.answers_are, subst (λ (l : List ℕ). Appends v w l) (one.made_are ∙ sym (append-nil (frames_of one.others))) told));
  }

-- the writer kept what it held, and failed
pub grouping_kept : (reader after later : Option (List ℕ)) (s : Situation) (sg : Gathering) (t : Situation) (tg : Gathering) (o v w : Option (List ℕ)) → later ≡ after → IsIdle after → Grouping reader after s sg t tg o v → Keeps v w → GroupingSome faults.Write reader later s sg t tg o w
grouping_kept reader after later s sg t tg o v w e idle h k =
    let told : Appends o w (frames_of (answers_of h.groups)) = keeps_told o v w (frames_of (answers_of h.groups)) h.told k in
    record {
      groups = h.groups;
      taken = subst (λ (r : Option (List ℕ)). AllTaken reader (messages_of h.groups) r) (sym e) h.taken;
      are = h.are;
      front = whole_front o w (frames_of (answers_of h.groups)) told;
      left = inl (subst IsIdle (sym e) idle, told);
    }

-- or wrote all
pub grouping_flushed : (reader after : Option (List ℕ)) (s : Situation) (sg : Gathering) (t : Situation) (tg : Gathering) (o v w : Option (List ℕ)) → Grouping reader after s sg t tg o v → Keeps v w → Grouping reader after s sg t tg o w
grouping_flushed reader after s sg t tg o v w h k = record { groups = h.groups; taken = h.taken; are = h.are; told = keeps_told o v w (frames_of (answers_of h.groups)) h.told k }

-- a write of a group's answers failed, whether or not there was memory for each frame
pub cut_by : {E : Type 0} (r : Result (Unit {0}) E) (reader between after : Option (List ℕ)) (s : Situation) (sg : Gathering) (t : Situation) (tg : Gathering) (u : Situation) (ug : Gathering) (o v w : Option (List ℕ)) (held made : List ℕ) → held ≡ []
    → Grouping reader between s sg t tg o v
    → OnOk r (GroupTold between after t tg u ug (Some held) (Some made))
    → OnErr r (GroupUntold between after t tg u ug (Some held) (Some made))
    → PutsPrefix v w made → GroupingSome faults.Write reader after s sg u ug o w
cut_by (Ok x) reader between after s sg t tg u ug o v w held made none h told untold front =
    grouping_cut reader between after s sg t tg u ug o v w made h (one_told between after t tg u ug held made none told) front
cut_by (Err e) reader between after s sg t tg u ug o v w held made none h told untold front =
    grouping_cut_some reader between after s sg t tg u ug o v w made h (one_untold between after t tg u ug held made none untold) front
