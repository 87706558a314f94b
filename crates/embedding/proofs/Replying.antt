-- Messages were answered, and their answers wait.
use Rattle.std.proofs.Common.{◌≡◌, ◌⊎◌, inl, inr, ℕ, ◌≤◌, Bool, true, false, List, [], ◌∷◌, ◌++◌, length, drop, Option, Some, refl, sym, ap, subst, ◌∙◌}
use Rattle.std.proofs.lemmas.List.{append-nil, drop-append-le}
use Rattle.drive.specs.Gathering.{Gathering, waits_never}
use Rattle.request.specs.declared.answer.Answer.{Answer}
use Rattle.request.specs.declared.message.Message.{Message}
use Rattle.request.specs.Frames.{IsIdle}
use Rattle.settling.specs.Phases.{two_phases}
use Rattle.engine.specs.Situation.{Situation}
use Rattle.engine.specs.Served.{AllAnswered, AllTaken, Answering, AnswersSome, LeftAt, frames_of}
use Rattle.engine.specs.declared.serving.ServeFault.TheVariants as stops
use Rattle.engine.proofs.Lives.{answered_room}
use Rattle.grouping.specs.Groups.{IsAlone, StartsAt}
use Rattle.grouping.specs.Served.{AreGroups, Group, IsLoneGroup, IsSettledGroup, answers_of, messages_of}
use Rattle.grouping.specs.Streams.{Grouping, GroupingSome, LeftIn}
use Rattle.grouping.proofs.Cutting.{groups_are_lives}
use Rattle.grouping.proofs.Running.{groups_run}
use Rattle.grouping.proofs.Withstanding.{groups_withstand}
use Rattle.embedding.specs.declared.medium.Medium.{Medium}
use Rattle.embedding.specs.declared.medium.Medium.TheVariants.{Image, InOrder, Memory}
use Rattle.embedding.specs.Media.{gathering_on, in_groups}
use Rattle.embedding.specs.Replies.{AnsweredBy, AnsweredSomeBy, AnswersInRun, Replies, RepliesButLast}

-- ---- groups

start_room : (before start : Situation) → StartsAt before start → start.capacity ≡ before.capacity
start_room before start (inl same) = ap (λ (s : Situation). s.capacity) same
start_room before start (inr back) = back.capacity

group_room : (before : Situation) (begun : Gathering) (g : Group) → IsSettledGroup before begun g ⊎ IsLoneGroup before begun g → g.afterwards.capacity ≡ before.capacity
group_room before begun g (inl settled) = answered_room g.messages g.start g.answers g.afterwards settled.answered ∙ ap (λ (s : Situation). s.capacity) settled.starts
group_room before begun g (inr lone) = answered_room g.messages g.start g.answers g.afterwards lone.answered ∙ start_room before g.start lone.starts

-- a medium has as much room after them
pub groups_room : (groups : List Group) (before : Situation) (begun : Gathering) (afterwards : Situation) (ended : Gathering) → AreGroups groups before begun afterwards ended → afterwards.capacity ≡ before.capacity
groups_room [] before begun afterwards ended same = ap (λ (s : Situation). s.capacity) same.0
groups_room (g ∷ groups) before begun afterwards ended all = groups_room groups g.afterwards g.gathering afterwards ended all.1 ∙ group_room before begun g all.0

abbrev in_run : (grouped : Bool) (reader after : Option (List ℕ)) (before : Situation) (begun : Gathering) (afterwards : Situation) (ended : Gathering) (groups : List Group) → AllTaken reader (messages_of groups) after → AreGroups groups before begun afterwards ended
    → (grouped ≡ false → (g : Group) × (groups ≡ g ∷ []) × (g.start ≡ before)) → AnswersInRun grouped reader after before begun afterwards ended
in_run grouped reader after before begun afterwards ended groups taken are single = record {
  groups = groups;
  taken = taken;
  are = are;
  single = single;
  run = groups_run groups before begun afterwards ended are;
  withstands = groups_withstand groups before begun afterwards ended are;
  lives = groups_are_lives groups before begun afterwards ended are;
}

never_single : {X : Type 0} → ◌≡◌ {A = Bool} true false → X
never_single bad = absurd (cc)

-- where each write is on the disk when it returns, no write waited
alone_here : (before : Situation) → IsAlone before before waits_never waits_never
alone_here before = record {
  waited = refl;
  tried = [];
  marks = [];
  given = record { given = []; rest = two_phases (length before.journal) [] (before.journal ++ []); order = refl; all = refl };
  gathers = refl;
}

-- messages that were answered one by one, as a group
abbrev single_of : (before : Situation) (messages : List Message) (answers : List Answer) (afterwards : Situation) → Group
single_of before messages answers afterwards = record { start = before; messages = messages; answers = answers; afterwards = afterwards; gathering = waits_never }

single_run : (reader after : Option (List ℕ)) (before afterwards : Situation) (messages : List Message) (answers : List Answer) → AllTaken reader messages after → AllAnswered messages before answers afterwards
    → (run : AnswersInRun false reader after before waits_never afterwards waits_never) × (answers_of run.groups ≡ answers)
single_run reader after before afterwards messages answers taken answered =
    let g = single_of before messages answers afterwards in (
      in_run false reader after before waits_never afterwards waits_never (g ∷ []) (subst (λ (l : List Message). AllTaken reader l after) (sym (append-nil messages)) taken)
          (inr (record { starts = inl refl; alone = alone_here before; answered = answered }), (refl, refl)) (λ one_by_one. (g, refl, refl)),
      append-nil answers,
    )

-- ---- what waits then

module _ (reader after : Option (List ℕ)) (before afterwards : Situation) (xs ys : List ℕ) (taken : ℕ) (within : taken ≤ length xs) where
  waits_for : (answers : List Answer) → ys ≡ xs ++ frames_of answers → drop taken ys ≡ drop taken xs ++ frames_of answers
  waits_for answers told = ap (λ (l : List ℕ). drop taken l) told ∙ drop-append-le taken xs (frames_of answers) within

  grouped_replies : (begun ended : Gathering) → Grouping reader after before begun afterwards ended (Some xs) (Some ys) → IsIdle after → Replies true reader after before begun afterwards ended (drop taken xs) (drop taken ys)
  grouped_replies begun ended h idle = record {
    all = in_run true reader after before begun afterwards ended h.groups h.taken h.are never_single;
    idle = idle;
    told = waits_for (answers_of h.groups) h.told;
  }

  single_replies : Answering reader after before afterwards (Some xs) (Some ys) → IsIdle after → Replies false reader after before waits_never afterwards waits_never (drop taken xs) (drop taken ys)
  single_replies h idle =
      let one = single_run reader after before afterwards h.messages h.answers h.taken h.answered in
      record {
        all = one.0;
        idle = idle;
        told = waits_for (answers_of one.0.groups) (h.told ∙ ap (λ (a : List Answer). xs ++ frames_of a) (sym one.1));
      }

  grouped_but_last : (begun ended : Gathering) → GroupingSome stops.Memory reader after before begun afterwards ended (Some xs) (Some ys) → RepliesButLast true reader after before begun afterwards ended (drop taken xs) (drop taken ys)
  grouped_but_last begun ended h =
      let lost : LeftIn stops.Memory h.groups after (Some xs) (Some ys) = h.left in
      record {
        all = in_run true reader after before begun afterwards ended h.groups h.taken h.are never_single;
        others = lost.0;
        lost = lost.1;
        answers_are = lost.2;
        told = waits_for lost.0 (lost.3 ∙ ap (λ (l : List ℕ). xs ++ l) (append-nil (frames_of lost.0)));
      }

  single_but_last : AnswersSome stops.Memory reader after before afterwards (Some xs) (Some ys) → RepliesButLast false reader after before waits_never afterwards waits_never (drop taken xs) (drop taken ys)
  single_but_last h =
      let one = single_run reader after before afterwards h.messages h.answers h.taken h.answered in
      let lost : LeftAt stops.Memory h.answers after (Some xs) (Some ys) = h.left in
      record {
        all = one.0;
        others = lost.0;
        lost = lost.1;
        answers_are = one.1 ∙ lost.2;
        told = waits_for lost.0 (lost.3 ∙ ap (λ (l : List ℕ). xs ++ l) (append-nil (frames_of lost.0)));
      }

  -- by the medium
  pub replies : (old new : Medium) → in_groups new ≡ in_groups old → AnsweredBy (in_groups old) reader after before (gathering_on old) afterwards (gathering_on new) (Some xs) (Some ys) → IsIdle after
      → Replies (in_groups old) reader after before (gathering_on old) afterwards (gathering_on new) (drop taken xs) (drop taken ys)
  replies (Image d) new same h idle = grouped_replies (gathering_on (Image d)) (gathering_on new) h idle
  replies (InOrder d) (Image e) same h idle = never_single same
  replies (InOrder d) (InOrder e) same h idle = single_replies h idle
  replies (InOrder d) (Memory e) same h idle = single_replies h idle
  replies (Memory d) (Image e) same h idle = never_single same
  replies (Memory d) (InOrder e) same h idle = single_replies h idle
  replies (Memory d) (Memory e) same h idle = single_replies h idle

  pub replies_but_last : (old new : Medium) → in_groups new ≡ in_groups old → AnsweredSomeBy (in_groups old) reader after before (gathering_on old) afterwards (gathering_on new) (Some xs) (Some ys)
      → RepliesButLast (in_groups old) reader after before (gathering_on old) afterwards (gathering_on new) (drop taken xs) (drop taken ys)
  replies_but_last (Image d) new same h = grouped_but_last (gathering_on (Image d)) (gathering_on new) h
  replies_but_last (InOrder d) (Image e) same h = never_single same
  replies_but_last (InOrder d) (InOrder e) same h = single_but_last h
  replies_but_last (InOrder d) (Memory e) same h = single_but_last h
  replies_but_last (Memory d) (Image e) same h = never_single same
  replies_but_last (Memory d) (InOrder e) same h = single_but_last h
  replies_but_last (Memory d) (Memory e) same h = single_but_last h
