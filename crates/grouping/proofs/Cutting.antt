-- Groups as runs that are cut off, one after another.
use Rattle.std.proofs.Common.{◌≡◌, ◌⊎◌, inl, inr, ℕ, ◌+◌, ◌-◌, ◌≤◌, List, [], ◌∷◌, ◌++◌, length, take, Option, Some, IsTrue, refl, sym, ap, subst, ◌∙◌, append-nil, arith}
use Rattle.std.specs.Prelude.{map, slice_get}
use Rattle.std.proofs.lemmas.List.{length-take}
use Rattle.std.proofs.Math.Seq.{take-append-add}
use Rattle.drive.specs.Journal.{Event, Once, event_blocks, held, written}
use Rattle.drive.specs.Writes.{IsTorn, unwritten}
use Rattle.drive.specs.Gathering.{Gathering}
use Rattle.drive.proofs.Fronts.{held_write}
use Rattle.drive.proofs.Once.{blocks_of-written}
use Rattle.model.specs.Session.{State, Request, after}
use Rattle.model.proofs.Lists.{get-take}
use Rattle.model.proofs.Runs.{after-append}
use Rattle.durability.specs.Commit.{need}
use Rattle.durability.specs.Formats.{Block}
use Rattle.durability.specs.Journal.{Advances, HoldsOnJournal}
use Rattle.durability.specs.Volume.{Medium, RecoversTo}
use Rattle.udf.specs.Udf.{udf, spelled_length}
use Rattle.gathering.specs.Groups.{Commit, with_marks, none_there}
use Rattle.group_losses.specs.Laws.{GroupEndures}
use Rattle.request.specs.declared.answer.Answer.{Answer}
use Rattle.request.specs.declared.message.Message.{Message}
use Rattle.engine.specs.Lives.{life_of}
use Rattle.engine.specs.Losses.{AreCut, IsRunCutShort, Life, Survives}
use Rattle.engine.specs.Served.{AllAnswered}
use Rattle.engine.specs.Situation.{Situation}
use Rattle.engine.specs.Steps.{HoldsState}
use Rattle.engine.proofs.Holding.{steps_hold}
use Rattle.engine.proofs.Lives.{answered_room, run_ended, run_lost, state_after}
use Rattle.engine.proofs.Served.{served_holds, served_withstand}
use Rattle.engine.proofs.Withstanding.{held_ended}
use Rattle.settling.specs.Phases.{two_phases}
use Rattle.grouping.specs.Groups.{StartsAt, marks_of}
use Rattle.grouping.specs.Phases.{marks_from}
use Rattle.grouping.specs.Served.{AreGroups, Group, IsLoneGroup, IsSettledGroup}
use Rattle.grouping.specs.Losses.{GroupsAreLives, IsLastLife, LivesUntil, LosesGroup, LosesGroups, first_blocks, life_in, no_life}
use Rattle.grouping.proofs.Back.{taking_back}
use Rattle.grouping.proofs.Phases.{phases_are_of_commits}
use Rattle.grouping.proofs.Withstanding.{groups_honest}
use Rattle.group_losses.proofs.Enduring.{group_survives}

-- ---- a run that ended

-- it leaves the state after what it committed, and an open store that knows it
record Ended (capacity volume : ℕ) (S : State) (before : List Event) (life : Life) (afterwards : Situation) : Type 0 where
  pub cut : IsRunCutShort capacity volume S before life afterwards.journal
  pub at : HoldsState volume (after S (cut.run.holds.committed ++ life.under)) afterwards

ended : (volume : ℕ) (S : State) (before : Situation) (messages : List Message) (answers : List Answer) (afterwards : Situation) → AllAnswered messages before answers afterwards → IsTrue afterwards.honest → HoldsState volume S before
    → Ended before.capacity volume S before.journal (life_of messages answers) afterwards
unfolding run_ended
ended volume S before messages answers afterwards all honest at =
    let run = served_holds messages before answers afterwards all volume S honest at in
    record {
      cut = run_ended before.capacity volume S before.journal afterwards.journal messages answers run;
      at = subst (λ (D : List Request). HoldsState volume (after S D) afterwards) (sym (append-nil run.holds.committed)) (state_after volume S before messages answers afterwards all honest at run);
    }

-- one life, and then others
cut_more : (capacity volume : ℕ) (S : State) (before : List Event) (life : Life) (between : List Event) (cut : IsRunCutShort capacity volume S before life between) (lives : List Life) (done : List Request) (afterwards : List Event)
    → AreCut capacity volume (after S (cut.run.holds.committed ++ life.under)) between lives done afterwards
    → AreCut capacity volume S before (life ∷ lives) ((cut.run.holds.committed ++ life.under) ++ done) afterwards
cut_more capacity volume S before life between cut lives done afterwards more = (between, cut, done, refl, more)

cut_one : (capacity volume : ℕ) (S : State) (before : List Event) (life : Life) (afterwards : List Event) → IsRunCutShort capacity volume S before life afterwards
    → (done : List Request) × AreCut capacity volume S before (life ∷ []) done afterwards
cut_one capacity volume S before life afterwards cut = ((cut.run.holds.committed ++ life.under) ++ [], cut_more capacity volume S before life afterwards cut [] [] afterwards (refl, refl))

-- ---- a group of which a torn image of the first blocks is left

torn_front : (write left : List Block) (k : ℕ) → IsTorn write left → IsTorn write (take k left)
torn_front write left k torn = record {
  short = omega (arith, length-take k left, torn.short);
  each = λ i lt.
      let here : slice_get (take k left) i ≡ slice_get left i = get-take k left i (omega (arith, lt, length-take k left)) in
      same_each i (slice_get left i) (slice_get (take k left) i) here (torn.each i (omega (arith, lt, length-take k left)));
}
  where
    same_each : (i : ℕ) (a b : Option Block) → b ≡ a → (a ≡ slice_get write i) ⊎ (a ≡ Some unwritten) → (b ≡ slice_get write i) ⊎ (b ≡ Some unwritten)
    same_each i a b same (inl is) = inl (same ∙ is)
    same_each i a b same (inr is) = inr (same ∙ is)

module _ (capacity volume : ℕ) (S : State) (before : List Event) (once : Once before) (requests : List Request) (commits : List Commit) (afterwards : List Event) (endures : GroupEndures capacity volume S before requests commits afterwards) where
  -- a prefix of it recovers the state that there was
  front_stands : (left : List Block) (found : List Event) (k : ℕ) → IsTorn (with_marks none_there commits) left → found ≡ before ++ written (length before) left → length (held before) ≤ k → RecoversTo udf capacity volume (take k (held found)) S
  front_stands left found k torn is low =
      let m : ℕ = k - length (held before) in
      let shorter : List Event = before ++ written (length before) (take m left) in
      let there : RecoversTo udf capacity volume (held shorter) S = (endures.first (take m left) shorter (torn_front (with_marks none_there commits) left m torn) refl).stands in
      let first : take k (held found) ≡ held before ++ take m left =
      ap (λ (M : Medium). take k M) (held_write before found (length before) left once refl is)
      ∙ ap (λ (n : ℕ). take n (held before ++ left)) (let sum : k ≡ length (held before) + m = omega (arith, low) in sum)
      ∙ take-append-add (held before) left m in
      subst (λ (M : Medium). RecoversTo udf capacity volume M S) (held_write before shorter (length before) (take m left) once refl refl ∙ sym first) there

  torn_advances : (left : List Block) (found : List Event) → IsTorn (with_marks none_there commits) left → found ≡ before ++ written (length before) left → Advances udf capacity volume before S found S
  torn_advances left found torn is =
      let survives : Survives capacity volume S before [] found = endures.first left found torn is in
      record {
        front = survives.front;
        once = survives.once;
        moves = record {
          more = (left, held_write before found (length before) left once refl is);
          fronts = λ k low high. front_stands left found k torn is low;
          ends = survives.stands;
          past = survives.past;
        };
      }

-- nothing came, and blocks were left that change nothing
none_cut : (volume : ℕ) (S : State) (before : Situation) (found : List Event) → HoldsState volume S before → Advances udf before.capacity volume before.journal S found S → IsRunCutShort before.capacity volume S before.journal no_life found
none_cut volume S before found at advances =
    let run : HoldsOnJournal udf (need spelled_length) before.capacity volume S before.journal before.journal [] [] = steps_hold volume [] S before [] S before at (refl, refl, refl) in
    let same : S ≡ after S run.holds.committed = held_ended volume before.capacity [] S before.journal before.journal [] S run at.stands in
    let ends : S ≡ after S (run.holds.committed ++ []) = same ∙ ap (λ (D : List Request). after S D) (sym (append-nil run.holds.committed)) in
    record {
      during = before.journal;
      run = run;
      few = inl refl;
      advances = subst (λ (T : State). Advances udf before.capacity volume before.journal T found (after S (run.holds.committed ++ []))) same
          (subst (λ (T : State). Advances udf before.capacity volume before.journal S found T) ends advances);
    }

-- the first phase of a group
first_phase_is : (volume : ℕ) (g : Group) (all : AllAnswered g.messages g.start g.answers g.afterwards) (commits : List Commit)
    → two_phases (length g.start.journal) (marks_of g.messages g.start g.answers g.afterwards all) g.afterwards.journal ≡ written (length g.start.journal) (with_marks none_there commits) ∷ marks_from (length g.start.journal) commits ∷ []
    → first_blocks (marks_of g.messages g.start g.answers g.afterwards all) g.start g.afterwards ≡ with_marks none_there commits
first_phase_is volume g all commits is = ap (λ (phases : List (List Event)). event_blocks (first_of phases)) is ∙ blocks_of-written (length g.start.journal) (with_marks none_there commits)
  where
    first_of : List (List Event) → List Event
    first_of [] = []
    first_of (J ∷ phases) = J

abbrev Is : Situation → Gathering → Group → Type 0
Is before begun g = IsSettledGroup before begun g ⊎ IsLoneGroup before begun g

-- where a group starts, the medium is as it was before it
start_journal : (before start : Situation) → StartsAt before start → start.journal ≡ before.journal
start_journal before start (inl same) = ap (λ (s : Situation). s.journal) same
start_journal before start (inr back) = back.journal

start_capacity : (before start : Situation) → StartsAt before start → start.capacity ≡ before.capacity
start_capacity before start (inl same) = ap (λ (s : Situation). s.capacity) same
start_capacity before start (inr back) = back.capacity

starts : (before : Situation) (begun : Gathering) (g : Group) → Is before begun g → StartsAt before g.start
starts before begun g (inl settled) = inl settled.starts
starts before begun g (inr lone) = lone.starts

answered : (before : Situation) (begun : Gathering) (g : Group) → Is before begun g → AllAnswered g.messages g.start g.answers g.afterwards
answered before begun g (inl settled) = settled.answered
answered before begun g (inr lone) = lone.answered

from_start : (before : Situation) (begun : Gathering) (g : Group) → Is before begun g → (volume : ℕ) (S : State) → HoldsState volume S before → HoldsState volume S g.start
from_start before begun g is volume S at = (taking_back before g.start (starts before begun g is)).1 volume S at

same_cut : (before : Situation) (begun : Gathering) (g : Group) → Is before begun g → (volume : ℕ) (S : State) (life : Life) (found : List Event) → IsRunCutShort g.start.capacity volume S g.start.journal life found → IsRunCutShort before.capacity volume S before.journal life found
same_cut before begun g is volume S life found cut =
    subst (λ (J : List Event). IsRunCutShort before.capacity volume S J life found) (start_journal before g.start (starts before begun g is))
    (subst (λ (n : ℕ). IsRunCutShort n volume S g.start.journal life found) (start_capacity before g.start (starts before begun g is)) cut)

same_ended : (before : Situation) (begun : Gathering) (g : Group) → Is before begun g → (volume : ℕ) (S : State) (life : Life) (afterwards : Situation) → Ended g.start.capacity volume S g.start.journal life afterwards → Ended before.capacity volume S before.journal life afterwards
same_ended before begun g is volume S life afterwards e =
    subst (λ (J : List Event). Ended before.capacity volume S J life afterwards) (start_journal before g.start (starts before begun g is))
    (subst (λ (n : ℕ). Ended n volume S g.start.journal life afterwards) (start_capacity before g.start (starts before begun g is)) e)

group_ended : (volume : ℕ) (S : State) (before : Situation) (begun : Gathering) (g : Group) → Is before begun g → IsTrue g.afterwards.honest → HoldsState volume S before → Ended before.capacity volume S before.journal (life_in g) g.afterwards
group_ended volume S before begun g is honest at =
    same_ended before begun g is volume S (life_in g) g.afterwards (ended volume S g.start g.messages g.answers g.afterwards (answered before begun g is) honest (from_start before begun g is volume S at))

group_capacity : (before : Situation) (begun : Gathering) (g : Group) → Is before begun g → g.afterwards.capacity ≡ before.capacity
group_capacity before begun g is = answered_room g.messages g.start g.answers g.afterwards (answered before begun g is) ∙ start_capacity before g.start (starts before begun g is)

-- ---- the one in which the power was lost

LastCut : ℕ → State → (before : Situation) (begun : Gathering) (g : Group) (is : Is before begun g) (found : List Event) → LosesGroup before begun g is found → Type 0
LastCut volume S before begun g is found loses = (life : Life) × IsLastLife before begun g is found loses life × IsRunCutShort before.capacity volume S before.journal life found

last_cut : (volume : ℕ) (S : State) (before : Situation) (begun : Gathering) (g : Group) (is : Is before begun g) (found : List Event) → IsTrue g.afterwards.honest → HoldsState volume S before
    → (loses : LosesGroup before begun g is found) → LastCut volume S before begun g is found loses
unfolding LastCut
last_cut volume S before begun g (inl settled) found honest at (inl (left, torn, is)) =
    let from : HoldsState volume S g.start = from_start before begun g (inl settled) volume S at in
    let (requests, commits, are, ends, endures) = group_survives volume g.messages S g.start g.answers g.afterwards from honest settled.answered settled.none_failed in
    let same = first_phase_is volume g settled.answered commits (phases_are_of_commits g.messages S g.start g.answers g.afterwards settled.answered requests commits are) in
    let blanks : IsTorn (with_marks none_there commits) left = subst (λ (bs : List Block). IsTorn bs left) same torn in
    (no_life, refl, same_cut before begun g (inl settled) volume S no_life found (none_cut volume S g.start found from (torn_advances g.start.capacity volume S g.start.journal from.once requests commits g.afterwards.journal endures left found blanks is)))
last_cut volume S before begun g (inl settled) found honest at (inr whole) =
    (life_in g, refl, subst (λ (J : List Event). IsRunCutShort before.capacity volume S before.journal (life_in g) J) (sym whole) (group_ended volume S before begun g (inl settled) honest at).cut)
last_cut volume S before begun g (inr lone) found honest at (inl cut) =
    let from : HoldsState volume S g.start = from_start before begun g (inr lone) volume S at in
    let (life, is, short) = run_lost volume S g.start g.messages g.answers g.afterwards lone.answered honest from (served_withstand g.messages g.start g.answers g.afterwards lone.answered) found cut in
    (life, is, same_cut before begun g (inr lone) volume S life found short)
last_cut volume S before begun g (inr lone) found honest at (inr whole) =
    (life_in g, refl, subst (λ (J : List Event). IsRunCutShort before.capacity volume S before.journal (life_in g) J) (sym whole) (group_ended volume S before begun g (inr lone) honest at).cut)

-- ---- all of them

all_ended : (volume : ℕ) (S : State) (groups : List Group) (before : Situation) (begun : Gathering) (afterwards : Situation) (ended : Gathering) (all : AreGroups groups before begun afterwards ended) → IsTrue afterwards.honest → HoldsState volume S before
    → (done : List Request) × AreCut before.capacity volume S before.journal (map life_in groups) done afterwards.journal × HoldsState volume (after S done) afterwards
all_ended volume S [] before begun afterwards ended all honest at = ([], (refl, ap (λ (s : Situation). s.journal) all.0), subst (λ (s : Situation). HoldsState volume S s) (sym all.0) at)
all_ended volume S (g ∷ groups) before begun afterwards ended all honest at =
    let e = group_ended volume S before begun g all.0 (groups_honest groups g.afterwards g.gathering afterwards ended all.1 honest) at in
    let here : List Request = e.cut.run.holds.committed ++ [] in
    let (done, cuts, there) = all_ended volume (after S here) groups g.afterwards g.gathering afterwards ended all.1 honest e.at in
    let sized = subst (λ (n : ℕ). AreCut n volume (after S here) g.afterwards.journal (map life_in groups) done afterwards.journal) (group_capacity before begun g all.0) cuts in (
      here ++ done,
      cut_more before.capacity volume S before.journal (life_in g) g.afterwards.journal e.cut (map life_in groups) done afterwards.journal sized,
      subst (λ (T : State). HoldsState volume T afterwards) (sym (after-append here done S)) there,
    )

all_until : (volume : ℕ) (S : State) (groups : List Group) (before : Situation) (begun : Gathering) (afterwards : Situation) (ended : Gathering) (all : AreGroups groups before begun afterwards ended) → IsTrue afterwards.honest → HoldsState volume S before
    → (found : List Event) (loses : LosesGroups groups before begun afterwards ended all found)
    → (lives : List Life) × LivesUntil groups before begun afterwards ended all found loses lives × (done : List Request) × AreCut before.capacity volume S before.journal lives done found
unfolding LastCut
all_until volume S [] before begun afterwards ended all honest at found loses = absurd loses
all_until volume S (g ∷ groups) before begun afterwards ended all honest at found (inl here) =
    let last : LastCut volume S before begun g all.0 found here = last_cut volume S before begun g all.0 found (groups_honest groups g.afterwards g.gathering afterwards ended all.1 honest) at here in
    until_here last
  where
    until_here : LastCut volume S before begun g all.0 found here → (lives : List Life) × LivesUntil (g ∷ groups) before begun afterwards ended all found (inl here) lives × (done : List Request) × AreCut before.capacity volume S before.journal lives done found
    until_here (life, is, cut) = let (done, cuts) = cut_one before.capacity volume S before.journal life found cut in (life ∷ [], (life, is, refl), done, cuts)
all_until volume S (g ∷ groups) before begun afterwards ended all honest at found (inr later) =
    let e = group_ended volume S before begun g all.0 (groups_honest groups g.afterwards g.gathering afterwards ended all.1 honest) at in
    let here : List Request = e.cut.run.holds.committed ++ [] in
    let (lives, until, done, cuts) = all_until volume (after S here) groups g.afterwards g.gathering afterwards ended all.1 honest e.at found later in
    let sized = subst (λ (n : ℕ). AreCut n volume (after S here) g.afterwards.journal lives done found) (group_capacity before begun g all.0) cuts in
    (life_in g ∷ lives, (lives, until, refl), here ++ done, cut_more before.capacity volume S before.journal (life_in g) g.afterwards.journal e.cut lives done found sized)

pub groups_are_lives : (groups : List Group) (before : Situation) (begun : Gathering) (afterwards : Situation) (ended : Gathering) (all : AreGroups groups before begun afterwards ended) → GroupsAreLives groups before begun afterwards ended all
groups_are_lives groups before begun afterwards ended all volume S honest at =
    (all_ended volume S groups before begun afterwards ended all honest at, λ found loses. all_until volume S groups before begun afterwards ended all honest at found loses)
