-- Processes over the same media, one after another, are runs of which each begins on what the one before it left.
use Rattle.std.proofs.Common.{◌≡◌, inl, inr, ℕ, zero, suc, ◌<◌, Bool, true, false, List, [], ◌∷◌, ◌++◌, length, take, drop, Option, Some, None, Result, Ok, Err, IsTrue, refl, sym, ap, ◌∙◌, subst, arith, append-nil}
use Rattle.std.specs.Prelude.{bytes_eq, map}
use Rattle.std.proofs.Math.Seq.{take-append_seam}
use Rattle.std.proofs.lemmas.Option.{none-some}
use Rattle.std.proofs.lemmas.List.{append_cancel_left, drop_all}
use Rattle.limits.specs.declared.TheConstants.{GREATEST_CAPACITY}
use Rattle.drive.specs.Gathering.{Gathering, waits_never}
use Rattle.drive.specs.Journal.{Event, Once, held, next_of, written}
use Rattle.drive.specs.Reads.{CountsFailures}
use Rattle.drive.specs.Writes.{IsLeft}
use Rattle.media.specs.Held.{SameOrMade, initial_journal}
use Rattle.model.specs.Session.{State, Request, after}
use Rattle.model.proofs.Lists.{bytes_cases}
use Rattle.model.specs.Tree as tree
use Rattle.durability.specs.Volume.{RecoversTo}
use Rattle.durability.proofs.Lists.{side}
use Rattle.udf.specs.Udf.{udf}
use Rattle.formatting.specs.NewVolume.{Words, HoldsPrefixes, IsFormatOf, IsFormatted, IsFormatRefused, words_on}
use Rattle.formatting.specs.NewVolume as new_volumes
use Rattle.formatting.proofs.NewVolumes.{format_long}
use Rattle.recover.specs.declared.fault.StoreFault.{StoreFault}
use Rattle.recover.specs.declared.fault.StoreFault.TheVariants as stores
use Rattle.engine.specs.Losses.{AreCut, IsLost, Life, Survives}
use Rattle.engine.specs.Served.{frames_of}
use Rattle.engine.specs.Situation.{Situation, situation, with_store}
use Rattle.engine.specs.Steps.{HoldsState}
use Rattle.engine.specs.declared.serving.ServeFault.TheVariants as streams
use Rattle.engine.proofs.Lives.{cuts_join}
use Rattle.engine.proofs.Losses.{losses_reach}
use Rattle.engine.proofs.Running.{runs_begin}
use Rattle.grouping.specs.Losses.{GroupsAreLives, life_in}
use Rattle.grouping.specs.Served.{AreGroups, Group, answers_of}
use Rattle.programs.specs.declared.fault.Fault.{Fault}
use Rattle.programs.specs.declared.fault.Fault.TheVariants.{Usage, Path, Socket, Store, Stream}
use Rattle.programs.specs.Applied.{AppliesInGroups, AppliesToImage}
use Rattle.programs.specs.CutShort.{CutOnMedia, IsTaskCut, LosesApply, LosesDaemon, LosesFormat, LosesReading, LosesServing}
use Rattle.programs.specs.Images.{AreUntouched, Images, IsThere, IsThereOrMade, OnMedia, Unopened}
use Rattle.programs.specs.Listening.{Heard, ServesEach}
use Rattle.programs.specs.NewVolumes.{MakesVolume, MakesOn, MakesOnImage}
use Rattle.programs.specs.Processes.{AllDid, AllRan, AnswersInput, AreLivesCut, Did, Process, ProcessesAreRuns, Ran, RanCommand, RanUntil}
use Rattle.programs.specs.Processes.Process.{Command, CutCommand, CutDaemon, Daemon}
use Rattle.programs.specs.Questions.{Question, PrintsAnswer, ShowsImage, ShowsPath}
use Rattle.programs.specs.Questions.Question.{Names_at, Bytes_at, Commits, Soundness}
use Rattle.programs.specs.Status.{drive_failures}
use Rattle.programs.specs.Tasks.{IsTaskDone, Task}
use Rattle.programs.specs.Tasks.Task.{Format, Apply_to_image, Apply_in_memory, List_names, Get_bytes, Log, Check, Send}
use Rattle.programs.proofs.Copying.{whole_front}

-- ---- honest media were honest before

module _ (old new : Images) (honest : IsTrue new.honest) where
  untouched_honest : AreUntouched old new → IsTrue old.honest
  untouched_honest h = subst (λ (b : Bool). IsTrue b) h.honest honest

  image_honest : {T : Type 0} (question : Question) (image : List ℕ) (outcome : Result T Fault) (o w : Option (List ℕ)) → ShowsImage question image outcome old new o w → IsTrue old.honest
  image_honest question image outcome o w (inl h) = untouched_honest h.untouched
  image_honest question image outcome o w (inr h) = h.honest honest

  path_honest : {T : Type 0} (question : tree.Path → Question) (image text : List ℕ) (outcome : Result T Fault) (o w : Option (List ℕ)) → ShowsPath question image text outcome old new o w → IsTrue old.honest
  path_honest question image text outcome o w (inl h) = untouched_honest h.1
  path_honest question image text outcome o w (inr h) = image_honest (question h.0) image outcome o w h.3

  makes_honest : {T : Type 0} (image label : List ℕ) (moment capacity : ℕ) (outcome : Result T Fault) (o w : Option (List ℕ)) → MakesOnImage image label moment capacity outcome old new o w → IsTrue old.honest
  makes_honest image label moment capacity outcome o w (inl h) = subst (λ (b : Bool). IsTrue b) h.made.honest honest
  makes_honest image label moment capacity outcome o w (inr h) = h.honest honest

  applies_honest : {T : Type 0} (image : List ℕ) (outcome : Result T Fault) (i l o w : Option (List ℕ)) → AppliesToImage image outcome old new i l o w → IsTrue old.honest
  applies_honest image outcome i l o w (inl h) = untouched_honest h.0.untouched
  applies_honest image outcome i l o w (inr h) = h.honest honest

  does_honest : {T : Type 0} (task : Task) (outcome : Result T Fault) (i l o w : Option (List ℕ)) → IsTaskDone task outcome old new i l o w → IsTrue old.honest
  does_honest (Format image label moment capacity) outcome i l o w h = makes_honest image label moment capacity outcome o w h.1
  does_honest (Apply_to_image image) outcome i l o w h = applies_honest image outcome i l o w h
  does_honest (Apply_in_memory capacity) outcome i l o w h = untouched_honest h.0
  does_honest (List_names image path) outcome i l o w h = path_honest Names_at image path outcome o w h.1
  does_honest (Get_bytes image path) outcome i l o w h = path_honest Bytes_at image path outcome o w h.1
  does_honest (Log image) outcome i l o w h = image_honest Commits image outcome o w h.1
  does_honest (Check image) outcome i l o w h = image_honest Soundness image outcome o w h.1
  does_honest Send outcome i l o w h = untouched_honest h.0

  cut_honest : (task : Task) (i l o w : Option (List ℕ)) → IsTaskCut task old new i l o w → IsTrue old.honest
  cut_honest (Format image label moment capacity) i l o w h = h.honest honest
  cut_honest (Apply_to_image image) i l o w h = h.honest honest
  cut_honest (Apply_in_memory capacity) i l o w h = untouched_honest h
  cut_honest (List_names image path) i l o w h = h.honest honest
  cut_honest (Get_bytes image path) i l o w h = h.honest honest
  cut_honest (Log image) i l o w h = h.honest honest
  cut_honest (Check image) i l o w h = h.honest honest
  cut_honest Send i l o w h = untouched_honest h

  did_honest : (process : Process) → Did process old new → IsTrue old.honest
  did_honest (Command task outcome i l o w) h = does_honest task outcome i l o w h
  did_honest (Daemon image connections before afterwards) h = h.honest honest
  did_honest (CutCommand task i l o w) h = cut_honest task i l o w h
  did_honest (CutDaemon image before afterwards) h = h.honest honest

pub all_honest : (processes : List Process) (old new : Images) → IsTrue new.honest → AllDid processes old new → IsTrue old.honest
all_honest [] old new honest h = untouched_honest old new honest h
all_honest (process ∷ processes) old new honest (between, did, rest) = did_honest old between (all_honest processes between new honest rest) process did

-- ---- one process, where a state is recovered on an image

-- what it left of the image at a path, by runs of which this is known
record Left (path : List ℕ) (volume : ℕ) (S : State) (before : List Event) (new : Images) (Are : List Life → Type 0) : Type 0 where
  pub lives : List Life
  pub done : List Request
  pub afterwards : List Event
  pub are : Are lives
  pub cuts : AreCut GREATEST_CAPACITY volume S before lives done afterwards
  pub held_is : new.held path ≡ Some afterwards

some_same : (a b : List Event) → Some a ≡ Some b → a ≡ b
some_same a b e = ap initial_journal e

-- A format finds nothing to write where a state is recovered: nothing is recovered before the last of its blocks.
module _ (capacity volume : ℕ) (words : Words) (S : State) (before afterwards : List Event) (blocks : List (List ℕ)) (stands : RecoversTo udf GREATEST_CAPACITY volume (held before) S) (is : IsFormatOf words blocks) (fronts : HoldsPrefixes capacity words blocks before afterwards) (front : take (length before) afterwards ≡ before) where
  none_left : drop (next_of before) blocks ≡ []
  none_left = elim (side (next_of before) 262) [
    | inl low ↦ absurd (fronts.nothing (length before) GREATEST_CAPACITY volume S (omega arith) (subst (λ (j : List Event). next_of j < 262) (sym front) low) (subst (λ (j : List Event). RecoversTo udf GREATEST_CAPACITY volume (held j) S) (sym front) stands))
    | inr most ↦ drop_all (next_of before) blocks (omega (arith, most, format_long words blocks is))
  ]

  nothing_taken : (m : ℕ) → before ++ written (next_of before) (take m []) ≡ before
  nothing_taken zero = append-nil before
  nothing_taken (suc m) = append-nil before

  same_with : (m : ℕ) → before ++ written (next_of before) (take m (drop (next_of before) blocks)) ≡ before
  same_with m = ap (λ (bs : List (List ℕ)). before ++ written (next_of before) (take m bs)) none_left ∙ nothing_taken m

module _ (capacity volume : ℕ) (words : Words) (S : State) (before afterwards : List Event) (honest : Bool) (stands : RecoversTo udf GREATEST_CAPACITY volume (held before) S) (sure : IsTrue honest) where
  formatted_same : IsFormatted capacity words before afterwards honest → afterwards ≡ before
  formatted_same h =
      let front : take (length before) afterwards ≡ before = ap (λ (j : List Event). take (length before) j) h.journal ∙ take-append_seam before (written (next_of before) (drop (next_of before) h.blocks)) in
      h.journal ∙ ap (λ (bs : List (List ℕ)). before ++ written (next_of before) bs) (none_left capacity volume words S before afterwards h.blocks stands h.is (h.fronts sure) front) ∙ append-nil before

  cut_same : new_volumes.IsFormatCutShort capacity words before afterwards honest → afterwards ≡ before
  cut_same h =
      let added : List Event = written (next_of before) (take h.journal.0 (drop (next_of before) h.blocks)) in
      let front : take (length before) afterwards ≡ before = ap (λ (j : List Event). take (length before) j) h.journal.2 ∙ take-append_seam before added in
      h.journal.2 ∙ same_with capacity volume words S before afterwards h.blocks stands h.is (h.fronts sure) front h.journal.0

  refused_same : (fault : StoreFault) → IsFormatRefused capacity words before afterwards honest fault → afterwards ≡ before
  refused_same stores.NotBlank h = h.0
  refused_same stores.Label h = h
  refused_same stores.Small h = h
  refused_same stores.Memory h = h
  refused_same stores.Device (inl h) = h
  refused_same stores.Device (inr h) = cut_same h
  refused_same stores.NotFormatted h = absurd h
  refused_same (stores.Damaged block cause) h = absurd h
  refused_same stores.Full h = absurd h
  refused_same stores.Stopped h = absurd h
  refused_same stores.NoCommit h = absurd h
  refused_same stores.NotFound h = absurd h
  refused_same stores.IsDirectory h = absurd h
  refused_same stores.NotDirectory h = absurd h
  refused_same stores.TooLong h = absurd h

makes_none : {T : Type 0} (label : List ℕ) (moment capacity : ℕ) (outcome : Result T Fault) (before afterwards : List Event) (honest : Bool) (o w : Option (List ℕ)) (volume : ℕ) (S : State) → RecoversTo udf GREATEST_CAPACITY volume (held before) S → IsTrue honest
    → MakesVolume label moment capacity outcome before afterwards honest o w → afterwards ≡ before
makes_none label moment capacity (Ok x) before afterwards honest o w volume S stands sure h = formatted_same capacity volume (words_on capacity label moment) S before afterwards honest stands sure h.0
makes_none label moment capacity (Err Usage) before afterwards honest o w volume S stands sure h = absurd h
makes_none label moment capacity (Err Path) before afterwards honest o w volume S stands sure h = absurd h
makes_none label moment capacity (Err Socket) before afterwards honest o w volume S stands sure h = absurd h
makes_none label moment capacity (Err (Store fault)) before afterwards honest o w volume S stands sure h = refused_same capacity volume (words_on capacity label moment) S before afterwards honest stands sure fault h.0
makes_none label moment capacity (Err (Stream streams.Read)) before afterwards honest o w volume S stands sure h = absurd h
makes_none label moment capacity (Err (Stream streams.Write)) before afterwards honest o w volume S stands sure h = formatted_same capacity volume (words_on capacity label moment) S before afterwards honest stands sure h.0
makes_none label moment capacity (Err (Stream streams.Memory)) before afterwards honest o w volume S stands sure h = absurd h

-- a power loss loses nothing of what made no write
lost_same : (before next : Situation) (lost : List Event) → next.writes ≡ before.writes → IsLost before next lost → lost ≡ before.journal
lost_same before next lost same l =
    let none : [] ≡ l.added = append_cancel_left before.writes [] l.added (append-nil before.writes ∙ sym same ∙ l.are) in
    let empty : l.left ≡ [] = subst (λ (ws : List (List (List ℕ))). IsLeft ws l.left) (sym none) l.is_left in
    l.lost_is ∙ ap (λ (bs : List (List ℕ)). before.journal ++ written (length before.journal) bs) empty ∙ append-nil before.journal

-- a format makes none where a state stands
format_lost : (label : List ℕ) (moment capacity : ℕ) (before next : Situation) (lost : List Event) (volume : ℕ) (S : State) → RecoversTo udf GREATEST_CAPACITY volume (held before.journal) S → IsTrue next.honest
    → LosesFormat label moment capacity before next lost → lost ≡ before.journal
format_lost label moment capacity before next lost volume S stands sure (survives, loses) = elim survives.torn [
  | inl none ↦ lost_same before next lost (survives.writes_are ∙ ap (λ (ws : List (List (List ℕ))). before.writes ++ ws) none ∙ append-nil before.writes) loses
  | inr torn ↦ absurd ((torn sure).0 GREATEST_CAPACITY volume S stands)
]

-- the groups of an input that were answered, on an image where a state is recovered
record Run (volume : ℕ) (S : State) (before afterwards : List Event) (Are : List Group → Type 0) : Type 0 where
  pub groups : List Group
  pub are : Are groups
  pub done : List Request
  pub cuts : AreCut GREATEST_CAPACITY volume S before (map life_in groups) done afterwards

module _ (volume : ℕ) (S : State) (J : List Event) (once : Once J) (stands : RecoversTo udf GREATEST_CAPACITY volume (held J) S) where
  at_start : HoldsState volume S (situation None J 0 GREATEST_CAPACITY true [])
  at_start = (runs_begin volume S J 0 GREATEST_CAPACITY true [] once stands).0

  groups_cut : (groups : List Group) (last : Situation) (finished : Gathering) (are : AreGroups groups (situation None J 0 GREATEST_CAPACITY true []) waits_never last finished) → GroupsAreLives groups (situation None J 0 GREATEST_CAPACITY true []) waits_never last finished are → IsTrue last.honest
      → (done : List Request) × AreCut GREATEST_CAPACITY volume S J (map life_in groups) done last.journal
  groups_cut groups last finished are lives honest = let ended = (lives volume S honest at_start).0 in (ended.0, ended.1)

  applies_run : {T : Type 0} (last : Situation) (outcome : Result T Fault) (i l o w : Option (List ℕ)) → IsTrue last.honest → AppliesInGroups outcome (situation None J 0 GREATEST_CAPACITY true []) waits_never last i l o w → Run volume S J last.journal (AnswersInput i l o w)
  applies_run last (Ok x) i l o w honest (kept, finished, h) =
      let cut = groups_cut h.serving.groups (with_store kept last) finished h.serving.are h.lives honest in
      record {
        groups = h.serving.groups;
        are = record {
          bytes = h.serving.bytes;
          reader = h.reader;
          consumed = h.serving.consumed;
          messages_are = h.serving.messages_are;
          front = whole_front o w (frames_of (answers_of h.serving.groups)) h.serving.told;
        };
        done = cut.0;
        cuts = cut.1;
      }
  applies_run last (Err Usage) i l o w honest h = absurd h
  applies_run last (Err Path) i l o w honest h = absurd h
  applies_run last (Err Socket) i l o w honest h = absurd h
  applies_run last (Err (Store fault)) i l o w honest h = absurd h
  applies_run last (Err (Stream fault)) i l o w honest (kept, finished, h) =
      let cut = groups_cut h.groups (with_store kept last) finished h.are h.lives honest in
      record {
        groups = h.groups;
        are = record { bytes = h.bytes; reader = h.reader; consumed = h.consumed; messages_are = h.messages_are; front = h.front };
        done = cut.0;
        cuts = cut.1;
      }

module _ (path : List ℕ) (volume : ℕ) (S : State) (J : List Event) (once : Once J) (stands : RecoversTo udf GREATEST_CAPACITY volume (held J) S) (old new : Images) (honest : IsTrue new.honest) (there : old.held path ≡ Some J) where
  stays : (Are : List Life → Type 0) → new.held path ≡ Some J → Are [] → Left path volume S J new Are
  stays Are same are = record { lives = []; done = []; afterwards = J; are = are; cuts = (refl, refl); held_is = same }

  untouched_stays : (Are : List Life → Type 0) → AreUntouched old new → Are [] → Left path volume S J new Are
  untouched_stays Are h are = stays Are (h.same path ∙ there) are

  ran : (Are : List Life → Type 0) (lives : List Life) (done : List Request) (K : List Event) → AreCut GREATEST_CAPACITY volume S J lives done K → new.held path ≡ Some K → Are lives → Left path volume S J new Are
  ran Are lives done K cuts held_is are = record { lives = lives; done = done; afterwards = K; are = are; cuts = cuts; held_is = held_is }

  -- the power was lost while messages were answered in groups
  lost_serving : (Are : List Life → Type 0) (groups : List Group) (last : Situation) (finished : Gathering) (all : AreGroups groups (situation None J 0 GREATEST_CAPACITY true []) waits_never last finished) → IsTrue last.honest
      → GroupsAreLives groups (situation None J 0 GREATEST_CAPACITY true []) waits_never last finished all
      → (lost : List Event) → LosesServing groups (situation None J 0 GREATEST_CAPACITY true []) waits_never last finished all lost → new.held path ≡ Some lost
      → ((lives : List Life) → AreLivesCut groups lives → Are lives) → Left path volume S J new Are
  lost_serving Are groups last finished all sure lives lost (inl same) held_is are =
      let cut = groups_cut volume S J once stands groups last finished all lives sure in
      ran Are (map life_in groups) cut.0 lost (subst (λ (K : List Event). AreCut GREATEST_CAPACITY volume S J (map life_in groups) cut.0 K) (sym same) cut.1) held_is (are (map life_in groups) (inl refl))
  lost_serving Are groups last finished all sure lives lost (inr loses) held_is are =
      let cut = (lives volume S sure (at_start volume S J once stands)).1 lost loses in
      ran Are cut.0 cut.2 lost cut.3 held_is
      (are cut.0 (inr (record { before = situation None J 0 GREATEST_CAPACITY true []; begun = waits_never; afterwards = last; ended = finished; are = all; lost = lost; loses = loses; until = cut.1 })))

  -- ---- on the drive of an image

  module _ (Finds : Option (List Event) → List Event → Type 0) (same : (image : Option (List Event)) (journal : List Event) → Finds image journal → image ≡ Some J → journal ≡ J) (capacity : ℕ) (image : List ℕ) (Did : Situation → Situation → Type 0) (h : OnMedia Finds capacity image Did old new) where
    at_image : path ≡ image → h.journal ≡ J
    at_image here = same (old.held image) h.journal (h.found honest) (subst (λ (p : List ℕ). old.held p ≡ Some J) here there)

    did_here : path ≡ image → Did (situation None J 0 capacity true []) h.last
    did_here here = subst (λ (j : List Event). Did (situation None j 0 capacity true []) h.last) (at_image here) h.did

    left_here : path ≡ image → new.held path ≡ Some h.last.journal
    left_here here = ap new.held here ∙ h.left

    elsewhere : bytes_eq path image ≡ false → new.held path ≡ Some J
    elsewhere apart = h.others path apart ∙ there

    -- where it leaves the journal as it was
    quiet : (Are : List Life → Type 0) → (Did (situation None J 0 capacity true []) h.last → h.last.journal ≡ J) → Are [] → Left path volume S J new Are
    quiet Are unchanged are = elim (bytes_cases path image) [
      | inl here ↦ stays Are (left_here here.1 ∙ ap (λ (j : List Event). Some j) (unchanged (did_here here.1))) are
      | inr apart ↦ stays Are (elsewhere apart.0) are
    ]

  -- the same where a power loss cut it off
  module _ (Finds : Option (List Event) → List Event → Type 0) (same : (image : Option (List Event)) (journal : List Event) → Finds image journal → image ≡ Some J → journal ≡ J) (capacity : ℕ) (image : List ℕ) (Loses : Situation → Situation → List Event → Type 0) (h : CutOnMedia Finds capacity image Loses old new) where
    loses_here : path ≡ image → Loses (situation None J 0 capacity true []) h.last h.lost
    loses_here here =
        let at : h.journal ≡ J = same (old.held image) h.journal (h.found honest) (subst (λ (p : List ℕ). old.held p ≡ Some J) here there) in
        subst (λ (j : List Event). Loses (situation None j 0 capacity true []) h.last h.lost) at h.loses

    lost_here : path ≡ image → new.held path ≡ Some h.lost
    lost_here here = ap new.held here ∙ h.left

    lost_elsewhere : bytes_eq path image ≡ false → new.held path ≡ Some J
    lost_elsewhere apart = h.others path apart ∙ there

    lost_quiet : (Are : List Life → Type 0) → (Loses (situation None J 0 capacity true []) h.last h.lost → h.lost ≡ J) → Are [] → Left path volume S J new Are
    lost_quiet Are unchanged are = elim (bytes_cases path image) [
      | inl here ↦ stays Are (lost_here here.1 ∙ ap (λ (j : List Event). Some j) (unchanged (loses_here here.1))) are
      | inr apart ↦ stays Are (lost_elsewhere apart.0) are
    ]

  same_there : (image : Option (List Event)) (journal : List Event) → IsThere image journal → image ≡ Some J → journal ≡ J
  same_there image journal is was = some_same journal J (sym is ∙ was)

  same_made : (image : Option (List Event)) (journal : List Event) → IsThereOrMade image journal → image ≡ Some J → journal ≡ J
  same_made image journal is was = sym is ∙ ap initial_journal was

  -- ---- by the task

  shown : {T : Type 0} (question : Question) (image : List ℕ) (outcome : Result T Fault) (o w : Option (List ℕ)) (Are : List Life → Type 0) → ShowsImage question image outcome old new o w → Are [] → Left path volume S J new Are
  shown question image outcome o w Are (inl h) are = untouched_stays Are h.untouched are
  shown question image outcome o w Are (inr h) are = quiet IsThere same_there GREATEST_CAPACITY image (λ first last. (last.journal ≡ first.journal) × (last.writes ≡ first.writes) × CountsFailures (drive_failures outcome) first.failures last.failures × PrintsAnswer question outcome first.capacity first.journal last.honest o w) h Are (λ did. did.0) are

  shown_at : {T : Type 0} (question : tree.Path → Question) (image text : List ℕ) (outcome : Result T Fault) (o w : Option (List ℕ)) (Are : List Life → Type 0) → ShowsPath question image text outcome old new o w → Are [] → Left path volume S J new Are
  shown_at question image text outcome o w Are (inl h) are = untouched_stays Are h.1 are
  shown_at question image text outcome o w Are (inr h) are = shown (question h.0) image outcome o w Are h.3 are

  made_none : (image : List ℕ) → SameOrMade image old.held new.held → new.held path ≡ Some J
  made_none image (inl same) = same path ∙ there
  made_none image (inr (none, made, others)) = elim (bytes_cases path image) [
    | inl here ↦ absurd (none-some J (sym none ∙ ap old.held (sym here.1) ∙ there))
    | inr apart ↦ others path apart.0 ∙ there
  ]

  made : {T : Type 0} (image label : List ℕ) (moment capacity : ℕ) (outcome : Result T Fault) (o w : Option (List ℕ)) (Are : List Life → Type 0) → MakesOnImage image label moment capacity outcome old new o w → Are [] → Left path volume S J new Are
  made image label moment capacity outcome o w Are (inl h) are = stays Are (made_none image h.made.same) are
  made image label moment capacity outcome o w Are (inr h) are =
      quiet IsThereOrMade same_made capacity image (λ first last. MakesOn label moment capacity outcome first last (new.looked image) o w old.failures new.failures) h Are
      (λ did. elim did [ inl unbegun ↦ unbegun.journal | inr makes ↦ makes_none label moment capacity outcome J h.last.journal h.last.honest o w volume S stands (h.drive_honest honest) makes.3 ]) are

  applied : {T : Type 0} (image : List ℕ) (outcome : Result T Fault) (i l o w : Option (List ℕ)) (Are : List Life → Type 0) → AppliesToImage image outcome old new i l o w → (Unopened outcome old new o w → Are []) → ((path ≡ image → ⊥) → Are [])
      → (path ≡ image → (groups : List Group) → AnswersInput i l o w groups → Are (map life_in groups)) → Left path volume S J new Are
  applied image outcome i l o w Are (inl (h, same)) unopened apart here = untouched_stays Are h.untouched (unopened h)
  applied image outcome i l o w Are (inr h) unopened apart here = elim (bytes_cases path image) [
    | inl is ↦ (
        let run = applies_run volume S J once stands h.last outcome i l o w (h.drive_honest honest) (did_here IsThere same_there GREATEST_CAPACITY image (λ first last. AppliesInGroups outcome first waits_never last i l o w) h is.1) in
        ran Are (map life_in run.groups) run.done h.last.journal run.cuts (left_here IsThere same_there GREATEST_CAPACITY image (λ first last. AppliesInGroups outcome first waits_never last i l o w) h is.1) (here is.1 run.groups run.are)
        )
    | inr other ↦ stays Are (elsewhere IsThere same_there GREATEST_CAPACITY image (λ first last. AppliesInGroups outcome first waits_never last i l o w) h other.0) (apart other.1)
  ]

  served : (image : List ℕ) (connections : ℕ) (before afterwards : Heard) → OnMedia IsThere GREATEST_CAPACITY image (ServesEach connections before afterwards waits_never) old new → Left path volume S J new (Ran path (Daemon image connections before afterwards))
  served image connections before afterwards h = elim (bytes_cases path image) [
    | inl is ↦ (
        let did : ServesEach connections before afterwards waits_never (situation None J 0 GREATEST_CAPACITY true []) h.last = did_here IsThere same_there GREATEST_CAPACITY image (ServesEach connections before afterwards waits_never) h is.1 in
        let cut = groups_cut volume S J once stands did.run.groups (with_store did.kept h.last) did.finished did.run.are did.run.lives (h.drive_honest honest) in
        ran (Ran path (Daemon image connections before afterwards)) (map life_in did.run.groups) cut.0 h.last.journal cut.1
        (left_here IsThere same_there GREATEST_CAPACITY image (ServesEach connections before afterwards waits_never) h is.1)
        (inr (is.1, (did.run.groups, record { inputs = did.inputs; outputs = did.outputs; given = did.given; ended = did.ended; heard = did.run.heard }, refl)))
        )
    | inr other ↦ stays (Ran path (Daemon image connections before afterwards)) (elsewhere IsThere same_there GREATEST_CAPACITY image (ServesEach connections before afterwards waits_never) h other.0) (inl (refl, other.1))
  ]

  cut_served : (image : List ℕ) (before afterwards : Heard) → CutOnMedia IsThere GREATEST_CAPACITY image (LosesDaemon before afterwards) old new → Left path volume S J new (Ran path (CutDaemon image before afterwards))
  cut_served image before afterwards h = elim (bytes_cases path image) [
    | inl is ↦ (
        let did : LosesDaemon before afterwards (situation None J 0 GREATEST_CAPACITY true []) h.last h.lost = loses_here IsThere same_there GREATEST_CAPACITY image (LosesDaemon before afterwards) h is.1 in
        lost_serving (Ran path (CutDaemon image before afterwards)) did.run.groups (with_store did.kept h.last) did.finished did.run.are (h.drive_honest honest) did.run.lives h.lost did.loses
        (lost_here IsThere same_there GREATEST_CAPACITY image (LosesDaemon before afterwards) h is.1)
        (λ lives cut. inr (is.1, (did.run.groups, record { inputs = did.inputs; outputs = did.outputs; given = did.given; ended = did.ended; heard = did.run.heard }, cut)))
        )
    | inr other ↦ stays (Ran path (CutDaemon image before afterwards)) (lost_elsewhere IsThere same_there GREATEST_CAPACITY image (LosesDaemon before afterwards) h other.0) (inl (refl, other.1))
  ]

  cut_applied : (image : List ℕ) (i l o w : Option (List ℕ)) → CutOnMedia IsThere GREATEST_CAPACITY image (LosesApply i l o w) old new → Left path volume S J new (RanUntil path (Apply_to_image image) i l o w)
  cut_applied image i l o w h = elim (bytes_cases path image) [
    | inl is ↦ (
        let did : LosesApply i l o w (situation None J 0 GREATEST_CAPACITY true []) h.last h.lost = loses_here IsThere same_there GREATEST_CAPACITY image (LosesApply i l o w) h is.1 in
        let some = did.serves in
        lost_serving (RanUntil path (Apply_to_image image) i l o w) some.groups (with_store did.kept h.last) did.finished some.are (h.drive_honest honest) some.lives h.lost did.loses
        (lost_here IsThere same_there GREATEST_CAPACITY image (LosesApply i l o w) h is.1)
        (λ lives cut. inr (is.1, (some.groups, record { bytes = some.bytes; reader = some.reader; consumed = some.consumed; messages_are = some.messages_are; front = some.front }, cut)))
        )
    | inr other ↦ stays (RanUntil path (Apply_to_image image) i l o w) (lost_elsewhere IsThere same_there GREATEST_CAPACITY image (LosesApply i l o w) h other.0) (inl (refl, other.1))
  ]

  cut_reading : (image : List ℕ) (Are : List Life → Type 0) → CutOnMedia IsThere GREATEST_CAPACITY image LosesReading old new → Are [] → Left path volume S J new Are
  cut_reading image Are h are = lost_quiet IsThere same_there GREATEST_CAPACITY image LosesReading h Are (λ loses. lost_same (situation None J 0 GREATEST_CAPACITY true []) h.last h.lost loses.0 loses.1) are

  cut_does : (task : Task) (i l o w : Option (List ℕ)) → IsTaskCut task old new i l o w → Left path volume S J new (RanUntil path task i l o w)
  cut_does (Format image label moment capacity) i l o w h =
      lost_quiet IsThereOrMade same_made capacity image (LosesFormat label moment capacity) h (RanUntil path (Format image label moment capacity) i l o w)
      (λ loses. format_lost label moment capacity (situation None J 0 capacity true []) h.last h.lost volume S stands (h.drive_honest honest) loses) refl
  cut_does (Apply_to_image image) i l o w h = cut_applied image i l o w h
  cut_does (Apply_in_memory capacity) i l o w h = untouched_stays (RanUntil path (Apply_in_memory capacity) i l o w) h refl
  cut_does (List_names image text) i l o w h = cut_reading image (RanUntil path (List_names image text) i l o w) h refl
  cut_does (Get_bytes image text) i l o w h = cut_reading image (RanUntil path (Get_bytes image text) i l o w) h refl
  cut_does (Log image) i l o w h = cut_reading image (RanUntil path (Log image) i l o w) h refl
  cut_does (Check image) i l o w h = cut_reading image (RanUntil path (Check image) i l o w) h refl
  cut_does Send i l o w h = untouched_stays (RanUntil path Send i l o w) h refl

  does : (task : Task) (outcome : Result (Unit {0}) Fault) (i l o w : Option (List ℕ)) → IsTaskDone task outcome old new i l o w → Left path volume S J new (RanCommand path task outcome i l o w)
  does (Format image label moment capacity) outcome i l o w h = made image label moment capacity outcome o w (RanCommand path (Format image label moment capacity) outcome i l o w) h.1 refl
  does (Apply_to_image image) outcome i l o w h =
      applied image outcome i l o w (RanCommand path (Apply_to_image image) outcome i l o w) h (λ none. inl (refl, none.fault)) (λ apart. inr (inl (refl, apart)))
      (λ here groups is. inr (inr (here, (groups, is, refl))))
  does (Apply_in_memory capacity) outcome i l o w h = untouched_stays (RanCommand path (Apply_in_memory capacity) outcome i l o w) h.0 refl
  does (List_names image text) outcome i l o w h = shown_at Names_at image text outcome o w (RanCommand path (List_names image text) outcome i l o w) h.1 refl
  does (Get_bytes image text) outcome i l o w h = shown_at Bytes_at image text outcome o w (RanCommand path (Get_bytes image text) outcome i l o w) h.1 refl
  does (Log image) outcome i l o w h = shown Commits image outcome o w (RanCommand path (Log image) outcome i l o w) h.1 refl
  does (Check image) outcome i l o w h = shown Soundness image outcome o w (RanCommand path (Check image) outcome i l o w) h.1 refl
  does Send outcome i l o w h = untouched_stays (RanCommand path Send outcome i l o w) h.0 refl

  did : (process : Process) → Did process old new → Left path volume S J new (Ran path process)
  did (Command task outcome i l o w) h = does task outcome i l o w h
  did (Daemon image connections before afterwards) h = served image connections before afterwards h
  did (CutCommand task i l o w) h = cut_does task i l o w h
  did (CutDaemon image before afterwards) h = cut_served image before afterwards h

-- ---- one process after another

all_did : (path : List ℕ) (processes : List Process) (old new : Images) (volume : ℕ) (S : State) (before : List Event) → IsTrue new.honest → AllDid processes old new → old.held path ≡ Some before → Once before → RecoversTo udf GREATEST_CAPACITY volume (held before) S
    → Left path volume S before new (AllRan path processes)
all_did path [] old new volume S before honest h there once stands = untouched_stays path volume S before once stands old new honest there (AllRan path []) h refl
all_did path (process ∷ processes) old new volume S before honest (between, first, rest) there once stands =
    let one = did path volume S before once stands old between (all_honest processes between new honest rest) there process first in
    let survives : Survives GREATEST_CAPACITY volume S before one.done one.afterwards = losses_reach GREATEST_CAPACITY volume S before one.lives one.done one.afterwards once stands one.cuts in
    let more = all_did path processes between new volume (after S one.done) one.afterwards honest rest one.held_is survives.once survives.stands in
    record {
      lives = one.lives ++ more.lives;
      done = one.done ++ more.done;
      afterwards = more.afterwards;
      are = (one.lives, more.lives, refl, one.are, more.are);
      cuts = cuts_join GREATEST_CAPACITY volume S before one.afterwards more.afterwards one.lives more.lives one.done more.done one.cuts more.cuts;
      held_is = more.held_is;
    }

pub processes_are_runs : ProcessesAreRuns
processes_are_runs path processes old new volume S before honest h there once stands =
    let all = all_did path processes old new volume S before honest h there once stands in
    record {
      lives = all.lives;
      done = all.done;
      afterwards = all.afterwards;
      ran = all.are;
      cuts = all.cuts;
      held_is = all.held_is;
      survives = losses_reach GREATEST_CAPACITY volume S before all.lives all.done all.afterwards once stands all.cuts;
    }
