-- What was done of a task is so where the output keeps what it has, or is that which was gathered and then written.
use Rattle.std.proofs.Common.{◌≡◌, ℕ, ◌+◌, Bool, List, [], ◌++◌, length, take, codes, Option, Some, None, Result, Ok, Err, refl, sym, ap, subst, ◌∙◌, inl, inr}
use Rattle.std.specs.Prelude.{IfErr, IsOk, OnOk, OnErr}
use Rattle.std.specs.Io.KnownBytes.{Appends, Keeps, append_known}
use Rattle.std.proofs.lemmas.List.{append-nil}
use Rattle.std.proofs.Math.Seq.{take-append-add}
use Rattle.limits.specs.declared.TheConstants.{GREATEST_CAPACITY}
use Rattle.drive.specs.Gathering.{Gathering, waits_never}
use Rattle.drive.specs.Journal.{Event}
use Rattle.drive.specs.Reads.{CountsFailures}
use Rattle.request.specs.Answers.{answer_frame}
use Rattle.request.specs.declared.answer.Answer.{Answer}
use Rattle.engine.specs.Served.{LastUntold, LeftAt, LeftBy, frames_of}
use Rattle.engine.specs.declared.serving.ServeFault.{ServeFault}
use Rattle.engine.specs.declared.serving.ServeFault.TheVariants as streams
use Rattle.engine.specs.Situation.{Situation, with_store}
use Rattle.engine.specs.Streams.{PutsPrefix}
use Rattle.engine.proofs.Messages.{nothing_more}
use Rattle.engine.proofs.Pieces.{keeps_on}
use Rattle.grouping.specs.Served.{Group, answers_of}
use Rattle.grouping.specs.Streams.{LastGroupUntold, LeftByIn, LeftIn, ServesGroups, ServesGroupsUntil}
use Rattle.recover.specs.declared.fault.StoreFault.{StoreFault}
use Rattle.programs.specs.declared.fault.Fault.{Fault}
use Rattle.programs.specs.declared.fault.Fault.TheVariants.{Usage, Path, Socket, Store, Stream}
use Rattle.programs.specs.Applied.{AppliesInGroups, AppliesToImage, AnswersInMemory}
use Rattle.programs.specs.Connections.{ServesPrefix}
use Rattle.programs.specs.Copies.{SendsFrames, SendsSome}
use Rattle.programs.specs.FaultLines.{Said, Reports}
use Rattle.programs.specs.Status.{drive_failures, status_of}
use Rattle.programs.specs.Images.{Images, IsThere, IsThereOrMade, OnMedia, Unmade, Unopened}
use Rattle.programs.specs.Inputs.{Input, most_at_once}
use Rattle.programs.specs.NewVolumes.{MakesVolume, MakesOn, MakesOnImage}
use Rattle.programs.specs.Lines.{formatted_text}
use Rattle.programs.specs.Questions.{Question, PrintsAnswer, PrintsNothing, PrintsRefused, ShowsImage, ShowsPath}
use Rattle.programs.specs.Questions.Question.{Names_at, Bytes_at, Commits, Soundness}
use Rattle.model.specs.Tree as tree
use Rattle.programs.specs.Tasks.{Task, IsTaskDone, Ends, HasPrefix, IsPrefixOf}
use Rattle.programs.specs.Tasks.Task.{Format, Apply_to_image, Apply_in_memory, List_names, Get_bytes, Log, Check, Send}
use Rattle.programs.proofs.Copying.{whole_front}
use Rattle.programs.proofs.Opening.{keeps_trans}
use Rattle.programs.proofs.Saying.{front_kept}
use Rattle.programs.proofs.Telling.{refused_not, told_none}

on_image : (Finds : Option (List Event) → List Event → Type 0) (capacity : ℕ) (path : List ℕ) (P Q : Situation → Situation → Type 0) (old new : Images) → ((before afterwards : Situation) → P before afterwards → Q before afterwards)
    → OnMedia Finds capacity path P old new → OnMedia Finds capacity path Q old new
on_image Finds capacity path P Q old new f h = record {
  journal = h.journal;
  once = h.once;
  last = h.last;
  did = f _ h.last h.did;
  found = h.found;
  left = h.left;
  others = h.others;
  drive_honest = h.drive_honest;
  honest = h.honest;
  agreed = h.agreed;
}

module _ (i l o v w : Option (List ℕ)) (kept : Keeps v w) where
  makes_kept : {T : Type 0} (label : List ℕ) (moment capacity : ℕ) (outcome : Result T Fault) (J K : List Event) (honest : Bool) → MakesVolume label moment capacity outcome J K honest o v → MakesVolume label moment capacity outcome J K honest o w
  makes_kept label moment capacity (Ok x) J K honest h = (h.0, keeps_on o v w formatted_text h.1 kept)
  makes_kept label moment capacity (Err Usage) J K honest h = h
  makes_kept label moment capacity (Err Path) J K honest h = h
  makes_kept label moment capacity (Err Socket) J K honest h = h
  makes_kept label moment capacity (Err (Store fault)) J K honest h = (h.0, keeps_trans o v w h.1 kept)
  makes_kept label moment capacity (Err (Stream streams.Read)) J K honest h = h
  makes_kept label moment capacity (Err (Stream streams.Write)) J K honest h = (h.0, front_kept o v w formatted_text h.1 kept)
  makes_kept label moment capacity (Err (Stream streams.Memory)) J K honest h = h

  made_on_kept : {T : Type 0} (label : List ℕ) (moment capacity : ℕ) (outcome : Result T Fault) (look : Option (List ℕ)) (earlier later : ℕ) (before afterwards : Situation) → MakesOn label moment capacity outcome before afterwards look o v earlier later → MakesOn label moment capacity outcome before afterwards look o w earlier later
  made_on_kept label moment capacity outcome look earlier later before afterwards (inl k) = inl (record { refused = k.refused; why = k.why; journal = k.journal; writes = k.writes; unwritten = keeps_trans o v w k.unwritten kept; failed = k.failed })
  made_on_kept label moment capacity outcome look earlier later before afterwards (inr k) = inr (k.0, k.1, k.2, makes_kept label moment capacity outcome before.journal afterwards.journal afterwards.honest k.3, k.4)

  serves_kept : {most : ℕ} (before : Situation) (begun : Gathering) (afterwards : Situation) (ended : Gathering) → ServesGroups most before begun afterwards ended i l o v → ServesGroups most before begun afterwards ended i l o w
  serves_kept before begun afterwards ended h = record {
    reader = h.reader;
    serving = record {
      bytes = h.serving.bytes;
      groups = h.serving.groups;
      consumed = h.serving.consumed;
      messages_are = h.serving.messages_are;
      are = h.serving.are;
      told = keeps_on o v w (frames_of (answers_of h.serving.groups)) h.serving.told kept;
    };
    run = h.run;
    withstand = h.withstand;
    lives = h.lives;
    idle = h.idle;
    ends = h.ends;
  }

  untold_kept : (answers : List Answer) (count : ℕ) → LastUntold answers count o v → LastUntold answers count o w
  untold_kept answers count (others, last, is, h) = (others, last, is, keeps_on o v w (frames_of others ++ take count (answer_frame last)) h kept)

  left_at_kept : (fault : ServeFault) (answers : List Answer) (reader : Option (List ℕ)) → LeftAt fault answers reader o v → LeftAt fault answers reader o w
  left_at_kept streams.Read answers reader h = h
  left_at_kept streams.Write answers reader (inl h) = inl (h.0, keeps_on o v w (frames_of answers) h.1 kept)
  left_at_kept streams.Write answers reader (inr (count, h)) = inr (count, untold_kept answers count h)
  left_at_kept streams.Memory answers reader h = untold_kept answers 0 h

  left_kept : (fault : ServeFault) (bytes : List ℕ) (answers : List Answer) (reader : Option (List ℕ)) → LeftBy fault bytes answers reader o v → LeftBy fault bytes answers reader o w
  left_kept streams.Read bytes answers reader h = (h.0, keeps_on o v w (frames_of answers) h.1 kept)
  left_kept streams.Write bytes answers reader h = (h.0, left_at_kept streams.Write answers reader h.1)
  left_kept streams.Memory bytes answers reader (inl h) = inl (left_at_kept streams.Memory answers reader h)
  left_kept streams.Memory bytes answers reader (inr (inl h)) = inr (inl (h.0, h.1, h.2, h.3, h.4, keeps_on o v w (frames_of answers) h.5 kept))
  left_kept streams.Memory bytes answers reader (inr (inr h)) = inr (inr (h.0, keeps_on o v w (frames_of answers) h.1 kept))

  group_kept : (groups : List Group) (count : ℕ) → LastGroupUntold groups count o v → LastGroupUntold groups count o w
  group_kept groups count (others, last, is, h) = (others, last, is, keeps_on o v w (frames_of (answers_of others) ++ take count (frames_of last.answers)) h kept)

  left_in_kept : (fault : ServeFault) (groups : List Group) (reader : Option (List ℕ)) → LeftIn fault groups reader o v → LeftIn fault groups reader o w
  left_in_kept streams.Read groups reader h = h
  left_in_kept streams.Write groups reader (inl h) = inl (h.0, keeps_on o v w (frames_of (answers_of groups)) h.1 kept)
  left_in_kept streams.Write groups reader (inr (count, h)) = inr (count, group_kept groups count h)
  left_in_kept streams.Memory groups reader h = untold_kept (answers_of groups) 0 h

  left_by_kept : (fault : ServeFault) (bytes : List ℕ) (groups : List Group) (reader : Option (List ℕ)) → LeftByIn fault bytes groups reader o v → LeftByIn fault bytes groups reader o w
  left_by_kept streams.Read bytes groups reader h = (h.0, keeps_on o v w (frames_of (answers_of groups)) h.1 kept)
  left_by_kept streams.Write bytes groups reader h = (h.0, left_in_kept streams.Write groups reader h.1)
  left_by_kept streams.Memory bytes groups reader (inl h) = inl (left_in_kept streams.Memory groups reader h)
  left_by_kept streams.Memory bytes groups reader (inr (inl h)) = inr (inl (h.0, h.1, h.2, h.3, h.4, keeps_on o v w (frames_of (answers_of groups)) h.5 kept))
  left_by_kept streams.Memory bytes groups reader (inr (inr h)) = inr (inr (h.0, keeps_on o v w (frames_of (answers_of groups)) h.1 kept))

  until_kept : (fault : ServeFault) (before : Situation) (begun : Gathering) (afterwards : Situation) (ended : Gathering) → ServesGroupsUntil fault before begun afterwards ended i l o v → ServesGroupsUntil fault before begun afterwards ended i l o w
  until_kept fault before begun afterwards ended h = record {
    bytes = h.bytes;
    groups = h.groups;
    reader = h.reader;
    consumed = h.consumed;
    messages_are = h.messages_are;
    are = h.are;
    run = h.run;
    withstand = h.withstand;
    lives = h.lives;
    front = front_kept o v w (frames_of (answers_of h.groups)) h.front kept;
    left_by = left_by_kept fault h.bytes h.groups h.reader h.left_by;
  }

  applies_kept : {T : Type 0} (outcome : Result T Fault) (begun : Gathering) (before afterwards : Situation) → AppliesInGroups outcome before begun afterwards i l o v → AppliesInGroups outcome before begun afterwards i l o w
  applies_kept (Ok x) begun before afterwards (store, ended, h) = (store, ended, serves_kept before begun (with_store store afterwards) ended h)
  applies_kept (Err Usage) begun before afterwards h = h
  applies_kept (Err Path) begun before afterwards h = h
  applies_kept (Err Socket) begun before afterwards h = h
  applies_kept (Err (Store fault)) begun before afterwards h = h
  applies_kept (Err (Stream fault)) begun before afterwards (store, ended, h) = (store, ended, until_kept fault before begun (with_store store afterwards) ended h)

  answers_kept : {T : Type 0} (outcome : Result T Fault) (capacity : ℕ) → AnswersInMemory outcome capacity i l o v → AnswersInMemory outcome capacity i l o w
  answers_kept (Ok x) capacity h = record {
    bytes = h.bytes;
    messages = h.messages;
    answers = h.answers;
    reader = h.reader;
    consumed = h.consumed;
    messages_are = h.messages_are;
    run = h.run;
    told = keeps_on o v w (frames_of h.answers) h.told kept;
    idle = h.idle;
    ends = h.ends;
  }
  answers_kept (Err Usage) capacity h = h
  answers_kept (Err Path) capacity h = h
  answers_kept (Err Socket) capacity h = h
  answers_kept (Err (Store fault)) capacity h = (h.0, h.1, keeps_trans o v w h.2 kept)
  answers_kept (Err (Stream fault)) capacity h = record {
    some = record {
      bytes = h.some.bytes;
      messages = h.some.messages;
      answers = h.some.answers;
      reader = h.some.reader;
      consumed = h.some.consumed;
      messages_are = h.some.messages_are;
      run = h.some.run;
      front = front_kept o v w (frames_of h.some.answers) h.some.front kept;
    };
    left_by = left_kept fault h.some.bytes h.some.answers h.some.reader h.left_by;
  }

  nothing_kept : (question : Question) (capacity : ℕ) (J : List Event) (honest : Bool) (fault : StoreFault) → PrintsNothing question capacity J honest fault o v → PrintsNothing question capacity J honest fault o w
  nothing_kept question capacity J honest fault h = record { unwritten = keeps_trans o v w h.unwritten kept; refused = h.refused }

  refused_kept : (question : Question) (capacity : ℕ) (J : List Event) (honest : Bool) (fault : StoreFault) → PrintsRefused question capacity J honest fault o v → PrintsRefused question capacity J honest fault o w
  refused_kept (Names_at path) capacity J honest fault h = nothing_kept (Names_at path) capacity J honest fault h
  refused_kept (Bytes_at path) capacity J honest fault (inl h) = inl (nothing_kept (Bytes_at path) capacity J honest fault h)
  refused_kept (Bytes_at path) capacity J honest fault (inr h) = inr (record { front = h.front; printed = keeps_on o v w h.front h.printed kept; said = h.said })
  refused_kept Commits capacity J honest fault h = nothing_kept Commits capacity J honest fault h
  refused_kept Soundness capacity J honest fault h = nothing_kept Soundness capacity J honest fault h

  shows_kept : {T : Type 0} (question : Question) (outcome : Result T Fault) (capacity : ℕ) (J : List Event) (honest : Bool) → PrintsAnswer question outcome capacity J honest o v → PrintsAnswer question outcome capacity J honest o w
  shows_kept question (Ok x) capacity J honest h = record { bytes = h.bytes; printed = keeps_on o v w h.bytes h.printed kept; said = h.said }
  shows_kept question (Err Usage) capacity J honest h = h
  shows_kept question (Err Path) capacity J honest h = h
  shows_kept question (Err Socket) capacity J honest h = h
  shows_kept question (Err (Store fault)) capacity J honest h = refused_kept question capacity J honest fault h
  shows_kept question (Err (Stream streams.Read)) capacity J honest h = h
  shows_kept question (Err (Stream streams.Write)) capacity J honest h = record { front = h.front; printed = keeps_on o v w h.front h.printed kept; said = h.said }
  shows_kept question (Err (Stream streams.Memory)) capacity J honest h = h

  sent_kept : SendsSome i l o v → SendsSome i l o w
  sent_kept h = record { sent = h.sent; consumed = h.consumed; came = h.came; front = front_kept o v w h.came h.front kept }

  sends_kept : {T : Type 0} (outcome : Result T Fault) → SendsFrames outcome i l o v → SendsFrames outcome i l o w
  sends_kept (Ok x) h = record { sent = h.sent; consumed = h.consumed; end = h.end; came = h.came; copied = keeps_on o v w h.came h.copied kept; answered = h.answered }
  sends_kept (Err Usage) h = h
  sends_kept (Err Path) h = h
  sends_kept (Err Socket) h = (h.0, keeps_trans o v w h.1 kept)
  sends_kept (Err (Store fault)) (is, inl unread, h) = (is, inl unread, sent_kept h)
  sends_kept (Err (Store fault)) (is, inr unwritten, h) = (is, inr (keeps_trans o v w unwritten kept), sent_kept h)
  sends_kept (Err (Stream streams.Read)) h = sent_kept h
  sends_kept (Err (Stream streams.Write)) h = sent_kept h
  sends_kept (Err (Stream streams.Memory)) h = h

-- the same of the images that it was done on
module _ (old new : Images) (i l o v w : Option (List ℕ)) (kept : Keeps v w) where
  unopened_kept : {T : Type 0} (outcome : Result T Fault) → Unopened outcome old new o v → Unopened outcome old new o w
  unopened_kept outcome h = record { fault = h.fault; unwritten = keeps_trans o v w h.unwritten kept; untouched = h.untouched; failed = h.failed }

  unmade_kept : {T : Type 0} (path : List ℕ) (outcome : Result T Fault) → Unmade path outcome old new o v → Unmade path outcome old new o w
  unmade_kept path outcome h = record { fault = h.fault; unwritten = keeps_trans o v w h.unwritten kept; made = h.made; failed = h.failed }

  made_kept : {T : Type 0} (image label : List ℕ) (moment capacity : ℕ) (outcome : Result T Fault) → MakesOnImage image label moment capacity outcome old new o v → MakesOnImage image label moment capacity outcome old new o w
  made_kept image label moment capacity outcome (inl h) = inl (unmade_kept image outcome h)
  made_kept image label moment capacity outcome (inr h) =
      inr (on_image IsThereOrMade capacity image (λ before afterwards. MakesOn label moment capacity outcome before afterwards (new.looked image) o v old.failures new.failures) (λ before afterwards. MakesOn label moment capacity outcome before afterwards (new.looked image) o w old.failures new.failures) old new (made_on_kept i l o v w kept label moment capacity outcome (new.looked image) old.failures new.failures) h)

  applied_kept : {T : Type 0} (image : List ℕ) (outcome : Result T Fault) → AppliesToImage image outcome old new i l o v → AppliesToImage image outcome old new i l o w
  applied_kept image outcome (inl (h, same)) = inl (unopened_kept outcome h, same)
  applied_kept image outcome (inr h) =
      inr (on_image IsThere GREATEST_CAPACITY image (λ before afterwards. AppliesInGroups outcome before waits_never afterwards i l o v) (λ before afterwards. AppliesInGroups outcome before waits_never afterwards i l o w) old new
      (applies_kept i l o v w kept outcome waits_never) h)

  shown_kept : {T : Type 0} (question : Question) (image : List ℕ) (outcome : Result T Fault) → ShowsImage question image outcome old new o v → ShowsImage question image outcome old new o w
  shown_kept question image outcome (inl h) = inl (unopened_kept outcome h)
  shown_kept question image outcome (inr h) =
      inr (on_image IsThere GREATEST_CAPACITY image (λ before afterwards. (afterwards.journal ≡ before.journal) × (afterwards.writes ≡ before.writes) × CountsFailures (drive_failures outcome) before.failures afterwards.failures × PrintsAnswer question outcome before.capacity before.journal afterwards.honest o v)
      (λ before afterwards. (afterwards.journal ≡ before.journal) × (afterwards.writes ≡ before.writes) × CountsFailures (drive_failures outcome) before.failures afterwards.failures × PrintsAnswer question outcome before.capacity before.journal afterwards.honest o w) old new
      (λ before afterwards k. (k.0, k.1, k.2, shows_kept i l o v w kept question outcome before.capacity before.journal afterwards.honest k.3)) h)

  path_kept : {T : Type 0} (question : tree.Path → Question) (image text : List ℕ) (outcome : Result T Fault) → ShowsPath question image text outcome old new o v → ShowsPath question image text outcome old new o w
  path_kept question image text outcome (inl (h, same, k)) = inl (h, same, keeps_trans o v w k kept)
  path_kept question image text outcome (inr (path, is, reads, h)) = inr (path, is, reads, shown_kept (question path) image outcome h)

  does_kept : {T : Type 0} (task : Task) (outcome : Result T Fault) → IsTaskDone task outcome old new i l o v → IsTaskDone task outcome old new i l o w
  does_kept (Format image label moment capacity) outcome h = (h.0, made_kept image label moment capacity outcome h.1)
  does_kept (Apply_to_image image) outcome h = applied_kept image outcome h
  does_kept (Apply_in_memory capacity) outcome h = (h.0, answers_kept i l o v w kept outcome capacity h.1)
  does_kept (List_names image path) outcome h = (h.0, path_kept Names_at image path outcome h.1)
  does_kept (Get_bytes image path) outcome h = (h.0, path_kept Bytes_at image path outcome h.1)
  does_kept (Log image) outcome h = (h.0, shown_kept Commits image outcome h.1)
  does_kept (Check image) outcome h = (h.0, shown_kept Soundness image outcome h.1)
  does_kept Send outcome h = (h.0, sends_kept i l o v w kept outcome h.1)

-- ---- a writer with a buffer

pub nothing_waits : (known : Option (List ℕ)) (bytes : List ℕ) → bytes ≡ [] → append_known known bytes ≡ known
nothing_waits None bytes e = refl
nothing_waits (Some xs) bytes e = ap (λ (l : List ℕ). Some (xs ++ l)) e ∙ ap (λ (l : List ℕ). Some l) (append-nil xs)

-- what waited was written
written_out : (known now : Option (List ℕ)) (bytes : List ℕ) → Appends known now bytes → Keeps (append_known known bytes) now
written_out None now bytes h = tt
written_out (Some xs) None bytes h = absurd h
written_out (Some xs) (Some ys) bytes h = h

-- or a prefix of it
written_part : (known now : Option (List ℕ)) (bytes : List ℕ) → PutsPrefix known now bytes → IsPrefixOf (append_known known bytes) now
written_part None now bytes h = tt
written_part (Some xs) None bytes h = absurd h.1
written_part (Some xs) (Some ys) bytes h = (length xs + h.0, h.1 ∙ sym (take-append-add xs bytes h.0))

-- ---- what is there in the end

-- an outcome of status 0 went well
done_well : {T : Type 0} (outcome : Result T Fault) → status_of outcome ≡ 0 → IsOk outcome
done_well (Ok x) done = refl
done_well (Err fault) done = refused_not 0 fault (sym done) refl

-- the same by what the calls say that lead there
module _ (task : Task) (status : ℕ) (old new : Images) (i l : Input) (e f : Said) {O : Type 0} (contents : O → Option (List ℕ)) (output first last inner : O) (waiting waited rest bytes : List ℕ)
    (begins : first ≡ output) (empty : waiting ≡ []) (taken : inner ≡ last) (left : rest ≡ waited) (same : bytes ≡ rest)
    (h : Ends task status old new i l (append_known (contents first) waiting) (append_known (contents last) waited) e f) where
  begun : Ends task status old new i l (contents output) (append_known (contents last) waited) e f
  begun = subst (λ (o : Option (List ℕ)). Ends task status old new i l o (append_known (contents last) waited) e f)
      (ap (λ (x : O). append_known (contents x) waiting) begins ∙ nothing_waits (contents output) waiting empty) h

  there : Ends task status old new i l (contents output) (append_known (contents inner) bytes) e f
  there = subst (λ (v : Option (List ℕ)). Ends task status old new i l (contents output) v e f)
      (ap (λ (x : O). append_known (contents x) waited) (sym taken) ∙ ap (λ (b : List ℕ). append_known (contents inner) b) (sym (same ∙ left))) begun

  gathered_all : (now : Option (List ℕ)) → Appends (contents inner) now bytes → Ends task status old new i l (contents output) now e f
  gathered_all now put = record {
    outcome = there.outcome;
    does = does_kept old new i.remaining l.remaining (contents output) (append_known (contents inner) bytes) now (written_out (contents inner) now bytes put) task there.outcome there.does;
    reads = there.reads;
    status_is = there.status_is;
    reports = there.reports;
  }

  pub gathered_done : (now : Option (List ℕ)) → Appends (contents inner) now bytes → status ≡ 0 → Ends task 0 old new i l (contents output) now e f
  gathered_done now put done = subst (λ (n : ℕ). Ends task n old new i l (contents output) now e f) done (gathered_all now put)

  pub gathered_part : (now : Option (List ℕ)) → PutsPrefix (contents inner) now bytes → HasPrefix task status old new i l (contents output) now e f
  gathered_part now put = record {
    outcome = there.outcome;
    gathered = append_known (contents inner) bytes;
    does = there.does;
    reads = there.reads;
    front = written_part (contents inner) now bytes put;
    told_as = there.outcome;
    is_told = inl refl;
    status_is = there.status_is;
    reports = there.reports;
  }

  -- it went well, and then the output failed, which was said
  pub gathered_failed : (now : Option (List ℕ)) (fault : ServeFault) (last_status : ℕ) (told : Said) → PutsPrefix (contents inner) now bytes → status ≡ 0 → fault ≡ streams.Write
      → last_status ≡ 1 → Reports {T = Unit {0}} (codes "udfburn") (Err (Stream fault)) f told → HasPrefix task last_status old new i l (contents output) now e told
  gathered_failed now fault last_status told put done write is reports = record {
    outcome = there.outcome;
    gathered = append_known (contents inner) bytes;
    does = there.does;
    reads = there.reads;
    front = written_part (contents inner) now bytes put;
    told_as = Err (Stream streams.Write);
    is_told = inr (done_well there.outcome (sym there.status_is ∙ done), refl);
    status_is = is;
    reports = subst (λ (x : Said). Reports {T = Unit {0}} (codes "udfburn") (Err (Stream streams.Write)) x told)
        (told_none (codes "udfburn") status e f (there.outcome, there.status_is, there.reports) done)
        (subst (λ (x : ServeFault). Reports {T = Unit {0}} (codes "udfburn") (Err (Stream x)) f told) write reports);
  }

  pub gathered_whole : (now : Option (List ℕ)) → Appends (contents inner) now bytes → HasPrefix task status old new i l (contents output) now e f
  gathered_whole now put = gathered_part now (whole_front (contents inner) now bytes put)

-- ---- where nothing is written

module _ {O : Type 0} (contents : O → Option (List ℕ)) (output first last inner : O) (waiting waited rest bytes : List ℕ)
    (begins : first ≡ output) (empty : waiting ≡ []) (taken : inner ≡ last) (left : rest ≡ waited) (same : bytes ≡ rest) where
  begun_with : append_known (contents first) waiting ≡ contents output
  begun_with = ap (λ (x : O). append_known (contents x) waiting) begins ∙ nothing_waits (contents output) waiting empty

  ended_with : append_known (contents last) waited ≡ append_known (contents inner) bytes
  ended_with = ap (λ (x : O). append_known (contents x) waited) (sym taken) ∙ ap (λ (b : List ℕ). append_known (contents inner) b) (sym (same ∙ left))

  pub part_unwritten : (now : Option (List ℕ)) → append_known (contents last) waited ≡ append_known (contents first) waiting → PutsPrefix (contents inner) now bytes → IsPrefixOf (contents output) now
  part_unwritten now unwritten put = subst (λ (x : Option (List ℕ)). IsPrefixOf x now) (sym ended_with ∙ unwritten ∙ begun_with) (written_part (contents inner) now bytes put)

  pub all_unwritten : (now : Option (List ℕ)) → append_known (contents last) waited ≡ append_known (contents first) waiting → Appends (contents inner) now bytes → IsPrefixOf (contents output) now
  all_unwritten now unwritten put = part_unwritten now unwritten (whole_front (contents inner) now bytes put)

-- ---- the same of a connection

pub err_of : {T E : Type 0} (r : Result T E) (e told : E) (P : E → Type 0) → r ≡ Err e → e ≡ told → IfErr r P → P told
err_of {T} {E} r e told P is same h = subst (λ (x : E). P x) same (subst (λ (x : Result T E). IfErr x P) is h)

module _ (before : Situation) (begun : Gathering) (afterwards : Situation) (ended : Gathering) (i l : Option (List ℕ)) {O : Type 0} (contents : O → Option (List ℕ)) (output first last inner : O) (waiting waited rest bytes : List ℕ)
    (begins : first ≡ output) (empty : waiting ≡ []) (taken : inner ≡ last) (left : rest ≡ waited) (same : bytes ≡ rest) where
  begins_with : append_known (contents first) waiting ≡ contents output
  begins_with = ap (λ (x : O). append_known (contents x) waiting) begins ∙ nothing_waits (contents output) waiting empty

  ends_with : append_known (contents last) waited ≡ append_known (contents inner) bytes
  ends_with = ap (λ (x : O). append_known (contents x) waited) (sym taken) ∙ ap (λ (b : List ℕ). append_known (contents inner) b) (sym (same ∙ left))

  pub served_all : {most : ℕ} (now : Option (List ℕ)) → Appends (contents inner) now bytes → ServesGroups most before begun afterwards ended i l (append_known (contents first) waiting) (append_known (contents last) waited) → ServesGroups most before begun afterwards ended i l (contents output) now
  served_all {most} now put h =
      serves_kept i l (contents output) (append_known (contents inner) bytes) now (written_out (contents inner) now bytes put) before begun afterwards ended
      (subst (λ (a : Option (List ℕ)). ServesGroups most before begun afterwards ended i l a (append_known (contents inner) bytes)) begins_with
      (subst (λ (b : Option (List ℕ)). ServesGroups most before begun afterwards ended i l (append_known (contents first) waiting) b) ends_with h))

  -- all messages were answered, and a prefix of what waited was written
  pub served_part : (fault : ServeFault) (now : Option (List ℕ)) → fault ≡ streams.Write → PutsPrefix (contents inner) now bytes → ServesGroups most_at_once before begun afterwards ended i l (append_known (contents first) waiting) (append_known (contents last) waited)
      → ServesPrefix fault before begun afterwards ended i l (contents output) now
  served_part fault now write put h = record {
    gathered = append_known (contents inner) bytes;
    serves = inr (
      write,
      subst (λ (a : Option (List ℕ)). ServesGroups most_at_once before begun afterwards ended i l a (append_known (contents inner) bytes)) begins_with
          (subst (λ (b : Option (List ℕ)). ServesGroups most_at_once before begun afterwards ended i l (append_known (contents first) waiting) b) ends_with h),
    );
    front = written_part (contents inner) now bytes put;
  }

  served_front : (fault : ServeFault) (now : Option (List ℕ)) → PutsPrefix (contents inner) now bytes → ServesGroupsUntil fault before begun afterwards ended i l (append_known (contents first) waiting) (append_known (contents last) waited)
      → ServesPrefix fault before begun afterwards ended i l (contents output) now
  served_front fault now put h = record {
    gathered = append_known (contents inner) bytes;
    serves = inl (subst (λ (a : Option (List ℕ)). ServesGroupsUntil fault before begun afterwards ended i l a (append_known (contents inner) bytes)) begins_with
        (subst (λ (b : Option (List ℕ)). ServesGroupsUntil fault before begun afterwards ended i l (append_known (contents first) waiting) b) ends_with h));
    front = written_part (contents inner) now bytes put;
  }

  -- what waited was let go
  pub served_cut : (fault : ServeFault) → ServesGroupsUntil fault before begun afterwards ended i l (append_known (contents first) waiting) (append_known (contents last) waited) → ServesPrefix fault before begun afterwards ended i l (contents output) (contents inner)
  served_cut fault h = served_front fault (contents inner) (0, nothing_more (contents inner)) h

  -- what waited was written, or a prefix of it
  pub served_tried : {T E : Type 0} (fault : ServeFault) (r : Result T E) (now : Option (List ℕ)) → OnOk r (Appends (contents inner) now bytes) → OnErr r (PutsPrefix (contents inner) now bytes)
      → ServesGroupsUntil fault before begun afterwards ended i l (append_known (contents first) waiting) (append_known (contents last) waited) → ServesPrefix fault before begun afterwards ended i l (contents output) now
  served_tried fault (Ok x) now all some h = served_front fault now (whole_front (contents inner) now bytes all) h
  served_tried fault (Err e) now all some h = served_front fault now some h
