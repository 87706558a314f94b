-- What `apply` makes of its input, and what a user sees of it where the volume is in memory.
use Rattle.std.proofs.Common.{◌≡◌, ◌↔◌, ℕ, ◌<◌, ◌≤◌, min, List, [], length, codes, Bool, true, Option, None, Result, Ok, Err, refl, sym, ap, ◌∙◌, subst, arith, drop, IsTrue, IsSome, IsNone, inr}
use Rattle.std.specs.Prelude.{IsErrAnd}
use Rattle.limits.specs.declared.TheConstants.{GREATEST_CAPACITY, LEAST_CAPACITY}
use Rattle.drive.specs.Gathering.{Gathering, waits_never}
use Rattle.drive.specs.Journal.{Event, held, Once}
use Rattle.drive.specs.declared.Drive.{Ghosts}
use Rattle.drive.proofs.Once.{once-written}
use Rattle.request.specs.declared.answer.Answer.{Answer}
use Rattle.request.specs.declared.message.Message.{Message}
use Rattle.model.specs.Session.{formatted}
use Rattle.durability.specs.Commit.{need}
use Rattle.durability.specs.Runs.{Fits}
use Rattle.udf.specs.Udf.{spelled_length}
use Rattle.osta.specs.FirstFault.{first_text_fault}
use Rattle.osta.specs.Label.{label_faults}
use Rattle.recover.specs.declared.fault.StoreFault.{StoreFault}
use Rattle.recover.specs.declared.fault.StoreFault.TheVariants as stores
use Rattle.formatting.specs.NewVolume.{words_on, IsFormatted, IsFormatRefused}
use Rattle.formatting.proofs.NewVolumes.{format_long}
use Rattle.store.specs.declared.store.Store.{Store}
use Rattle.engine.specs.Situation.{Situation, situation, situation_on, with_store}
use Rattle.engine.specs.Steps.{HoldsState}
use Rattle.engine.specs.Said.{model_answers}
use Rattle.engine.specs.Served.{AllAnswered, ServedHolds, ServesAll, ServesUntil, brought}
use Rattle.engine.specs.declared.serving.ServeFault.{ServeFault}
use Rattle.grouping.specs.Streams.{ServesGroups, ServesGroupsUntil}
use Rattle.engine.proofs.Running.{runs_begin}
use Rattle.engine.proofs.Served.{answered_counted}
use Rattle.programs.specs.declared.fault.Fault.{Fault}
use Rattle.programs.specs.declared.fault.Fault.TheVariants.{Usage, Path, Socket, Store as Stored, Stream}
use Rattle.programs.specs.Applied.{AppliesGroups, AppliesInGroups, AppliesStream, AppliesAll, AppliesUntil, AppliesToImage, IsRunOfNew, IsUnmade, AnswersAll, AnswersUntil, AnswersInMemory}
use Rattle.programs.specs.Images.{Images, IsOpened, IsPutBack, IsThere}
use Rattle.programs.specs.Inputs.{most_at_once}
use Rattle.programs.proofs.Opening.{keeps_self, on_media}

-- ---- an engine that is new begins with no store

pub applied_all : (store kept : Option Store) (J : List Event) (failures capacity : ℕ) (honest : Bool) (writes : List (List (List ℕ))) (afterwards : Situation) (i l o w : Option (List ℕ)) → store ≡ None
    → ServesAll (situation store J failures capacity honest writes) (with_store kept afterwards) i l o w → AppliesAll (situation None J failures capacity honest writes) afterwards i l o w
applied_all store kept J failures capacity honest writes afterwards i l o w e h =
    (kept, subst (λ (s : Option Store). ServesAll (situation s J failures capacity honest writes) (with_store kept afterwards) i l o w) e h)

pub applied_until : {T : Type 0} (outcome : Result T Fault) (fault : ServeFault) (store kept : Option Store) (J : List Event) (failures capacity : ℕ) (honest : Bool) (writes : List (List (List ℕ))) (afterwards : Situation) (i l o w : Option (List ℕ)) → IsErrAnd outcome (λ f. f ≡ Stream fault) → store ≡ None
    → ServesUntil fault (situation store J failures capacity honest writes) (with_store kept afterwards) i l o w → AppliesStream outcome (situation None J failures capacity honest writes) afterwards i l o w
applied_until {T} (Ok x) fault store kept J failures capacity honest writes afterwards i l o w is e h = absurd is
applied_until {T} (Err f) fault store kept J failures capacity honest writes afterwards i l o w is e h =
    subst (λ (g : Fault). AppliesStream {T = T} (Err g) (situation None J failures capacity honest writes) afterwards i l o w) (sym is)
    (kept, subst (λ (s : Option Store). ServesUntil fault (situation s J failures capacity honest writes) (with_store kept afterwards) i l o w) e h)

-- the same in groups
pub grouped_all : (store kept : Option Store) (J : List Event) (failures capacity : ℕ) (honest : Bool) (writes : List (List (List ℕ))) (begun : Gathering) (afterwards : Situation) (ended : Gathering) (i l o w : Option (List ℕ)) → store ≡ None
    → ServesGroups most_at_once (situation store J failures capacity honest writes) begun (with_store kept afterwards) ended i l o w → AppliesGroups (situation None J failures capacity honest writes) begun afterwards i l o w
grouped_all store kept J failures capacity honest writes begun afterwards ended i l o w e h =
    (kept, ended, subst (λ (s : Option Store). ServesGroups most_at_once (situation s J failures capacity honest writes) begun (with_store kept afterwards) ended i l o w) e h)

pub grouped_until : {T : Type 0} (outcome : Result T Fault) (fault : ServeFault) (store kept : Option Store) (J : List Event) (failures capacity : ℕ) (honest : Bool) (writes : List (List (List ℕ))) (begun : Gathering) (afterwards : Situation) (ended : Gathering) (i l o w : Option (List ℕ)) → IsErrAnd outcome (λ f. f ≡ Stream fault) → store ≡ None
    → ServesGroupsUntil fault (situation store J failures capacity honest writes) begun (with_store kept afterwards) ended i l o w → AppliesInGroups outcome (situation None J failures capacity honest writes) begun afterwards i l o w
grouped_until {T} (Ok x) fault store kept J failures capacity honest writes begun afterwards ended i l o w is e h = absurd is
grouped_until {T} (Err f) fault store kept J failures capacity honest writes begun afterwards ended i l o w is e h =
    subst (λ (g : Fault). AppliesInGroups {T = T} (Err g) (situation None J failures capacity honest writes) begun afterwards i l o w) (sym is)
    (kept, ended, subst (λ (s : Option Store). ServesGroupsUntil fault (situation s J failures capacity honest writes) begun (with_store kept afterwards) ended i l o w) e h)

-- so it is on an image that was opened, whose drive did not gather yet
pub applied_to_image : {T D : Type 0} (drive : Ghosts D) (image : List ℕ) (outcome : Result T Fault) (d e : D) (before between afterwards : Images) (i l o w : Option (List ℕ))
    → IsOpened drive IsThere GREATEST_CAPACITY image d before between → IsPutBack drive image e between afterwards → AppliesInGroups outcome (situation_on drive None d) (drive.gathering d) (situation_on drive None e) i l o w
    → AppliesToImage image outcome before afterwards i l o w
applied_to_image drive image outcome d e before between afterwards i l o w opened back h =
    inr (on_media drive IsThere GREATEST_CAPACITY image (λ first last. AppliesInGroups outcome first waits_never last i l o w) d e before between afterwards opened back
    (subst (λ (g : Gathering). AppliesInGroups outcome (situation_on drive None d) g (situation_on drive None e) i l o w) opened.fresh.gathering h))

-- ---- a new volume on a drive that was blank and is honest

module _ (capacity : ℕ) (label : List ℕ) (J : List Event) (made : IsFormatted capacity (words_on capacity label 0) [] J true) where
  new_is_at : (failures : ℕ) (writes : List (List (List ℕ))) → HoldsState (min capacity GREATEST_CAPACITY) (formatted 0) (situation None J failures capacity true writes)
  new_is_at failures writes = (runs_begin (min capacity GREATEST_CAPACITY) (formatted 0) J failures capacity true writes once (made.stands refl)).0
    where
      once : Once J
      once = subst Once (sym made.journal) (once-written 0 (drop 0 made.blocks))

  new_long : length (held J) ≡ 262
  new_long = ap length (made.holds refl) ∙ format_long (words_on capacity label 0) made.blocks made.is

  run_of_new : capacity ≤ GREATEST_CAPACITY → (failures : ℕ) (writes : List (List (List ℕ))) (messages : List Message) (answers : List Answer) (afterwards : Situation) → afterwards.honest ≡ true
      → AllAnswered messages (situation None J failures capacity true writes) answers afterwards → ServedHolds messages (situation None J failures capacity true writes) answers afterwards → IsRunOfNew capacity messages answers
  run_of_new fits failures writes messages answers afterwards honest answered h =
      let volume : min capacity GREATEST_CAPACITY ≡ capacity = omega (arith, fits) in
      let all = h (min capacity GREATEST_CAPACITY) (formatted 0) (subst IsTrue (sym honest) refl) (new_is_at failures writes) in
      record {
        new = situation None J failures capacity true writes;
        last = afterwards;
        size = refl;
        honest = refl;
        closed = refl;
        stands = subst (λ (n : ℕ). HoldsState n (formatted 0) (situation None J failures capacity true writes)) volume (new_is_at failures writes);
        answered = answered;
        failures = answered_counted messages (situation None J failures capacity true writes) answers afterwards answered;
        end = length (held afterwards.journal);
        marks = all.holds.marks;
        counts = all.holds.counts;
        committed = all.holds.committed;
        fits = subst (λ (n : ℕ). Fits (need spelled_length) n (length (held afterwards.journal)) (formatted 0) 262 0 (brought messages) (model_answers answers) all.holds.marks all.holds.counts all.holds.committed) volume
            (subst (λ (n : ℕ). Fits (need spelled_length) (min capacity GREATEST_CAPACITY) (length (held afterwards.journal)) (formatted 0) n 0 (brought messages) (model_answers answers) all.holds.marks all.holds.counts all.holds.committed) new_long all.holds.fits);
        all_new = all.holds.new;
        each_once = all.holds.once;
      }

  answers_all : capacity ≤ GREATEST_CAPACITY → (failures : ℕ) (writes : List (List (List ℕ))) (afterwards : Situation) (i l o w : Option (List ℕ)) → afterwards.honest ≡ true
      → AppliesAll (situation None J failures capacity true writes) afterwards i l o w → AnswersAll capacity i l o w
  answers_all fits failures writes afterwards i l o w honest (kept, h) = record {
    bytes = h.serving.bytes;
    messages = h.serving.messages;
    answers = h.serving.answers;
    reader = h.reader;
    consumed = h.serving.consumed;
    messages_are = h.serving.messages_are;
    run = run_of_new fits failures writes h.serving.messages h.serving.answers (with_store kept afterwards) honest h.serving.answered h.holds;
    told = h.serving.told;
    idle = h.idle;
    ends = h.ends;
  }

  answers_until : (fault : ServeFault) → capacity ≤ GREATEST_CAPACITY → (failures : ℕ) (writes : List (List (List ℕ))) (afterwards : Situation) (i l o w : Option (List ℕ)) → afterwards.honest ≡ true
      → AppliesUntil fault (situation None J failures capacity true writes) afterwards i l o w → AnswersUntil fault capacity i l o w
  answers_until fault fits failures writes afterwards i l o w honest (kept, h) = record {
    some = record {
      bytes = h.some.bytes;
      messages = h.some.messages;
      answers = h.some.answers;
      reader = h.some.reader;
      consumed = h.some.consumed;
      messages_are = h.some.messages_are;
      run = run_of_new fits failures writes h.some.messages h.some.answers (with_store kept afterwards) honest h.some.answered h.some.holds;
      front = h.some.front;
    };
    left_by = h.left_by;
  }

  answers_in_memory : {T : Type 0} (outcome : Result T Fault) → capacity ≤ GREATEST_CAPACITY → (failures : ℕ) (writes : List (List (List ℕ))) (afterwards : Situation) (i l o w : Option (List ℕ)) → afterwards.honest ≡ true
      → AppliesStream outcome (situation None J failures capacity true writes) afterwards i l o w → AnswersInMemory outcome capacity i l o w
  answers_in_memory (Ok x) fits failures writes afterwards i l o w honest h = answers_all fits failures writes afterwards i l o w honest h
  answers_in_memory (Err Usage) fits failures writes afterwards i l o w honest h = absurd h
  answers_in_memory (Err Path) fits failures writes afterwards i l o w honest h = absurd h
  answers_in_memory (Err Socket) fits failures writes afterwards i l o w honest h = absurd h
  answers_in_memory (Err (Stored fault)) fits failures writes afterwards i l o w honest h = absurd h
  answers_in_memory (Err (Stream fault)) fits failures writes afterwards i l o w honest h = answers_until fault fits failures writes afterwards i l o w honest h

-- the drive's capacity and journal by the contracts of the calls that lead to it
pub memory_answers : {T : Type 0} (outcome : Result T Fault) (capacity size later : ℕ) (label : List ℕ) (before J : List Event) (failures : ℕ) (writes : List (List (List ℕ))) (afterwards : Situation) (i l o w : Option (List ℕ))
    → capacity ≤ GREATEST_CAPACITY → size ≡ capacity → later ≡ size → before ≡ [] → IsFormatted size (words_on size label 0) before J true → afterwards.honest ≡ true
    → AppliesStream outcome (situation None J failures later true writes) afterwards i l o w → AnswersInMemory outcome capacity i l o w
memory_answers outcome capacity size later label before J failures writes afterwards i l o w fits same still blank made honest h =
    let here : IsFormatted capacity (words_on capacity label 0) [] J true = subst (λ (n : ℕ). IsFormatted n (words_on n label 0) [] J true) same
    (subst (λ (B : List Event). IsFormatted size (words_on size label 0) B J true) blank made) in
    answers_in_memory capacity label J here outcome fits failures writes afterwards i l o w honest
    (subst (λ (n : ℕ). AppliesStream outcome (situation None J failures n true writes) afterwards i l o w) (still ∙ same) h)

-- ---- where there is no new volume

-- a format that is refused on a blank drive in memory, by the calls that lead to it
unmade : (capacity : ℕ) (fault : StoreFault) (afterwards : List Event) → (fault ≡ stores.Label → IsSome (first_text_fault (label_faults (codes "MEM")))) → (fault ≡ stores.Small → capacity < LEAST_CAPACITY)
    → IsFormatRefused capacity (words_on capacity (codes "MEM") 0) [] afterwards true fault → IsUnmade capacity fault
unmade capacity stores.NotBlank afterwards label small h = λ blocks is. h.1 refl (record { whole = blocks; is = is; count = 0; front = refl })
unmade capacity stores.Label afterwards label small h = label refl
unmade capacity stores.Small afterwards label small h = small refl
unmade capacity stores.Device afterwards label small h = tt
unmade capacity stores.Memory afterwards label small h = tt
unmade capacity stores.NotFormatted afterwards label small h = absurd h
unmade capacity (stores.Damaged block cause) afterwards label small h = absurd h
unmade capacity stores.Full afterwards label small h = absurd h
unmade capacity stores.Stopped afterwards label small h = absurd h
unmade capacity stores.NoCommit afterwards label small h = absurd h
unmade capacity stores.NotFound afterwards label small h = absurd h
unmade capacity stores.IsDirectory afterwards label small h = absurd h
unmade capacity stores.NotDirectory afterwards label small h = absurd h
unmade capacity stores.TooLong afterwards label small h = absurd h

pub unmade_answers : {T U : Type 0} (outcome : Result T Fault) (made : Result U StoreFault) (fault : StoreFault) (capacity size : ℕ) (before afterwards : List Event) (i o : Option (List ℕ)) → IsErrAnd outcome (λ f. f ≡ Stored fault)
    → made ≡ Err fault → size ≡ capacity → before ≡ [] → IsFormatRefused size (words_on size (codes "MEM") 0) before afterwards true fault
    → ((made ≡ Err stores.Label) ↔ IsSome (first_text_fault (label_faults (codes "MEM")))) → ((made ≡ Err stores.Small) ↔ (IsNone (first_text_fault (label_faults (codes "MEM"))) × (size < LEAST_CAPACITY)))
    → AnswersInMemory outcome capacity i i o o
unmade_answers {T} {U} (Ok x) made fault capacity size before afterwards i o is told same blank refused label small = absurd is
unmade_answers {T} {U} (Err f) made fault capacity size before afterwards i o is told same blank refused label small =
    let here : IsFormatRefused capacity (words_on capacity (codes "MEM") 0) [] afterwards true fault =
    subst (λ (n : ℕ). IsFormatRefused n (words_on n (codes "MEM") 0) [] afterwards true fault) same (subst (λ (J : List Event). IsFormatRefused size (words_on size (codes "MEM") 0) J afterwards true fault) blank refused) in
    let right : (fault ≡ stores.Label → IsSome (first_text_fault (label_faults (codes "MEM")))) = λ e. label.0 (told ∙ ap (λ (x : StoreFault). Err x) e) in
    let less : (fault ≡ stores.Small → capacity < LEAST_CAPACITY) = λ e. subst (λ (n : ℕ). n < LEAST_CAPACITY) same (small.0 (told ∙ ap (λ (x : StoreFault). Err x) e)).1 in
    subst (λ (g : Fault). AnswersInMemory {T = T} (Err g) capacity i i o o) (sym is) (unmade capacity fault afterwards right less here, refl, keeps_self o)
