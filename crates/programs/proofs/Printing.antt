-- What was asked of a volume was printed, or it was refused.
use Rattle.std.proofs.Common.{◌≡◌, ◌⊎◌, ℕ, ◌+◌, Bool, false, List, length, take, Option, Result, Ok, Err, refl, sym, ap, subst, ◌∙◌, inl, inr}
use Rattle.std.specs.Prelude.{IsTrue, IsErrAnd}
use Rattle.limits.specs.declared.TheConstants.{GREATEST_CAPACITY, FILE_BYTES}
use Rattle.drive.specs.Journal.{Event, Once, held}
use Rattle.drive.specs.Reads.{CountsFailures}
use Rattle.drive.specs.declared.Drive.{Ghosts}
use Rattle.model.specs.Session.{State}
use Rattle.model.specs.Tree.{Path, Tree}
use Rattle.durability.specs.Volume.{RecoversTo}
use Rattle.durability.specs.Runs.{told}
use Rattle.durability.specs.Runs.Answer.{Names}
use Rattle.durability.specs.Runs.Query.{List_, Read}
use Rattle.udf.specs.Udf.{udf}
use Rattle.request.specs.Path.{IsPath, path_text}
use Rattle.request.specs.declared.answer.Listed.{Listed}
use Rattle.request.specs.declared.path.PathFault.{PathFault}
use Rattle.request.specs.declared.path.PathFault.TheVariants as paths
use Rattle.recover.specs.declared.fault.StoreFault.{StoreFault}
use Rattle.recover.specs.declared.fault.StoreFault.TheVariants.{Memory}
use Rattle.store.specs.declared.history.Commit.{Commit}
use Rattle.store.specs.declared.store.Store.{Store}
use Rattle.lookup.specs.Asked.{said_names}
use Rattle.recover.specs.Faults.{IsShortage}
use Rattle.store.specs.Calls.{IsOpenOn, ReadRefuses}
use Rattle.store.specs.History.{IsHistory, IsHistoryRefused}
use Rattle.store.specs.Opened.{IsOpenRefused}
use Rattle.store.specs.Past.{AllRecovered, IsRecoveredCheckRefused}
use Rattle.lookup.specs.Queries.{IsQueryRefused as QueryRefused}
use Rattle.lookup.specs.Shows.{HasNodesOf as TreeShows}
use Rattle.store.proofs.Knowing.{shows}
use Rattle.store.proofs.Queried.{lists}
use Rattle.engine.specs.declared.serving.ServeFault.TheVariants as streams
use Rattle.programs.specs.declared.fault.Fault.{Fault}
use Rattle.programs.specs.declared.fault.Fault.TheVariants as faults
use Rattle.programs.specs.Images.{Images, IsOpened, IsPutBack, IsThere}
use Rattle.programs.specs.Lines.{PutsBytes, names_text, commits_text, sound_text}
use Rattle.programs.specs.Questions.{BeginsFileAt, IsAnswerFront, IsAnswerText, IsFileAt, IsQuestionAnswered, IsQuestionRefused, Known, PrintsAnswer, PrintsNothing, PrintsRefused, PutsFile, Question, RefusesQuestion, ShowsImage, ShowsPath}
use Rattle.programs.specs.Questions.Question.{Names_at, Bytes_at, Commits, Soundness}
use Rattle.programs.specs.Status.{IsPathTold, drive_failures}
use Rattle.programs.proofs.Opening.{keeps_self, on_media, untouched}

-- ---- by the outcome

pub shows_put : {T : Type 0} (question : Question) (outcome : Result T Fault) (capacity : ℕ) (J : List Event) (honest : Bool) (o w : Option (List ℕ)) (bytes : List ℕ) → PutsBytes outcome o w bytes
    → (IsTrue honest → Once J → IsQuestionAnswered question capacity J bytes) → PrintsAnswer question outcome capacity J honest o w
shows_put question (Ok x) capacity J honest o w bytes puts said = record { bytes = bytes; printed = puts; said = said }
shows_put question (Err faults.Usage) capacity J honest o w bytes puts said = puts
shows_put question (Err faults.Path) capacity J honest o w bytes puts said = puts
shows_put question (Err faults.Socket) capacity J honest o w bytes puts said = puts
shows_put question (Err (faults.Store fault)) capacity J honest o w bytes puts said = absurd puts
shows_put question (Err (faults.Stream streams.Read)) capacity J honest o w bytes puts said = puts
shows_put question (Err (faults.Stream streams.Write)) capacity J honest o w bytes puts said =
    record { front = take puts.0 bytes; printed = puts.1; said = λ sure once. (bytes, said sure once, puts.0, refl) }
shows_put question (Err (faults.Stream streams.Memory)) capacity J honest o w bytes puts said = puts

prints_nothing : (question : Question) (capacity : ℕ) (J : List Event) (honest : Bool) (fault : StoreFault) (o w : Option (List ℕ)) → PrintsNothing question capacity J honest fault o w → PrintsRefused question capacity J honest fault o w
prints_nothing (Names_at path) capacity J honest fault o w h = h
prints_nothing (Bytes_at path) capacity J honest fault o w h = inl h
prints_nothing Commits capacity J honest fault o w h = h
prints_nothing Soundness capacity J honest fault o w h = h

pub shows_refused : {T : Type 0} (question : Question) (outcome : Result T Fault) (capacity : ℕ) (J : List Event) (honest : Bool) (o : Option (List ℕ)) (fault : StoreFault) → IsErrAnd outcome (λ f. f ≡ faults.Store fault)
    → (IsTrue honest → Once J → IsOpenRefused capacity (held J) fault ⊎ IsQuestionRefused question capacity J fault) → PrintsAnswer question outcome capacity J honest o o
shows_refused {T} question (Ok x) capacity J honest o fault is refused = absurd is
shows_refused {T} question (Err f) capacity J honest o fault is refused =
    subst (λ (g : Fault). PrintsAnswer {T = T} question (Err g) capacity J honest o o) (sym is) (prints_nothing question capacity J honest fault o o (record { unwritten = keeps_self o; refused = refused }))

-- ---- by what a store says of the state that it knows

module _ (capacity : ℕ) (J : List Event) (store : Store) where
  abbrev Standing : Type 0
  Standing = (S : State) × IsOpenOn capacity store.capacity J S store

  said_of : (question : Question) (bytes : List ℕ) (known : Standing) → IsAnswerText question capacity store.capacity (held J) known.0 known.1.stands.at bytes → IsQuestionAnswered question capacity J bytes
  said_of question bytes known says = record { volume = store.capacity; state = known.0; stands = known.1.stands; says = says }

  refused_of : (question : Question) (fault : StoreFault) (known : Standing) → RefusesQuestion question capacity store.capacity (held J) known.0 known.1.stands.at fault → IsQuestionRefused question capacity J fault
  refused_of question fault known refuses = record { volume = store.capacity; state = known.0; stands = known.1.stands; refuses = refuses }

  module _ (K : List Event) (opened later : Bool) (journal : K ≡ J) (still : IsTrue later → IsTrue opened) (stands : IsTrue opened → Once J → (S : State) × IsOpenOn capacity store.capacity J S store) where
    known_at : IsTrue later → Once J → Standing
    known_at honest once = stands (still honest) once

    -- what the blocks show, on the journal as the query finds it
    shown_at : (honest : IsTrue later) (once : Once J) → TreeShows later K store.directories store.vat_icb_address store.vat.entries.items (known_at honest once).0.tree
    shown_at honest once = let known = known_at honest once in
        subst (λ (j : List Event). TreeShows later j store.directories store.vat_icb_address store.vat.entries.items known.0.tree) (sym journal) (shows capacity store.capacity J known.0 store known.1 later honest)

    once_at : Once J → Once K
    once_at once = subst (λ (j : List Event). Once j) (sym journal) once

    pub names_said : (path : Path) (names : List Listed) (bytes : List ℕ) → ((tree : Tree) → TreeShows later K store.directories store.vat_icb_address store.vat.entries.items tree → told tree (List_ path) ≡ Names (said_names names))
        → bytes ≡ names_text (said_names names) → IsTrue later → Once J → IsQuestionAnswered (Names_at path) capacity J bytes
    names_said path names bytes is text honest once = let known = known_at honest once in
        said_of (Names_at path) bytes known (said_names names, is known.0.tree (shown_at honest once), text)

    pub names_refused : (path : Path) (fault : StoreFault) → store.is_stopped ≡ false
        → ((tree : Tree) → TreeShows later K store.directories store.vat_icb_address store.vat.entries.items tree → store.is_stopped ≡ false → QueryRefused (told tree (List_ path)) fault)
        → IsTrue later → Once J → IsOpenRefused capacity (held J) fault ⊎ IsQuestionRefused (Names_at path) capacity J fault
    names_refused path fault going refused honest once = let known = known_at honest once in
        inr (refused_of (Names_at path) fault known (lists known.0 path (Err fault) tt (refused known.0.tree (shown_at honest once) going)))

    pub names_short : (path : Path) → IsTrue later → Once J → IsOpenRefused capacity (held J) Memory ⊎ IsQuestionRefused (Names_at path) capacity J Memory
    names_short path honest once = inr (refused_of (Names_at path) Memory (known_at honest once) (inl (inr refl)))

    -- what was printed of a file, by what holds on each state that the store knows
    pub shows_file : {T : Type 0} (path : Path) (outcome : Result T Fault) (size : ℕ) (o w : Option (List ℕ)) → size ≡ capacity
        → PutsFile (λ bytes. Known (λ volume S. IsOpenOn size volume K S store) later (λ S. IsFileAt S.tree path bytes))
        (λ front. Known (λ volume S. IsOpenOn size volume K S store) later (λ S. BeginsFileAt S.tree path front))
        (λ fault. Known (λ volume S. IsOpenOn size volume K S store) later (λ S. ReadRefuses (told S.tree (Read path 0 FILE_BYTES)) fault))
        (λ fault. Known (λ volume S. IsOpenOn size volume K S store) later (λ S. IsShortage fault)) outcome o w
        → PrintsAnswer (Bytes_at path) outcome capacity J later o w
    shows_file path outcome size o w same = by outcome
      where
        Says : (State → Type 0) → Type 0
        Says Is = Known (λ volume S. IsOpenOn size volume K S store) later Is

        here_too : (Is : State → Type 0) → Says Is → (honest : IsTrue later) (once : Once J) → Is (known_at honest once).0
        here_too Is says honest once = let known = known_at honest once in
            says store.capacity known.0 honest (subst (λ (n : ℕ). IsOpenOn n store.capacity K known.0 store) (sym same) (subst (λ (j : List Event). IsOpenOn capacity store.capacity j known.0 store) (sym journal) known.1))

        front_at : (front : List ℕ) → Says (λ S. BeginsFileAt S.tree path front) → IsTrue later → Once J → IsAnswerFront (Bytes_at path) capacity J front
        front_at front says honest once =
            let all = here_too (λ S. BeginsFileAt S.tree path front) says honest once in
            (all.0, said_of (Bytes_at path) all.0 (known_at honest once) all.1, all.2, all.3)

        by : {T : Type 0} (result : Result T Fault) → PutsFile (λ bytes. Says (λ S. IsFileAt S.tree path bytes)) (λ front. Says (λ S. BeginsFileAt S.tree path front)) (λ fault. Says (λ S. ReadRefuses (told S.tree (Read path 0 FILE_BYTES)) fault)) (λ fault. Says (λ S. IsShortage fault)) result o w
            → PrintsAnswer (Bytes_at path) result capacity J later o w
        by (Ok x) (bytes, printed, is) =
            record { bytes = bytes; printed = printed; said = λ honest once. said_of (Bytes_at path) bytes (known_at honest once) (here_too (λ S. IsFileAt S.tree path bytes) is honest once) }
        by (Err faults.Usage) h = h
        by (Err faults.Path) h = h
        by (Err faults.Socket) h = h
        by (Err (faults.Store fault)) (inl (kept, refuses)) =
            inl (record { unwritten = kept; refused = λ honest once. inr (refused_of (Bytes_at path) fault (known_at honest once) (here_too (λ S. ReadRefuses (told S.tree (Read path 0 FILE_BYTES)) fault) refuses honest once)) })
        by (Err (faults.Store fault)) (inr (front, printed, begins, ends)) =
            inr (record { front = front; printed = printed; said = λ honest once. (here_too (λ S. IsShortage fault) ends honest once, front_at front begins honest once) })
        by (Err (faults.Stream streams.Read)) h = h
        by (Err (faults.Stream streams.Write)) (front, printed, begins) = record { front = front; printed = printed; said = front_at front begins }
        by (Err (faults.Stream streams.Memory)) h = h

    -- the store's address is that of the VAT ICB with which the state is recovered
    here : (honest : IsTrue later) (once : Once J) → store.vat_icb_address ≡ (known_at honest once).1.stands.at
    here honest once = (known_at honest once).1.at

    knows_here : (size : ℕ) → size ≡ capacity → (honest : IsTrue later) (once : Once J) → IsOpenOn size store.capacity K (known_at honest once).0 store
    knows_here size same honest once = let known = known_at honest once in
        subst (λ (n : ℕ). IsOpenOn n store.capacity K known.0 store) (sym same) (subst (λ (j : List Event). IsOpenOn capacity store.capacity j known.0 store) (sym journal) known.1)

    pub commits_said : (size : ℕ) (commits : List Commit) (bytes : List ℕ) → size ≡ capacity → (IsTrue later → IsHistory (held K) store.vat_icb_address commits)
        → ((volume : ℕ) (T : State) → IsTrue later → IsOpenOn size volume K T store → length commits ≡ T.commits + 1)
        → bytes ≡ commits_text commits → IsTrue later → Once J → IsQuestionAnswered Commits capacity J bytes
    commits_said size commits bytes same history all text honest once = let known = known_at honest once in
        said_of Commits bytes known (
          commits,
          subst (λ (a : ℕ). IsHistory (held J) a commits) (here honest once) (subst (λ (j : List Event). IsHistory (held j) store.vat_icb_address commits) journal (history honest)),
          all store.capacity known.0 honest (knows_here size same honest once),
          text,
        )

    pub commits_refused : (fault : StoreFault) → (IsTrue later → IsHistoryRefused (held K) store.vat_icb_address fault)
        → IsTrue later → Once J → IsOpenRefused capacity (held J) fault ⊎ IsQuestionRefused Commits capacity J fault
    commits_refused fault refused honest once =
        inr (refused_of Commits fault (known_at honest once)
        (subst (λ (a : ℕ). IsHistoryRefused (held J) a fault) (here honest once) (subst (λ (j : List Event). IsHistoryRefused (held j) store.vat_icb_address fault) journal (refused honest))))

    pub commits_short : IsTrue later → Once J → IsOpenRefused capacity (held J) Memory ⊎ IsQuestionRefused Commits capacity J Memory
    commits_short honest once = inr (refused_of Commits Memory (known_at honest once) tt)

-- ---- by what a check says

module _ (capacity : ℕ) (J : List Event) (h : Type 0) where
  pub sound_said : (n : ℕ) (bytes : List ℕ) → (h → (volume : ℕ) × (S : State) × RecoversTo udf capacity volume (held J) S)
      → ((volume : ℕ) (S : State) → h → RecoversTo udf capacity volume (held J) S → (n ≡ S.commits) × AllRecovered capacity volume (held J) S.commits) → bytes ≡ sound_text n → h → Once J
      → IsQuestionAnswered Soundness capacity J bytes
  sound_said n bytes recovers counts text honest once =
      let (volume, S, stands) = recovers honest in
      let (count, whole) = counts volume S honest stands in
      record { volume = volume; state = S; stands = stands; says = (whole, text ∙ ap sound_text count) }

  pub sound_refused : (fault : StoreFault) → (h → IsOpenRefused capacity (held J) fault ⊎ IsRecoveredCheckRefused capacity (held J) fault) → h → Once J → IsOpenRefused capacity (held J) fault ⊎ IsQuestionRefused Soundness capacity J fault
  sound_refused fault refused honest once = elim (refused honest) [
    | inl unopened ↦ inl unopened
    | inr (volume, S, stands, refuses) ↦ inr (record { volume = volume; state = S; stands = stands; refuses = refuses })
  ]

-- ---- on an image

pub shows_image : {T D : Type 0} (drive : Ghosts D) (question : Question) (image : List ℕ) (outcome : Result T Fault) (d e : D) (before between afterwards : Images) (o w : Option (List ℕ))
    → IsOpened drive IsThere GREATEST_CAPACITY image d before between → IsPutBack drive image e between afterwards → drive.journal e ≡ drive.journal d → drive.writes e ≡ drive.writes d
    → CountsFailures (drive_failures outcome) (drive.failures d) (drive.failures e) → PrintsAnswer question outcome (drive.capacity d) (drive.journal d) (drive.honest e) o w → ShowsImage question image outcome before afterwards o w
shows_image drive question image outcome d e before between afterwards o w opened back journal writes failures h =
    inr (on_media drive IsThere GREATEST_CAPACITY image (λ first last. (last.journal ≡ first.journal) × (last.writes ≡ first.writes) × CountsFailures (drive_failures outcome) first.failures last.failures × PrintsAnswer question outcome first.capacity first.journal last.honest o w) d e before between afterwards opened back (journal, writes, failures, h))

pub shows_path : {T : Type 0} (question : Path → Question) (image text : List ℕ) (path : Path) (outcome : Result T Fault) (before afterwards : Images) (o w : Option (List ℕ)) → IsPath path × (text ≡ path_text path)
    → ShowsImage (question path) image outcome before afterwards o w → ShowsPath question image text outcome before afterwards o w
shows_path question image text path outcome before afterwards o w is h = inr (path, is.0, is.1, h)

pub path_unread : {T : Type 0} (question : Path → Question) (image text : List ℕ) (fault : PathFault) (outcome : Result T Fault) (images : Images) (o : Option (List ℕ)) → IsErrAnd outcome (IsPathTold fault)
    → (fault ≡ paths.Path → (path : Path) → IsPath path → text ≡ path_text path → ⊥) → ShowsPath question image text outcome images images o o
path_unread question image text paths.Path (Ok x) images o is only = absurd is
path_unread question image text paths.Memory (Ok x) images o is only = absurd is
path_unread question image text paths.Path (Err f) images o is only = inl (inl (ap (λ (g : Fault). Err g) is, only refl), untouched images, keeps_self o)
path_unread question image text paths.Memory (Err f) images o is only = inl (inr (ap (λ (g : Fault). Err g) is), untouched images, keeps_self o)
