-- Processes of `udfburn` one after another: what each leaves, and what the next one finds.
use Rattle.std.proofs.Common.{◌≡◌, ℕ, ◌≤◌, min, List, [], ◌∷◌, drop, Option, Some, Result, Ok, Err, IsTrue, inl, inr, refl, sym, ap, ◌∙◌, subst, arith}
use Rattle.std.specs.Prelude.{⊤}
use Rattle.std.proofs.lemmas.Bool.{false≢true}
use Rattle.std.specs.Io.KnownBytes.{Appends}
use Rattle.limits.specs.declared.TheConstants.{GREATEST_CAPACITY}
use Rattle.drive.specs.Journal.{Event, Once, held, next_of}
use Rattle.drive.proofs.Once.{next_once, once_write}
use Rattle.media.specs.Held.{initial_journal}
use Rattle.model.specs.Session.{State, formatted}
use Rattle.model.specs.Tree.{Path}
use Rattle.durability.specs.Volume.{RecoversTo}
use Rattle.durability.proofs.One.{stands_one}
use Rattle.udf.specs.Udf.{udf}
use Rattle.udf.proofs.Formats.{exact}
use Rattle.formatting.specs.NewVolume.{words_on, IsFormatted}
use Rattle.request.specs.Path.{IsPath, path_text}
use Rattle.programs.specs.declared.fault.Fault.{Fault}
use Rattle.programs.specs.FaultLines.{Said}
use Rattle.programs.specs.Images.{Images}
use Rattle.programs.specs.Inputs.{Input}
use Rattle.programs.specs.InTurn.{HasDone, ThreeProcesses, TwoProcesses}
use Rattle.programs.specs.NewVolumes.{MakesOnImage}
use Rattle.programs.specs.Processes.{AreRuns, Process}
use Rattle.programs.specs.Processes.Process.{Command}
use Rattle.programs.specs.Questions.{IsFileAt, ShowsPath}
use Rattle.programs.specs.Questions.Question.{Bytes_at}
use Rattle.programs.specs.Status.{status_of}
use Rattle.programs.specs.Tasks.{IsTaskDone, Task}
use Rattle.programs.specs.Tasks.Task.{Format, Apply_to_image, Get_bytes}
use Rattle.programs.proofs.Opening.{untouched}
use Rattle.programs.proofs.Processes.{all_honest, processes_are_runs}
use Rattle.programs.proofs.Telling.{refused_not}

-- ---- what a process did, by its contract

went_well : (task : Task) (outcome : Result ⊤ Fault) (old new : Images) (i l o w : Option (List ℕ)) → 0 ≡ status_of outcome → IsTaskDone task outcome old new i l o w → IsTaskDone {T = ⊤} task (Ok tt) old new i l o w
went_well task (Ok x) old new i l o w is h = h
went_well task (Err fault) old new i l o w is h = refused_not 0 fault is refl

did_of : (task : Task) (before afterwards : Images) (i l : Input) (o w : Option (List ℕ)) (e f : Said) → HasDone task before afterwards i l o w e f → IsTaskDone {T = ⊤} task (Ok tt) before afterwards i.remaining l.remaining o w
did_of task before afterwards i l o w e f h =
    subst (λ (t : Task). IsTaskDone {T = ⊤} t (Ok tt) before afterwards i.remaining l.remaining o w) h.asks (went_well _ h.whole.ends.outcome before afterwards i.remaining l.remaining o w h.whole.ends.status_is h.whole.ends.does)

not_refused : {T E P : Type 0} (x : T) (fault : E) → Ok x ≡ Err fault → P
not_refused {T} {E} {P} x fault e = absurd (subst IsFine e tt)
  where
    IsFine : Result T E → Type 0
    IsFine (Ok y) = ⊤
    IsFine (Err y) = ⊥

one_journal : (a b : List Event) → Some a ≡ Some b → a ≡ b
one_journal a b e = ap initial_journal e

-- what a `get` printed of an image that recovers to a state
gets : (image text : List ℕ) (old new : Images) (volume : ℕ) (S : State) (J : List Event) (o w : Option (List ℕ)) → ShowsPath {T = ⊤} Bytes_at image text (Ok tt) old new o w → IsTrue new.honest → new.held image ≡ Some J
    → RecoversTo udf GREATEST_CAPACITY volume (held J) S → (path : Path) × IsPath path × (text ≡ path_text path) × ((bytes : List ℕ) × IsFileAt S.tree path bytes × Appends o w bytes)
gets image text old new volume S J o w (inl (inl unread, same, kept)) honest there stands = not_refused tt _ unread.0
gets image text old new volume S J o w (inl (inr unread, same, kept)) honest there stands = not_refused tt _ unread
gets image text old new volume S J o w (inr (path, is, same, inl h)) honest there stands = not_refused tt _ h.fault
gets image text old new volume S J o w (inr (path, is, same, inr h)) honest there stands =
    let shown = h.did.3 in
    let journal : h.journal ≡ J = sym (one_journal J h.last.journal (sym there ∙ h.left) ∙ h.did.0) in
    let answered = shown.said (h.drive_honest honest) h.once in
    let other : RecoversTo udf GREATEST_CAPACITY answered.volume (held J) answered.state = subst (λ (j : List Event). RecoversTo udf GREATEST_CAPACITY answered.volume (held j) answered.state) journal answered.stands in
    let one : answered.state ≡ S = stands_one udf exact GREATEST_CAPACITY answered.volume GREATEST_CAPACITY volume (held J) answered.state S other stands in
    (path, is, same, (shown.bytes, subst (λ (T : State). IsFileAt T.tree path shown.bytes) one answered.says, shown.printed))

pub two_processes : TwoProcesses
two_processes image text first second last volume S before i l o w e f j k p v d q applied got honest there once stands =
    let a = did_of (Apply_to_image image) first second i l o w e f applied in
    let b = did_of (Get_bytes image text) second last j k p v d q got in
    let processes : List Process = Command (Apply_to_image image) (Ok tt) i.remaining l.remaining o w ∷ Command (Get_bytes image text) (Ok tt) j.remaining k.remaining p v ∷ [] in
    let runs : AreRuns image processes volume S before last = processes_are_runs image processes first last volume S before honest (second, a, (last, b, untouched last)) there once stands in
    let what = gets image text second last volume _ runs.afterwards p v b.1 honest runs.held_is runs.survives.stands in
    record { runs = runs; path = what.0; is_path = what.1; text_is = what.2; bytes = what.3.0; said = what.3.1; shown = what.3.2 }

-- ---- a new volume, in a drive of any capacity that has room for it

wider : (capacity volume : ℕ) (medium : List (List ℕ)) (S : State) → volume ≤ GREATEST_CAPACITY → RecoversTo udf capacity volume medium S → RecoversTo udf GREATEST_CAPACITY volume medium S
wider capacity volume medium S fits h = record {
  at = h.at;
  block = h.block;
  last = h.last;
  tells = record {
    table = h.tells.table;
    has = h.tells.has;
    commits = h.tells.commits;
    next_identity = h.tells.next_identity;
    records = h.tells.records;
    table_length = h.tells.table_length;
    formatted = h.tells.formatted;
    front = h.tells.front;
    fits = fits;
    set_number = h.tells.set_number;
    set_used = h.tells.set_used;
    set_block = h.tells.set_block;
    set_there = h.tells.set_there;
    set_is = h.tells.set_is;
    tree = h.tells.tree;
    makes = h.tells.makes;
    identities = h.tells.identities;
    files = h.tells.files;
    directories = h.tells.directories;
    few_commits = h.tells.few_commits;
    few_identities = h.tells.few_identities;
  };
}

-- What a format leaves at its path: each address was written once, and the new volume is recovered.
record IsNew (image : List ℕ) (moment capacity : ℕ) (new : Images) : Type 0 where
  pub journal : List Event
  pub there : new.held image ≡ Some journal
  pub once : Once journal
  pub stands : RecoversTo udf GREATEST_CAPACITY (min capacity GREATEST_CAPACITY) (held journal) (formatted moment)

makes_new : (image label : List ℕ) (moment capacity : ℕ) (old new : Images) (o w : Option (List ℕ)) → MakesOnImage {T = ⊤} image label moment capacity (Ok tt) old new o w → IsTrue new.honest → IsNew image moment capacity new
makes_new image label moment capacity old new o w (inl h) honest = not_refused tt _ h.fault
makes_new image label moment capacity old new o w (inr h) honest = elim h.did [
  | inl refused ↦ absurd (false≢true refused.refused)
  | inr made ↦ (
      let is : IsFormatted capacity (words_on capacity label moment) h.journal h.last.journal h.last.honest = made.3.0 in
      record {
        journal = h.last.journal;
        there = h.left;
        once = subst (λ (j : List Event). Once j) (sym is.journal) (once_write h.journal (next_of h.journal) (drop (next_of h.journal) is.blocks) h.once (next_once h.journal h.once));
        stands = wider capacity (min capacity GREATEST_CAPACITY) (held h.last.journal) (formatted moment) (omega arith) (is.stands (h.drive_honest honest));
      })
]

pub three_processes : ThreeProcesses
three_processes image label text moment capacity first second third last g h r m s t i l o w e f j k p v d q formatting applied got honest =
    let n = did_of (Format image label moment capacity) first second g h r m s t formatting in
    let a = did_of (Apply_to_image image) second third i l o w e f applied in
    let b = did_of (Get_bytes image text) third last j k p v d q got in
    let processes : List Process = Command (Apply_to_image image) (Ok tt) i.remaining l.remaining o w ∷ Command (Get_bytes image text) (Ok tt) j.remaining k.remaining p v ∷ [] in
    let then : IsTrue second.honest = all_honest processes second last honest (third, a, (last, b, untouched last)) in
    let new = makes_new image label moment capacity first second r m n.1 then in
    (new.journal, two_processes image text second third last (min capacity GREATEST_CAPACITY) (formatted moment) new.journal i l o w e f j k p v d q applied got honest new.there new.once new.stands)
