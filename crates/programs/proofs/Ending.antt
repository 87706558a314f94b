-- What words ask for is one task, and how it ends by the outcome.
use Rattle.std.proofs.Common.{◌≡◌, ℕ, List, [], ◌∷◌, ◌++◌, Bool, true, false, Option, Result, refl, sym, ap, ◌∙◌, subst, IsTrue, get_or, take, drop, codes}
use Rattle.std.specs.Prelude.{bytes_eq, if◌then◌else◌, ◌==◌}
use Rattle.std.specs.Str.Parse.{digits_value}
use Rattle.std.proofs.lemmas.List.{take-append-drop}
use Rattle.media.specs.Held.{Same}
use Rattle.model.proofs.Lists.{bytes_same}
use Rattle.command_line.specs.declared.command.Command.{Command}
use Rattle.command_line.specs.declared.command.Command.TheVariants as commands
use Rattle.command_line.specs.declared.command.Storage.TheVariants.{Image, Memory}
use Rattle.command_line.specs.Commands.{Asks}
use Rattle.programs.specs.declared.fault.Fault.{Fault}
use Rattle.programs.specs.FaultLines.{Said, Reports}
use Rattle.programs.specs.Images.{Images}
use Rattle.programs.specs.Status.{status_of}
use Rattle.programs.specs.Inputs.{Input}
use Rattle.programs.specs.Tasks.{Task, task_of, CountsTaskReads, IsTaskDone, Ends, IsReading}
use Rattle.programs.specs.Tasks.Task.{Format, Apply_to_image, Apply_in_memory, List_names, Get_bytes, Log, Check, Send}
use Rattle.programs.proofs.Reading.{reading_same}

-- ---- the task of words that ask for one, by the bytes with which its name begins

abbrev word_at : List (List ℕ) → ℕ → List ℕ
word_at words i = get_or words i []

abbrev by_prefix : Bool → List ℕ → Task
by_prefix true word = Apply_in_memory (digits_value 10 (drop 4 word))
by_prefix false word = Apply_to_image word

abbrev named : ℕ → ℕ → List (List ℕ) → Task
named first second words =
    if first == 102 then Format (word_at words 1) (word_at words 2) (digits_value 10 (word_at words 3)) (digits_value 10 (word_at words 4))
    else (if first == 97 then by_prefix (bytes_eq (take 4 (word_at words 1)) (codes "mem:")) (word_at words 1)
    else (if first == 103 then Get_bytes (word_at words 1) (word_at words 2)
    else (if first == 99 then Check (word_at words 1)
    else (if first == 108 then (if second == 115 then List_names (word_at words 1) (word_at words 2) else Log (word_at words 1))
    else Send))))

abbrev task_for : List (List ℕ) → Task
task_for words = named (get_or (word_at words 0) 0 0) (get_or (word_at words 0) 1 0) words

no_prefix : (b : Bool) (word : List ℕ) → bytes_eq (take 4 word) (codes "mem:") ≡ b → ((rest : List ℕ) → word ≡ codes "mem:" ++ rest → ⊥) → by_prefix b word ≡ Apply_to_image word
no_prefix true word e none = absurd (none (drop 4 word) (sym (take-append-drop 4 word) ∙ ap (λ (x : List ℕ). x ++ drop 4 word) (bytes_same (take 4 word) (codes "mem:") e)))
no_prefix false word e none = refl

asked_task : (words : List (List ℕ)) (asked : Command) → Asks words asked → task_for words ≡ task_of asked
asked_task words (commands.Format image label moment capacity) h =
    ap task_for (h.1 ∙ ap (λ (rest : List (List ℕ)). codes "format" ∷ rest) h.2.2)
    ∙ (λ i. Format image.now label.now (h.2.3.1 i) (h.2.5.1 i))
asked_task words (commands.Apply (Image path)) h =
    ap task_for (h.1 ∙ ap (λ (rest : List (List ℕ)). codes "apply" ∷ rest) h.2.1) ∙ no_prefix (bytes_eq (take 4 h.2.0) (codes "mem:")) h.2.0 refl h.2.2.1 ∙ ap (λ (word : List ℕ). Apply_to_image word) h.2.2.0
asked_task words (commands.Apply (Memory capacity)) h =
    ap task_for (h.1 ∙ ap (λ (rest : List (List ℕ)). codes "apply" ∷ rest) h.2.1)
    ∙ ap (λ (word : List ℕ). by_prefix (bytes_eq (take 4 word) (codes "mem:")) word) h.2.2.1
    ∙ ap (λ (n : ℕ). Apply_in_memory n) h.2.2.2.1
asked_task words (commands.List image path) h = ap task_for h
asked_task words (commands.Get image path) h = ap task_for h
asked_task words (commands.Log image) h = ap task_for h
asked_task words (commands.Check image) h = ap task_for h
asked_task words (commands.Send socket) h = ap task_for h

-- ---- by the outcome of what was read

ends : (outcome : Result (Unit {0}) Fault) (words : List (List ℕ)) (asked other : Command) (status : ℕ) (old new : Images) (i l : Input) (o w : Option (List ℕ)) (e f : Said) → status ≡ status_of outcome → Reports (codes "udfburn") outcome e f → Asks words asked
    → IsTaskDone (task_of asked) outcome old new i.remaining l.remaining o w → CountsTaskReads (task_of asked) outcome i.failures l.failures → Asks words other → Ends (task_of other) status old new i l o w e f
ends outcome words asked other status old new i l o w e f is reports reads does counts asks = record {
  outcome = outcome;
  does = subst (λ (t : Task). IsTaskDone t outcome old new i.remaining l.remaining o w) (sym (asked_task words asked reads) ∙ asked_task words other asks) does;
  reads = subst (λ (t : Task). CountsTaskReads t outcome i.failures l.failures) (sym (asked_task words asked reads) ∙ asked_task words other asks) counts;
  status_is = is;
  reports = reports;
}

-- the same from where a call left all of it
pub ends_after : {M I O : Type 0} (images : M → Images) (inputs : I → Input) (contents : O → Option (List ℕ)) (outcome told : Result (Unit {0}) Fault) (words : List (List ℕ)) (asked other : Command) (status : ℕ) (old : Images) (m n : M) (i : Input) (j k : I)
    (o : Option (List ℕ)) (v w : O) (e f : Said) → told ≡ outcome → m ≡ n → j ≡ k → v ≡ w → status ≡ status_of told → Reports (codes "udfburn") told e f → Asks words asked
    → IsTaskDone (task_of asked) outcome old (images n) i.remaining (inputs k).remaining o (contents w) → CountsTaskReads (task_of asked) outcome i.failures (inputs k).failures → Asks words other
    → Ends (task_of other) status old (images m) i (inputs j) o (contents v) e f
ends_after {M = M} {I = I} {O = O} images inputs contents outcome told words asked other status old m n i j k o v w e f same media input output is reports reads does counts asks =
    subst (λ (x : M). Ends (task_of other) status old (images x) i (inputs j) o (contents v) e f) (sym media)
    (subst (λ (x : I). Ends (task_of other) status old (images n) i (inputs x) o (contents v) e f) (sym input)
    (subst (λ (x : O). Ends (task_of other) status old (images n) i (inputs k) o (contents x) e f) (sym output)
    (ends outcome words asked other status old (images n) i (inputs k) o (contents w) e f (is ∙ ap (λ (x : Result (Unit {0}) Fault). status_of x) same) (subst (λ (x : Result (Unit {0}) Fault). Reports (codes "udfburn") x e f) same reports) reads does counts asks)))

-- a command that writes to no image leaves what is held
pub unchanged : (outcome : Result (Unit {0}) Fault) (words : List (List ℕ)) (asked other : Command) (old new : Images) (i l o w : Option (List ℕ)) → Asks words asked
    → IsTaskDone (task_of asked) outcome old new i l o w → Asks words other → IsReading (task_of other) → IsTrue new.honest → Same old.held new.held
unchanged outcome words asked other old new i l o w reads does asks reading honest =
    reading_same outcome old new i l o w honest (task_of asked) (subst IsReading (sym (asked_task words other asks) ∙ asked_task words asked reads) reading) does
