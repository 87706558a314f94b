-- A command that writes to no image leaves what is held.
use Rattle.std.proofs.Common.{ℕ, List, Option, Some, Result, IsTrue, sym, ap, ◌∙◌, inl, inr}
use Rattle.media.specs.Held.{Same}
use Rattle.model.specs.Tree.{Path}
use Rattle.model.proofs.Lists.{bytes_cases}
use Rattle.drive.specs.Journal.{Event}
use Rattle.programs.specs.declared.fault.Fault.{Fault}
use Rattle.programs.specs.Images.{Images}
use Rattle.programs.specs.Questions.{Question, ShowsImage, ShowsPath}
use Rattle.programs.specs.Questions.Question.{Names_at, Bytes_at, Commits, Soundness}
use Rattle.programs.specs.Tasks.{IsTaskDone, IsReading, Task}
use Rattle.programs.specs.Tasks.Task.{Format, Apply_to_image, Apply_in_memory, List_names, Get_bytes, Log, Check, Send}

module _ {T : Type 0} (outcome : Result T Fault) (old new : Images) (i l o w : Option (List ℕ)) (honest : IsTrue new.honest) where
  shown_same : (question : Question) (image : List ℕ) → ShowsImage question image outcome old new o w → Same old.held new.held
  shown_same question image (inl h) path = h.untouched.same path
  shown_same question image (inr h) path = elim (bytes_cases path image) [
    | inl here ↦ ap new.held here.1 ∙ h.left ∙ ap (λ (j : List Event). Some j) h.did.0 ∙ sym (h.found honest) ∙ sym (ap old.held here.1)
    | inr apart ↦ h.others path apart.0
  ]

  path_same : (question : Path → Question) (image text : List ℕ) → ShowsPath question image text outcome old new o w → Same old.held new.held
  path_same question image text (inl h) = h.1.same
  path_same question image text (inr h) = shown_same (question h.0) image h.3

  pub reading_same : (task : Task) → IsReading task → IsTaskDone task outcome old new i l o w → Same old.held new.held
  reading_same (Format image label moment capacity) reads h = absurd reads
  reading_same (Apply_to_image image) reads h = absurd reads
  reading_same (Apply_in_memory capacity) reads h = h.0.same
  reading_same (List_names image path) reads h = path_same Names_at image path h.1
  reading_same (Get_bytes image path) reads h = path_same Bytes_at image path h.1
  reading_same (Log image) reads h = shown_same Commits image h.1
  reading_same (Check image) reads h = shown_same Soundness image h.1
  reading_same Send reads h = h.0.same
