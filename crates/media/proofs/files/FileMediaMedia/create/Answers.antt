use Rattle.std.proofs.Common.{◌≡◌, ◌∙◌, List, ℕ, Option, Some, None, inl, inr, refl, subst}
use Rattle.std.proofs.lemmas.Slice.Eq.{bytes_eq-Decides}
use Rattle.drive.specs.Journal.{Event}
use Rattle.media.specs.Seen.{ImageJournals, lookup, with_new_image}
use Rattle.media.specs.Held.{IsFresh, SameOrMade}
use Rattle.settling.specs.contracts.file.GatheringFileDriveDrive.TheImpl as gathering
use Rattle.media.proofs.files.FileMediaMedia.create.Goals as goal

same_or_made : (path : List ℕ) (images made : ImageJournals) (found : Option (List Event)) → lookup images path ≡ found → made ≡ with_new_image found path images → SameOrMade path (lookup images) (lookup made)
same_or_made path images made None none e = inr (none, rw (e, (bytes_eq-Decides path path).1 refl) refl, (λ other differs. rw (e, differs) refl))
same_or_made path images made (Some journal) some e = inl (λ other. rw e refl)

at_fault : (path bytes : List ℕ) (images made : ImageJournals) → bytes ≡ path → made ≡ with_new_image (lookup images bytes) bytes images → SameOrMade path (lookup images) (lookup made)
at_fault path bytes images made p e = same_or_made path images made (lookup images path) refl (rw p at e)

pub returns-clause-fresh : goal.returns-clause-fresh
returns-clause-fresh g c = subst (λ (n : ℕ). IsFresh gathering.ghosts n c.found.result) (c.in-Ok-over-2.ensures.capacity ∙ c.in-Ok-over.ensures.capacity) c.found.ensures.fresh

pub returns-in_default-over-clause-err : goal.returns-in_default-over-clause-err
returns-in_default-over-clause-err g c = at_fault _ _ _ _ c.as_bytes-2.ensures.value (c.failed-in_default-over.ensures.images ∙ c.after_made-self.ensures.0)

pub returns-then-is_err-clause-err : goal.returns-then-is_err-clause-err
returns-then-is_err-clause-err g c = at_fault _ _ _ _ c.as_bytes-2.ensures.value (c.failed-then-is_err.ensures.images ∙ c.after_made-self.ensures.0)

pub returns-in_default-over-2-clause-err : goal.returns-in_default-over-2-clause-err
returns-in_default-over-2-clause-err g c = at_fault _ _ _ _ c.as_bytes-2.ensures.value (c.failed-in_default-over-2.ensures.images ∙ c.after_made-self.ensures.0)
