use Rattle.std.proofs.Common.{ℕ, subst, ◌∙◌}
use Rattle.media.specs.Held.{IsFresh}
use Rattle.settling.specs.contracts.file.GatheringFileDriveDrive.TheImpl as gathering
use Rattle.media.proofs.files.FileMediaMedia.open_to_read.Goals as goal

pub returns-clause-fresh : goal.returns-clause-fresh
returns-clause-fresh g c = subst (λ (n : ℕ). IsFresh gathering.ghosts n c.found.result) (c.in-Ok-over.ensures.capacity ∙ c.in-Ok.ensures.capacity) c.found.ensures.fresh
