use Rattle.std.proofs.Common.{◌≡◌, drop}
use Rattle.embedding.specs.Questions.{last_kept}
use Rattle.embedding.proofs.questions.last_of.Given as goal

-- the client's record is no earlier one
abbrev pub invariant-loop-kept : goal.invariant-loop-kept
invariant-loop-kept l = last_kept l.client (drop l.kept-index l.records) ≡ last_kept l.client l.records
