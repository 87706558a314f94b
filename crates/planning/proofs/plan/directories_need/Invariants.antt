use Rattle.std.proofs.Common.{◌≡◌, ◌-◌, ◌^◌, min, take}
use Rattle.std.specs.Prelude.{All}
use Rattle.planning.specs.Needs.{directories_need}
use Rattle.planning.specs.Writings.{IsProper}
use Rattle.planning.proofs.plan.directories_need.Given as goal

-- the directories so far
abbrev pub invariant-loop-directory : goal.invariant-loop-directory
invariant-loop-directory l = record {
  value : l.blocks ≡ min (directories_need (take l.directory-index l.directories)) (2 ^ 64 - 1);
  proper : All (λ d. IsProper d.content.dir) (take l.directory-index l.directories);
}
