use Rattle.std.proofs.Common.{◌≡◌, take}
use Rattle.std.specs.Prelude.{string_bytes}
use Rattle.programs.specs.Lines.{commits_text}
use Rattle.programs.proofs.lines.commit_lines.Given as goal

abbrev pub invariant-loop-commit : goal.invariant-loop-commit
invariant-loop-commit l = string_bytes l.text ≡ commits_text (take l.commit-index l.commits)
