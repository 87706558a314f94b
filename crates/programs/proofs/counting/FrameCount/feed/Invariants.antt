use Rattle.std.proofs.Common.{ℕ, ◌++◌, List, take}
use Rattle.programs.specs.Counted.{Counted}
use Rattle.programs.proofs.counting.FrameCount.feed.Given as goal

-- what was given so far is counted
abbrev pub invariant-loop-byte : goal.invariant-loop-byte
invariant-loop-byte l = (bytes : List ℕ) → Counted l.fn.self bytes → Counted l.self (bytes ++ take l.byte-index l.piece)
