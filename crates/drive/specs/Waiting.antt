-- Blocks that are given one by one and go out in packets.
use Rattle.std.specs.Prelude.{◌≡◌, ℕ, ◌+◌, ◌≤◌, true, false, List, ◌++◌, length}
use Rattle.drive.specs.Journal.{written, next_of, AddsPrefix}
use Rattle.drive.specs.Sending.{Sends}
use Rattle.drive.specs.declared.Drive.{Ghosts}

-- the blocks that wait, and the address where the first of them will lie
pub record Waiting : Type 0 where
  pub at : ℕ
  pub blocks : List (List ℕ)

-- where the next block will lie
abbrev pub next_address : Waiting → ℕ
next_address w = w.at + length w.blocks

-- These blocks were taken. Some of what waited and of these was written, in order, and the rest waits. The
-- last two follow, and are what a next call asks for.
pub record TakesBlocks {D : Type 0} (drive : Ghosts D) (old : D) (w : Waiting) (blocks : List (List ℕ)) (new : D) (w' : Waiting) : Type 0 where
  pub sent : List (List ℕ)
  pub order : w.blocks ++ blocks ≡ sent ++ w'.blocks
  pub journal : drive.journal new ≡ drive.journal old ++ written w.at sent
  pub sends : Sends drive w.at sent false old new
  pub place : w'.at ≡ w.at + length sent
  pub ends : next_address w' ≡ next_address w + length blocks
  pub begins : w.at ≤ next_of (drive.journal old) → w'.at ≤ next_of (drive.journal new)

-- A write failed, and a prefix of what waited and of these blocks was written. No write was given another block.
pub record Stops {D : Type 0} (drive : Ghosts D) (old : D) (w : Waiting) (blocks : List (List ℕ)) (new : D) : Type 0 where
  pub front : AddsPrefix (drive.journal old) w.at (w.blocks ++ blocks) (drive.journal new)
  pub sends : Sends drive w.at (w.blocks ++ blocks) true old new
