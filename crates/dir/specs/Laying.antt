-- What is left of a directory that is laid block by block, and of what a block is filled.
use Rattle.std.specs.Prelude.{◌≡◌, ℕ, ◌<◌, ◌≤◌, List, ◌++◌, drop, length, take}
use Rattle.limits.specs.declared.TheConstants.{BLOCK_BYTES}
use denote.Bor.{Bor}
use Rattle.ecma.specs.Numbers.{u16_at}
use Rattle.dir.specs.declared.entry.Dir.{Dir}
use Rattle.dir.specs.declared.laying.Lay.{Lay}
use Rattle.dir.specs.Identifier.{Identifier}
use Rattle.dir.specs.Directory.{identifiers_of}
use Rattle.dir.specs.Layout.{identifier_blocks, laid, onward, FitsInBlock}

-- the identifiers after the first ones of a directory
abbrev pub left_of : Dir → ℕ → List Identifier
left_of dir next = drop next (identifiers_of dir)

abbrev pub identifiers_left : Lay → List Identifier
identifiers_left l = left_of l.dir.now l.next

abbrev pub blocks_left : Lay → List (List ℕ)
blocks_left l = identifier_blocks l.number (identifiers_left l)

-- a block is filled up to a place: what was left at its start is what is in it and what is still left
pub record IsFilledTo (start : Lay) (dir : Bor Dir) (next number at : ℕ) (block : List ℕ) : Type 0 where
  pub within : at ≤ BLOCK_BYTES
  pub dir_is : dir ≡ start.dir
  pub number_is : number ≡ start.number
  pub before : at ≡ 0 → next ≡ start.next
  pub further : 0 < at → start.next < next
  pub long : 0 < at → 38 ≤ at
  pub tagged : 0 < at → u16_at 0 block ≡ 257
  pub filled : laid start.number 0 (identifiers_left start) ≡ take at block ++ onward start.number at (left_of dir.now next)
  pub stood : at < BLOCK_BYTES → FitsInBlock at (left_of dir.now next)
  pub size : length block ≡ BLOCK_BYTES

abbrev pub IsFilled : Lay → Lay → ℕ → List ℕ → Type 0
IsFilled start here at block = IsFilledTo start here.dir here.next here.number at block
