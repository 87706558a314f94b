-- How the identifiers of a directory are in its blocks.
use Rattle.std.specs.Prelude.{◌≡◌, ◌⊎◌, ℕ, zero, suc, ◌+◌, ◌-◌, ◌==◌, ◌||◌, nat_le, Bool, true, IsTrue, if◌then◌else◌, List, [], ◌∷◌, ◌++◌, length, take, drop}
use Rattle.limits.specs.declared.TheConstants.{BLOCK_BYTES}
use Rattle.ecma.specs.Blocks.{block_count}
use Rattle.ecma.specs.Descriptor.{padded}
use Rattle.dir.specs.Identifier.{Identifier, plain_size, identifier}

-- so many bytes may be put where so many are left of a block: after them none are left, or enough for an EntityID
abbrev pub fits : ℕ → ℕ → Bool
fits size left = size == left || nat_le (size + 32) left

-- the identifier that comes next, if one does, is put where so many bytes of the block are left
abbrev pub stays : List Identifier → ℕ → Bool
stays [] left = true
stays (next ∷ more) left = fits (plain_size (length next.name)) left

-- the bytes of identifiers in order, the first of them at a place in the block of a number. One is lengthened to
-- the block's end where the next is not put after it
unfoldable pub laid : ℕ → ℕ → List Identifier → List ℕ
laid number at [] = []
laid number at (x ∷ rest) =
    let end = at + plain_size (length x.name) in
    let left = BLOCK_BYTES - end in
    if stays rest left
    then identifier number x 0 ++ laid number end rest
    else identifier number x left ++ laid (number + 1) 0 rest

-- bytes as so many blocks, zeros after them
abbrev pub blocked : ℕ → List ℕ → List (List ℕ)
blocked zero bytes = []
blocked (suc count) bytes = padded (take BLOCK_BYTES bytes) ∷ blocked count (drop BLOCK_BYTES bytes)

-- the blocks of identifiers, the first block having this number
abbrev pub identifier_blocks : ℕ → List Identifier → List (List ℕ)
identifier_blocks number xs = let bytes = laid number 0 xs in blocked (block_count (length bytes)) bytes

-- the bytes of identifiers of which the first may be in this block from a place on, or in the next where the block is full
abbrev pub onward : ℕ → ℕ → List Identifier → List ℕ
onward number at xs = if at == BLOCK_BYTES then laid (number + 1) 0 xs else laid number at xs

-- the first identifier may be put at a place of a block
abbrev pub FitsInBlock : ℕ → List Identifier → Type 0
FitsInBlock at xs = (at ≡ 0) ⊎ IsTrue (stays xs (BLOCK_BYTES - at))

-- where an identifier at a place ends, lengthened or not
abbrev pub identifier_end : ℕ → Identifier → List Identifier → ℕ
identifier_end at x rest = let end = at + plain_size (length x.name) in if stays rest (BLOCK_BYTES - end) then end else BLOCK_BYTES
