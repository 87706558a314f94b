-- The blocks of a volume before its partition: those at the addresses 0 to 256.
use Rattle.std.specs.Prelude.{◌≡◌, ◌≢◌, ℕ, ◌%◌, ◌<◌, ◌≤◌, ◌==◌, nat_lt, if◌then◌else◌, List, [], ◌∷◌, ◌++◌, length, codes, replicate, slice_index, slice_index_or}
use Rattle.limits.specs.declared.TheConstants.{BLOCK_BYTES, LEAST_CAPACITY, GREATEST_CAPACITY, PARTITION_START}
use Rattle.osta.specs.Dstring.{dstring}
use Rattle.osta.specs.Label.{IsLabel}
use Rattle.ecma.specs.Descriptor.{IsDescriptor, padded}
use Rattle.ecma.specs.Numbers.{u16_at}
use Rattle.ecma.specs.Timestamp.{IsMoment}
use Rattle.volume.specs.Descriptors.{digits, primary_fields, anchor_fields, use_fields, partition_fields, logical_fields, unallocated_fields, terminating_fields, integrity_fields}

-- what a block of the volume header holds: zeros, a structure of the recognition sequence (ECMA-167 2/9.1), or a descriptor
pub data HeaderBlock : Type 0 where
  Nothing : HeaderBlock
  Recognition : (identifier : List ℕ) → HeaderBlock
  Descriptor : (identifier : ℕ) (fields : List ℕ) → HeaderBlock

-- the recognition sequence
abbrev pub recognition_content : ℕ → HeaderBlock
recognition_content n =
    if n == 16 then Recognition (codes "BEA01")
    else (if n == 17 then Recognition (codes "NSR03")
    else (if n == 18 then Recognition (codes "TEA01") else Nothing))

-- the volume descriptor sequence, by its places
abbrev pub sequence_content : List ℕ → ℕ → List ℕ → ℕ → ℕ → HeaderBlock
sequence_content label moment stamp capacity place =
    if place == 0 then Descriptor 1 (primary_fields (dstring 32 label) (dstring 128 (digits moment ++ label)) stamp)
    else (if place == 1 then Descriptor 4 (use_fields (dstring 128 label))
    else (if place == 2 then Descriptor 5 (partition_fields capacity)
    else (if place == 3 then Descriptor 6 (logical_fields (dstring 128 label))
    else (if place == 4 then Descriptor 7 unallocated_fields
    else (if place == 5 then Descriptor 8 terminating_fields else Nothing)))))

-- what is after both copies of the sequence: the integrity sequence and the anchor
abbrev pub later_content : List ℕ → ℕ → ℕ → HeaderBlock
later_content stamp capacity n =
    if n == 64 then Descriptor 9 (integrity_fields stamp capacity)
    else (if n == 65 then Descriptor 8 terminating_fields
    else (if n == 256 then Descriptor 2 anchor_fields else Nothing))

-- what is at an address; the main sequence is at 32, the reserve sequence at 48
abbrev pub front_content : List ℕ → ℕ → List ℕ → ℕ → ℕ → HeaderBlock
front_content label moment stamp capacity n =
    if nat_lt n 32 then recognition_content n
    else (if nat_lt n 64 then sequence_content label moment stamp capacity (n % 16) else later_content stamp capacity n)

-- the block at an address holds this
abbrev pub HasContent : ℕ → HeaderBlock → List ℕ → Type 0
HasContent n Nothing block = block ≡ replicate BLOCK_BYTES 0
HasContent n (Recognition identifier) block = block ≡ padded (0 ∷ (identifier ++ (1 ∷ [])))
HasContent n (Descriptor identifier fields) block = IsDescriptor identifier n fields block

-- the block is the one at an address of the header of a volume with this label, moment and capacity
pub record IsFrontBlock (label : List ℕ) (moment capacity n : ℕ) (block : List ℕ) : Type 0 where
  pub label_is : IsLabel label
  pub stamp : List ℕ
  pub moment_is : IsMoment moment stamp
  pub holds : HasContent n (front_content label moment stamp capacity n) block

-- the blocks are the volume header
pub record IsFront (label : List ℕ) (moment capacity : ℕ) (blocks : List (List ℕ)) : Type 0 where
  pub low : LEAST_CAPACITY ≤ capacity
  pub high : capacity ≤ GREATEST_CAPACITY
  pub count : length blocks ≡ PARTITION_START
  pub each : (n : ℕ) → n < PARTITION_START → IsFrontBlock label moment capacity n (slice_index_or blocks n [])

-- no block of the volume header begins as a file entry does
abbrev pub FrontIsNoEntry : Type 0
FrontIsNoEntry = (label : List ℕ) (moment capacity n : ℕ) (block : List ℕ) → IsFrontBlock label moment capacity n block → u16_at 0 block ≢ 261

-- one block can be at each address of the volume header of a label, a moment and a capacity
abbrev pub OneFront : Type 0
OneFront =
    (label : List ℕ) (moment capacity n : ℕ) (a b : List ℕ) → ((i : ℕ) → slice_index a i < 256) → ((i : ℕ) → slice_index b i < 256)
    → IsFrontBlock label moment capacity n a → IsFrontBlock label moment capacity n b → a ≡ b
