-- What blocks describe that should be a volume header, and where they first fail to be one.
use Rattle.std.specs.Prelude.{◌≡◌, ◌≢◌, ℕ, ◌+◌, ◌-◌, ◌<◌, ◌≤◌, List, [], ◌∷◌, ◌⊎◌, take, drop, slice_index, slice_index_or}
use Rattle.limits.specs.declared.TheConstants.{BLOCK_BYTES, LEAST_CAPACITY, PARTITION_START, PARTITION_BLOCKS}
use Rattle.ecma.specs.FirstFault.{IsFirst, AllHold}
use Rattle.ecma.specs.Numbers.{u32_at}
use Rattle.ecma.specs.Tag.{Sealed}
use Rattle.ecma.specs.Timestamp.{IsMoment}
use Rattle.osta.specs.Label.{IsLabelDstring}
use Rattle.volume.specs.declared.front.Front.{Front}
use Rattle.volume.specs.declared.read.VolumeFault.{VolumeFault}
use Rattle.volume.specs.declared.read.VolumeFault.TheVariants.{Field}
use Rattle.volume.specs.Front.{IsFrontBlock}

-- the field of a text, and the field of a moment
abbrev pub primary_label_field : List ℕ → List ℕ
primary_label_field primary = take 32 (drop 24 primary)

abbrev pub stamp_field : List ℕ → List ℕ
stamp_field primary = take 12 (drop 376 primary)

-- the rules of the primary volume descriptor and of the partition descriptor, in the order in which they are looked at
abbrev pub word_rules : List ℕ → List ℕ → List (VolumeFault × Type 0)
word_rules primary partition =
    (Field 32 0, Sealed 1 32 (take 512 primary))
    ∷ (Field 32 24, (label : List ℕ) × IsLabelDstring label (primary_label_field primary))
    ∷ (Field 32 376, (m : ℕ) × IsMoment m (stamp_field primary))
    ∷ (Field 34 0, Sealed 5 34 (take 512 partition))
    ∷ (Field 34 192, (LEAST_CAPACITY - PARTITION_START ≤ u32_at 192 partition) × (u32_at 192 partition ≤ PARTITION_BLOCKS))
    ∷ []

-- what the two descriptors say
pub record DescriptorsTell (front : Front) (primary partition : List ℕ) : Type 0 where
  pub rules : AllHold (word_rules primary partition)
  pub label : IsLabelDstring front.label (primary_label_field primary)
  pub moment : IsMoment front.moment (stamp_field primary)
  pub capacity : front.capacity ≡ u32_at 192 partition + PARTITION_START

-- the first byte in which a block differs from the one that is expected
pub record DiffersFirst (block expected : List ℕ) (at : ℕ) : Type 0 where
  pub there : at < BLOCK_BYTES
  pub same : (i : ℕ) → i < at → slice_index block i ≡ slice_index expected i
  pub other : slice_index block at ≢ slice_index expected at

-- the block is not the one of the volume header at its address, and this is the first byte that differs
pub record DiffersAt (front : Front) (n : ℕ) (block : List ℕ) (at : ℕ) : Type 0 where
  pub expected : List ℕ
  pub is : IsFrontBlock front.label front.moment front.capacity n expected
  pub bytes : (i : ℕ) → slice_index expected i < 256
  pub first : DiffersFirst block expected at

-- the two descriptors describe a volume header, and the fault is the first byte that is not that of its blocks
pub record FirstDifference (blocks : List (List ℕ)) (primary partition : List ℕ) (fault : VolumeFault) : Type 0 where
  pub front : Front
  pub tells : DescriptorsTell front primary partition
  pub n : ℕ
  pub at : ℕ
  pub told : fault ≡ Field n at
  pub there : n < PARTITION_START
  pub below : (k : ℕ) → k < n → IsFrontBlock front.label front.moment front.capacity k (slice_index_or blocks k [])
  pub differs : DiffersAt front n (slice_index_or blocks n []) at

-- the fault that is reported of blocks with these two descriptors
abbrev pub IsFaultTold : List (List ℕ) → List ℕ → List ℕ → VolumeFault → Type 0
IsFaultTold blocks primary partition fault = IsFirst (word_rules primary partition) fault ⊎ FirstDifference blocks primary partition fault
