-- The blocks before the partition, as they are read one after another.
use Rattle.std.proofs.Common.{◌≡◌, ◌∙◌, ℕ, inl, inr, ◌+◌, ◌<◌, ◌≤◌, List, [], length, take, Some, sym, subst, arith, length-take}
use Rattle.std.specs.Prelude.{slice_get, slice_index_or}
use Rattle.std.proofs.lemmas.Bool.{cases_lt}
use Rattle.std.proofs.lemmas.List.{get_or-take}
use Rattle.std.proofs.lemmas.Option.{get_or_from_slice_get}
use Rattle.limits.specs.declared.TheConstants.{GREATEST_CAPACITY, LEAST_CAPACITY, PARTITION_START}
use Rattle.ecma.specs.FirstFault.{IsFirst}
use Rattle.ecma.proofs.Faults.{no_fault}
use Rattle.volume.specs.declared.front.Front.{Front}
use Rattle.volume.specs.declared.read.VolumeFault.{VolumeFault}
use Rattle.volume.specs.Reading.{DescriptorsTell, word_rules}
use Rattle.volume.proofs.ReadingLaws.{front_tells, one_told}
use Rattle.volume.specs.Front.{IsFront, IsFrontBlock}

-- those below an address are the volume header's
abbrev pub BeginsFront : List ℕ → ℕ → ℕ → ℕ → List (List ℕ) → Type 0
BeginsFront label moment capacity n medium = (k : ℕ) → k < n → IsFrontBlock label moment capacity k (slice_index_or medium k [])

module _ (label : List ℕ) (moment capacity : ℕ) (medium : List (List ℕ)) where
  pub no_front : BeginsFront label moment capacity 0 medium
  no_front k lt = absurd (omega arith)

  pub more_front : (n : ℕ) (block : List ℕ) → slice_get medium n ≡ Some block → IsFrontBlock label moment capacity n block
      → BeginsFront label moment capacity n medium → BeginsFront label moment capacity (n + 1) medium
  more_front n block there is seen k lt =
      elim (cases_lt k n) [
        | inl below ↦ seen k below
        | inr over ↦
            let same : n ≡ k = omega arith in
            subst (λ (i : ℕ). IsFrontBlock label moment capacity i (slice_index_or medium i [])) same
            (subst (λ (b : List ℕ). IsFrontBlock label moment capacity n b) (sym (get_or_from_slice_get medium n block [] there)) is)
      ]

  pub whole_front : LEAST_CAPACITY ≤ capacity → capacity ≤ GREATEST_CAPACITY → PARTITION_START ≤ length medium → BeginsFront label moment capacity PARTITION_START medium → IsFront label moment capacity (take PARTITION_START medium)
  whole_front low high long seen = record {
    low = low;
    high = high;
    count = (let e : length (take PARTITION_START medium) ≡ PARTITION_START = omega (arith, length-take PARTITION_START medium) in e);
    each = λ n lt. subst (λ (b : List ℕ). IsFrontBlock label moment capacity n b) (sym (get_or-take PARTITION_START medium n [] lt)) (seen n lt);
  }

  -- the descriptors of a volume header determine it
  told_front : (primary partition : List ℕ) → slice_get medium 32 ≡ Some primary → slice_get medium 34 ≡ Some partition → IsFront label moment capacity (take PARTITION_START medium)
      → DescriptorsTell (record { label = label; moment = moment; capacity = capacity }) primary partition
  told_front primary partition first second is =
      let a : slice_index_or (take PARTITION_START medium) 32 [] ≡ primary = get_or-take PARTITION_START medium 32 [] (omega arith) ∙ get_or_from_slice_get medium 32 primary [] first in
      let b : slice_index_or (take PARTITION_START medium) 34 [] ≡ partition = get_or-take PARTITION_START medium 34 [] (omega arith) ∙ get_or_from_slice_get medium 34 partition [] second in
      subst (λ (x : List ℕ). DescriptorsTell (record { label = label; moment = moment; capacity = capacity }) x partition) a
      (subst (λ (x : List ℕ). DescriptorsTell (record { label = label; moment = moment; capacity = capacity }) (slice_index_or (take PARTITION_START medium) 32 []) x) b
      (front_tells (record { label = label; moment = moment; capacity = capacity }) (take PARTITION_START medium) is))

  -- blocks whose descriptors describe no volume header are none
  pub no_words : (primary partition : List ℕ) (fault : VolumeFault) → slice_get medium 32 ≡ Some primary → slice_get medium 34 ≡ Some partition → IsFirst (word_rules primary partition) fault
      → IsFront label moment capacity (take PARTITION_START medium) → ⊥
  no_words primary partition fault first second told is =
      no_fault (word_rules primary partition) fault told (told_front primary partition first second is).rules

  -- and no other
  pub no_block : (front : Front) (primary partition : List ℕ) (n : ℕ) (block : List ℕ) → slice_get medium 32 ≡ Some primary → slice_get medium 34 ≡ Some partition → DescriptorsTell front primary partition
      → n < PARTITION_START → slice_get medium n ≡ Some block → (IsFrontBlock front.label front.moment front.capacity n block → ⊥) → IsFront label moment capacity (take PARTITION_START medium) → ⊥
  no_block front primary partition n block first second tells lt there never is =
      let same = one_told (record { label = label; moment = moment; capacity = capacity }) front primary partition (told_front primary partition first second is) tells in
      let here = subst (λ (b : List ℕ). IsFrontBlock label moment capacity n b) (get_or-take PARTITION_START medium n [] lt ∙ get_or_from_slice_get medium n block [] there) (is.each n lt) in
      never (subst (λ (f : Front). IsFrontBlock f.label f.moment f.capacity n block) same here)
