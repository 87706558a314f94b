-- What blocks can not be at once, each the contract of a public function.
use Rattle.std.specs.Prelude.{◌≡◌, ◌≢◌, ℕ, ◌<◌, List, slice_index}
use Rattle.ecma.specs.Numbers.{u16_at}
use Rattle.ecma.specs.Descriptor.{IsDescriptor}
use Rattle.icb.specs.declared.entry.Kind.TheVariants.{Vat}
use Rattle.icb.specs.declared.set.FileSet.{FileSet}
use Rattle.icb.specs.Entry.{Fields, IsEntry}
use Rattle.icb.specs.Extents.{IsDescriptorBlock, descriptors_in}
use Rattle.icb.specs.FileSet.{IsFileSet}
use Rattle.icb.specs.VatIcb.{IsVatIcb}

-- a block is one entry at most, and at one location
abbrev pub OneEntry : Type 0
OneEntry = (d e : Fields) (here there : ℕ) (block : List ℕ) → IsEntry d here block → IsEntry e there block → (d ≡ e) × (here ≡ there)

-- an entry of another kind is no VAT ICB, at any location
abbrev pub OthersAreNone : Type 0
OthersAreNone = (e : Fields) (here there : ℕ) (block : List ℕ) → IsEntry e here block → e.kind ≢ Vat → IsVatIcb block there → ⊥

-- a block that begins with another identifier is none
abbrev pub EntriesBegin : Type 0
EntriesBegin = (loc : ℕ) (block : List ℕ) → IsVatIcb block loc → u16_at 0 block ≡ 261

-- a descriptor of another identifier is none
abbrev pub DescriptorsAreNone : Type 0
DescriptorsAreNone = (id here there : ℕ) (body block : List ℕ) → IsDescriptor id here body block → id ≢ 261 → IsVatIcb block there → ⊥

-- an entry with these fields has one block at a location
abbrev pub OneBlock : Type 0
OneBlock =
    (e : Fields) (loc : ℕ) (a b : List ℕ) → ((i : ℕ) → slice_index a i < 256) → ((i : ℕ) → slice_index b i < 256)
    → IsEntry e loc a → IsEntry e loc b → a ≡ b

-- a file set has one block
abbrev pub OneSet : Type 0
OneSet =
    (set : FileSet) (a b : List ℕ) → ((i : ℕ) → slice_index a i < 256) → ((i : ℕ) → slice_index b i < 256)
    → IsFileSet set a → IsFileSet set b → a ≡ b

-- the same descriptors have one block at a block number
abbrev pub OneDescriptorBlock : Type 0
OneDescriptorBlock =
    (size number : ℕ) (a b : List ℕ) → ((i : ℕ) → slice_index a i < 256) → ((i : ℕ) → slice_index b i < 256)
    → IsDescriptorBlock size number a → IsDescriptorBlock size number b → descriptors_in a ≡ descriptors_in b → a ≡ b
