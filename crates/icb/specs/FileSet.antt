-- The file set descriptor (ECMA-167 4/14.1, UDF 2.01 2.3.2): its label and moment, and the bytes that say them.
use Rattle.std.specs.Prelude.{◌≡◌, ℕ, ◌-◌, List, [], ◌∷◌, codes, take, drop, replicate}
use Rattle.std.specs.Int.{w16, w32, to_le_bytes}
use Rattle.std.specs.List.{concat}
use Rattle.limits.specs.declared.TheConstants.{BLOCK_BYTES}
use Rattle.ecma.specs.Charspec.{cs0}
use Rattle.ecma.specs.Descriptor.{IsDescriptor}
use Rattle.ecma.specs.Tag.{Sealed}
use Rattle.ecma.specs.Timestamp.{IsMoment}
use Rattle.osta.specs.Dstring.{dstring}
use Rattle.osta.specs.Label.{IsLabel}
use Rattle.icb.specs.declared.set.FileSet.{FileSet}
use Rattle.icb.specs.declared.fault.IcbFault.{IcbFault}
use Rattle.icb.specs.declared.fault.IcbFault.TheVariants as faults

-- the fields after the tag in order, beside their places in the block; the descriptor has 512 bytes
abbrev pub set_parts : List ℕ → List ℕ → List (List ℕ)
set_parts label stamp =
    stamp  -- 16 recording date and time
    ∷ to_le_bytes w16 3  -- 28 interchange level
    ∷ to_le_bytes w16 3  -- 30 maximum interchange level
    ∷ to_le_bytes w32 1  -- 32 character set list
    ∷ to_le_bytes w32 1  -- 36 maximum character set list
    ∷ to_le_bytes w32 0  -- 40 file set number
    ∷ to_le_bytes w32 0  -- 44 file set descriptor number
    ∷ cs0  -- 48 logical volume identifier character set
    ∷ dstring 128 label  -- 112 logical volume identifier
    ∷ cs0  -- 240 file set character set
    ∷ dstring 32 label  -- 304 file set identifier
    ∷ replicate 64 0  -- 336 copyright file identifier, 368 abstract file identifier
    ∷ to_le_bytes w32 BLOCK_BYTES ∷ to_le_bytes w32 1 ∷ to_le_bytes w16 1 ∷ replicate 6 0  -- 400 root directory ICB: virtual address 1
    ∷ (0 ∷ codes "*OSTA UDF Compliant") ∷ replicate 4 0 ∷ to_le_bytes w16 0x0201 ∷ replicate 6 0  -- 416 domain identifier
    ∷ replicate 64 0  -- 448 next extent, 464 system stream directory ICB, 480 reserved
    ∷ []

-- the bytes after the tag are the fields of a file set with this label and moment
pub record HasFileSetFields (set : FileSet) (fields : List ℕ) : Type 0 where
  pub label : IsLabel set.label
  pub stamp : List ℕ
  pub moment : IsMoment set.moment stamp
  pub spelled : fields ≡ concat (set_parts set.label stamp)

-- the block is the descriptor of this file set, which is at the virtual address 0
pub record IsFileSet (set : FileSet) (block : List ℕ) : Type 0 where
  pub fields : List ℕ
  pub has : HasFileSetFields set fields
  pub whole : IsDescriptor 256 0 fields block

-- what makes a block a file set descriptor, in the order in which the faults are reported
abbrev pub set_rules : List ℕ → List (IcbFault × Type 0)
set_rules block =
    (faults.Tag, Sealed 256 0 (take 512 block))
    ∷ (faults.Fixed, (set : FileSet) × HasFileSetFields set (take 496 (drop 16 block)))
    ∷ (faults.Tail, drop 512 block ≡ replicate (BLOCK_BYTES - 512) 0)
    ∷ []
