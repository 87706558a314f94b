-- The blocks of a format, as the encoders of the codecs give them.
use Rattle.std.specs.Prelude.{◌≡◌, ℕ, ◌≤◌, List, [], ◌∷◌, ◌++◌, Some, None}
use Rattle.limits.specs.declared.TheConstants.{FIRST_UNIQUE}
use Rattle.ecma.specs.Descriptor.{padded}
use Rattle.durability.specs.Formats.{Block}
use Rattle.durability.specs.Step.{IsFormat}
use Rattle.icb.specs.declared.entry.Kind.TheVariants.{Directory, Vat}
use Rattle.icb.specs.Entry.{Fields, IsEntry}
use Rattle.icb.specs.Entry.Place.{Extent}
use Rattle.icb.specs.FileSet.{IsFileSet}
use Rattle.dir.specs.Directory.{IsDirectory}
use Rattle.vat.specs.declared.table.Version.TheVariants.{Two}
use Rattle.vat.specs.Table.{Table, IsTable}
use Rattle.volume.specs.Front.{IsFront}
use Rattle.udf.specs.Udf.{IsBlock, udf}

-- the entry of the root, whose data of 40 bytes are block 1 of the partition
abbrev pub root_fields : ℕ → Fields
root_fields moment = record { kind = Directory; moment = moment; links = 1; unique = 0; size = 40; place = Extent 1 }

-- the first table: the file set is block 0, the root's entry block 2
abbrev pub first_table : List ℕ → Table
first_table label = record {
  label = label;
  previous = None;
  files = 0;
  directories = 1;
  version = Two;
  next_unique = FIRST_UNIQUE;
  commits = 0;
  records = [];
  entries = Some 0 ∷ Some 2 ∷ [];
}

-- its entry, with its data of 204 bytes in block 3
abbrev pub new_table_fields : ℕ → Fields
new_table_fields moment = record { kind = Vat; moment = moment; links = 0; unique = 0; size = 204; place = Extent 3 }

-- the volume header, and the five blocks after it
pub record IsNewVolume (volume : ℕ) (label : List ℕ) (moment : ℕ) (front : List Block) (set names root table mark : Block) : Type 0 where
  pub front_is : IsFront label moment volume front
  pub set_is : IsFileSet (record { label = label; moment = moment }) set
  pub names_block : IsBlock names
  pub names_are : IsDirectory 1 [] 1 40 (names ∷ [])
  pub root_is : IsEntry (root_fields moment) 1 root
  pub bytes : List ℕ
  pub bytes_are : IsTable (first_table label) bytes
  pub table_is : table ≡ padded bytes
  pub mark_is : IsEntry (new_table_fields moment) 4 mark

-- they are a format on a drive that is no smaller
abbrev pub NewVolumesAreFormats : Type 0
NewVolumesAreFormats =
    (capacity volume : ℕ) (label : List ℕ) (moment : ℕ) (front : List Block) (set names root table mark : Block)
    → IsNewVolume volume label moment front set names root table mark → volume ≤ capacity
    → IsFormat udf capacity volume label moment (front ++ set ∷ names ∷ root ∷ table ∷ []) mark
