-- Small formats by which a volume is formatted and a request is refused and committed, so that what the laws ask can be met.
use Rattle.std.specs.Prelude.{◌≡◌, ◌⊎◌, ℕ, ◌-◌, List, [], ◌∷◌, ◌++◌, replicate, Option, Some, None}
use Rattle.limits.specs.declared.TheConstants.{FIRST_UNIQUE}
use Rattle.model.specs.Operation.Operation.{Remove}
use Rattle.model.specs.Session.{Request, ClientRecord, after_one, formatted}
use Rattle.durability.specs.Formats.{Block, NodeFields, Table_, Formats, AreExact, AreBounded}
use Rattle.durability.specs.Formats.Kind.{Directory, Table}
use Rattle.durability.specs.Formats.NodePlace.{Extent}
use Rattle.durability.specs.Volume.{Medium, RecoversTo, RecoveredTo}

abbrev pub example_root : NodeFields
example_root = record { kind = Directory; moment = 0; links = 1; identity = 0; size = 40; place = Extent 1 }

-- a table's data lie in the block before its entry
abbrev pub example_table_fields : ℕ → NodeFields
example_table_fields location = record { kind = Table; moment = 0; links = 0; identity = 0; size = 204; place = Extent (location - 1) }

abbrev pub refusal : Request
refusal = record { client = 7; number = 1; moment = 0; operation = Remove [] }

abbrev pub table_with : Option ℕ → ℕ → List ClientRecord → Table_
table_with previous commits records =
    record { label = []; previous = previous; files = 0; directories = 1; next_identity = FIRST_UNIQUE; commits = commits; records = records; entries = Some 0 ∷ Some 2 ∷ [] }

abbrev pub example_table : Table_
example_table = table_with None 0 []

abbrev pub second_table : Table_
second_table = table_with (Some 4) 1 (after_one (formatted 0) refusal).records

-- the root's entry and a table's are blocks of one byte, and a table is known by its place
abbrev pub small : Formats
small = record {
  IsEntry = λ fields block location. ((block ≡ 4 ∷ []) × (fields ≡ example_root)) ⊎ ((block ≡ 248 ∷ []) × (fields ≡ example_table_fields location));
  next = λ descriptors. 0;
  HaveDescriptors = λ size first blocks. Unit {0};
  firsts = λ descriptors blocks. [];
  IsFileSet = λ label moment block. Unit {0};
  IsDirectory = λ parent entries first size blocks. (parent ≡ 1) × (entries ≡ []);
  IsTable = λ table icb bytes. ((icb ≡ 4) × (table ≡ example_table)) ⊎ ((icb ≡ 6) × (table ≡ second_table));
  IsFront = λ label moment capacity blocks. Unit {0};
}

abbrev pub new_blocks : List Block
new_blocks = replicate 259 [] ++ (4 ∷ []) ∷ [] ∷ []

abbrev pub mark : Block
mark = 248 ∷ []

abbrev pub new_medium : Medium
new_medium = new_blocks ++ mark ∷ []

abbrev pub used_medium : Medium
used_medium = new_medium ++ [] ∷ mark ∷ []

abbrev pub ExampleStands : Type 0
ExampleStands = AreExact small × AreBounded small
    × RecoversTo small 3000 3000 new_medium (formatted 0) × RecoversTo small 3000 3000 used_medium (after_one (formatted 0) refusal)
    × RecoveredTo small 3000 3000 used_medium 0 (formatted 0) × RecoveredTo small 3000 3000 used_medium 1 (after_one (formatted 0) refusal)
