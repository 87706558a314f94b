-- The blocks that a planned commit writes.
use Rattle.std.specs.Prelude.{◌≡◌, ℕ, ◌+◌, ◌-◌, ◌<◌, ◌≤◌, ⊤, List, [], ◌∷◌, ◌++◌, length, replicate, Option, Some, None, IfSome}
use Rattle.std.specs.Int.{div_ceil}
use Rattle.limits.specs.declared.TheConstants.{BLOCK_BYTES, PARTITION_START}
use Rattle.dir.specs.Directory.{directory_blocks, IsDirectory}
use Rattle.lookup.specs.Cache.{SaysPlace}
use Rattle.lookup.specs.declared.nodes.Placed.{Placed}
use Rattle.durability.specs.Formats.{NodeFields}
use Rattle.durability.specs.Formats.Kind.{Table}
use Rattle.durability.specs.Formats.NodePlace.{Extent}
use Rattle.durability.specs.Volume.{Medium}
use Rattle.durability.specs.Plan.{zeros, packed, Writing, Written, IsPlaced, WritesNodes}
use Rattle.udf.specs.Udf.{udf}
use Rattle.vat.specs.Table.{view, IsTableAt}
use Rattle.table_update.specs.Outside.{outside_after}
use Rattle.lookup.specs.Extents.{full_size}
use Rattle.planning.specs.Writings.{AreKeptOn, file_writing, directory_writing}
use Rattle.planning.specs.declared.layout.PlacedFile.{PlacedFile}
use Rattle.planning.specs.declared.layout.PlacedDirectory.{PlacedDirectory}
use Rattle.planning.specs.declared.layout.PlacedTable.{PlacedTable}
use Rattle.planning.specs.declared.plan.Plan.{Plan}
use Rattle.planning.specs.Last.{HasTableBelow}

-- the blocks of the bytes that a file gets, where they are outside the entry
abbrev pub placed_data : PlacedFile → List (List ℕ)
placed_data p = replicate p.gap zeros ++ packed (outside_after (full_size p.file.kept) p.file.bytes.now)

-- and then its descriptor blocks
abbrev pub file_data : PlacedFile → List (List ℕ)
file_data p = placed_data p ++ p.listed.items

-- these, and the entry
abbrev pub file_list : Option PlacedFile → List (List ℕ)
file_list None = []
file_list (Some p) = file_data p ++ p.entry ∷ []

abbrev pub directory_data : PlacedDirectory → List (List ℕ)
directory_data p = directory_blocks p.directory.content.dir p.extent.first

abbrev pub directory_list : PlacedDirectory → List (List ℕ)
directory_list p = directory_data p ++ p.entry ∷ []

abbrev pub directories_list : List PlacedDirectory → List (List ℕ)
directories_list [] = []
directories_list (p ∷ ps) = directory_list p ++ directories_list ps

-- where a directory is and lies, once it is written
abbrev pub placed_of : PlacedDirectory → Placed
placed_of p = record { at = record { number = p.number; address = p.directory.address }; extent = p.extent; moment = p.directory.moment }

-- the directory's data lie in its extent, which begins at a block number, and its entry is after them and says so
pub record IsLaid (from : ℕ) (p : PlacedDirectory) : Type 0 where
  pub first : p.extent.first ≡ from
  pub blocks : length (directory_data p) ≡ div_ceil p.extent.size BLOCK_BYTES
  pub is : IsDirectory p.directory.content.dir.parent p.directory.content.dir.entries.entries p.extent.first p.extent.size (directory_data p)
  pub number : p.number ≡ from + length (directory_data p)
  pub says : SaysPlace p.directory.address p.extent p.directory.moment p.entry

-- the directories lie one after the other
abbrev pub AreLaid : ℕ → List PlacedDirectory → Type 0
AreLaid from [] = ⊤
AreLaid from (p ∷ ps) = IsLaid from p × AreLaid (from + length (directory_list p)) ps

abbrev pub table_data : PlacedTable → List (List ℕ)
table_data t = replicate t.gap zeros ++ packed t.bytes.items

-- the blocks of the nodes
abbrev pub node_list : Plan → List (List ℕ)
node_list p = file_list p.file ++ directories_list p.directories.items

-- all, the VAT ICB last
abbrev pub plan_blocks : Plan → List (List ℕ)
plan_blocks p = node_list p ++ (table_data p.table ++ p.table.entry ∷ [])

-- what the nodes say, and where their entries are
abbrev pub file_writings : Medium → ℕ → Option PlacedFile → List Writing
file_writings medium moment None = []
file_writings medium moment (Some p) = file_writing medium moment p.file ∷ []

abbrev pub file_written : Option PlacedFile → List Written
file_written None = []
file_written (Some p) = record { address = p.file.address; number = p.number } ∷ []

abbrev pub directories_writings : List PlacedDirectory → List Writing
directories_writings [] = []
directories_writings (p ∷ ps) = directory_writing p.directory ∷ directories_writings ps

abbrev pub directories_written : List PlacedDirectory → List Written
directories_written [] = []
directories_written (p ∷ ps) = record { address = p.directory.address; number = p.number } ∷ directories_written ps

abbrev pub plan_writings : Medium → Plan → List Writing
plan_writings medium p = file_writings medium p.moment p.file ++ directories_writings p.directories.items

abbrev pub plan_written : Plan → List Written
plan_written p = file_written p.file ++ directories_written p.directories.items

-- what a VAT ICB says
abbrev pub placed_table_fields : ℕ → PlacedTable → NodeFields
placed_table_fields moment t = record { kind = Table; moment = moment; links = 0; identity = 0; size = length t.bytes.items; place = Extent t.first }

-- The table, its bytes from a block number on, and its entry.
pub record IsTablePlaced (from moment : ℕ) (t : PlacedTable) : Type 0 where
  pub placed : IsPlaced udf t.bytes.items from t.first (table_data t)
  pub number : t.at ≡ from + PARTITION_START + length (table_data t)
  pub spelled : IsTableAt (t.at - PARTITION_START) (view t.vat) t.bytes.items
  pub mark : udf.IsEntry (placed_table_fields moment t) t.entry (t.at - PARTITION_START)

-- the blocks lie one after another from an address on, on a drive with room for so many
pub record IsPlan (next capacity : ℕ) (p : Plan) : Type 0 where
  pub begins : p.writer.packets ≡ record { at = next; blocks = [] }
  pub low : PARTITION_START ≤ next
  -- on each medium that has what the file keeps
  pub nodes : (medium : Medium) → IfSome p.file (λ f. AreKeptOn medium f.file) → WritesNodes udf medium (plan_writings medium p) (next - PARTITION_START) (node_list p) (plan_written p)
  pub laid : AreLaid (next - PARTITION_START + length (file_list p.file)) p.directories.items
  pub table : IsTablePlaced (next - PARTITION_START + length (node_list p)) p.moment p.table
  pub fits : p.table.at < capacity
  pub keeps : HasTableBelow p.table.at p.table.vat
