-- What the nodes that a commit writes say.
use Rattle.std.specs.Prelude.{◌≡◌, ℕ, List, [], ◌∷◌, ◌++◌, length, map, Option, Some, None, nat_eq, All}
use Rattle.std.specs.Cmp.Lexicographic.{pointwise}
use Rattle.std.specs.List.{IsDistinct}
use Rattle.std.specs.Map.{keys_of}
use Rattle.dir.specs.declared.entry.Dir.{Dir}
use Rattle.dir.specs.Directory.{IsDirectoryEntry}
use Rattle.model.specs.Graph.{as_stored}
use Rattle.model.specs.Graph.Body.{Bytes, Entries}
use Rattle.durability.specs.Volume.{Medium, AreWithin, bytes_in_extents}
use Rattle.durability.specs.Plan.{Writing}
use Rattle.lookup.specs.Extents.{full_size}
use Rattle.udf.specs.Said.{said_entries}
use Rattle.udf.specs.Udf.{all_firsts}
use Rattle.planning.specs.declared.change.Change.{Change}
use Rattle.planning.specs.declared.file.NewFile.{NewFile}
use Rattle.planning.specs.declared.change.NewDirectory.{NewDirectory}

-- each name can be said, and none is there twice
pub record IsProper (d : Dir) : Type 0 where
  pub named : All IsDirectoryEntry d.entries.entries
  pub distinct : IsDistinct (pointwise nat_eq) (keys_of d.entries.entries)

-- the bytes that a file keeps, which are in extents on the medium
abbrev pub kept_bytes : Medium → NewFile → List ℕ
kept_bytes medium f = bytes_in_extents medium (full_size f.kept) (all_firsts f.kept)

-- they are there
pub record AreKeptOn (medium : Medium) (f : NewFile) : Type 0 where
  pub within : AreWithin medium (full_size f.kept) (all_firsts f.kept)
  pub size : length (kept_bytes medium f) ≡ full_size f.kept

-- a file that is written has the bytes that it keeps, and then the new ones
abbrev pub file_writing : Medium → ℕ → NewFile → Writing
file_writing medium moment f = record { address = f.address; kept = full_size f.kept; firsts = all_firsts f.kept; stored = as_stored f.unique moment (Bytes (kept_bytes medium f ++ f.bytes.now)) }

abbrev pub directory_writing : NewDirectory → Writing
directory_writing d = record { address = d.address; kept = 0; firsts = []; stored = as_stored d.unique d.moment (Entries d.content.dir.parent (said_entries d.content.dir.entries.entries)) }

abbrev pub new_file : Medium → ℕ → Option NewFile → List Writing
new_file medium moment None = []
new_file medium moment (Some f) = file_writing medium moment f ∷ []

abbrev pub new_directories : List NewDirectory → List Writing
new_directories ds = map directory_writing ds

-- what a change writes at a moment, in order, where the medium holds what its file keeps
abbrev pub change_writings : Medium → ℕ → Change → List Writing
change_writings medium moment c = new_file medium moment c.file ++ new_directories c.directories.items
