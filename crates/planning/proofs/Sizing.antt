-- What is computed from the sizes of a change, in the model's words.
use Rattle.std.proofs.Common.{◌≡◌, ℕ, ◌+◌, ◌*◌, ◌/◌, List, [], ◌∷◌, ◌++◌, length, map, refl, sym, ap, ◌∙◌, arith}
use Rattle.std.specs.Prelude.{Option, Some, None, IfSome, sum}
use Rattle.std.proofs.lemmas.List.Sums.{sum_by-cons}
use Rattle.osta.specs.Compressed.{compressed}
use Rattle.dir.specs.declared.entry.Entry.{Entry}
use Rattle.dir.specs.Identifier.{plain_size}
use Rattle.dir.specs.Size.{name_sizes, plain_sizes}
use Rattle.model.specs.Tree.{Name}
use Rattle.model.specs.Graph as graphs
use Rattle.durability.specs.Formats.{identifier_size}
use Rattle.durability.specs.Volume.{Medium, blocks_for}
use Rattle.durability.specs.Commit.{table_size}
use Rattle.udf.specs.Said.{said_entries}
use Rattle.udf.specs.Udf.{spelled_length}
use Rattle.vat.specs.Table.{Table}
use Rattle.planning.specs.declared.change.Change.{Change}
use Rattle.planning.specs.declared.change.NewDirectory.{NewDirectory}
use Rattle.planning.specs.declared.file.NewFile.{NewFile}
use Rattle.lookup.specs.Extents.{full_size}
use Rattle.table_update.specs.Outside.{outside_after}
use Rattle.table_update.specs.Need.{FileData, AreDirectories, AreOf, most_for_bytes, most_for_directories, reckoned}
use Rattle.planning.specs.Needs.{change_need, directories_need, file_need}
use Rattle.planning.specs.Writings.{AreKeptOn, change_writings, kept_bytes, new_directories, new_file}
use Rattle.table_update.proofs.Counting.{files_are_counted}
use Rattle.planning.proofs.Listing.{blocks_same}

-- the bytes that the file gets, and the names of each directory that is
abbrev pub bytes_of : Option NewFile → Option FileData
bytes_of None = None
bytes_of (Some f) = Some (record { kept = full_size f.kept; bytes = f.bytes.now })

abbrev pub names_of : NewDirectory → List Name
names_of d = map (λ (e : graphs.Entry). e.name) (said_entries d.content.dir.entries.entries)

abbrev pub all_names : List NewDirectory → List (List Name)
all_names [] = []
all_names (d ∷ ds) = names_of d ∷ all_names ds

names_size : (es : List (List ℕ × Entry)) → plain_sizes (name_sizes es) ≡ sum (map (λ (name : Name). identifier_size (spelled_length name)) (map (λ (e : graphs.Entry). e.name) (said_entries es)))
names_size [] = refl
names_size (e ∷ es) =
    ap (λ (n : ℕ). plain_size (length (compressed e.0)) + n) (names_size es)
    ∙ sym (sum_by-cons (λ (n : ℕ). n) (identifier_size (spelled_length e.0)) (map (λ (name : Name). identifier_size (spelled_length name)) (map (λ (x : graphs.Entry). x.name) (said_entries es))))

directories_most : (ds : List NewDirectory) → directories_need ds ≡ most_for_directories (all_names ds)
directories_most [] = refl
directories_most (d ∷ ds) = λ i. (2 + (40 + names_size d.content.dir.entries.entries i) / 1720) + directories_most ds i

file_most : (o : Option NewFile) → file_need o ≡ most_for_bytes (bytes_of o)
file_most None = refl
file_most (Some f) =
    ap (λ (n : ℕ). 2 * blocks_for (length (outside_after (full_size f.kept) f.bytes.now)) + n + 1) (sym (blocks_same (full_size f.kept + length f.bytes.now)))
    ∙ files_are_counted (full_size f.kept) f.bytes.now f.short

-- what a change may need is what is computed of its file, its directories and the table
pub change_reckoned : (change : Change) (t : Table) → change_need change t ≡ reckoned (bytes_of change.file) (all_names change.directories.items) t
change_reckoned change t =
    (λ i. (2 * blocks_for (table_size (length t.records) (length t.entries)) + 1) + file_most change.file i + directories_most change.directories.items i)
    ∙ turned (2 * blocks_for (table_size (length t.records) (length t.entries)) + 1) (most_for_bytes (bytes_of change.file)) (most_for_directories (all_names change.directories.items))
  where
    turned : (a b c : ℕ) → a + b + c ≡ b + c + a
    turned a b c = omega arith

are_directories : (ds : List NewDirectory) → AreDirectories (all_names ds) (new_directories ds)
are_directories [] = tt
are_directories (d ∷ ds) = (refl, are_directories ds)

-- which is what the change writes, where the medium has what the file keeps
pub change_is_of : (medium : Medium) (moment : ℕ) (change : Change) → IfSome change.file (AreKeptOn medium) → AreOf (bytes_of change.file) (all_names change.directories.items) (change_writings medium moment change)
change_is_of medium moment change kept = go change.file kept
  where
    go : (o : Option NewFile) → IfSome o (AreKeptOn medium) → AreOf (bytes_of o) (all_names change.directories.items) (new_file medium moment o ++ new_directories change.directories.items)
    go None kept = are_directories change.directories.items
    go (Some f) kept = (record { kept = refl; front = kept_bytes medium f; size = kept.size; body = refl }, are_directories change.directories.items)
