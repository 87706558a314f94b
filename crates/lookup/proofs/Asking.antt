-- What a path's node says in answer to a query.
use Rattle.std.proofs.Common.{◌≡◌, ℕ, ◌<◌, ◌≤◌, Bool, true, false, cond, List, length, take, drop, Option, Some, None, refl, sym, ap, ◌∙◌}
use Rattle.std.proofs.lemmas.Bool.{false≢true, true≢false, le-ltb, lt-ltb}
use Rattle.std.specs.FinMap.{get}
use Rattle.drive.specs.Journal.{Event, held}
use Rattle.model.specs.Tree.{Path, Tree, IsTree, has_names}
use Rattle.limits.specs.declared.TheConstants.{FILE_BYTES}
use Rattle.model.specs.Graph.{Body, MakesTree, Stored, content_in, is_directory}
use Rattle.model.specs.Graph.Body.{Bytes, Entries}
use Rattle.durability.specs.Runs.{got, piece_read, told, whole_file}
use Rattle.durability.specs.Runs.Answer.{Data, NotFound, IsDirectory, TooLong}
use Rattle.durability.specs.Runs.Query.{Get, Read}
use Rattle.durability.proofs.Stored.{stored_one}
use Rattle.udf.specs.Udf.{udf}
use Rattle.udf.specs.Said.{names_directory}
use Rattle.udf.proofs.Formats.{exact}
use Rattle.recover.specs.declared.node.Node.{Node}
use Rattle.lookup.specs.Shows.{graph_below, IsNodeAt}
use Rattle.lookup.proofs.Walks.{node_at}

got_directory : (identity moment : ℕ) (b : Body) → has_names (content_in b) ≡ true → got (Some (record { identity = identity; moment = moment; content = content_in b })) ≡ IsDirectory
got_directory identity moment (Bytes bytes) e = absurd (false≢true e)
got_directory identity moment (Entries parent entries) e = refl

pub told_none : (tree : Tree) (path : Path) → get tree path ≡ None → told tree (Get path) ≡ NotFound
told_none tree path none = ap got none

pub told_none_read : (tree : Tree) (path : Path) (offset count : ℕ) → get tree path ≡ None → told tree (Read path offset count) ≡ NotFound
told_none_read tree path offset count none = ap (piece_read offset count) none

read_directory : (offset count identity moment : ℕ) (b : Body) → has_names (content_in b) ≡ true → piece_read offset count (Some (record { identity = identity; moment = moment; content = content_in b })) ≡ IsDirectory
read_directory offset count identity moment (Bytes bytes) e = absurd (false≢true e)
read_directory offset count identity moment (Entries parent entries) e = refl

bytes_in : (b : Body) → has_names (content_in b) ≡ false → (bytes : List ℕ) × (b ≡ Bytes bytes)
bytes_in (Bytes bytes) e = (bytes, refl)
bytes_in (Entries parent entries) e = absurd (true≢false e)

-- what is stored and is no directory has bytes
pub file_bytes : (s : Stored) → is_directory s ≡ false → (bytes : List ℕ) × (s.body ≡ Bytes bytes)
file_bytes s file = bytes_in s.body file

module _ (at : ℕ) (entries : List (Option ℕ)) (J : List Event) (tree : Tree) (is : IsTree tree) (makes : MakesTree (graph_below at entries J) tree) where
  told_bytes : (path : Path) (node : Node) (here : IsNodeAt (graph_below at entries J) path node) (bytes : List ℕ) → here.found.stored.body ≡ Bytes bytes → told tree (Get path) ≡ whole_file bytes
  told_bytes path node here bytes body =
      ap got (node_at (graph_below at entries J) tree (stored_one udf exact (take at (held J)) entries) is makes path node here)
      ∙ ap (λ (b : Body). got (Some (record { identity = here.found.stored.identity; moment = here.found.stored.moment; content = content_in b }))) body

  pub told_file : (path : Path) (node : Node) (here : IsNodeAt (graph_below at entries J) path node) (bytes : List ℕ) → here.found.stored.body ≡ Bytes bytes → length bytes ≤ FILE_BYTES → told tree (Get path) ≡ Data bytes
  told_file path node here bytes body few = told_bytes path node here bytes body ∙ ap (λ (b : Bool). cond b TooLong (Data bytes)) (le-ltb FILE_BYTES (length bytes) few)

  pub told_long : (path : Path) (node : Node) (here : IsNodeAt (graph_below at entries J) path node) (bytes : List ℕ) → here.found.stored.body ≡ Bytes bytes → FILE_BYTES < length bytes → told tree (Get path) ≡ TooLong
  told_long path node here bytes body many = told_bytes path node here bytes body ∙ ap (λ (b : Bool). cond b TooLong (Data bytes)) (lt-ltb FILE_BYTES (length bytes) many)

  pub told_piece : (path : Path) (node : Node) (here : IsNodeAt (graph_below at entries J) path node) (offset count : ℕ) (whole : List ℕ) → here.found.stored.body ≡ Bytes whole → told tree (Read path offset count) ≡ Data (take count (drop offset whole))
  told_piece path node here offset count whole body =
      ap (piece_read offset count) (node_at (graph_below at entries J) tree (stored_one udf exact (take at (held J)) entries) is makes path node here)
      ∙ ap (λ (b : Body). piece_read offset count (Some (record { identity = here.found.stored.identity; moment = here.found.stored.moment; content = content_in b }))) body

  pub told_directory_read : (path : Path) (node : Node) (here : IsNodeAt (graph_below at entries J) path node) (offset count : ℕ) → names_directory node.kind ≡ true → told tree (Read path offset count) ≡ IsDirectory
  told_directory_read path node here offset count dir =
      ap (piece_read offset count) (node_at (graph_below at entries J) tree (stored_one udf exact (take at (held J)) entries) is makes path node here)
      ∙ read_directory offset count here.found.stored.identity here.found.stored.moment here.found.stored.body (sym here.kind ∙ dir)

  pub told_directory : (path : Path) (node : Node) (here : IsNodeAt (graph_below at entries J) path node) → names_directory node.kind ≡ true → told tree (Get path) ≡ IsDirectory
  told_directory path node here dir =
      ap got (node_at (graph_below at entries J) tree (stored_one udf exact (take at (held J)) entries) is makes path node here)
      ∙ got_directory here.found.stored.identity here.found.stored.moment here.found.stored.body (sym here.kind ∙ dir)
