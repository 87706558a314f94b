-- Append: a replacement by the old bytes and the new ones.
use Rattle.std.proofs.Common.{◌≡◌, ℕ, false, List, [], ◌++◌, Some, refl, sym, ap, ◌∙◌, subst}
use Rattle.std.proofs.lemmas.Bool.{true≢false}
use Rattle.std.specs.Prelude.{unwrap_or, Option}
use Rattle.model.specs.Tree.{bytes_at, found_bytes, bytes_in, Path, Content, Tree, IsTree, has_names, found_directory}
use Rattle.model.specs.Tree.Content.{File, Directory}
use Rattle.model.specs.Operation.{file_bytes}
use Rattle.model.specs.Graph.{Graph, IsFunctional, as_stored}
use Rattle.model.specs.Graph.Body.{Bytes}
use Rattle.model.specs.Change.{Appended, Replaced}
use Rattle.model.proofs.Maps.{some_at}
use Rattle.model.proofs.Place.{Placed, stored_at, reach_place}
use Rattle.model.proofs.Codes.{MayReplace}

in_file : (content : Content) → has_names content ≡ false → bytes_in content ≡ Some (unwrap_or (bytes_in content) [])
in_file (File bytes) e = refl
in_file (Directory names) e = absurd (true≢false e)

-- the file has bytes
pub file_is : (tree : Tree) (path : Path) → MayReplace path tree → bytes_at tree path ≡ Some (file_bytes tree path)
file_is tree path may =
    let node = some_at tree path may.here in
    let file : has_names node.0.content ≡ false = ap found_directory (sym node.1) ∙ may.file in
    ap found_bytes node.1 ∙ in_file node.0.content file ∙ ap (λ (o : Option (List ℕ)). Some (unwrap_or o [])) (ap found_bytes (sym node.1))

pub can_hold : (content : Content) (front : List ℕ) → bytes_in content ≡ Some front → content ≡ File front
can_hold (File bytes) front e = ap File (let same : bytes ≡ front = cc in same)
can_hold (Directory names) front e = absurd cc

bytes_same : (x y : List ℕ) → Bytes x ≡ Bytes y → x ≡ y
bytes_same x y e = cc

module _ (path : Path) (bytes : List ℕ) (moment : ℕ) (tree : Tree) (is : IsTree tree) (may : MayReplace path tree) (graph graph' : Graph) (one : IsFunctional graph) (place : Path → ℕ) (placed : Placed graph tree place) where
  -- what is stored at the file's address is the file
  pub stored_bytes : (address : ℕ) (s : _) → graph address s → address ≡ place path → s.body ≡ Bytes (file_bytes tree path)
  stored_bytes address s there at =
      let node = some_at tree path may.here in
      let file : node.0.content ≡ File (file_bytes tree path) = can_hold node.0.content (file_bytes tree path) (ap found_bytes (sym node.1) ∙ file_is tree path may) in
      let same : s ≡ stored_at tree place path node.0 = one _ _ _ (subst (λ a. graph a s) at there) (placed.each path node.0 node.1) in
      ap (λ t. t.body) same ∙ ap (λ (c : Content). (stored_at tree place path (record { identity = node.0.identity; moment = node.0.moment; content = c })).body) file

  pub as_replaced : Appended graph graph' path bytes moment → Replaced graph graph' path (file_bytes tree path ++ bytes) moment
  as_replaced change =
      let at = (reach_place graph tree place one is placed path change.file.address change.file.reach).0 in
      let front : change.front ≡ file_bytes tree path = bytes_same change.front (file_bytes tree path) (sym change.holds ∙ stored_bytes change.file.address change.file.stored change.file.is at) in
      record {
        file = change.file;
        written = subst (λ (x : List ℕ). graph' change.file.address (as_stored change.file.stored.identity moment (Bytes (x ++ bytes)))) front change.written;
        kept = change.kept;
      }
