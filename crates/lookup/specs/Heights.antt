-- How far the tree goes below a path.
use Rattle.std.specs.Prelude.{◌≡◌, ◌⊎◌, ℕ, suc, ◌<◌, ◌≤◌, List, ◌∷◌, ◌++◌, length, slice_get, Some}
use Rattle.dir.specs.declared.entry.Entry.{Entry}
use Rattle.model.specs.Tree.{Name, Path, Tree, Has}

-- The longest path below one has so many names, or as many as are looked at.
pub record IsHeight (tree : Tree) (path : Path) (left height : ℕ) : Type 0 where
  pub longest : Path
  pub there : Has tree (path ++ longest)
  pub long : length longest ≡ height
  pub most : (below : Path) → Has tree (path ++ below) → (length below ≤ height) ⊎ (left ≡ height)

-- So it is below a directory, as far as its first names say.
pub record IsHeightSoFar (tree : Tree) (path : Path) (left : ℕ) (entries : List (Name × Entry)) (count height : ℕ) : Type 0 where
  pub longest : Path
  pub there : Has tree (path ++ longest)
  pub long : length longest ≡ height
  pub most : (k : ℕ) (e : Name × Entry) → k < count → slice_get entries k ≡ Some e → (below : Path) → Has tree (path ++ e.0 ∷ below) → (suc (length below) ≤ height) ⊎ (left ≡ height)
