-- Paths, and their texts.
use Rattle.std.specs.Prelude.{ℕ, ◌≤◌, List, [], ◌∷◌, length, All}
use Rattle.std.specs.List.{flat_map}
use Rattle.limits.specs.declared.TheConstants.{MESSAGE_PATH_NAMES}
use Rattle.osta.specs.Name.{IsName}

-- no more names than a path of a message has at most, of which each may be in a directory
pub record IsPath (path : List (List ℕ)) : Type 0 where
  pub few : length path ≤ MESSAGE_PATH_NAMES
  pub names : All IsName path

-- a name after a slash
abbrev pub step_text : List ℕ → List ℕ
step_text name = 47 ∷ name

-- the root's text is a slash alone
abbrev pub path_text : List (List ℕ) → List ℕ
path_text [] = 47 ∷ []
path_text (name ∷ names) = flat_map step_text (name ∷ names)
