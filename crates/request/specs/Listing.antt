-- The names in a directory.
use Rattle.std.specs.Prelude.{◌≤◌, List, length, All}
use Rattle.limits.specs.declared.TheConstants.{DIRECTORY_NAMES}
use Rattle.osta.specs.Name.{IsName}
use Rattle.request.specs.declared.answer.Listed.{Listed}

abbrev pub IsNamed : Listed → Type 0
IsNamed listed = IsName listed.name

-- no more names than a directory has at most, of which each may be in a directory
pub record IsListing (names : List Listed) : Type 0 where
  pub few : length names ≤ DIRECTORY_NAMES
  pub named : All IsNamed names
