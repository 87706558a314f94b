-- What a disk is given of a group of commits: first all blocks but the marks, with zeros in place of these, and after a sync the marks.
use Rattle.std.specs.Prelude.{ℕ, ◌==◌, Bool, if◌then◌else◌, List, [], ◌∷◌, drop, filter}
use Rattle.std.specs.List.{list_any}
use Rattle.drive.specs.Journal.{Event}
use Rattle.drive.specs.Writes.{unwritten}

-- the address is one of the marks
abbrev pub is_mark : List ℕ → ℕ → Bool
is_mark marks at = list_any (λ mark. mark == at) marks

-- a block, but zeros at a mark
abbrev pub blank_at : List ℕ → Event → Event
blank_at marks e = (e.0, if is_mark marks e.0 then unwritten else e.1)

-- blocks with zeros in place of the marks
abbrev pub blanked : List ℕ → List Event → List Event
blanked marks [] = []
blanked marks (e ∷ J) = blank_at marks e ∷ blanked marks J

-- the marks alone
abbrev pub marked : List ℕ → List Event → List Event
marked marks J = filter (λ (e : Event). is_mark marks e.0) J

-- What is given of a journal from an address on, each phase before a sync.
abbrev pub two_phases : ℕ → List ℕ → List Event → List (List Event)
two_phases from marks J = blanked marks (drop from J) ∷ marked marks (drop from J) ∷ []
