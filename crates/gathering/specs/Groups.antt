-- Commits that go to a disk as one group: first all their blocks but the marks, with zeros in place of these, and then the marks.
use Rattle.std.specs.Prelude.{◌≡◌, ◌⊎◌, ℕ, zero, suc, nat_lt, Bool, false, if◌then◌else◌, List, [], ◌∷◌, ◌++◌}
use Rattle.drive.specs.Writes.{unwritten}
use Rattle.model.specs.Session.{State, Request, after_one}
use Rattle.durability.specs.Formats.{Block, Formats}
use Rattle.durability.specs.Volume.{Medium, RecoversTo}
use Rattle.durability.specs.Plan.{IsPlanned}

-- the blocks of a commit, and its last one, the VAT ICB
pub record Commit : Type 0 where
  pub blocks : List Block
  pub mark : Block

-- the blocks of a group: the marks of the commits for which `there` says so, by their places in the group, and zeros in place of the others
abbrev pub with_marks : (ℕ → Bool) → List Commit → List Block
with_marks there [] = []
with_marks there (commit ∷ group) = (commit.blocks ++ (if there 0 then commit.mark else unwritten) ∷ []) ++ with_marks (λ i. there (suc i)) group

abbrev pub none_there : ℕ → Bool
none_there i = false

abbrev pub first_there : ℕ → ℕ → Bool
first_there n i = nat_lt i n

-- All blocks of a group but its marks are there, and so are these marks. Where the last mark is not, the medium may end before its place.
abbrev pub HasMarks : (ℕ → Bool) → List Commit → List Block → Type 0
HasMarks there group left = (left ≡ with_marks there group) ⊎ (left ++ unwritten ∷ [] ≡ with_marks there group)

-- how many commits there are up to the newest mark that is there
abbrev pub newest_of : Bool → ℕ → ℕ
newest_of here zero = if here then 1 else 0
newest_of here (suc n) = suc (suc n)

abbrev pub newest : (ℕ → Bool) → List Commit → ℕ
newest there [] = 0
newest there (commit ∷ group) = newest_of (there 0) (newest (λ i. there (suc i)) group)

-- the writes of the same commits one by one: the blocks of each, and then its mark alone
abbrev pub one_by_one : List Commit → List (List Block)
one_by_one [] = []
one_by_one (commit ∷ group) = commit.blocks ∷ (commit.mark ∷ []) ∷ one_by_one group

module _ (formats : Formats) where
  -- The requests are carried out one after another, each planned on the medium and at the state that those before it make.
  abbrev pub AreInTurn : ℕ → ℕ → Medium → State → List Request → List Commit → Type 0
  AreInTurn capacity volume medium S [] [] = Unit {0}
  AreInTurn capacity volume medium S [] (commit ∷ group) = ⊥
  AreInTurn capacity volume medium S (request ∷ requests) [] = ⊥
  AreInTurn capacity volume medium S (request ∷ requests) (commit ∷ group) =
      (stands : RecoversTo formats capacity volume medium S) × IsPlanned formats capacity volume medium S stands request commit.blocks commit.mark
      × AreInTurn capacity volume (medium ++ (commit.blocks ++ commit.mark ∷ [])) (after_one S request) requests group
