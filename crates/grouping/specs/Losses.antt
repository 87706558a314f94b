-- Streams that are answered in groups, and what is found of them after a power loss.
use Rattle.std.proofs.Common.{inl, inr}
use Rattle.std.specs.Prelude.{◌≡◌, ◌⊎◌, ℕ, List, [], ◌∷◌, ◌++◌, length, drop, map, IsTrue}
use Rattle.drive.specs.Gathering.{Gathering}
use Rattle.drive.specs.Journal.{Event, event_blocks, written}
use Rattle.drive.specs.Writes.{IsTorn}
use Rattle.model.specs.Session.{State, Request, after}
use Rattle.durability.specs.Formats.{Block}
use Rattle.settling.specs.Phases.{blanked}
use Rattle.engine.specs.Lives.{IsLifeUntil, life_of}
use Rattle.engine.specs.Losses.{AreCut, Life, LosesStream}
use Rattle.engine.specs.Situation.{Situation}
use Rattle.engine.specs.Steps.{HoldsState}
use Rattle.grouping.specs.Groups.{marks_of}
use Rattle.grouping.specs.Served.{AreGroups, Group, IsLoneGroup, IsSettledGroup}

-- the run of a group that ended
abbrev pub life_in : Group → Life
life_in g = life_of g.messages g.answers

-- a run in which nothing came
abbrev pub no_life : Life
no_life = record { said = []; answers = []; under = [] }

-- the blocks that the disk is given first of a settled group: zeros for each mark
abbrev pub first_blocks : List ℕ → Situation → Situation → List Block
first_blocks marks before afterwards = event_blocks (blanked marks (drop (length before.journal) afterwards.journal))

-- The power was lost while the group was answered or settled, or after it. Of a settled group a torn image of its first blocks is
-- found, or the whole group: one of which a mark is missing is taken for one that did not come. Where messages were answered on a
-- drive that does not gather, what is left of the writes of one of them is found.
abbrev pub LosesGroup : (before : Situation) → (begun : Gathering) → (g : Group)
    → IsSettledGroup before begun g ⊎ IsLoneGroup before begun g → List Event → Type 0
LosesGroup before begun g (inl settled) found =
    ((left : List Block) × IsTorn (first_blocks (marks_of g.messages g.start g.answers g.afterwards settled.answered) g.start g.afterwards) left
    × (found ≡ g.start.journal ++ written (length g.start.journal) left))
    ⊎ (found ≡ g.afterwards.journal)
LosesGroup before begun g (inr lone) found = LosesStream g.messages g.start g.answers g.afterwards lone.answered found ⊎ (found ≡ g.afterwards.journal)

-- in one of these groups
abbrev pub LosesGroups : (groups : List Group) → (before : Situation) → (begun : Gathering) → (afterwards : Situation) → (ended : Gathering)
    → AreGroups groups before begun afterwards ended → List Event → Type 0
LosesGroups [] before begun afterwards ended all found = ⊥
LosesGroups (g ∷ groups) before begun afterwards ended all found =
    LosesGroup before begun g all.0 found ⊎ LosesGroups groups g.afterwards g.gathering afterwards ended all.1 found

-- the run of that group, up to the power loss
abbrev pub IsLastLife : (before : Situation) → (begun : Gathering) → (g : Group)
    → (is : IsSettledGroup before begun g ⊎ IsLoneGroup before begun g) → (found : List Event) → LosesGroup before begun g is found → Life → Type 0
IsLastLife before begun g (inl settled) found (inl torn) life = life ≡ no_life
IsLastLife before begun g (inl settled) found (inr whole) life = life ≡ life_in g
IsLastLife before begun g (inr lone) found (inl cut) life = IsLifeUntil g.messages g.answers life
IsLastLife before begun g (inr lone) found (inr whole) life = life ≡ life_in g

-- the runs of the groups before it, and this one
abbrev pub LivesUntil : (groups : List Group) → (before : Situation) → (begun : Gathering) → (afterwards : Situation) → (ended : Gathering)
    → (all : AreGroups groups before begun afterwards ended) → (found : List Event) → LosesGroups groups before begun afterwards ended all found → List Life → Type 0
LivesUntil [] before begun afterwards ended all found loses lives = ⊥
LivesUntil (g ∷ groups) before begun afterwards ended all found (inl here) lives = (life : Life) × IsLastLife before begun g all.0 found here life × (lives ≡ life ∷ [])
LivesUntil (g ∷ groups) before begun afterwards ended all found (inr later) lives =
    (rest : List Life) × LivesUntil groups g.afterwards g.gathering afterwards ended all.1 found later rest × (lives ≡ life_in g ∷ rest)

-- Groups of a stream are runs one after another, each on what the one before it left, and so are those before a power loss. By the
-- laws of runs that are cut off, the state after all that these committed stands, whatever comes next.
abbrev pub GroupsAreLives : (groups : List Group) → (before : Situation) → (begun : Gathering) → (afterwards : Situation) → (ended : Gathering)
    → AreGroups groups before begun afterwards ended → Type 0
GroupsAreLives groups before begun afterwards ended all =
    (volume : ℕ) (S : State) → IsTrue afterwards.honest → HoldsState volume S before
    → ((done : List Request) × AreCut before.capacity volume S before.journal (map life_in groups) done afterwards.journal × HoldsState volume (after S done) afterwards)
    × ((found : List Event) (loses : LosesGroups groups before begun afterwards ended all found)
    → (lives : List Life) × LivesUntil groups before begun afterwards ended all found loses lives
    × (done : List Request) × AreCut before.capacity volume S before.journal lives done found)
