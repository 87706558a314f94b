-- What a medium recovers to after a power loss, whichever blocks of the write that had not returned the disk kept.
use Rattle.std.specs.Prelude.{◌≡◌, ◌↔◌, ℕ, ◌+◌, ◌≤◌, List, [], ◌∷◌, ◌++◌, length, take}
use Rattle.drive.specs.Writes.{LastIsAlone, IsLeft}
use Rattle.model.specs.Session.{State, Request, after_one, after}
use Rattle.durability.specs.Formats.{Block, Formats}
use Rattle.durability.specs.Volume.{Medium, RecoversTo, RecoveredTo}
use Rattle.durability.specs.Plan.{IsPlanned}

module _ (formats : Formats) where
  -- On both media the same states are recovered, and the same states were recovered before.
  pub record AreAlike (capacity volume : ℕ) (medium other : Medium) : Type 0 where
    pub stands : (S : State) → RecoversTo formats capacity volume medium S ↔ RecoversTo formats capacity volume other S
    pub past : (commits : ℕ) (S : State) → RecoveredTo formats capacity volume medium commits S ↔ RecoveredTo formats capacity volume other commits S

  -- no state is recovered, whatever drive and volume it is read in
  abbrev pub RecoversToNothing : Medium → Type 0
  RecoversToNothing medium = (capacity volume : ℕ) (S : State) → RecoversTo formats capacity volume medium S → ⊥

  -- The medium goes on from one that recovered to S, and holds what is left of these commits in turn. What is recovered is the state after those that are whole, and no other; what was recovered before is remembered, and so is each of these.
  pub record Endures (capacity volume : ℕ) (before : Medium) (S : State) (done : List Request) (afterwards : Medium) : Type 0 where
    pub more : (added : List Block) × (afterwards ≡ before ++ added)
    pub stands : RecoversTo formats capacity volume afterwards (after S done)
    pub alone : (other_capacity other_volume : ℕ) (T : State) → RecoversTo formats other_capacity other_volume afterwards T → T ≡ after S done
    pub past : (commits : ℕ) (T : State) → RecoveredTo formats capacity volume before commits T → RecoveredTo formats capacity volume afterwards commits T
    pub later : (j : ℕ) → j ≤ length done → RecoveredTo formats capacity volume afterwards (S.commits + j) (after S (take j done))

  -- A request at the recovered state is committed by its planned blocks, and so much is left of their writes; `done` has the request where that is all of them.
  pub record IsTried (capacity volume : ℕ) (medium : Medium) (S : State) (request : Request) (left : List Block) (done : List Request) : Type 0 where
    pub stands : RecoversTo formats capacity volume medium S
    pub blocks : List Block
    pub mark : Block
    pub planned : IsPlanned formats capacity volume medium S stands request blocks mark
    pub writes : List (List Block)
    pub are : LastIsAlone blocks mark writes
    pub left_is : IsLeft writes left
    pub whole : left ≡ blocks ++ mark ∷ [] → done ≡ request ∷ []
    pub part : (left ≡ blocks ++ mark ∷ [] → ⊥) → done ≡ []

  -- Requests in turn, each begun where a state is recovered, after whatever is left of those before it; `done` has those that are there whole.
  abbrev pub AreTried : ℕ → ℕ → Medium → State → List Request → List Request → Medium → Type 0
  AreTried capacity volume medium S [] done afterwards = (done ≡ []) × (afterwards ≡ medium)
  AreTried capacity volume medium S (request ∷ requests) done afterwards =
      (left : List Block) × (now later : List Request) × IsTried capacity volume medium S request left now
      × (done ≡ now ++ later) × AreTried capacity volume (medium ++ left) (after S now) requests later afterwards

  -- Requests in turn, each committed whole, and the writes of all of them.
  abbrev pub AreCommitted : ℕ → ℕ → Medium → State → List Request → List (List Block) → Type 0
  AreCommitted capacity volume medium S [] writes = writes ≡ []
  AreCommitted capacity volume medium S (request ∷ requests) writes =
      (stands : RecoversTo formats capacity volume medium S) × (blocks : List Block) × (mark : Block) × (first rest : List (List Block))
      × IsPlanned formats capacity volume medium S stands request blocks mark × LastIsAlone blocks mark first × (writes ≡ first ++ rest)
      × AreCommitted capacity volume (medium ++ (blocks ++ mark ∷ [])) (after_one S request) requests rest
