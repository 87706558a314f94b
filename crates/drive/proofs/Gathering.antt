-- Calls that settle nothing, one after another.
use Rattle.std.proofs.Common.{◌≡◌, ℕ, Bool, true, false, List, length, refl, sym, subst, ◌∙◌, arith}
use Rattle.drive.specs.Gathering.{CountsWaited, Gathering, KeepsGathering, waits_never}

counts_none : (b : Bool) (n k : ℕ) → CountsWaited b n n k k
counts_none true n k = refl
counts_none false n k = refl

counts_then : (b : Bool) (l m n i j k : ℕ) → CountsWaited b l m i j → CountsWaited b m n j k → CountsWaited b l n i k
counts_then true l m n i j k p q = omega (arith, p, q)
counts_then false l m n i j k p q = q ∙ p

-- nothing was called
pub keeps_none : (g : Gathering) (ws : List (List (List ℕ))) → KeepsGathering g g ws ws
keeps_none g ws = record { gathers = refl; phases = refl; waited = counts_none g.gathers g.waited (length ws) }

-- a call that writes nothing
pub keeps_same : {g h : Gathering} {ws vs : List (List (List ℕ))} → h ≡ g → vs ≡ ws → KeepsGathering g h ws vs
keeps_same {g} {h} {ws} {vs} p q = subst (λ (x : Gathering). KeepsGathering g x ws vs) (sym p) (subst (λ (x : List (List (List ℕ))). KeepsGathering g g ws x) (sym q) (keeps_none g ws))

-- one call after another
pub keeps_then : {f g h : Gathering} {us vs ws : List (List (List ℕ))} → KeepsGathering f g us vs → KeepsGathering g h vs ws → KeepsGathering f h us ws
keeps_then {f} {g} {h} {us} {vs} {ws} p q = record {
  gathers = q.gathers ∙ p.gathers;
  phases = q.phases ∙ p.phases;
  waited = counts_then f.gathers f.waited g.waited h.waited (length us) (length vs) (length ws) p.waited (subst (λ (b : Bool). CountsWaited b g.waited h.waited (length vs) (length ws)) p.gathers q.waited);
}

-- a drive whose writes never wait
pub keeps_never : (us vs : List (List (List ℕ))) → KeepsGathering waits_never waits_never us vs
keeps_never us vs = record { gathers = refl; phases = refl; waited = refl }
