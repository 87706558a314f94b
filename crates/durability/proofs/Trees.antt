-- The tree after a request, where what is stored follows.
use Rattle.std.proofs.Common.{◌≡◌, ℕ, ◌+◌, ◌≤◌, ◌==◌, ◌&&◌, if◌then◌else◌, Bool, true, false, Some, refl, sym, ◌∙◌, subst, eq-eqb, arith}
use Rattle.std.proofs.lemmas.Bool.{eqb-true, true≢false}
use Rattle.model.specs.Tree.{Path, Node, Tree, IsTree}
use Rattle.model.specs.Operation.{Operation, code_of, done}
use Rattle.model.specs.Operation.Operation.{Create, Replace, Append, MakeDir, Rename, Remove}
use Rattle.model.specs.Session.{State, Request, after_one, draws_identity}
use Rattle.model.specs.Graph.{Graph, MakesTree, IsFunctional}
use Rattle.model.specs.Change.{IsReached, IsKeptUnder, Found}
use Rattle.std.specs.FinMap.{get}
use Rattle.model.specs.Identities.{HasIdentities, next_after}
use Rattle.model.proofs.Maps.{has_some}
use Rattle.model.proofs.Place
use Rattle.model.proofs.Place.{Placed, stored_at, makes_from_placed}
use Rattle.model.proofs.Made.{place_of, place_reach, placed_from_makes}
use Rattle.model.proofs.Operations.{kept, makes_after}
use Rattle.durability.specs.Step.{FollowsRequest}

-- a graph that keeps what paths reach makes the same tree
pub makes_kept : (graph graph' : Graph) (tree : Tree) → IsFunctional graph → IsFunctional graph' → IsTree tree → MakesTree graph tree → ((address : ℕ) → IsReached graph address → IsKeptUnder graph graph' address) → MakesTree graph' tree
makes_kept graph graph' tree one one' is makes keeps =
    let place = place_of graph tree one is makes in
    let placed = placed_from_makes graph tree one is makes in
    makes_from_placed graph' tree place one' is (record {
      root = placed.root;
      apart = placed.apart;
      each = λ path node e. keeps (place path) (path, place_reach graph tree one is makes path (has_some tree path node e)) (stored_at tree place path node) (placed.each path node e);
    })

-- a tree, what makes it and the next identity
pub record Made (graph : Graph) (tree : Tree) (next : ℕ) : Type 0 where
  pub is : IsTree tree
  pub makes : MakesTree graph tree
  pub identities : HasIdentities tree next

drawn : (op : Operation) (next : ℕ) → next_after op next ≡ (if draws_identity op && true then next + 1 else next)
drawn (Create path bytes) next = refl
drawn (MakeDir path) next = refl
drawn (Replace path bytes) next = refl
drawn (Append path offset bytes) next = refl
drawn (Rename from to) next = refl
drawn (Remove path) next = refl

undrawn : (b : Bool) (next : ℕ) → next ≡ (if b && false then next + 1 else next)
undrawn true next = refl
undrawn false next = refl

more_drawn : (b : Bool) (next commits : ℕ) → next ≤ 16 + commits → (if b then next + 1 else next) ≤ 16 + (commits + 1)
more_drawn true next commits l = omega arith
more_drawn false next commits l = omega arith

pub few_after : (S : State) (r : Request) → S.next_identity ≤ 16 + S.commits → (after_one S r).next_identity ≤ 16 + (S.commits + 1)
few_after S r l = more_drawn (draws_identity r.operation && (code_of r.operation S.tree == 0)) S.next_identity S.commits l

-- and after the request
pub made_after : (graph graph' : Graph) (S : State) (r : Request) → IsFunctional graph → IsFunctional graph' → Made graph S.tree S.next_identity → FollowsRequest graph graph' S r → Made graph' (after_one S r).tree (after_one S r).next_identity
made_after graph graph' S r one one' m follows = go (code_of r.operation S.tree == 0) refl
  where
    go : (b : Bool) → (code_of r.operation S.tree == 0) ≡ b
        → Made graph' (if b then done r.operation r.moment S.next_identity S.tree else S.tree) (if draws_identity r.operation && b then S.next_identity + 1 else S.next_identity)
    go true e =
        let code = eqb-true (code_of r.operation S.tree) 0 e in
        let k = kept r.operation r.moment S.next_identity S.tree m.is code in
        record {
          is = k.tree_after;
          makes = makes_after r.operation r.moment S.next_identity S.tree graph graph' m.is one one' m.makes code (follows.done code);
          identities = subst (HasIdentities (done r.operation r.moment S.next_identity S.tree)) (drawn r.operation S.next_identity) (k.identities m.identities);
        }
    go false e =
        let refused : code_of r.operation S.tree ≡ 0 → ⊥ = λ z. true≢false (sym (eq-eqb (code_of r.operation S.tree) 0 z) ∙ e) in
        let next = undrawn (draws_identity r.operation) S.next_identity in
        record {
          is = m.is;
          makes = makes_kept graph graph' S.tree one one' m.is m.makes (follows.refused refused);
          identities = subst (HasIdentities S.tree) next m.identities;
        }

-- what a path of a placed tree leads to, as the changes ask for it
pub found_placed : (graph : Graph) (tree : Tree) (place : Path → ℕ) → IsFunctional graph → IsTree tree → Placed graph tree place → (path : Path) (node : Node) → get tree path ≡ Some node → Found graph path
found_placed graph tree place one is placed path node at = record {
  address = place path;
  stored = stored_at tree place path node;
  reach = Place.place_reach graph tree place one is placed path (has_some tree path node at);
  is = placed.each path node at;
}
