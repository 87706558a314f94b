-- Which addresses paths reach after a commit: those that they reached before it, and that of a new node.
use Rattle.std.proofs.Common.{◌≡◌, ◌⊎◌, inl, inr, ℕ, ◌+◌, ◌-◌, ◌≤◌, ◌<◌, List, [], ◌∷◌, ◌++◌, length, take, Option, Some, refl, sym, ◌∙◌, ap, subst, arith}
use Rattle.std.proofs.lemmas.Option.{slice_get_within}
use Rattle.model.specs.Tree.{Path, Content, Tree, IsTree, parent_of}
use Rattle.model.specs.Tree.Content.{File, Directory}
use Rattle.model.specs.Operation.{Operation, code_of}
use Rattle.model.specs.Operation.Operation.{Create, Replace, Append, MakeDir, Rename, Remove}
use Rattle.model.specs.Session.{State, Request, after_one}
use Rattle.model.specs.Addresses.{free_address}
use Rattle.model.specs.Graph.{Graph, Stored, IsFunctional, MakesTree, Reach}
use Rattle.model.specs.Change.{ChangesNodes, IsReached, IsKeptUnder, Added}
use Rattle.model.proofs.Maps.{has_some, some_at}
use Rattle.model.proofs.Place
use Rattle.model.proofs.Place.{Placed, stored_at}
use Rattle.model.proofs.Made.{place_of, place_reach, placed_from_makes, reach_has, reach_one}
use Rattle.model.proofs.Operations.{reached_after}
use Rattle.durability.specs.Formats.{Block, Table_, Formats, AreExact, AreBounded, AreDistinct}
use Rattle.durability.specs.Volume.{Medium, partition_start, graph_of, RecoversTo}
use Rattle.durability.specs.Step.{CarriesOut, FollowsRequest}
use Rattle.durability.specs.Plan.{Writing, Written, WritesNodes, entries_after, IsPlanned, Plans, PlansAddition}
use Rattle.durability.proofs.Commits.{keeps, reached_used}
use Rattle.durability.proofs.Mediums.{within}
use Rattle.durability.proofs.One.{table_one}
use Rattle.durability.proofs.Planned.{zero_or, planned_carries, has_table}
use Rattle.durability.proofs.Stored.{stored_one}
use Rattle.durability.proofs.Tables.{AreApart, IsNotWritten, IsNotGone, lead_after, same_after, unused_least, least_within}
use Rattle.durability.proofs.Trees.{makes_kept}
use Rattle.durability.proofs.Written.{AllIn, nodes_stored}

-- what paths reach is stored
pub stored_there : (graph : Graph) (tree : Tree) → IsFunctional graph → IsTree tree → MakesTree graph tree → (a : ℕ) → IsReached graph a → (s : Stored) × graph a s
stored_there graph tree one is makes a (path, reach) =
    let at = some_at tree path (reach_has graph tree one is makes path a reach) in
    let found = (makes.reached path at.0).0 at.1 in
    (found.2, subst (λ b. graph b found.2) (reach_one graph tree one is makes path found.0 a found.1 reach) found.3)

-- where a graph keeps what paths reach, they reach nothing else
reached_kept : (graph graph' : Graph) (tree : Tree) → IsFunctional graph → IsFunctional graph' → IsTree tree → MakesTree graph tree → ((a : ℕ) → IsReached graph a → IsKeptUnder graph graph' a) → (a : ℕ) → IsReached graph' a → IsReached graph a
reached_kept graph graph' tree one one' is makes kept a (path, reach) =
    let place = place_of graph tree one is makes in
    let placed = placed_from_makes graph tree one is makes in
    let there : Placed graph' tree place = record {
      root = placed.root;
      apart = placed.apart;
      each = λ q node e. kept (place q) (q, place_reach graph tree one is makes q (has_some tree q node e)) (stored_at tree place q node) (placed.each q node e);
    } in
    let makes' = makes_kept graph graph' tree one one' is makes kept in
    let h = reach_has graph' tree one' is makes' path a reach in
    let same : a ≡ place path = reach_one graph' tree one' is makes' path a (place path) reach (Place.place_reach graph' tree place one' is there path h) in
    (path, subst (λ (n : ℕ). Reach graph path n) (sym same) (place_reach graph tree one is makes path h))

-- the addresses of two nodes that were written
two_written : (formats : Formats) (M : Medium) (n m : Writing) (from : ℕ) (blocks : List Block) (written : List Written) → WritesNodes formats M (n ∷ m ∷ []) from blocks written
    → (x y : ℕ) × (written ≡ record { address = n.address; number = x } ∷ record { address = m.address; number = y } ∷ [])
two_written formats M n m from blocks written (first, others, x, rest, blocks_are, written_is, one, (first', others', y, rest', blocks_are', written_is', one', (blocks_end, written_end))) = (
  x,
  y,
  written_is ∙ ap (λ (ws : List Written). record { address = n.address; number = x } ∷ ws) (written_is' ∙ ap (λ (ws : List Written). record { address = m.address; number = y } ∷ ws) written_end),
)

module _ (formats : Formats) (exact : AreExact formats) (bounded : AreBounded formats) (distinct : AreDistinct formats) (capacity volume : ℕ) (M : Medium) (S : State) (stands : RecoversTo formats capacity volume M S) (r : Request) (blocks : List Block) (mark : Block)
    (p : IsPlanned formats capacity volume M S stands r blocks mark) where
  abbrev pub V : List (Option ℕ)
  V = stands.tells.table.entries

  -- the table after the commit
  abbrev pub W : List (Option ℕ)
  W = entries_after V p.written p.gone

  abbrev pub graph : Graph
  graph = graph_of formats (take stands.at M) V

  abbrev pub graph' : Graph
  graph' = graph_of formats (M ++ blocks) W

  pub one_before : IsFunctional graph
  one_before = stored_one formats exact (take stands.at M) V

  pub one_after : IsFunctional graph'
  one_after = stored_one formats exact (M ++ blocks) W

  pub low : partition_start ≤ length M
  low = omega (arith, within formats M stands.at stands.block stands.last, stands.last.is.0)

  pub carries : CarriesOut formats capacity volume M S stands r blocks mark
  carries = planned_carries formats capacity volume exact distinct M S stands bounded r blocks mark p

  pub same_table : carries.table ≡ p.table
  same_table = (table_one formats exact (M ++ blocks) (length M + length blocks) mark carries.table p.table (after_one S r).moment (after_one S r).moment carries.has
      (has_table formats capacity volume exact distinct M S stands bounded r blocks mark p)).0

  pub same_entries : carries.table.entries ≡ W
  same_entries = ap (λ (t : Table_). t.entries) (same_table ∙ p.table_is)

  pub follows : FollowsRequest graph graph' S r
  follows = subst (λ (X : List (Option ℕ)). FollowsRequest graph (graph_of formats (M ++ blocks) X) S r) same_entries carries.follows

  inside : (a : ℕ) → IsReached graph a → a < length V
  inside a reached = let u = reached_used formats capacity volume exact M S stands a reached in slice_get_within V a (Some u.0) u.1

  fresh : IsReached graph (free_address V) → ⊥
  fresh reached = let u = reached_used formats capacity volume exact M S stands (free_address V) reached in unused_least V u.0 u.1

  module _ (path : Path) (content : Content) (plan : PlansAddition graph (free_address V) path content r.moment S.next_identity p.nodes) (none : p.gone ≡ []) where
    above : IsReached graph plan.above.address
    above = (parent_of path, plan.above.reach)

    two : (x y : ℕ) × (p.written ≡ record { address = free_address V; number = x } ∷ record { address = plan.above.address; number = y } ∷ [])
    two = two_written formats M _ _ (length M - partition_start) p.node_blocks p.written
        (subst (λ (ns : List Writing). WritesNodes formats M ns (length M - partition_start) p.node_blocks p.written) plan.nodes_are p.writes)

    apart : AreApart (length V) p.written
    apart =
        let new : free_address V ≡ plan.above.address → ⊥ = λ e. fresh (subst (IsReached graph) (sym e) above) in
        subst (λ (ws : List Written). AreApart (length V) ws) (sym two.2)
        (least_within V (let h : 2 ≤ length V = omega (arith, inside 1 ([], refl)) in h), (new, tt), ((let k : plan.above.address ≤ length V = omega (arith, inside plan.above.address above) in k), tt, tt))

    stored : AllIn graph' p.nodes
    stored = subst (λ (bs : List Block). AllIn (graph_of formats (M ++ bs) W) p.nodes) (sym p.blocks_are)
        (nodes_stored formats p.nodes M (length M - partition_start) p.node_blocks p.written p.table_blocks W low refl p.writes (lead_after V p.written p.gone apart))

    abbrev addition : Added graph graph' path content r.moment S.next_identity
    addition = record {
      above = plan.above;
      name = plan.name;
      last = plan.last;
      address = free_address V;
      fresh = fresh;
      written = (subst (λ (ns : List Writing). AllIn graph' ns) plan.nodes_are stored).0;
      listed = (subst (λ (ns : List Writing). AllIn graph' ns) plan.nodes_are stored).1.0;
      kept = λ other reached different. keeps formats capacity volume M blocks S stands W other (same_after V p.written p.gone other
          (subst (λ (ws : List Written). IsNotWritten other ws) (sym two.2) ((λ e. fresh (subst (IsReached graph) e reached)), (different, tt)))
          (subst (λ (gs : List ℕ). IsNotGone other gs) (sym none) tt));
    }

  done_reached : (op : Operation) → code_of op S.tree ≡ 0 → Plans graph (free_address V) op r.moment S.next_identity p.nodes p.gone → ChangesNodes graph graph' op r.moment S.next_identity
      → (a : ℕ) → IsReached graph' a → IsReached graph a ⊎ (a ≡ free_address V)
  done_reached (Create path bytes) e (plan, none) change a reached =
      (reached_after (Create path bytes) r.moment S.next_identity S.tree graph graph' stands.tells.tree one_before one_after stands.tells.makes e (addition path (File bytes) plan none) a).0 reached
  done_reached (MakeDir path) e (plan, none) change a reached =
      (reached_after (MakeDir path) r.moment S.next_identity S.tree graph graph' stands.tells.tree one_before one_after stands.tells.makes e (addition path (Directory []) plan none) a).0 reached
  done_reached (Replace path bytes) e plan change a reached = inl ((reached_after (Replace path bytes) r.moment S.next_identity S.tree graph graph' stands.tells.tree one_before one_after stands.tells.makes e change a).0 reached)
  done_reached (Append path offset bytes) e plan change a reached = inl ((reached_after (Append path offset bytes) r.moment S.next_identity S.tree graph graph' stands.tells.tree one_before one_after stands.tells.makes e change a).0 reached)
  done_reached (Rename source target) e plan change a reached = inl ((reached_after (Rename source target) r.moment S.next_identity S.tree graph graph' stands.tells.tree one_before one_after stands.tells.makes e change a).0 reached)
  done_reached (Remove path) e plan change a reached = inl (((reached_after (Remove path) r.moment S.next_identity S.tree graph graph' stands.tells.tree one_before one_after stands.tells.makes e change a).0 reached).0)

  pub reached_before : (a : ℕ) → IsReached graph' a → IsReached graph a ⊎ (a ≡ free_address V)
  reached_before a reached = elim (zero_or (code_of r.operation S.tree)) [
    | inl e ↦ done_reached r.operation e (p.done e) (follows.done e) a reached
    | inr other ↦ inl (reached_kept graph graph' S.tree one_before one_after stands.tells.tree stands.tells.makes (follows.refused other) a reached)
  ]
