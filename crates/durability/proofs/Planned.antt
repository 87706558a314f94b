-- The planned blocks of a request carry it out.
use Rattle.std.proofs.Common.{if◌then◌else◌, ◌≡◌, ◌⊎◌, inl, inr, ℕ, zero, suc, ◌+◌, ◌-◌, ◌≤◌, ◌<◌, Bool, true, false, List, [], ◌∷◌, ◌++◌, length, take, slice_get, Contains, Option, Some, None, refl, sym, ◌∙◌, ap, subst, arith, cond, eq-eqb, replicate, append-nil, append_assoc, length-append}
use Rattle.std.proofs.lemmas.Bool.{true≢false}
use Rattle.std.proofs.lemmas.List.{take-append-drop}
use Rattle.std.proofs.lemmas.Option.{same_Some, slice_get_within}
use Rattle.std.specs.Prelude.{max, count_by, is_some}
use Rattle.std.specs.FinMap.{len}
use Rattle.std.proofs.lemmas.Bool.{ne_eqb}
use Rattle.std.proofs.lemmas.List.Sums.{count_by-le-length}
use Rattle.model.specs.Tree.{Path, Name, Content, Tree, IsTree, parent_of, last_of, has_names}
use Rattle.model.specs.Tree.Content.{File, Directory}
use Rattle.model.specs.Operation.{Operation, code_of, done, tree_after, files_made, directories_made, files_gone, directories_gone}
use Rattle.model.specs.Operation.Operation.{Create, Replace, Append, MakeDir, Rename, Remove}
use Rattle.model.specs.Session.{State, Request, after_one}
use Rattle.model.specs.Addresses.{free_address}
use Rattle.model.specs.Graph.{Graph, Stored, Entry, Body, IsFunctional, Names, PathLeads, Reach, entries_of, content_in, as_stored, links_in, is_directory}
use Rattle.model.specs.Graph.Body.{Bytes, Entries}
use Rattle.model.specs.Change.{ChangesNodes, IsReached, IsKeptUnder, Found, Added, Replaced, Appended, Removed, Renamed, Moved, with_entries, with_parent, renamed, without}
use Rattle.model.proofs.Maps.{some_at}
use Rattle.model.proofs.Paths.{push_longer}
use Rattle.model.proofs.Codes.{MayRename, may_rename}
use Rattle.model.proofs.Counts.{len_both}
use Rattle.model.proofs.Operations.{not_into, counted}
use Rattle.model.proofs.Made.{reach_has, reach_one}
use Rattle.durability.specs.Formats.{Block, Table_, Formats, AreExact, AreBounded, AreDistinct}
use Rattle.durability.specs.Formats.Kind.{Table as TableEntry}
use Rattle.durability.specs.Formats.NodePlace.{Extent}
use Rattle.durability.specs.Step.{FollowsRequest, CarriesOut}
use Rattle.std.proofs.lemmas.Grind.{div_ceil_times}
use Rattle.durability.specs.Volume.{Medium, partition_start, IsWithin, extent, bytes_in_blocks, HasTable, NoneImitates, graph_of, RecoversTo}
use Rattle.durability.proofs.Packed.{length-packed, bytes-packed}
use Rattle.durability.specs.Plan.{zeros, packed, Writing, Written, WritesNodes, with_entry, with_written, without_all, entries_after, IsPlanned, Plans, PlansAddition, PlansReplacement, PlansAppend, PlansRemoval, PlansRenaming, PlansMove}
use Rattle.durability.proofs.Commits.{keeps, reached_used}
use Rattle.durability.proofs.Mediums.{within, none-append}
use Rattle.durability.proofs.Stored.{stored_one}
use Rattle.durability.proofs.Tables.{IsNotGone, IsNotWritten, AreApart, longer_by, length_longer, length_inside, lead_after, same_after, unused_least, least_within, full_table, open_table}
use Rattle.durability.proofs.Written.{AllIn, nodes_stored, placed_extent, none_nodes, none_placed}

-- one name more at the end of a path
reach_more : (graph : Graph) (q : Path) (v w : ℕ) (name : Name) (to : ℕ) → PathLeads graph v q w → Names graph w name to → PathLeads graph v (q ++ name ∷ []) to
reach_more graph [] v w name to l n = (to, subst (λ x. Names graph x name to) (sym l) n, refl)
reach_more graph (x ∷ q) v w name to l n = (l.0, l.1, reach_more graph q l.0 w name to l.2 n)

-- the address is none of those that are written
abbrev pub IsNotNode : ℕ → List Writing → Type 0
IsNotNode address [] = Unit {0}
IsNotNode address (node ∷ nodes) = (address ≡ node.address → ⊥) × IsNotNode address nodes

pub zero_or : (n : ℕ) → (n ≡ 0) ⊎ (n ≡ 0 → ⊥)
zero_or zero = inl refl
zero_or (suc n) = inr (λ e. omega (arith, e))

pub tree_done : (op : Operation) (moment identity : ℕ) (tree : Tree) → code_of op tree ≡ 0 → tree_after op moment identity tree ≡ done op moment identity tree
tree_done op moment identity tree e = ap (λ b. if b then done op moment identity tree else tree) (eq-eqb (code_of op tree) 0 e)

pub tree_refused : (op : Operation) (moment identity : ℕ) (tree : Tree) → (code_of op tree ≡ 0 → ⊥) → tree_after op moment identity tree ≡ tree
tree_refused op moment identity tree other = ap (λ b. if b then done op moment identity tree else tree) (ne_eqb (code_of op tree) 0 other)

lower_or : (a b : ℕ) → a ≤ b → (a < b) ⊎ (a ≡ b)
lower_or a b h = grind arith

longer_same : (address size : ℕ) → address ≡ size → longer_by address size ≡ size + 1
longer_same address size e = ap (λ b. cond b (size + 1) size) (eq-eqb address size e)

longer_other : (address size : ℕ) → address < size → longer_by address size ≡ size
longer_other address size h = ap (λ b. cond b (size + 1) size) (ne_eqb address size (λ e. omega arith))

-- how many nodes there are after an operation
nodes_counted : (op : Operation) (moment identity : ℕ) (tree : Tree) → IsTree tree → code_of op tree ≡ 0
    → len (done op moment identity tree) + (files_gone op tree + directories_gone op tree) ≡ len tree + (files_made op + directories_made op)
nodes_counted op moment identity tree is e =
    let c = counted op moment identity tree is e in
    omega (arith, len_both tree, len_both (done op moment identity tree), c.files, c.directories)

-- nodes that are written over a graph: they are there afterwards, and all else that was reached stays
pub record Laid (graph graph' : Graph) (nodes : List Writing) (gone : List ℕ) : Type 0 where
  pub stored : AllIn graph' nodes
  pub kept : (address : ℕ) → IsNotNode address nodes → IsNotGone address gone → IsKeptUnder graph graph' address

-- what a move writes, by whether a directory is moved
module _ (graph : Graph) (from to : Path) (moment : ℕ) (nodes : List Writing) (p : PlansMove graph from to moment nodes) where
  abbrev turned_node : Writing
  turned_node = record { address = p.moved.address; kept = 0; firsts = []; stored = as_stored p.stored.identity p.stored.moment (with_parent p.beyond.address p.stored.body) }

  abbrev pair : List Writing
  pair =
      record { address = p.above.address; kept = 0; firsts = []; stored = as_stored p.above.stored.identity moment (with_entries (without from) p.above.stored.body) }
      ∷ record { address = p.beyond.address; kept = 0; firsts = []; stored = as_stored p.beyond.stored.identity moment (with_entries (λ entries. entries ++ renamed p.name p.moved ∷ []) p.beyond.stored.body) }
      ∷ []

  abbrev chosen : Bool → List Writing
  chosen b = (if b then turned_node ∷ [] else []) ++ pair

module _ (graph graph' : Graph) where
  pub replaced : (path : Path) (bytes : List ℕ) (moment : ℕ) (nodes : List Writing) → PlansReplacement graph path bytes moment nodes → Laid graph graph' nodes [] → Replaced graph graph' path bytes moment
  replaced path bytes moment nodes p l = record {
    file = p.file;
    written = (subst (λ ns. AllIn graph' ns) p.nodes_are l.stored).0;
    kept = λ other reached apart. l.kept other (subst (λ ns. IsNotNode other ns) (sym p.nodes_are) (apart, tt)) tt;
  }

  pub appended : (path : Path) (offset : ℕ) (bytes : List ℕ) (moment : ℕ) (nodes : List Writing) → PlansAppend graph path offset bytes moment nodes → Laid graph graph' nodes [] → Appended graph graph' path bytes moment
  appended path offset bytes moment nodes p l = record {
    file = p.file;
    front = p.front;
    holds = p.holds;
    written = (subst (λ ns. AllIn graph' ns) p.nodes_are l.stored).0;
    kept = λ other reached apart. l.kept other (subst (λ ns. IsNotNode other ns) (sym p.nodes_are) (apart, tt)) tt;
  }

  pub added : (free : ℕ) (path : Path) (content : Content) (moment identity : ℕ) (nodes : List Writing) → (IsReached graph free → ⊥) → PlansAddition graph free path content moment identity nodes → Laid graph graph' nodes []
      → Added graph graph' path content moment identity
  added free path content moment identity nodes fresh p l =
      let all = subst (λ ns. AllIn graph' ns) p.nodes_are l.stored in
      record {
        above = p.above;
        name = p.name;
        last = p.last;
        address = free;
        fresh = fresh;
        written = all.0;
        listed = all.1.0;
        kept = λ other reached apart. l.kept other (subst (λ ns. IsNotNode other ns) (sym p.nodes_are) ((λ e. fresh (subst (IsReached graph) e reached)), (apart, tt))) tt;
      }

  pub removed : (path : Path) (moment : ℕ) (nodes : List Writing) (gone : List ℕ) → PlansRemoval graph path moment nodes gone → Laid graph graph' nodes gone → Removed graph graph' path moment
  removed path moment nodes gone p l = record {
    above = p.above;
    gone = p.node;
    unlisted = (subst (λ ns. AllIn graph' ns) p.nodes_are l.stored).0;
    kept = λ other reached apart left. l.kept other (subst (λ ns. IsNotNode other ns) (sym p.nodes_are) (apart, tt)) (subst (λ gs. IsNotGone other gs) (sym p.gone_is) (left, tt));
  }

  pub renamed_within : (from to : Path) (moment : ℕ) (nodes : List Writing) → PlansRenaming graph from to moment nodes → Laid graph graph' nodes [] → Renamed graph graph' from to moment
  renamed_within from to moment nodes p l = record {
    beside = p.beside;
    above = p.above;
    moved = p.moved;
    from_last = p.from_last;
    contains = p.contains;
    name = p.name;
    to_last = p.to_last;
    written = (subst (λ ns. AllIn graph' ns) p.nodes_are l.stored).0;
    kept = λ other reached apart. l.kept other (subst (λ ns. IsNotNode other ns) (sym p.nodes_are) (apart, tt)) tt;
  }

  -- a file is the same whatever directory lists it
  same_body : (b : Body) (above : ℕ) → has_names (content_in b) ≡ false → b ≡ with_parent above b
  same_body (Bytes bytes) above file = refl
  same_body (Entries parent entries) above file = absurd (true≢false file)

  file_same : (s : Stored) (above : ℕ) → is_directory s ≡ false → s.links ≡ links_in s.body → s ≡ as_stored s.identity s.moment (with_parent above s.body)
  file_same s above file links =
      let body : s.body ≡ with_parent above s.body = same_body s.body above file in
      let count : s.links ≡ links_in (with_parent above s.body) = links ∙ ap links_in body in
      λ i. record { identity = s.identity; moment = s.moment; links = count i; body = body i }

  module _ (one : IsFunctional graph) (from to : Path) (moment : ℕ) (nodes : List Writing) (p : PlansMove graph from to moment nodes) (links : p.stored.links ≡ links_in p.stored.body)
      (loses : p.moved.address ≡ p.above.address → ⊥) (gets : p.moved.address ≡ p.beyond.address → ⊥) (l : Laid graph graph' nodes []) where
    turn : (s : Stored) → graph p.moved.address s → as_stored p.stored.identity p.stored.moment (with_parent p.beyond.address p.stored.body) ≡ as_stored s.identity s.moment (with_parent p.beyond.address s.body)
    turn s there = ap (λ (t : Stored). as_stored t.identity t.moment (with_parent p.beyond.address t.body)) (one p.moved.address p.stored s p.there there)

    -- what stands for the three, by what is written
    from_parts : AllIn graph' (pair graph from to moment nodes p) → ((s : Stored) → graph p.moved.address s → graph' p.moved.address (as_stored s.identity s.moment (with_parent p.beyond.address s.body)))
        → ((other : ℕ) → IsReached graph other → (other ≡ p.above.address → ⊥) → (other ≡ p.beyond.address → ⊥) → (other ≡ p.moved.address → ⊥) → IsKeptUnder graph graph' other) → Moved graph graph' from to moment
    from_parts both turns keeps = record {
      elsewhere = p.elsewhere;
      above = p.above;
      moved = p.moved;
      from_last = p.from_last;
      contains = p.contains;
      beyond = p.beyond;
      name = p.name;
      to_last = p.to_last;
      unlisted = both.0;
      listed = both.1.0;
      turned = turns;
      kept = keeps;
    }

    pub moved_from : Moved graph graph' from to moment
    moved_from = go (is_directory p.stored) refl
      where
        go : (b : Bool) → is_directory p.stored ≡ b → Moved graph graph' from to moment
        go true directory =
            let all : nodes ≡ chosen graph from to moment nodes p true = p.nodes_are ∙ ap (chosen graph from to moment nodes p) directory in
            let stored = subst (λ ns. AllIn graph' ns) all l.stored in
            from_parts stored.1 (λ s there. subst (λ t. graph' p.moved.address t) (turn s there) stored.0)
            (λ other reached loser getter mover. l.kept other (subst (λ ns. IsNotNode other ns) (sym all) (mover, (loser, (getter, tt)))) tt)
        go false file =
            let all : nodes ≡ chosen graph from to moment nodes p false = p.nodes_are ∙ ap (chosen graph from to moment nodes p) file in
            let stored = subst (λ ns. AllIn graph' ns) all l.stored in
            from_parts stored
            (λ s there.
            let same : p.stored ≡ s = one p.moved.address p.stored s p.there there in
            let is_file : is_directory s ≡ false = ap (λ (t : Stored). is_directory t) (sym same) ∙ file in
            let count : s.links ≡ links_in s.body = subst (λ (t : Stored). t.links ≡ links_in t.body) same links in
            subst (λ t. graph' p.moved.address t) (file_same s p.beyond.address is_file count) (l.kept p.moved.address (subst (λ ns. IsNotNode p.moved.address ns) (sym all) (loses, (gets, tt))) tt s there))
            (λ other reached loser getter mover. l.kept other (subst (λ ns. IsNotNode other ns) (sym all) (loser, (getter, tt))) tt)

-- the addresses of nodes that are written: each once, none 0, none beyond a table of this size
abbrev pub NodesApart : ℕ → List Writing → Type 0
NodesApart size [] = Unit {0}
NodesApart size (node ∷ nodes) = (1 ≤ node.address) × (node.address ≤ size) × IsNotNode node.address nodes × NodesApart size nodes

-- the addresses that are unused from now on: none is 0, each lies within a table of this size
abbrev pub GoneWithin : ℕ → List ℕ → Type 0
GoneWithin size [] = Unit {0}
GoneWithin size (address ∷ gone) = (1 ≤ address) × (address < size) × GoneWithin size gone

-- how long the table gets
abbrev pub size_after : ℕ → List Writing → ℕ
size_after size [] = size
size_after size (node ∷ nodes) = size_after (longer_by node.address size) nodes

not_node_zero : (nodes : List Writing) (size : ℕ) → NodesApart size nodes → IsNotNode 0 nodes
not_node_zero [] size apart = tt
not_node_zero (node ∷ nodes) size apart = ((λ e. omega (arith, apart.0)), not_node_zero nodes size apart.3)

not_gone_zero : (gone : List ℕ) (size : ℕ) → GoneWithin size gone → IsNotGone 0 gone
not_gone_zero [] size within = tt
not_gone_zero (g ∷ gone) size within = ((λ e. omega (arith, within.0)), not_gone_zero gone size within.2)

length-without : (gone : List ℕ) (V : List (Option ℕ)) → GoneWithin (length V) gone → length (without_all V gone) ≡ length V
length-without [] V within = refl
length-without (g ∷ gone) V within =
    let same = length_inside V g None within.1 in
    length-without gone (with_entry V g None) (subst (λ n. GoneWithin n gone) (sym same) within.2) ∙ same

module _ (formats : Formats) where
  unwritten : (medium : Medium) (nodes : List Writing) (from : ℕ) (blocks : List Block) (written : List Written) → WritesNodes formats medium nodes from blocks written → (address : ℕ) → IsNotNode address nodes → IsNotWritten address written
  unwritten medium [] from blocks written (b, w) address apart = subst (λ ws. IsNotWritten address ws) (sym w) tt
  unwritten medium (node ∷ nodes) from blocks written (first, others, number, rest, b, w, one, all) address apart =
      subst (λ ws. IsNotWritten address ws) (sym w) (apart.0, unwritten (medium ++ first) nodes (from + length first) others rest all address apart.1)

  written_apart : (medium : Medium) (nodes : List Writing) (from : ℕ) (blocks : List Block) (written : List Written) (size : ℕ) → WritesNodes formats medium nodes from blocks written → NodesApart size nodes → AreApart size written
  written_apart medium [] from blocks written size (b, w) apart = subst (λ ws. AreApart size ws) (sym w) tt
  written_apart medium (node ∷ nodes) from blocks written size (first, others, number, rest, b, w, one, all) apart =
      subst (λ ws. AreApart size ws) (sym w)
      (apart.1, unwritten (medium ++ first) nodes (from + length first) others rest all node.address apart.2, written_apart (medium ++ first) nodes (from + length first) others rest size all apart.3)

  length-written : (medium : Medium) (nodes : List Writing) (from : ℕ) (blocks : List Block) (written : List Written) (V : List (Option ℕ)) → WritesNodes formats medium nodes from blocks written → length (with_written V written) ≡ size_after (length V) nodes
  length-written medium [] from blocks written V (b, w) = ap (λ ws. length (with_written V ws)) w
  length-written medium (node ∷ nodes) from blocks written V (first, others, number, rest, b, w, one, all) =
      ap (λ ws. length (with_written V ws)) w ∙ length-written (medium ++ first) nodes (from + length first) others rest (with_entry V node.address (Some number)) all
      ∙ ap (λ n. size_after n nodes) (length_longer V node.address (Some number))

module _ (formats : Formats) (capacity volume : ℕ) (exact : AreExact formats) (distinct : AreDistinct formats) (B : Medium) (S : State) (stands : RecoversTo formats capacity volume B S) where
  abbrev V : List (Option ℕ)
  V = stands.tells.table.entries

  abbrev graph : Graph
  graph = graph_of formats (take stands.at B) V

  one : IsFunctional graph
  one = stored_one formats exact (take stands.at B) V

  used : (a : ℕ) → IsReached graph a → (number : ℕ) × (slice_get V a ≡ Some (Some number))
  used a reached = reached_used formats capacity volume exact B S stands a reached

  inside : (a : ℕ) → IsReached graph a → a < length V
  inside a reached = let u = used a reached in slice_get_within V a (Some u.0) u.1

  fresh : IsReached graph (free_address V) → ⊥
  fresh reached = let u = used (free_address V) reached in unused_least V u.0 u.1

  -- what a path reaches is stored
  stored_at_reach : (path : Path) (a : ℕ) → Reach graph path a → (s : Stored) × graph a s
  stored_at_reach path a reach =
      let h = reach_has graph S.tree one stands.tells.tree stands.tells.makes path a reach in
      let at = some_at S.tree path h in
      let found = (stands.tells.makes.reached path at.0).0 at.1 in
      let same = reach_one graph S.tree one stands.tells.tree stands.tells.makes path found.0 a found.1 reach in
      (found.2, subst (λ b. graph b found.2) same found.3)

  -- the file set's address is no node's
  not_zero : IsReached graph 0 → ⊥
  not_zero (path, reach) =
      let at = stored_at_reach path 0 reach in
      let node = at.1 in
      let number : node.number ≡ stands.tells.set_number = same_Some node.number stands.tells.set_number (same_Some (Some node.number) (Some stands.tells.set_number) (sym node.used ∙ stands.tells.set_used)) in
      let block : node.block ≡ stands.tells.set_block = same_Some node.block stands.tells.set_block (sym node.there ∙ ap (λ n. slice_get (take stands.at B) (n + partition_start)) number ∙ stands.tells.set_there) in
      distinct.set stands.tells.table.label stands.tells.formatted stands.tells.set_block stands.tells.set_is 0 node.fields (subst (λ b. formats.IsEntry node.fields b 0) block node.entry)

  apart : (p q : Path) (a : ℕ) → Reach graph p a → Reach graph q a → p ≡ q
  apart p q a r t = stands.tells.makes.one_path p q a r t

  -- an entry's path
  entry_reach : (path : Path) (above : Found graph (parent_of path)) (e : Entry) → last_of path ≡ e.name ∷ [] → Contains (entries_of above.stored) e → Reach graph path e.address
  entry_reach path above e last contains =
      let whole_path : parent_of path ++ e.name ∷ [] ≡ path = ap (λ (ns : Path). parent_of path ++ ns) (sym last) ∙ take-append-drop (length path - 1) path in
      subst (λ p. Reach graph p e.address) whole_path (reach_more graph (parent_of path) 1 above.address e.name e.address above.reach (above.stored, above.is, e, contains, refl, refl))

  pub above_zero : (a : ℕ) → IsReached graph a → 1 ≤ a
  above_zero zero reached = absurd (not_zero reached)
  above_zero (suc a) reached = omega arith

  two_entries : 2 ≤ length V
  two_entries = omega (arith, inside 1 ([], refl))

  -- nodes whose addresses paths reached: they lie within the table, which gets no longer
  abbrev AllReached : List Writing → Type 0
  AllReached [] = Unit {0}
  AllReached (node ∷ nodes) = IsReached graph node.address × AllReached nodes

  abbrev AreDifferent : List Writing → Type 0
  AreDifferent [] = Unit {0}
  AreDifferent (node ∷ nodes) = IsNotNode node.address nodes × AreDifferent nodes

  reached_apart : (nodes : List Writing) → AllReached nodes → AreDifferent nodes → NodesApart (length V) nodes
  reached_apart [] reached different = tt
  reached_apart (node ∷ nodes) reached different =
      (above_zero node.address reached.0, omega (arith, inside node.address reached.0), different.0, reached_apart nodes reached.1 different.1)

  reached_size : (nodes : List Writing) → AllReached nodes → size_after (length V) nodes ≡ length V
  reached_size [] reached = refl
  reached_size (node ∷ nodes) reached = ap (λ n. size_after n nodes) (longer_other node.address (length V) (inside node.address reached.0)) ∙ reached_size nodes reached.1

  addition_apart : (path : Path) (content : Content) (moment identity : ℕ) (nodes : List Writing) → PlansAddition graph (free_address V) path content moment identity nodes → NodesApart (length V) nodes
  addition_apart path content moment identity nodes p =
      let above : IsReached graph p.above.address = (parent_of path, p.above.reach) in
      let new_apart : free_address V ≡ p.above.address → ⊥ = λ e. fresh (subst (IsReached graph) (sym e) above) in
      subst (λ ns. NodesApart (length V) ns) (sym p.nodes_are)
      (omega arith, least_within V two_entries, (new_apart, tt), (above_zero p.above.address above, omega (arith, inside p.above.address above), tt, tt))

  one_reached : (nodes : List Writing) (node : Writing) → nodes ≡ node ∷ [] → IsReached graph node.address → AllReached nodes × AreDifferent nodes
  one_reached nodes node e reached = (subst AllReached (sym e) (reached, tt), subst AreDifferent (sym e) (tt, tt))

  module _ (from to : Path) (moment : ℕ) (nodes : List Writing) (p : PlansMove graph from to moment nodes) (may : MayRename from to S.tree) where
    pub moved_reach : Reach graph from p.moved.address
    moved_reach = entry_reach from p.above p.moved p.from_last p.contains

    -- what is moved is neither of the two directories
    loses : p.moved.address ≡ p.above.address → ⊥
    loses e =
        let same : from ≡ parent_of from = apart from (parent_of from) p.above.address (subst (λ a. Reach graph from a) e moved_reach) p.above.reach in
        push_longer (parent_of from) p.moved.name (sym same ∙ sym (take-append-drop (length from - 1) from) ∙ ap (λ (ns : Path). parent_of from ++ ns) p.from_last)

    gets : p.moved.address ≡ p.beyond.address → ⊥
    gets e =
        let same : from ≡ parent_of to = apart from (parent_of to) p.beyond.address (subst (λ a. Reach graph from a) e moved_reach) p.beyond.reach in
        not_into 0 0 S.tree stands.tells.tree from to may (last_of to) (sym (take-append-drop (length to - 1) to) ∙ ap (λ (q : Path). q ++ last_of to) (sym same))

    pair_apart : p.above.address ≡ p.beyond.address → ⊥
    pair_apart e = p.elsewhere (apart (parent_of from) (parent_of to) p.beyond.address (subst (λ a. Reach graph (parent_of from) a) e p.above.reach) p.beyond.reach)

    stored_links : p.stored.links ≡ links_in p.stored.body
    stored_links = stands.tells.makes.links from p.moved.address p.stored moved_reach p.there

    from_reached : IsReached graph p.above.address
    from_reached = (parent_of from, p.above.reach)

    to_reached : IsReached graph p.beyond.address
    to_reached = (parent_of to, p.beyond.reach)

    moved_reached : IsReached graph p.moved.address
    moved_reached = (from, moved_reach)

    move_reached : AllReached nodes × AreDifferent nodes
    move_reached = go (is_directory p.stored) refl
      where
        go : (b : Bool) → is_directory p.stored ≡ b → AllReached nodes × AreDifferent nodes
        go true e =
            let all : nodes ≡ chosen graph from to moment nodes p true = p.nodes_are ∙ ap (chosen graph from to moment nodes p) e in
            (subst AllReached (sym all) (moved_reached, (from_reached, (to_reached, tt))), subst AreDifferent (sym all) ((loses, (gets, tt)), ((pair_apart, tt), (tt, tt))))
        go false e =
            let all : nodes ≡ chosen graph from to moment nodes p false = p.nodes_are ∙ ap (chosen graph from to moment nodes p) e in
            (subst AllReached (sym all) (from_reached, (to_reached, tt)), subst AreDifferent (sym all) ((pair_apart, tt), (tt, tt)))

  module _ (bounded : AreBounded formats) (r : Request) (blocks : List Block) (mark : Block) (p : IsPlanned formats capacity volume B S stands r blocks mark) where
    abbrev start : ℕ
    start = length B - partition_start

    low : partition_start ≤ length B
    low = omega (arith, within formats B stands.at stands.block stands.last, stands.last.is.0)

    abbrev W : List (Option ℕ)
    W = entries_after V p.written p.gone

    abbrev graph' : Graph
    graph' = graph_of formats (B ++ blocks) W

    keeps_after : (address : ℕ) → IsNotNode address p.nodes → IsNotGone address p.gone → IsKeptUnder graph graph' address
    keeps_after address unnode ungone =
        keeps formats capacity volume B blocks S stands W address (same_after V p.written p.gone address (unwritten formats B p.nodes start p.node_blocks p.written p.writes address unnode) ungone)

    laid : (gone : List ℕ) → p.gone ≡ gone → NodesApart (length V) p.nodes → Laid graph graph' p.nodes gone
    laid gone e apart = record {
      stored = subst (λ (bs : List Block). AllIn (graph_of formats (B ++ bs) W) p.nodes) (sym p.blocks_are)
          (nodes_stored formats p.nodes B start p.node_blocks p.written p.table_blocks W low refl p.writes (lead_after V p.written p.gone (written_apart formats B p.nodes start p.node_blocks p.written (length V) p.writes apart)));
      kept = λ address unnode ungone. keeps_after address unnode (subst (λ gs. IsNotGone address gs) (sym e) ungone);
    }

    -- how the table's length changes
    count_used : count_by is_some V ≡ 1 + len S.tree
    count_used = omega (arith, bounded.used stands.tells.table (stands.at - partition_start) _ stands.tells.has.is, stands.tells.files, stands.tells.directories, len_both S.tree)

    not_longer : (op : Operation) → code_of op S.tree ≡ 0 → files_made op + directories_made op ≡ 0 → AllReached p.nodes → size_after (length V) p.nodes ≡ max (length V) (1 + len (done op r.moment S.next_identity S.tree))
    not_longer op e none reached = omega (arith, reached_size p.nodes reached, nodes_counted op r.moment S.next_identity S.tree stands.tells.tree e, count_used, count_by-le-length is_some V)

    longer : (op : Operation) (path : Path) (content : Content) → code_of op S.tree ≡ 0 → files_made op + directories_made op ≡ 1 → files_gone op S.tree + directories_gone op S.tree ≡ 0
        → PlansAddition graph (free_address V) path content r.moment S.next_identity p.nodes → size_after (length V) p.nodes ≡ max (length V) (1 + len (done op r.moment S.next_identity S.tree))
    longer op path content e made gone plan = go (lower_or (free_address V) (length V) (least_within V two_entries))
      where
        above : IsReached graph plan.above.address
        above = (parent_of path, plan.above.reach)

        sizes : size_after (length V) p.nodes ≡ longer_by plan.above.address (longer_by (free_address V) (length V))
        sizes = ap (λ ns. size_after (length V) ns) plan.nodes_are

        more : len (done op r.moment S.next_identity S.tree) ≡ len S.tree + 1
        more = omega (arith, nodes_counted op r.moment S.next_identity S.tree stands.tells.tree e)

        go : (free_address V < length V) ⊎ (free_address V ≡ length V) → size_after (length V) p.nodes ≡ max (length V) (1 + len (done op r.moment S.next_identity S.tree))
        go (inl room) =
            let same : longer_by (free_address V) (length V) ≡ length V = longer_other (free_address V) (length V) room in
            let all : size_after (length V) p.nodes ≡ length V = sizes ∙ ap (λ n. longer_by plan.above.address n) same ∙ longer_other plan.above.address (length V) (inside plan.above.address above) in
            omega (arith, all, more, count_used, open_table V room)
        go (inr full) =
            let one_more : longer_by (free_address V) (length V) ≡ length V + 1 = longer_same (free_address V) (length V) full in
            let root = used 1 ([], refl) in
            let all : size_after (length V) p.nodes ≡ length V + 1 = sizes ∙ ap (λ n. longer_by plan.above.address n) one_more ∙ longer_other plan.above.address (length V + 1) (omega (arith, inside plan.above.address above)) in
            omega (arith, all, more, count_used, full_table V stands.tells.set_number root.0 stands.tells.set_used root.1 full)

    -- what the operation's plan gives
    record Carried (op : Operation) : Type 0 where
      apart : NodesApart (length V) p.nodes
      gone : GoneWithin (length V) p.gone
      size : size_after (length V) p.nodes ≡ max (length V) (1 + len (done op r.moment S.next_identity S.tree))
      changes : ChangesNodes graph graph' op r.moment S.next_identity

    renaming : (source target : Path) → code_of (Rename source target) S.tree ≡ 0 → p.gone ≡ [] → PlansRenaming graph source target r.moment p.nodes ⊎ PlansMove graph source target r.moment p.nodes → Carried (Rename source target)
    renaming source target e none (inl plan) =
        let reached = one_reached p.nodes _ plan.nodes_are (let above : IsReached graph plan.above.address = (parent_of source, plan.above.reach) in above) in
        let apart = reached_apart p.nodes reached.0 reached.1 in
        record {
          apart = apart;
          gone = subst (λ gs. GoneWithin (length V) gs) (sym none) tt;
          size = not_longer (Rename source target) e refl reached.0;
          changes = inl (renamed_within graph graph' source target r.moment p.nodes plan (laid [] none apart));
        }
    renaming source target e none (inr plan) =
        let may = may_rename source target S.tree e in
        let reached = move_reached source target r.moment p.nodes plan may in
        let apart = reached_apart p.nodes reached.0 reached.1 in
        record {
          apart = apart;
          gone = subst (λ gs. GoneWithin (length V) gs) (sym none) tt;
          size = not_longer (Rename source target) e refl reached.0;
          changes = inr (moved_from graph graph' one source target r.moment p.nodes plan (stored_links source target r.moment p.nodes plan may) (loses source target r.moment p.nodes plan may) (gets source target r.moment p.nodes plan may) (laid [] none apart));
        }

    carried : (op : Operation) → code_of op S.tree ≡ 0 → Plans graph (free_address V) op r.moment S.next_identity p.nodes p.gone → Carried op
    carried (Create path bytes) e (plan, none) =
        let apart = addition_apart path (File bytes) r.moment S.next_identity p.nodes plan in
        record {
          apart = apart;
          gone = subst (λ gs. GoneWithin (length V) gs) (sym none) tt;
          size = longer (Create path bytes) path (File bytes) e refl refl plan;
          changes = added graph graph' (free_address V) path (File bytes) r.moment S.next_identity p.nodes fresh plan (laid [] none apart);
        }
    carried (MakeDir path) e (plan, none) =
        let apart = addition_apart path (Directory []) r.moment S.next_identity p.nodes plan in
        record {
          apart = apart;
          gone = subst (λ gs. GoneWithin (length V) gs) (sym none) tt;
          size = longer (MakeDir path) path (Directory []) e refl refl plan;
          changes = added graph graph' (free_address V) path (Directory []) r.moment S.next_identity p.nodes fresh plan (laid [] none apart);
        }
    carried (Replace path bytes) e (plan, none) =
        let reached = one_reached p.nodes _ plan.nodes_are (let file : IsReached graph plan.file.address = (path, plan.file.reach) in file) in
        let apart = reached_apart p.nodes reached.0 reached.1 in
        record {
          apart = apart;
          gone = subst (λ gs. GoneWithin (length V) gs) (sym none) tt;
          size = not_longer (Replace path bytes) e refl reached.0;
          changes = replaced graph graph' path bytes r.moment p.nodes plan (laid [] none apart);
        }
    carried (Append path offset bytes) e (plan, none) =
        let reached = one_reached p.nodes _ plan.nodes_are (let file : IsReached graph plan.file.address = (path, plan.file.reach) in file) in
        let apart = reached_apart p.nodes reached.0 reached.1 in
        record {
          apart = apart;
          gone = subst (λ gs. GoneWithin (length V) gs) (sym none) tt;
          size = not_longer (Append path offset bytes) e refl reached.0;
          changes = appended graph graph' path offset bytes r.moment p.nodes plan (laid [] none apart);
        }
    carried (Rename source target) e (plan, none) = renaming source target e none plan
    carried (Remove path) e plan =
        let reached = one_reached p.nodes _ plan.nodes_are (let above : IsReached graph plan.above.address = (parent_of path, plan.above.reach) in above) in
        let apart = reached_apart p.nodes reached.0 reached.1 in
        let node : IsReached graph plan.node.address = (path, plan.node.reach) in
        record {
          apart = apart;
          gone = subst (λ gs. GoneWithin (length V) gs) (sym plan.gone_is) (above_zero plan.node.address node, inside plan.node.address node, tt);
          size = not_longer (Remove path) e refl reached.0;
          changes = removed graph graph' path r.moment p.nodes p.gone plan (laid p.gone refl apart);
        }

    -- a request is refused: no node is written
    record Settled : Type 0 where
      apart : NodesApart (length V) p.nodes
      gone : GoneWithin (length V) p.gone
      size : size_after (length V) p.nodes ≡ (after_one S r).table_length
      follows : FollowsRequest graph graph' S r

    refused_settled : (code_of r.operation S.tree ≡ 0 → ⊥) → Settled
    refused_settled other =
        let none = p.refused other in
        record {
          apart = subst (λ ns. NodesApart (length V) ns) (sym none.0) tt;
          gone = subst (λ gs. GoneWithin (length V) gs) (sym none.1) tt;
          size = ap (λ ns. size_after (length V) ns) none.0
              ∙ (let tree : (after_one S r).tree ≡ S.tree = tree_refused r.operation r.moment S.next_identity S.tree other in
              let count : len (after_one S r).tree ≡ len S.tree = ap (λ (t : Tree). len t) tree in
              omega (arith, stands.tells.table_length, count, count_used, count_by-le-length is_some V));
          follows = record {
            done = λ e. absurd (other e);
            refused = λ _ address reached. keeps_after address (subst (λ ns. IsNotNode address ns) (sym none.0) tt) (subst (λ gs. IsNotGone address gs) (sym none.1) tt);
          };
        }

    done_settled : code_of r.operation S.tree ≡ 0 → Settled
    done_settled e =
        let c = carried r.operation e (p.done e) in
        let tree : (after_one S r).tree ≡ done r.operation r.moment S.next_identity S.tree = tree_done r.operation r.moment S.next_identity S.tree e in
        let count : len (after_one S r).tree ≡ len (done r.operation r.moment S.next_identity S.tree) = ap (λ (t : Tree). len t) tree in
        record {
          apart = c.apart;
          gone = c.gone;
          size = omega (arith, c.size, stands.tells.table_length, count);
          follows = record { done = λ _. c.changes; refused = λ other. absurd (other e) };
        }

    settled : Settled
    settled = elim (zero_or (code_of r.operation S.tree)) [ inl e ↦ done_settled e | inr other ↦ refused_settled other ]

    table_entries : p.table.entries ≡ W
    table_entries = ap (λ (t : Table_). t.entries) p.table_is

    size_W : length W ≡ (after_one S r).table_length
    size_W =
        length-written formats B p.nodes start p.node_blocks p.written (without_all V p.gone) p.writes
        ∙ ap (λ n. size_after n p.nodes) (length-without p.gone V settled.gone) ∙ settled.size

    pub table_length_is : length p.table.entries ≡ (after_one S r).table_length
    table_length_is = ap (λ (V' : List (Option ℕ)). length V') table_entries ∙ size_W

    set_kept : slice_get W 0 ≡ slice_get V 0
    set_kept = same_after V p.written p.gone 0
        (unwritten formats B p.nodes start p.node_blocks p.written p.writes 0 (not_node_zero p.nodes (length V) settled.apart)) (not_gone_zero p.gone (length V) settled.gone)

    -- none of the blocks imitates
    none_imitates : NoneImitates formats (length B) blocks
    none_imitates =
        let here : length B ≡ start + partition_start = omega (arith, low) in
        subst (λ (bs : List Block). NoneImitates formats (length B) bs) (sym p.blocks_are)
        (none-append formats (length B) p.node_blocks p.table_blocks (none_nodes formats distinct B p.nodes start p.node_blocks p.written (length B) here p.writes)
        (none_placed formats distinct p.bytes (start + length p.node_blocks) p.first p.table_blocks (length B + length p.node_blocks) (omega (arith, low)) p.placed))

    -- a table is never empty
    some_bytes : 1 ≤ length p.bytes
    some_bytes = omega (arith, p.size)

    some_blocks : 1 ≤ length blocks
    some_blocks =
        let gap : List Block = replicate (p.first - (start + length p.node_blocks)) zeros in
        let enough = div_ceil_times (length p.bytes) 2048 (omega arith) in
        omega (arith, some_bytes, enough.0, length-packed p.bytes, ap (λ (bs : List Block). length bs) p.placed.whole, length-append gap (packed p.bytes), ap (λ (bs : List Block). length bs) p.blocks_are, length-append p.node_blocks p.table_blocks)

    held : IsWithin (B ++ blocks) p.first (length p.bytes) × (extent (B ++ blocks) p.first (length p.bytes) ≡ packed p.bytes)
    held =
        let as_stored : (B ++ p.node_blocks) ++ (p.table_blocks ++ []) ≡ B ++ blocks =
        ap (λ (bs : List Block). (B ++ p.node_blocks) ++ bs) (append-nil p.table_blocks) ∙ append_assoc B p.node_blocks p.table_blocks ∙ ap (λ (bs : List Block). B ++ bs) (sym p.blocks_are) in
        subst (λ (M : Medium). IsWithin M p.first (length p.bytes) × (extent M p.first (length p.bytes) ≡ packed p.bytes)) as_stored
        (placed_extent formats (B ++ p.node_blocks) p.bytes (start + length p.node_blocks) p.first p.table_blocks [] (omega (arith, low, length-append B p.node_blocks)) (omega (arith, low, length-append B p.node_blocks)) p.placed)

    pub has_table : HasTable formats (B ++ blocks) (length B + length blocks) mark p.table (after_one S r).moment
    has_table = record {
      fields = record { kind = TableEntry; moment = r.moment; links = 0; identity = 0; size = length p.bytes; place = Extent p.first };
      kind = refl;
      entry = p.mark_is;
      moment_is = refl;
      first = p.first;
      place = refl;
      within = held.0;
      is = subst (λ (bytes : List ℕ). formats.IsTable p.table (length B + length blocks - partition_start) bytes) (sym (ap (λ (bs : List Block). bytes_in_blocks (length p.bytes) bs) held.1 ∙ bytes-packed p.bytes)) p.spelled;
    }

    -- the planned blocks carry the request out
    pub planned_carries : CarriesOut formats capacity volume B S stands r blocks mark
    planned_carries = record {
      none = none_imitates;
      some = some_blocks;
      table = p.table;
      has = has_table;
      label = ap (λ (t : Table_). t.label) p.table_is;
      previous = ap (λ (t : Table_). t.previous) p.table_is;
      commits = ap (λ (t : Table_). t.commits) p.table_is;
      next_identity = ap (λ (t : Table_). t.next_identity) p.table_is;
      records = ap (λ (t : Table_). t.records) p.table_is;
      table_length = table_length_is;
      files = ap (λ (t : Table_). t.files) p.table_is;
      directories = ap (λ (t : Table_). t.directories) p.table_is;
      set = ap (λ (V' : List (Option ℕ)). slice_get V' 0) table_entries ∙ set_kept;
      follows = subst (λ (V' : List (Option ℕ)). FollowsRequest graph (graph_of formats (B ++ blocks) V') S r) (sym table_entries) settled.follows;
    }
