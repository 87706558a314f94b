-- What look-ups one after another found, seen from before the first of them.
use Rattle.std.proofs.Common.{◌≡◌, ◌∙◌, ℕ, true, [], ◌∷◌, ◌++◌, Option, take, refl, sym}
use Rattle.std.specs.Prelude.{⊤}
use Rattle.drive.specs.Journal.{held}
use Rattle.drive.specs.declared.Drive.{Ghosts}
use Rattle.durability.proofs.Stored.{stored_one}
use Rattle.model.specs.Tree.{Name, Path, Tree}
use Rattle.model.specs.Graph.{IsFunctional, Stored}
use Rattle.recover.specs.declared.node.Node.{Node}
use Rattle.udf.specs.Said.{names_directory}
use Rattle.udf.specs.Udf.{udf}
use Rattle.udf.proofs.Formats.{exact}
use Rattle.lookup.specs.Lookups.{IsReliable, Looks, OfDirectory, OfStoredNode, Sees, SeesDirectory, graph_seen}
use Rattle.lookup.specs.Shows.{IsFound, IsFoundDirectory, IsNodeAt}
use Rattle.lookup.specs.declared.lookup.Lookup.{Lookup}
use Rattle.lookup.proofs.Looking.{directory_later, directory_seen, found_seen, sees_before, sees_next, sound_next, stored_seen}

module _ {D : Type 0} {drive : Ghosts D} where
  -- at most one thing is stored under a virtual address
  pub one_seen : (a : Lookup D drive) → IsFunctional (graph_seen drive a)
  one_seen a = stored_one udf exact (take a.nodes.vat_icb_address (held (drive.journal a.drive.now))) a.nodes.numbers.now

  -- what a call sees between others
  pub seen_between : {n : ℕ} {a b c z : Lookup D drive} (tree : Tree) → Looks drive 0 a b → Looks drive 0 b c → Looks drive n c z → Sees drive a z tree → Sees drive b c tree
  seen_between {n} {a} tree p q r s = sees_next tree p q (sees_before a tree r s)

  pub directory_between : {n : ℕ} {a b c z : Lookup D drive} (tree : Tree) (path : Path) (o : Option Node) → Looks drive 0 a b → Looks drive 0 b c → Looks drive n c z → Sees drive a z tree
      → ((t : Tree) → Sees drive b c t → IsFoundDirectory (graph_seen drive b) t path o × ⊤) → IsFoundDirectory (graph_seen drive a) tree path o
  directory_between tree path o p q r s found = directory_seen tree path o p (found tree (seen_between tree p q r s)).0

  -- what a directory has under a name
  pub child_between : {n : ℕ} {a b c z : Lookup D drive} (tree : Tree) (path : Path) (parent : Node) (name : Name) (o : Option Node) → Looks drive 0 a b → Looks drive 0 b c → Looks drive n c z → Sees drive a z tree
      → IsNodeAt (graph_seen drive a) path parent → names_directory parent.kind ≡ true
      → ((t : Tree) (above : Path) → SeesDirectory drive b c t above parent.address → IsFound (graph_seen drive b) t (above ++ name ∷ []) o × ⊤) → IsFound (graph_seen drive a) tree (path ++ name ∷ []) o
  child_between tree path parent name o p q r s here directory found =
      found_seen tree (path ++ name ∷ []) o p (found tree path (seen_between tree p q r s, directory_later p (record { node = parent; there = here; directory = directory; address_is = refl }))).0

  -- what is said of a directory, and of a node
  pub opened_between : {n : ℕ} {a b c : Lookup D drive} (says : Stored → Type 0) (path : Path) (node : Node) → Looks drive 0 a b → Looks drive n b c → IsReliable drive a c → (here : IsNodeAt (graph_seen drive a) path node) → names_directory node.kind ≡ true
      → OfDirectory drive b c node.address says → says here.found.stored
  opened_between says path node p q k here directory said = said (sound_next p q k) here.found.stored (stored_seen path node here p) (sym here.kind ∙ directory)

  pub stored_between : {n : ℕ} {a b c : Lookup D drive} (says : Stored → Type 0) (path : Path) (node : Node) → Looks drive 0 a b → Looks drive n b c → IsReliable drive a c → (here : IsNodeAt (graph_seen drive a) path node)
      → OfStoredNode drive b c node says → says here.found.stored
  stored_between says path node p q k here said = said (sound_next p q k) here.found.stored (stored_seen path node here p) here.kind
