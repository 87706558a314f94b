-- Look-ups that follow one another.
use Rattle.std.proofs.Common.{◌≡◌, ◌∙◌, ℕ, true, List, take, None, Option, inl, inr, refl, sym, ap, subst}
use Rattle.std.specs.FinMap.{get}
use Rattle.std.specs.Prelude.{⊤, IsTrue, IfOk, IfErr, Result, Ok, Err, is_ok}
use Rattle.std.specs.Result.{IsErrAnd}
use Rattle.std.proofs.lemmas.Bool.{false≢true}
use Rattle.drive.specs.Journal.{Event, held}
use Rattle.drive.specs.Reads.{ReadsOnly}
use Rattle.drive.specs.declared.Drive.{Ghosts}
use Rattle.drive.proofs.Reading.{reads_none, reads_then}
use Rattle.durability.specs.Runs.{Query, told}
use Rattle.durability.specs.Runs.Answer.{NotFound}
use Rattle.model.specs.Tree.{Path, Tree}
use Rattle.model.specs.Addresses.{free_address}
use Rattle.model.specs.Graph.{Graph, MakesTree, is_directory}
use Rattle.recover.specs.Faults.{devices, device_failures}
use Rattle.recover.specs.declared.fault.StoreFault.{StoreFault}
use Rattle.recover.specs.declared.node.Node.{Node}
use Rattle.lookup.specs.Cache.{AreKept, LiesThere}
use Rattle.lookup.specs.Shows.{IsFound, IsFoundDirectory, IsNodeAt, graph_below}
use Rattle.lookup.specs.Lookups.{IsDirectoryAt, IsReliable, KeepsToo, Looks, OpensDirectory, Sees, below_seen, free_seen, graph_seen}
use Rattle.lookup.specs.Queries.{IsMissing, IsQueryRefused}
use Rattle.lookup.specs.declared.cache.DirectoryCache.{DirectoryCache}
use Rattle.lookup.specs.declared.content.Content.{Content}
use Rattle.lookup.specs.declared.lookup.Lookup.{Lookup}
use Rattle.lookup.specs.declared.nodes.Nodes.{Nodes}
use Rattle.lookup.specs.declared.nodes.Placed.{Placed}

-- a refusal that `?` hands on
pub failed : {T : Type 0} (r : Result T StoreFault) (P : T → Type 0) (Q : StoreFault → Type 0) (fault : StoreFault) → IsErrAnd r (λ f. f ≡ fault) → Q fault → IfOk r P × IfErr r Q
failed (Ok x) P Q fault e q = absurd e
failed (Err f) P Q fault e q = (tt, subst Q (sym e) q)

pub refused_by : {T : Type 0} (r : Result T StoreFault) (Q : StoreFault → Type 0) (fault : StoreFault) → IsErrAnd r (λ f. f ≡ fault) → Q fault → IfErr r Q
refused_by r Q fault e q = (failed r (λ x. ⊤) Q fault e q).1

-- a call that gives a value refuses nothing
pub never_refused : {T : Type 0} (r : Result T StoreFault) (Q : StoreFault → Type 0) → IsTrue (is_ok r) → IfErr r Q
never_refused (Ok x) Q e = tt
never_refused (Err f) Q e = absurd (false≢true e)

-- what holds of a value by two facts about it
pub of_file : {T : Type 0} (r : Result T StoreFault) (P Q R : T → Type 0) → ((x : T) → P x → Q x → R x) → IfOk r P → IfOk r Q → IfOk r R
of_file (Ok x) P Q R both p q = both x p q
of_file (Err f) P Q R both p q = tt

-- a path that leads nowhere is a query's answer
pub missing_told : (tree : Tree) (path : Path) (query : Query) (fault : StoreFault) → (get tree path ≡ None → told tree query ≡ NotFound) → IsMissing tree path fault → IsQueryRefused (told tree query) fault
missing_told tree path query fault none missing = elim missing [ inl m ↦ inl (m.0, none m.1) | inr short ↦ inr (inr (inr (inr short))) ]

module _ {D : Type 0} {drive : Ghosts D} where
  -- ---- what is left

  pub looks_none : {a : Lookup D drive} → Looks drive 0 a a
  looks_none = record { same_drive = refl; same_cache = refl; nodes = refl; reads = reads_none _ _; kept = λ honest kept. kept }

  -- what is kept on one journal is on the other
  kept_back : {n : ℕ} {a b : Lookup D drive} (cache : DirectoryCache) → Looks drive n a b → AreKept (drive.journal b.drive.now) cache → AreKept (drive.journal a.drive.now) cache
  kept_back cache p = subst (λ (K : List Event). AreKept K cache) p.reads.journal

  kept_on : {n : ℕ} {a b : Lookup D drive} (cache : DirectoryCache) → Looks drive n a b → AreKept (drive.journal a.drive.now) cache → AreKept (drive.journal b.drive.now) cache
  kept_on cache p = subst (λ (K : List Event). AreKept K cache) (sym p.reads.journal)

  pub looks_then : {n : ℕ} {a b c : Lookup D drive} → Looks drive 0 a b → Looks drive n b c → Looks drive n a c
  looks_then {n} {a} {b} {c} p q = record {
    same_drive = q.same_drive ∙ p.same_drive;
    same_cache = q.same_cache ∙ p.same_cache;
    nodes = q.nodes ∙ p.nodes;
    reads = reads_then p.reads q.reads;
    kept = λ honest kept. kept_back c.cache.now p (q.kept honest (kept_on b.cache.now p (p.kept (q.reads.honest honest) kept)));
  }

  pub looks_failed : {T : Type 0} {a b : Lookup D drive} (r : Result T StoreFault) (fault : StoreFault) → IsErrAnd r (λ f. f ≡ fault) → Looks drive (device_failures fault) a b → Looks drive (devices r) a b
  looks_failed (Ok x) fault e p = absurd e
  looks_failed {a = a} {b = b} (Err f) fault e p = subst (λ (f : StoreFault). Looks drive (device_failures f) a b) (sym e) p

  -- where the drive did not fail
  pub looks_none_failed : {n : ℕ} {a b : Lookup D drive} → n ≡ 0 → Looks drive 0 a b → Looks drive n a b
  looks_none_failed {n} {a} {b} none p = subst (λ (m : ℕ). Looks drive m a b) (sym none) p

  pub looks_short : {T : Type 0} {a b : Lookup D drive} (r : Result T StoreFault) (fault : StoreFault) → IsErrAnd r (λ f. f ≡ fault) → device_failures fault ≡ 0 → Looks drive 0 a b → Looks drive (devices r) a b
  looks_short {a = a} {b = b} r fault e none p = looks_failed r fault e (looks_none_failed none p)

  -- ---- a directory that is put into the cache

  pub honest_kept : {placed : Placed} {content : Content} {b c : Lookup D drive} → KeepsToo drive placed content b c → IsTrue (drive.honest c.drive.now) → IsTrue (drive.honest b.drive.now)
  honest_kept q = subst IsTrue (ap drive.honest q.drive_now)

  pub sound_kept : {placed : Placed} {content : Content} {a b c : Lookup D drive} → KeepsToo drive placed content b c → IsReliable drive a c → IsReliable drive a b
  sound_kept q k = record { honest = honest_kept q k.honest; kept = k.kept }

  pub sees_kept : {placed : Placed} {content : Content} (a : Lookup D drive) {b c : Lookup D drive} (tree : Tree) → KeepsToo drive placed content b c → Sees drive a c tree → Sees drive a b tree
  sees_kept a tree q s = record { honest = honest_kept q s.honest; kept = s.kept; tree = s.tree; makes = s.makes; root = s.root }

  pub looks_keep : {placed : Placed} {content : Content} {a b c : Lookup D drive} → Looks drive 0 a b → KeepsToo drive placed content b c → (IsReliable drive a b → LiesThere (drive.journal a.drive.now) placed content) → Looks drive 0 a c
  looks_keep {placed} {content} {a} {b} {c} p q lies = record {
    same_drive = q.same_drive ∙ p.same_drive;
    same_cache = q.same_cache ∙ p.same_cache;
    nodes = q.nodes ∙ p.nodes;
    reads = subst (λ (d : D). ReadsOnly drive 0 a.drive.now d) (sym q.drive_now) p.reads;
    kept = λ honest kept.
        let h = honest_kept q honest in
        let there = subst (λ (K : List Event). LiesThere K placed content) (sym p.reads.journal) (lies (record { honest = h; kept = kept })) in
        kept_back c.cache.now p (q.kept there (kept_on b.cache.now p (p.kept h kept)));
  }

  -- ---- what is seen

  pub graph_same : {n : ℕ} {a b : Lookup D drive} → Looks drive n a b → graph_seen drive b ≡ graph_seen drive a
  graph_same {n} {a} {b} p =
      ap (λ (n : Nodes). graph_below n.vat_icb_address n.numbers.now (drive.journal b.drive.now)) p.nodes
      ∙ ap (λ (K : List Event). graph_below a.nodes.vat_icb_address a.nodes.numbers.now K) p.reads.journal

  pub below_same : {n : ℕ} {a b : Lookup D drive} → Looks drive n a b → below_seen drive b ≡ below_seen drive a
  below_same {n} {a} {b} p =
      ap (λ (n : Nodes). take n.vat_icb_address (held (drive.journal b.drive.now))) p.nodes
      ∙ ap (λ (K : List Event). take a.nodes.vat_icb_address (held K)) p.reads.journal

  pub free_same : {n : ℕ} {a b : Lookup D drive} → Looks drive n a b → free_seen b ≡ free_seen a
  free_same p = ap (λ (n : Nodes). free_address n.numbers.now) p.nodes

  pub sound : {a c : Lookup D drive} {tree : Tree} → Sees drive a c tree → IsReliable drive a c
  sound s = record { honest = s.honest; kept = s.kept }

  -- what is seen to the end was seen before
  pub sees_before : {n : ℕ} (a : Lookup D drive) {b c : Lookup D drive} (tree : Tree) → Looks drive n b c → Sees drive a c tree → Sees drive a b tree
  sees_before a tree q s = record { honest = q.reads.honest s.honest; kept = s.kept; tree = s.tree; makes = s.makes; root = s.root }

  pub sound_before : {n : ℕ} {a b c : Lookup D drive} → Looks drive n b c → IsReliable drive a c → IsReliable drive a b
  sound_before q k = record { honest = q.reads.honest k.honest; kept = k.kept }

  -- and is seen from here
  pub sound_next : {n : ℕ} {a b c : Lookup D drive} → Looks drive 0 a b → Looks drive n b c → IsReliable drive a c → IsReliable drive b c
  sound_next {n} {a} {b} {c} p q k = record { honest = k.honest; kept = kept_on b.cache.now p (p.kept (q.reads.honest k.honest) k.kept) }

  pub sees_next : {n : ℕ} {a b c : Lookup D drive} (tree : Tree) → Looks drive 0 a b → Looks drive n b c → Sees drive a c tree → Sees drive b c tree
  sees_next {n} {a} {b} {c} tree p q s = record {
    honest = s.honest;
    kept = kept_on b.cache.now p (p.kept (q.reads.honest s.honest) s.kept);
    tree = s.tree;
    makes = subst (λ (G : Graph). MakesTree G tree) (sym (graph_same p)) s.makes;
    root = s.root;
  }

  -- what was opened lies there, by what was in the cache before other calls
  pub lies_back : {n : ℕ} {placed : Placed} {content : Content} {a b c : Lookup D drive} → Looks drive 0 a b → Looks drive n b c → OpensDirectory drive b c placed content → IsReliable drive a c → LiesThere (drive.journal a.drive.now) placed content
  lies_back {n} {placed} {content} p q o k = subst (λ (K : List Event). LiesThere K placed content) p.reads.journal (o.lies (sound_next p q k))

  -- ---- what stands at a node

  -- what is stored where a path leads, after other calls
  pub stored_seen : {n : ℕ} {a b : Lookup D drive} (path : Path) (node : Node) (here : IsNodeAt (graph_seen drive a) path node) → Looks drive n a b → graph_seen drive b node.address here.found.stored
  stored_seen {n} {a} {b} path node here p =
      subst (λ (G : Graph). G node.address here.found.stored) (sym (graph_same p)) (subst (λ (x : ℕ). graph_seen drive a x here.found.stored) (sym here.address) here.found.is)

  pub node_later : {n : ℕ} {a b : Lookup D drive} {path : Path} {node : Node} → Looks drive n a b → IsNodeAt (graph_seen drive a) path node → IsNodeAt (graph_seen drive b) path node
  node_later {n} {a} {b} {path} {node} p = subst (λ (G : Graph). IsNodeAt G path node) (sym (graph_same p))

  -- what was found, seen from before other calls
  pub found_seen : {n : ℕ} {a b : Lookup D drive} (tree : Tree) (path : Path) (found : Option Node) → Looks drive n a b → IsFound (graph_seen drive b) tree path found → IsFound (graph_seen drive a) tree path found
  found_seen {n} {a} {b} tree path found p = subst (λ (G : Graph). IsFound G tree path found) (graph_same p)

  pub directory_seen : {n : ℕ} {a b : Lookup D drive} (tree : Tree) (path : Path) (found : Option Node) → Looks drive n a b → IsFoundDirectory (graph_seen drive b) tree path found → IsFoundDirectory (graph_seen drive a) tree path found
  directory_seen {n} {a} {b} tree path found p = subst (λ (G : Graph). IsFoundDirectory G tree path found) (graph_same p)

  -- the directory that is stored where a path leads
  pub directory_there : (a : Lookup D drive) (path : Path) (address : ℕ) (d : IsDirectoryAt (graph_seen drive a) path address) → graph_seen drive a address d.there.found.stored × (is_directory d.there.found.stored ≡ true)
  directory_there a path address d =
      (subst (λ (x : ℕ). graph_seen drive a x d.there.found.stored) (sym d.there.address ∙ d.address_is) d.there.found.is, sym d.there.kind ∙ d.directory)

  pub directory_later : {n : ℕ} {a b : Lookup D drive} {path : Path} {address : ℕ} → Looks drive n a b → IsDirectoryAt (graph_seen drive a) path address → IsDirectoryAt (graph_seen drive b) path address
  directory_later {n} {a} {b} {path} {address} p = subst (λ (G : Graph). IsDirectoryAt G path address) (sym (graph_same p))
