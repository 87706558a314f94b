-- What a look-up says of the drive and the cache that it is lent, once it has been let go.
use Rattle.std.proofs.Common.{◌≡◌, ℕ, List, Option, sym, subst}
use Rattle.std.specs.Prelude.{IsTrue}
use Rattle.drive.specs.declared.Drive.{Ghosts}
use Rattle.model.specs.Tree.{Tree}
use Rattle.model.specs.Graph.{MakesTree}
use Rattle.lookup.specs.Cache.{AreKept}
use Rattle.lookup.specs.Lookups.{Looks, Sees}
use Rattle.lookup.specs.Shows.{HasNodesOf, graph_below}
use Rattle.lookup.specs.declared.cache.DirectoryCache.{DirectoryCache}
use Rattle.lookup.specs.declared.lookup.Lookup.{Lookup}

module _ {D : Type 0} {drive : Ghosts D} (a b : Lookup D drive) (before after : D) (cache : DirectoryCache) (drive_is : a.drive.now ≡ before) (cache_is : a.cache.now ≡ cache) (drive_after : after ≡ b.drive.now) where
  pub kept_lent : {n : ℕ} (next : DirectoryCache) → Looks drive n a b → next ≡ b.cache.now → IsTrue (drive.honest after) → AreKept (drive.journal before) cache → AreKept (drive.journal before) next
  kept_lent next looks next_is honest kept =
      let held = looks.kept (subst (λ (d : D). IsTrue (drive.honest d)) drive_after honest)
      (subst (λ (d : D). AreKept (drive.journal d) a.cache.now) (sym drive_is) (subst (λ (k : DirectoryCache). AreKept (drive.journal before) k) (sym cache_is) kept)) in
      subst (λ (k : DirectoryCache). AreKept (drive.journal before) k) (sym next_is) (subst (λ (d : D). AreKept (drive.journal d) b.cache.now) drive_is held)

  pub sees_lent : (at : ℕ) (numbers : List (Option ℕ)) (tree : Tree) → a.nodes.vat_icb_address ≡ at → a.nodes.numbers.now ≡ numbers → HasNodesOf (drive.honest after) (drive.journal before) cache at numbers tree → Sees drive a b tree
  sees_lent at numbers tree at_is numbers_are s = record {
    honest = subst (λ (d : D). IsTrue (drive.honest d)) drive_after s.honest;
    kept = subst (λ (d : D). AreKept (drive.journal d) a.cache.now) (sym drive_is) (subst (λ (k : DirectoryCache). AreKept (drive.journal before) k) (sym cache_is) s.kept);
    tree = s.tree;
    makes = subst (λ (d : D). MakesTree (graph_below a.nodes.vat_icb_address a.nodes.numbers.now (drive.journal d)) tree) (sym drive_is)
        (subst (λ (x : ℕ). MakesTree (graph_below x a.nodes.numbers.now (drive.journal before)) tree) (sym at_is)
        (subst (λ (xs : List (Option ℕ)). MakesTree (graph_below at xs (drive.journal before)) tree) (sym numbers_are) s.makes));
    root = s.root;
  }
