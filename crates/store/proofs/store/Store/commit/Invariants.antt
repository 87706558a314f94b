use Rattle.std.proofs.Common.{◌≡◌, false, List}
use Rattle.std.specs.Prelude.{All}
use Rattle.std.specs.Vec.Iter.{into_iter_items}
use Rattle.drive.specs.Journal.{Event}
use Rattle.lookup.specs.Cache.{LiesThere, AreKept}
use Rattle.planning.specs.Plan.{placed_of}
use Rattle.planning.specs.declared.layout.PlacedDirectory.{PlacedDirectory}
use Rattle.store.proofs.store.Store.commit.Given as goal

-- only the directories that are kept change, and each that is put there lies there
abbrev pub invariant-loop-placed : goal.invariant-loop-placed
invariant-loop-placed g l = record {
  at : l.self.vat_icb_address ≡ l.table.at;
  capacity : l.self.capacity ≡ l.fn.self.capacity;
  vat : l.self.vat ≡ l.table.vat;
  stopped : l.self.is_stopped ≡ false;
  kept : (journal : List Event) → All (λ (p : PlacedDirectory). LiesThere journal (placed_of p) p.directory.content) l.fn.plan.directories.items → AreKept journal l.fn.self.directories
      → All (λ (p : PlacedDirectory). LiesThere journal (placed_of p) p.directory.content) (into_iter_items l.placed-iterator) × AreKept journal l.self.directories;
}
