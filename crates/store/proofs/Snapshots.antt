-- What lies below an address stays where the journal goes on.
use Rattle.std.proofs.Common.{◌≡◌, ℕ, ◌≤◌, List, length, take, sym, ap, subst, ◌∙◌, arith}
use Rattle.std.proofs.lemmas.List.{length-take, take-take}
use Rattle.drive.specs.Journal.{Event, Once, event_blocks, held, next_of}
use Rattle.drive.proofs.Once.{held_front, held_once, next_once, once-take}
use Rattle.model.specs.Graph.{MakesTree}
use Rattle.durability.specs.Volume.{graph_of}
use Rattle.udf.specs.Udf.{udf}
use Rattle.store.specs.Past.{SnapshotsStay}

module _ (J J' : List Event) (once : Once J') (front : take (length J) J' ≡ J) where
  once_before : Once J
  once_before = subst (λ (L : List Event). Once L) front (once-take (length J) 0 J' once)

  longer : length J ≤ length J'
  longer = omega (arith, ap length front, length-take (length J) J')

  below_longer : next_of J ≤ next_of J'
  below_longer = omega (arith, next_once J once_before, next_once J' once, longer)

  held_below : (at : ℕ) → at ≤ next_of J → take at (held J') ≡ take at (held J)
  held_below at le =
      let within : at ≤ length J = omega (arith, le, next_once J once_before) in
      let before : held J ≡ take (length J) (event_blocks J') = ap held (sym front) ∙ held_front (length J) J' once in
      ap (take at) (held_once J' once) ∙ sym (take-take at (length J) (event_blocks J') within) ∙ ap (take at) (sym before)

pub snapshots_stay : SnapshotsStay
snapshots_stay honest still J J' directories kept at entries t shows within once front is_still are_kept = (
  record {
    honest = is_still;
    kept = are_kept;
    tree = shows.tree;
    makes = subst (λ (M : List (List ℕ)). MakesTree (graph_of udf M entries) t) (sym (held_below J J' once front at within)) shows.makes;
    root = shows.root;
  },
  omega (arith, within, below_longer J J' once front),
)
