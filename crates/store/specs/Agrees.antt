-- What a store keeps, the drive that it is lent, and what a query leaves as it was.
use Rattle.std.specs.Prelude.{◌≡◌, ℕ, ◌<◌, ◌≤◌, List}
use Rattle.limits.specs.declared.TheConstants.{LEAST_CAPACITY, GREATEST_CAPACITY}
use Rattle.drive.specs.Journal.{Event, next_of}
use Rattle.store.specs.declared.store.Store.{Store}
use Rattle.planning.specs.Last.{HasTableBelow}

-- the store's table is on a drive with this journal and capacity
pub record IsStoreOn (journal : List Event) (capacity : ℕ) (store : Store) : Type 0 where
  pub keeps : HasTableBelow store.vat_icb_address store.vat
  pub on : store.vat_icb_address < next_of journal
  pub least : LEAST_CAPACITY ≤ store.capacity
  pub most : store.capacity ≤ GREATEST_CAPACITY
  pub fits : store.capacity ≤ capacity

-- all but the directories that are kept
pub record SameVolume (old new : Store) : Type 0 where
  pub at : new.vat_icb_address ≡ old.vat_icb_address
  pub capacity : new.capacity ≡ old.capacity
  pub vat : new.vat ≡ old.vat
  pub stopped : new.is_stopped ≡ old.is_stopped
  pub most_held : new.most_held ≡ old.most_held
