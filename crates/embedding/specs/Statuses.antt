-- What C is told of a volume.
use Rattle.std.specs.Prelude.{◌≡◌, ℕ, ◌-◌, ◌≤◌, Bool, IsTrue, List, ◌++◌, length, replicate}
use Rattle.drive.specs.Journal.{Event, held, next_of}
use Rattle.recover.specs.Tables.{IsEntryAt}
use Rattle.recover.specs.declared.table.TableEntry.{TableEntry}
use Rattle.store.specs.declared.store.Store.{Store}
use Rattle.embedding.specs.declared.told.Status.{Status}

-- a label's text in its field of 64 bytes: zeros come after it
abbrev pub label_text_field : List ℕ → List ℕ
label_text_field text = text ++ replicate (64 - length text) 0

-- It is what the store knows of it. The next address is the drive's, and the moment that of the newest VAT ICB. A label has at
-- most 60 bytes, so that a zero comes after it.
pub record TellsStatus (journal : List Event) (honest : Bool) (store : Store) (told : Status) : Type 0 where
  pub capacity : told.capacity ≡ store.capacity
  pub next : told.next ≡ next_of journal
  pub commits : told.commits ≡ store.vat.sessions.commits
  pub files : told.files ≡ store.vat.files
  pub directories : told.directories ≡ store.vat.directories
  pub clients : told.clients ≡ length store.vat.sessions.records.items
  pub label_length : told.label_length ≡ length store.vat.label
  pub few : told.label_length ≤ 60
  pub label : told.label ≡ label_text_field store.vat.label
  pub moment : IsTrue honest → (entry : TableEntry) × IsEntryAt (held journal) store.vat_icb_address entry × (told.moment ≡ entry.moment)
