-- A table's bytes, and where they lead.
use Rattle.std.proofs.Common.{◌≡◌, ℕ, ◌+◌, ◌*◌, ◌<◌, ◌≤◌, List, length, get_or, refl, arith}
use Rattle.std.specs.Prelude.{IfSome, Option, Some, None}
use Rattle.limits.specs.declared.TheConstants.{FILE_BYTES, PARTITION_START}
use Rattle.vat.specs.Table.{Table, FitsTable, IsTableAt, table_bytes}
use Rattle.vat.specs.declared.table.Version.{Version}
use Rattle.vat.specs.declared.table.Version.TheVariants.{One, Two}
use Rattle.vat.specs.Version.{record_size}
use Rattle.vat.proofs.TableReads.{takes_so_many}
use Rattle.recover.specs.Below.{AreBelow}

-- a table's bytes are few
pub table_few : (t : Table) → FitsTable t → length (table_bytes t) ≤ FILE_BYTES
table_few t fits =
    let size = takes_so_many t (table_bytes t) (record { fits = fits; whole = refl }) in
    by t.version size
  where
    by : (v : Version) → length (table_bytes t) ≡ 196 + (record_size v * length t.records + 4 * length t.entries) → length (table_bytes t) ≤ FILE_BYTES
    by One size = omega (arith, size, fits.clients, fits.many)
    by Two size = omega (arith, size, fits.clients, fits.many)

pub table_some : (t : Table) → FitsTable t → 0 < length (table_bytes t)
table_some t fits = omega (arith, takes_so_many t (table_bytes t) (record { fits = fits; whole = refl }))

-- and no more than its records and entries take
pub table_long : (t : Table) → FitsTable t → length (table_bytes t) ≤ 196 + 48 * length t.records + 4 * length t.entries
table_long t fits =
    let size = takes_so_many t (table_bytes t) (record { fits = fits; whole = refl }) in
    by t.version size
  where
    by : (v : Version) → length (table_bytes t) ≡ 196 + (record_size v * length t.records + 4 * length t.entries) → length (table_bytes t) ≤ 196 + 48 * length t.records + 4 * length t.entries
    by One size = omega (arith, size)
    by Two size = omega (arith, size)

-- all that a table names lies below the block number of its entry
pub table_at : (t : Table) (from number : ℕ) (bytes : List ℕ) → FitsTable t → bytes ≡ table_bytes t → IfSome t.previous (λ p. p < from) → AreBelow (from + PARTITION_START) t.entries → from ≤ number → IsTableAt number t bytes
table_at t from number bytes fits is previous below later = record {
  table = record { fits = fits; whole = is };
  previous = earlier t.previous previous;
  entries = λ k d lt. lower (get_or t.entries k d) (below k d lt);
}
  where
    earlier : (p : Option ℕ) → IfSome p (λ n. n < from) → IfSome p (λ n. n < number)
    earlier None h = h
    earlier (Some n) h = omega (arith, h, later)

    lower : (e : Option ℕ) → IfSome e (λ n. n + PARTITION_START < from + PARTITION_START) → IfSome e (λ n. n < number)
    lower None h = h
    lower (Some n) h = omega (arith, h, later)
