use Rattle.std.proofs.Common.{◌++◌, ◌+◌, replicate, ◌≡◌, ◌-◌, ◌≤◌, List, ℕ, length, ap, ◌∙◌, sym, subst, arith}
use Rattle.std.specs.Int.{div_ceil}
use Rattle.limits.specs.declared.TheConstants.{BLOCK_BYTES, PARTITION_START}
use Rattle.vat.specs.Table.{view, IsTableAt}
use Rattle.durability.specs.Formats.Kind.{Table}
use Rattle.durability.specs.Formats.NodePlace.{Extent}
use Rattle.durability.specs.Plan.{zeros, packed, IsClearStart, IsPlaced}
use Rattle.udf.specs.Udf.{udf}
use Rattle.table_update.proofs.Tables.{table_few, table_long, table_some, table_at}
use Rattle.planning.proofs.Writings.{placed_at, length-placed}
use Rattle.planning.proofs.plan.place_table.Goals as goal

pub place_bytes-first-requires-clause-few : goal.place_bytes-first-requires-clause-few
place_bytes-first-requires-clause-few c = omega (arith, ap length c.deref.ensures.value, ap length c.in_ok-bytes.ensures, table_few (view c.args.vat) c.requires.fits)

pub table_entry-entry-requires-clause-some : goal.table_entry-entry-requires-clause-some
table_entry-entry-requires-clause-some c = omega (arith, ap length c.in_ok-bytes.ensures, table_some (view c.args.vat) c.requires.fits)

pub table_entry-entry-requires-clause-few : goal.table_entry-entry-requires-clause-few
table_entry-entry-requires-clause-few c = omega (arith, ap length c.in_ok-bytes.ensures, table_few (view c.args.vat) c.requires.fits)

pub returns-clause-placed : goal.returns-clause-placed
returns-clause-placed c =
    let from = c.args.numbers.now.next in
    let first = c.place_bytes-first.result in
    let number = c.next-number.result in
    let bytes = c.in_ok-bytes.bytes.items in
    let same : c.deref.result.now ≡ bytes = c.deref.ensures.value in
    let start = subst (λ (bs : List ℕ). IsClearStart udf (packed bs) from first) same c.place_bytes-first.ensures.start in
    let placed = subst (λ n. IsPlaced udf bytes from first (replicate (first - n) zeros ++ packed bytes)) (sym c.next-start.ensures.next) (placed_at bytes from first start) in
    let long = length-placed bytes from first (replicate (first - c.next-start.result) zeros ++ packed bytes) placed in
    let next : number ≡ first + div_ceil (length bytes) BLOCK_BYTES = c.next-number.ensures.next ∙ c.place_bytes-first.ensures.next ∙ ap (λ (bs : List ℕ). first + div_ceil (length bs) BLOCK_BYTES) same in
    let size : c.len.result ≡ length bytes = omega arith in
    let at : number + PARTITION_START - PARTITION_START ≡ number = omega arith in
    let later : from ≤ number = omega (arith, next, long) in
    let table = table_at (view c.args.vat) from number bytes c.requires.fits c.in_ok-bytes.ensures c.requires.leads.previous c.requires.leads.below later in
    record {
      placed = placed;
      number = omega (arith, long, next);
      spelled = subst (λ n. IsTableAt n (view c.args.vat) bytes) (sym at) table;
      mark = subst (λ n. udf.IsEntry (record { kind = Table; moment = c.args.moment; links = 0; identity = 0; size = length bytes; place = Extent first }) c.table_entry-entry.result n) (sym at)
          (subst (λ n. udf.IsEntry (record { kind = Table; moment = c.args.moment; links = 0; identity = 0; size = n; place = Extent first }) c.table_entry-entry.result number) size c.table_entry-entry.ensures);
    }

pub returns-clause-some : goal.returns-clause-some
returns-clause-some c = omega (arith, ap length c.in_ok-bytes.ensures, table_some (view c.args.vat) c.requires.fits)

pub place_bytes-first-requires-clause-room : goal.place_bytes-first-requires-clause-room
place_bytes-first-requires-clause-room c = omega (arith, c.requires.room, ap length c.deref.ensures.value, ap length c.in_ok-bytes.ensures, table_long (view c.args.vat) c.requires.fits)

pub take-requires : goal.take-requires
take-requires c = record { room = omega (arith, c.requires.room, c.place_bytes-first.ensures.most, c.place_bytes-first.ensures.end, ap length c.deref.ensures.value, ap length c.in_ok-bytes.ensures, table_long (view c.args.vat) c.requires.fits) }
