use Rattle.std.proofs.Common.{◌∷◌, [], sym, ap, length, List, arith}
use Rattle.std.proofs.lemmas.List.{length-append}
use Rattle.request.specs.declared.answer.Listed.{Listed}
use Rattle.lookup.proofs.Listings.{names_next}
use Rattle.lookup.proofs.queries.listing_of.Goals as goal

pub loop-index-preserved : goal.loop-index-preserved
loop-index-preserved c =
    let listed : Listed = record { kind = c.told.result; name = c.in_ok-clone.field-0 } in
    let there = rw c.unwrap.ensures at c.get_index.ensures.entry in
    record {
      count = omega (arith, ap (λ (ls : List Listed). length ls) c.in_ok-push.ensures.ok, length-append c.loop-index.listing (listed ∷ []), c.loop-index.invariant.count);
      names = names_next c.args.content.now.dir.entries.entries c.loop-index.index c.loop-index.listing c.push.new.self listed (c.unwrap.result.0.now, c.unwrap.result.1.now) c.loop-index.invariant.names (sym there) c.in_ok-push.ensures.ok c.told.ensures c.in_ok-clone.ensures.cases;
    }
