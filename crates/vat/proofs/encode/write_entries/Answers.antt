use Rattle.std.proofs.Common.{◌≡◌, ℕ, ◌-◌, ◌++◌, length, take, drop, get_or, None, ap, ◌∙◌, arith}
use Rattle.std.specs.Int.{w32, to_le_bytes}
use Rattle.std.specs.List.{flat_map}
use Rattle.std.proofs.lemmas.List.{length-take-le}
use Rattle.ecma.proofs.Writing.{flat_map_more, put_next}
use Rattle.vat.specs.Entry.{entry_bytes}
use Rattle.vat.proofs.Entries.{length-entry_bytes}
use Rattle.vat.proofs.encode.write_entries.Goals as goal

pub loop-entry-preserved : goal.loop-entry-preserved
loop-entry-preserved c =
    let l = c.loop-entry in
    let entry = get_or c.args.entries.now l.entry-index None in
    let before = take l.entry-index c.args.entries.now in
    let place : l.at ≡ length (flat_map entry_bytes before) =
    omega (arith, l.invariant.place, length-entry_bytes before, length-take-le l.entry-index c.args.entries.now (omega (arith, c.loop-entry-test.true))) in
    let rest = drop 4 (take (length l.into - l.at) (drop l.at l.into)) in
    record {
      place = omega (arith, l.invariant.place);
      written = rw (flat_map_more entry_bytes c.args.entries.now l.entry-index None c.loop-entry-test.true)
          (put_next (flat_map entry_bytes before) (entry_bytes entry) c.write_u32.new.buf l.into c.args.into.now l.at place
          (omega (arith, l.invariant.place, c.loop-entry-test.true, c.requires)) l.invariant.written
          (c.write_u32.ensures ∙ ap (λ (n : ℕ). to_le_bytes w32 n ++ rest) c.number_of.ensures));
    }
