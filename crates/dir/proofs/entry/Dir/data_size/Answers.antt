use Rattle.std.proofs.Common.{◌≡◌, ◌≤◌, length, Some, sym, ap, ◌∙◌, arith, rules}
use Rattle.std.specs.Prelude.{slice_get}
use Rattle.osta.specs.Compressed.{compressed}
use Rattle.dir.specs.Size.{End, end_of_data, end_bytes, next_end, name_sizes}
use Rattle.dir.proofs.Sized.{end_more, short_more, size_is, blocks_are, full_more}
use Rattle.dir.proofs.entry.Dir.data_size.Goals as goal

pub loop-i-preserved : goal.loop-i-preserved
loop-i-preserved c =
    let es = c.args.self.now.entries.entries in
    let found : slice_get es c.loop-i.i ≡ Some (c.unwrap.result.0.now, c.unwrap.result.1.now) = search rules in
    let few : length (compressed c.unwrap.result.0.now) ≤ 255 = omega (arith, c.compressed.ensures.few, ap length c.compressed.ensures.value) in
    record {
      end = c.add.ensures ∙ ap (next_end (end_of_data c.loop-i.size)) (ap length c.compressed.ensures.value)
          ∙ ap (λ (e : End). next_end e (length (compressed c.unwrap.result.0.now))) c.loop-i.invariant.end
          ∙ sym (end_more es c.loop-i.i (c.unwrap.result.0.now, c.unwrap.result.1.now) found);
      full = omega (arith, ap (λ (e : End). e.full) c.add.ensures, ap (λ n. (next_end (end_of_data c.loop-i.size) n).full) (ap length c.compressed.ensures.value), full_more (end_of_data c.loop-i.size) (name_sizes es) c.loop-i.i (length (compressed c.unwrap.result.0.now)) few c.loop-i.invariant.end c.loop-i.invariant.full);
      short = short_more es c.loop-i.i (c.unwrap.result.0.now, c.unwrap.result.1.now) found few c.loop-i.invariant.short;
    }

pub returns-clause-size : goal.returns-clause-size
returns-clause-size c =
    let es = c.args.self.now.entries.entries in
    ap end_bytes c.loop-i.invariant.end ∙ size_is c.args.self.now.parent es c.loop-i.i 0 (omega (arith, c.loop-i-test.false, c.len-i-end.ensures.len)) c.loop-i.invariant.short

pub returns-clause-blocks : goal.returns-clause-blocks
returns-clause-blocks c first =
    let es = c.args.self.now.entries.entries in
    blocks_are c.args.self.now.parent es c.loop-i.i first (omega (arith, c.loop-i-test.false, c.len-i-end.ensures.len)) c.loop-i.invariant.short
