use Rattle.std.proofs.Common.{◌≤◌, ◌-◌, length, sym, arith}
use Rattle.std.proofs.lemmas.Bool.{leb-true}
use Rattle.osta.specs.Compressed.{compressed, writing_faults}
use Rattle.osta.proofs.Rows.{all_hold}
use Rattle.osta.proofs.Fields.{written_over}
use Rattle.osta.proofs.dstring.dstring_write.Goals as goal

pub returns-clause-ok : goal.returns-clause-ok
returns-clause-ok c =
    let n = length c.args.field.now in
    let s = compressed c.args.text.now in
    let hold = all_hold (writing_faults (n - 1) c.args.text.now) (sym c.in_ok-count.ensures.fault) in
    let room : length s ≤ n - 1 = leb-true _ _ hold.1.0 in
    written_over n (n - 1) c.in_ok-count.count s c.write_encoding.new.into c.fill.new.self c.write_encoding.ensures (c.fill.ensures.after (λ y h. h)) c.in_ok-count.ensures.count (omega (arith, c.requires.some)) (omega (arith, c.requires.some))

pub returns-clause-dstring : goal.returns-clause-dstring
returns-clause-dstring c =
    let n = length c.args.field.now in
    let hold = all_hold (writing_faults (n - 1) c.args.text.now) (sym c.in_ok-count.ensures.fault) in
    let room : length (compressed c.args.text.now) ≤ n - 1 = leb-true _ _ hold.1.0 in
    record { utf8 = c.utf8.text; spellable = hold.0; room = omega (arith, c.requires.some); spelled = returns-clause-ok c }
