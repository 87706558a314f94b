use Rattle.std.proofs.Common.{◌++◌, ◌∷◌, [], length, List, ℕ, replicate, ap, sym, ◌∙◌, arith, append-nil, length-append}
use Rattle.std.specs.Int.{div_ceil}
use Rattle.std.proofs.lemmas.Result.{err_from_is_err_and}
use Rattle.limits.specs.declared.TheConstants.{BLOCK_BYTES}
use Rattle.drive.proofs.Packing.{takes_finished, takes_front}
use Rattle.drive.proofs.Sending.{one_waits}
use Rattle.drive.specs.Waiting.{Waiting}
use Rattle.durability.specs.Plan.{zeros, packed}
use Rattle.planning.specs.Plan.{table_data}
use Rattle.planning.proofs.Plans.{length-padded}
use Rattle.planning.proofs.Puttings.{takes_both, stops_same, stops_second}
use Rattle.planning.proofs.plan.write_table.Goals as goal

pub put_bytes-requires-clause-fits : goal.put_bytes-requires-clause-fits
put_bytes-requires-clause-fits g c =
    let t = c.args.table.now in
    omega (arith, c.requires.fits, length-append (table_data t) (t.entry ∷ []), length-padded t.gap t.bytes.items, ap (λ (bs : List ℕ). div_ceil (length bs) BLOCK_BYTES) c.deref.ensures.value)

pub put_entry-requires-clause-begins : goal.put_entry-requires-clause-begins
put_entry-requires-clause-begins g c =
    let J1 = c.put_bytes.new.drive in
    let J2 = c.finish.new.drive in
    let rest = takes_finished g.D.Drive J1 J2 c.put_bytes.new.self.packets c.finish.new.self.packets c.in_ok-finish.ensures.ok c.in_ok-finish.ensures.sends c.in_ok-finish.ensures.empty in
    rest.begins (c.in_ok-put_bytes.ensures.ok.begins c.requires.begins)

pub returns-in_err-put_bytes-clause-err : goal.returns-in_err-put_bytes-clause-err
returns-in_err-put_bytes-clause-err g c =
    let q = err_from_is_err_and c.from_residual.result c.from_residual.ensures.1 in
    let t = c.args.table.now in
    let same = ap (λ (bs : List ℕ). replicate t.gap zeros ++ packed bs) c.deref.ensures.value in
    rw q.1 (stops_same c.args.drive.now c.put_bytes.new.drive c.args.writer.now.packets (replicate t.gap zeros ++ packed c.deref.result.now) (table_data t) same c.in_err-put_bytes.ensures.err)

pub returns-in_err-finish-clause-err : goal.returns-in_err-finish-clause-err
returns-in_err-finish-clause-err g c =
    let q = err_from_is_err_and c.from_residual-in_err-finish.result c.from_residual-in_err-finish.ensures.1 in
    let t = c.args.table.now in
    let J = c.args.drive.now in
    let J1 = c.put_bytes.new.drive in
    let J2 = c.finish.new.drive in
    let blocks = replicate t.gap zeros ++ packed c.deref.result.now in
    let same = ap (λ (bs : List ℕ). replicate t.gap zeros ++ packed bs) c.deref.ensures.value in
    rw q.1 (stops_same J J2 c.args.writer.now.packets blocks (table_data t) same
    (takes_front J J1 J2 c.args.writer.now.packets c.put_bytes.new.self.packets blocks c.in_ok-put_bytes.ensures.ok c.in_err-finish.ensures.err c.in_err-finish.ensures.sends))

pub returns-in_err-put_entry-clause-err : goal.returns-in_err-put_entry-clause-err
returns-in_err-put_entry-clause-err g c =
    let q = err_from_is_err_and c.from_residual-in_err-put_entry.result c.from_residual-in_err-put_entry.ensures.1 in
    let t = c.args.table.now in
    let J = c.args.drive.now in
    let J1 = c.put_bytes.new.drive in
    let J2 = c.finish.new.drive in
    let w1 = c.put_bytes.new.self.packets in
    let w2 = c.finish.new.self.packets in
    let blocks = replicate t.gap zeros ++ packed c.deref.result.now in
    let same = ap (λ (bs : List ℕ). replicate t.gap zeros ++ packed bs) c.deref.ensures.value in
    let taken = takes_both J J1 J2 c.args.writer.now.packets w1 w2 blocks [] blocks (append-nil blocks) c.in_ok-put_bytes.ensures.ok (takes_finished g.D.Drive J1 J2 w1 w2 c.in_ok-finish.ensures.ok c.in_ok-finish.ensures.sends c.in_ok-finish.ensures.empty) in
    rw q.1 (stops_second J J2 c.put_entry.new.drive c.args.writer.now.packets w2 blocks [] (table_data t) (append-nil blocks ∙ same) taken c.in_err-put_entry.ensures.err)

pub returns-clause-waits : goal.returns-clause-waits
returns-clause-waits g c =
    let entry = c.args.table.now.entry in
    one_waits c.in_ok-put_entry.ensures.ok.sent c.put_entry.new.self.packets.blocks entry
    (sym (ap (λ (v : Waiting). v.blocks ++ entry ∷ []) c.in_ok-finish.ensures.empty) ∙ c.in_ok-put_entry.ensures.ok.order) c.in_ok-put_entry.ensures.waits

pub returns-clause-ok : goal.returns-clause-ok
returns-clause-ok g c =
    let t = c.args.table.now in
    let J = c.args.drive.now in
    let J1 = c.put_bytes.new.drive in
    let J2 = c.finish.new.drive in
    let w1 = c.put_bytes.new.self.packets in
    let w2 = c.finish.new.self.packets in
    let blocks = replicate t.gap zeros ++ packed c.deref.result.now in
    let whole = ap (λ (bs : List ℕ). (replicate t.gap zeros ++ packed bs) ++ t.entry ∷ []) c.deref.ensures.value in
    let taken = takes_both J J1 J2 c.args.writer.now.packets w1 w2 blocks [] blocks (append-nil blocks) c.in_ok-put_bytes.ensures.ok (takes_finished g.D.Drive J1 J2 w1 w2 c.in_ok-finish.ensures.ok c.in_ok-finish.ensures.sends c.in_ok-finish.ensures.empty) in
    takes_both J J2 c.put_entry.new.drive c.args.writer.now.packets w2 c.put_entry.new.self.packets blocks (t.entry ∷ []) (table_data t ++ t.entry ∷ []) whole taken c.in_ok-put_entry.ensures.ok
