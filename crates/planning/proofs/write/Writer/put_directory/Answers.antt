use Rattle.std.proofs.Common.{◌≡◌, ◌+◌, ◌∙◌, ◌++◌, [], ◌∷◌, ℕ, List, length, sym, ap, arith, append_assoc, append-nil, length-append}
use Rattle.std.proofs.lemmas.Result.{err_from_is_err_and}
use Rattle.drive.proofs.Packing.{stops_before, takes-nil, takes-append, stops_after, stops_longer}
use Rattle.dir.specs.Directory.{directory_blocks}
use Rattle.dir.specs.Laying.{blocks_left}
use Rattle.drive.proofs.Reading.{writes_none, writes_then}
use Rattle.planning.proofs.Puttings.{takes_same, stops_same}
use Rattle.planning.proofs.write.Writer.put_directory.Goals as goal

pub loop-lay-init : goal.loop-lay-init
loop-lay-init g c = record {
  takes = ([], sym c.over-lay.ensures, takes-nil g.D.Drive c.args.drive.now c.args.self.now.packets);
  writes = writes_none _ _;
}

pub put-requires-clause-begins : goal.put-requires-clause-begins
put-requires-clause-begins g c = c.loop-lay.invariant.takes.2.begins c.requires.begins

pub put-requires-clause-fits : goal.put-requires-clause-fits
put-requires-clause-fits g c =
    let done = c.loop-lay.invariant.takes.0 in
    let all : length (directory_blocks c.args.content.now.dir c.args.first) ≡ length done + length (blocks_left c.loop-lay.lay) = ap length c.loop-lay.invariant.takes.1 ∙ length-append done (blocks_left c.loop-lay.lay) in
    let one : length (blocks_left c.loop-lay.lay) ≡ length (blocks_left c.next_into.new.self) + 1 = omega (arith, ap length (c.next_into.ensures.some c.loop-lay-test.true)) in
    omega (arith, all, one, c.loop-lay.invariant.takes.2.ends, c.requires.fits, c.loop-lay.invariant.writes.capacity)

pub loop-lay-preserved : goal.loop-lay-preserved
loop-lay-preserved g c =
    let done = c.loop-lay.invariant.takes.0 in
    let block = c.next_into.new.block in
    let left = blocks_left c.next_into.new.self in
    record {
      takes = (
        done ++ block ∷ [],
        c.loop-lay.invariant.takes.1 ∙ ap (λ (bs : List (List ℕ)). done ++ bs) (c.next_into.ensures.some c.loop-lay-test.true) ∙ sym (append_assoc done (block ∷ []) left),
        takes-append c.args.drive.now c.loop-lay.drive c.put.new.drive c.args.self.now.packets c.loop-lay.self.packets c.put.new.self.packets done (block ∷ []) c.loop-lay.invariant.takes.2 c.in_ok-put.ensures.ok,
      );
      writes = writes_then c.loop-lay.invariant.writes c.in_ok-put.ensures.writes;
    }

pub returns-in_err-put-clause-err : goal.returns-in_err-put-clause-err
returns-in_err-put-clause-err g c =
    let p = err_from_is_err_and c.from_residual.result c.from_residual.ensures.1 in
    let J = c.args.drive.now in
    let J2 = c.put.new.drive in
    let w = c.args.self.now.packets in
    let done = c.loop-lay.invariant.takes.0 in
    let block = c.next_into.new.block in
    let left = blocks_left c.next_into.new.self in
    let stops = stops_after J c.loop-lay.drive J2 w c.loop-lay.self.packets done (block ∷ []) c.loop-lay.invariant.takes.2 (stops_before c.in_err-put.ensures.err) in
    let all : (done ++ block ∷ []) ++ left ≡ directory_blocks c.args.content.now.dir c.args.first =
    append_assoc done (block ∷ []) left ∙ sym (c.loop-lay.invariant.takes.1 ∙ ap (λ (bs : List (List ℕ)). done ++ bs) (c.next_into.ensures.some c.loop-lay-test.true)) in
    rw p.1 (stops_same J J2 w ((done ++ block ∷ []) ++ left) (directory_blocks c.args.content.now.dir c.args.first) all (stops_longer J J2 w (done ++ block ∷ []) left stops))

pub returns-clause-ok : goal.returns-clause-ok
returns-clause-ok g c =
    let done = c.loop-lay.invariant.takes.0 in
    let all : done ≡ directory_blocks c.args.content.now.dir c.args.first = sym (append-nil done) ∙ sym (c.loop-lay.invariant.takes.1 ∙ ap (λ (bs : List (List ℕ)). done ++ bs) (c.next_into.ensures.none c.loop-lay-test.false)) in
    takes_same c.args.drive.now c.loop-lay.drive c.args.self.now.packets c.loop-lay.self.packets done (directory_blocks c.args.content.now.dir c.args.first) all c.loop-lay.invariant.takes.2
