use Rattle.std.proofs.Common.{◌++◌, ◌+◌, ◌≤◌, length, sym, ap, ◌∙◌, arith, append-nil, length-append, take_all, refl}
use Rattle.drive.specs.Journal.{written}
use Rattle.drive.proofs.Gathering.{keeps_none, keeps_then}
use Rattle.drive.proofs.Packing.{packet_begins}
use Rattle.drive.proofs.Running.{runs_none, runs_whole, runs_cut, runs_as, runs_front, packet_runs, packet_broken, packet_written}
use Rattle.drive.proofs.Drive.write_run.Goals as goal

pub write-requires-clause-begins : goal.write-requires-clause-begins
write-requires-clause-begins g c =
    let all = c.args.first.now ++ c.args.second.now in
    packet_begins (g.Self.Drive.journal c.args.self.now) (g.Self.Drive.journal c.loop-done.self) c.args.at c.loop-done.done all c.requires.begins (omega (arith, c.loop-done.invariant.in_range, length-append c.args.first.now c.args.second.now)) c.loop-done.invariant.journal

pub loop-done-preserved : goal.loop-done-preserved
loop-done-preserved g c =
    let all = c.args.first.now ++ c.args.second.now in
    let packet = c.packet_of-packet.result.now in
    let J1 = g.Self.Drive.journal c.loop-done.self in
    let le : c.loop-done.done + length packet ≤ length all = omega (arith, c.packet_of-packet.ensures.within, length-append c.args.first.now c.args.second.now) in
    record {
      in_range = c.packet_of-packet.ensures.within;
      journal = packet_written c.args.at c.loop-done.done all packet le c.packet_of-packet.ensures.blocks (g.Self.Drive.journal c.args.self.now) J1 (g.Self.Drive.journal c.write.new.self) c.loop-done.invariant.journal c.in-Ok.ensures.ok;
      runs = packet_runs c.args.at c.loop-done.done all packet le c.packet_of-packet.ensures.blocks c.loop-done.invariant.runs (runs_whole packet c.in-Ok.ensures.ok c.write.ensures.writes);
      capacity = c.write.ensures.capacity ∙ c.loop-done.invariant.capacity;
      failures = c.in-Ok.ensures.failures ∙ c.loop-done.invariant.failures;
      misreads = c.write.ensures.misreads ∙ c.loop-done.invariant.misreads;
      honest = c.write.ensures.honest ∙ c.loop-done.invariant.honest;
      gathering = keeps_then c.loop-done.invariant.gathering c.write.ensures.gathering;
    }

pub loop-done-init : goal.loop-done-init
loop-done-init g c = record {
  in_range = omega arith;
  journal = sym (append-nil (g.Self.Drive.journal c.args.self.now));
  runs = runs_none c.args.at (g.Self.Drive.journal c.args.self.now) (g.Self.Drive.writes c.args.self.now);
  capacity = refl;
  failures = refl;
  misreads = refl;
  honest = refl;
  gathering = keeps_none (g.Self.Drive.gathering c.args.self.now) (g.Self.Drive.writes c.args.self.now);
}

pub returns-in-Err-clause-runs : goal.returns-in-Err-clause-runs
returns-in-Err-clause-runs g c =
    let all = c.args.first.now ++ c.args.second.now in
    let packet = c.packet_of-packet.result.now in
    let le : c.loop-done.done + length packet ≤ length all = omega (arith, c.packet_of-packet.ensures.within, length-append c.args.first.now c.args.second.now) in
    packet_broken c.args.at c.loop-done.done all packet le c.packet_of-packet.ensures.blocks c.loop-done.invariant.runs (runs_cut packet c.in-Err.ensures.err c.write.ensures.writes)

pub returns-in-Err-clause-err : goal.returns-in-Err-clause-err
returns-in-Err-clause-err g c = runs_front (returns-in-Err-clause-runs g c)

pub returns-clause-runs : goal.returns-clause-runs
returns-clause-runs g c =
    let all = c.args.first.now ++ c.args.second.now in
    runs_as (take_all c.loop-done.done all (omega (arith, c.loop-done-test.false, length-append c.args.first.now c.args.second.now))) c.loop-done.invariant.runs

pub returns-clause-ok : goal.returns-clause-ok
returns-clause-ok g c =
    let all = c.args.first.now ++ c.args.second.now in
    let J = g.Self.Drive.journal c.args.self.now in
    c.loop-done.invariant.journal ∙ ap (λ (bs : _). J ++ written c.args.at bs) (take_all c.loop-done.done all (omega (arith, c.loop-done-test.false, length-append c.args.first.now c.args.second.now)))

pub returns-in-Err-clause-gathering : goal.returns-in-Err-clause-gathering
returns-in-Err-clause-gathering g c = keeps_then c.loop-done.invariant.gathering c.write.ensures.gathering
