use Rattle.std.proofs.Common.{◌≡◌, vec_len}
use Rattle.programs.proofs.Copying.{Tallied}
use Rattle.programs.proofs.sending.copy.Given as goal

-- what was read so far was written, and is counted
abbrev pub invariant-loop : goal.invariant-loop
invariant-loop g l = record {
  tallied : Tallied l.frames (g.I.Read.remaining l.fn.reader) (g.I.Read.remaining l.reader) (g.O.Write.contents l.fn.writer) (g.O.Write.contents l.writer);
  room : vec_len l.piece ≡ 65536;
}
