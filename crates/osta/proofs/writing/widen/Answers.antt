use Rattle.std.proofs.Common.{◌*◌, sym, ap, ◌∙◌, arith}
use Rattle.std.specs.List.{flat_map}
use Rattle.std.proofs.lemmas.List.{take_all}
use Rattle.osta.specs.Compressed.{two_bytes}
use Rattle.osta.proofs.Loops.{widen_step}
use Rattle.osta.proofs.writing.widen.Goals as goal

pub loop-at-preserved : goal.loop-at-preserved
loop-at-preserved c =
    widen_step c.args.ascii.now c.loop-at.into c.write_u16.new.buf c.loop-at.at c.from.result c.loop-at-test.true c.from.ensures (c.requires.ascii c.loop-at.at)
    (omega (arith, c.loop-at.auto.into, c.requires.room)) c.write_u16.ensures c.loop-at.invariant

pub returns : goal.returns
returns c =
    sym (take_all (2 * c.loop-at.at) c.loop-at.into (omega (arith, c.loop-at.auto.into, c.requires.room))) ∙ (c.loop-at.invariant ∙ ap (flat_map two_bytes) (take_all c.loop-at.at c.args.ascii.now c.loop-at-test.false))
