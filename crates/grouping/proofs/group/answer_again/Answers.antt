use Rattle.engine.specs.Situation.{seen_on}
use Rattle.grouping.proofs.Back.{back_ready}
use Rattle.grouping.proofs.Ending.{again_ok, again_err}
use Rattle.grouping.proofs.group.answer_again.Goals as goal

pub answer_held-requires : goal.answer_held-requires
answer_held-requires g c = back_ready (seen_on g.D.Drive c.new.result c.args.drive.now) c.new.ensures

pub returns : goal.returns
returns g c = record {
  ok = again_ok g.D.Drive _ _ _ _ _ _ _ _ _ c.answer_held.result c.new.ensures c.truncate.ensures.items c.answer_held.ensures.ok;
  idle = c.answer_held.ensures.idle;
  err = again_err g.D.Drive _ _ _ _ _ _ _ _ _ c.answer_held.result c.new.ensures c.truncate.ensures.items c.answer_held.ensures.err;
  ready = c.answer_held.ensures.ready;
  lent = c.answer_held.ensures.lent;
}
