use Rattle.std.proofs.Common.{subst}
use Rattle.engine.specs.Situation.{Situation}
use Rattle.engine.specs.Steps.{HoldsState}
use Rattle.embedding.proofs.Beginning.{fresh_is, opened}
use Rattle.embedding.proofs.session.Session.open.Goals as goal

pub returns-in-Ok : goal.returns-in-Ok
returns-in-Ok c =
    let o = c.in-Ok.ensures in let s = c.of.ensures in
    opened c.new-engine.result c.open_on.new.engine c.args.medium c.open_on.new.medium c.of.result s.engine s.medium s.frames s.waiting s.given s.ended s.group c.new-engine.ensures
    o.open o.journal o.writes o.capacity o.honest o.kind o.nothing o.holds

pub returns-in-Err : goal.returns-in-Err
returns-in-Err c = record {
  cause = c.in-Err.fault;
  told = c.fault_of.ensures;
  afterwards = c.open_on.new.medium;
  kind = c.in-Err.ensures.kind;
  journal = c.in-Err.ensures.journal;
  writes = c.in-Err.ensures.writes;
  why = λ volume S honest at. c.in-Err.ensures.short volume S honest (subst (λ (x : Situation). HoldsState volume S x) (fresh_is c.new-engine.result c.args.medium c.new-engine.ensures) at);
}
