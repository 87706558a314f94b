use Rattle.std.proofs.Common.{refl, sym, subst, rules}
use Rattle.engine.specs.Situation.{IsReady, Situation}
use Rattle.embedding.proofs.GroupCalls.{one_of}
use Rattle.embedding.proofs.session.Session.begin.Goals as goal

pub invariant_of-self : goal.invariant_of-self
invariant_of-self c = record {
  within = c.args.self.now.within;
  ready = subst (λ (s : Situation). IsReady s) (sym (c.begin_on.ensures.seen c.args.self.now.engine)) c.args.self.now.ready;
}

pub returns-then-is_none : goal.returns-then-is_none
returns-then-is_none c =
    let e = c.begin_on.ensures in
    record {
      goes_on = λ g is. (search rules);
      begins = λ none groups.
          let one = one_of c.begin_on.result (e.some groups) e.begun in
          (one.0, one.1, record { from = one.2.0; marks = one.2.1 }, record { situation = e.seen c.args.self.now.engine; gathering = one.2.2 });
      none = λ none other. (e.none other, e.seen c.args.self.now.engine);
      ended = refl;
      same = record { frames = refl; output = record { waits = refl; given = refl; kind = e.kind; groups = e.groups } };
    }
