use Rattle.std.proofs.Common.{ap, sym, subst, ◌∙◌, arith}
use Rattle.recover.specs.declared.walk.Walk.{Walk}
use Rattle.recover.specs.Seen.{WalksOn}
use Rattle.recover.proofs.Found.{goes_on}
use Rattle.recover.proofs.walk.Walk.visit_checked.Goals as goal

pub loop-index-preserved : goal.loop-index-preserved
loop-index-preserved c = record {
  visits =
      goes_on c.args.self.now c.loop-index.self c.are_unchanged.new.self c.args.files.now c.args.depth c.args.from c.loop-index.index c.loop-index.invariant.at
      (ap (λ e. e.now) c.loop-index.invariant.entries) c.loop-index.invariant.next_unique
      (c.are_unchanged.ensures.visits c.loop-index-test.true) c.loop-index.invariant.visits;
  on = omega (arith, c.loop-index.invariant.on);
  at = c.are_unchanged.ensures.rest.at ∙ c.loop-index.invariant.at;
  entries = c.are_unchanged.ensures.rest.entries ∙ c.loop-index.invariant.entries;
  next_unique = c.are_unchanged.ensures.rest.next_unique ∙ c.loop-index.invariant.next_unique;
  directories = c.are_unchanged.ensures.rest.directories ∙ c.loop-index.invariant.directories;
}

pub returns-clause-visits : goal.returns-clause-visits
returns-clause-visits c =
    subst (λ (w : Walk). WalksOn c.args.self.now w c.args.files.now c.args.depth c.args.from c.loop-index.index)
    (sym (c.are_unchanged.ensures.unchanged c.loop-index-test.false)) c.loop-index.invariant.visits
