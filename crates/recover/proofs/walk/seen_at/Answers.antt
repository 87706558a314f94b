use Rattle.std.proofs.Common.{◌≡◌, ℕ, ◌+◌, ◌-◌, take, subst, arith}
use Rattle.limits.specs.declared.TheConstants.{PARTITION_START}
use Rattle.recover.specs.Walk.{HasEntry}
use Rattle.recover.proofs.walk.seen_at.Goals as goal

pub returns-clause-has : goal.returns-clause-has
returns-clause-has c medium known =
    let top = c.top_of-top.result in
    let same : c.args.entry_at ≡ c.args.entry_at - PARTITION_START + PARTITION_START = omega (arith, c.requires.low) in
    subst (λ (n : ℕ). HasEntry (take top medium) top n c.args.node.now) same (c.is_known.ensures medium c.if-not-is_known.false known)
