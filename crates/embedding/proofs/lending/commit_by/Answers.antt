use Rattle.std.proofs.Common.{rules, ◌≡◌, sym, subst}
use Rattle.std.specs.Prelude.{IfErr}
use Rattle.engine.specs.Steps.{HoldsState}
use Rattle.embedding.specs.declared.medium.Medium.{Medium}
use Rattle.embedding.specs.declared.medium.Medium.TheVariants.{Image, InOrder, Memory}
use Rattle.recover.specs.declared.fault.StoreFault.{StoreFault}
use Rattle.embedding.specs.Commits.{IsUnlogged}
use Rattle.embedding.specs.Media.{seen_by}
use Rattle.embedding.proofs.lending.commit_by.Goals as goal

pub returns-in-Image-clause-holds : goal.returns-in-Image-clause-holds
returns-in-Image-clause-holds c volume S honest at =
    let is : c.args.medium.now ≡ Image c.in-Image.drive = search rules in
    c.opened_commit.ensures.holds volume S honest (subst (λ (m : Medium). HoldsState volume S (seen_by c.args.engine.now m)) is at)

pub returns-in-InOrder-clause-holds : goal.returns-in-InOrder-clause-holds
returns-in-InOrder-clause-holds c volume S honest at =
    let is : c.args.medium.now ≡ InOrder c.in-InOrder.drive = search rules in
    c.opened_commit-in-InOrder.ensures.holds volume S honest (subst (λ (m : Medium). HoldsState volume S (seen_by c.args.engine.now m)) is at)

pub returns-in-Memory-clause-holds : goal.returns-in-Memory-clause-holds
returns-in-Memory-clause-holds c volume S honest at =
    let is : c.args.medium.now ≡ Memory c.in-Memory.drive = search rules in
    c.opened_commit-in-Memory.ensures.holds volume S honest (subst (λ (m : Medium). HoldsState volume S (seen_by c.args.engine.now m)) is at)

pub returns-in-Image-clause-refused : goal.returns-in-Image-clause-refused
returns-in-Image-clause-refused c =
    let is : c.args.medium.now ≡ Image c.in-Image.drive = search rules in
    subst (λ (m : Medium). IfErr c.opened_commit.result (λ (fault : StoreFault). IsUnlogged c.args.after fault (seen_by c.args.engine.now m) (seen_by c.opened_commit.new.engine (Image c.opened_commit.new.drive)))) (sym is)
    c.opened_commit.ensures.refused

pub returns-in-InOrder-clause-refused : goal.returns-in-InOrder-clause-refused
returns-in-InOrder-clause-refused c =
    let is : c.args.medium.now ≡ InOrder c.in-InOrder.drive = search rules in let called = c.opened_commit-in-InOrder in
    subst (λ (m : Medium). IfErr called.result (λ (fault : StoreFault). IsUnlogged c.args.after fault (seen_by c.args.engine.now m) (seen_by called.new.engine (InOrder called.new.drive)))) (sym is) called.ensures.refused

pub returns-in-Memory-clause-refused : goal.returns-in-Memory-clause-refused
returns-in-Memory-clause-refused c =
    let is : c.args.medium.now ≡ Memory c.in-Memory.drive = search rules in let called = c.opened_commit-in-Memory in
    subst (λ (m : Medium). IfErr called.result (λ (fault : StoreFault). IsUnlogged c.args.after fault (seen_by c.args.engine.now m) (seen_by called.new.engine (Memory called.new.drive)))) (sym is) called.ensures.refused
