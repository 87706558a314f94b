use Rattle.std.proofs.Common.{rules, ◌≡◌, subst}
use Rattle.engine.specs.Situation.{HoldsNothing}
use Rattle.engine.specs.Steps.{HoldsState}
use Rattle.embedding.specs.declared.medium.Medium.{Medium}
use Rattle.embedding.specs.declared.medium.Medium.TheVariants.{Image, InOrder, Memory}
use Rattle.embedding.specs.Media.{seen_by}
use Rattle.embedding.proofs.Asking.{shuts}
use Rattle.embedding.proofs.lending.open_on.Goals as goal

pub returns-in-Image-clause-holds : goal.returns-in-Image-clause-holds
returns-in-Image-clause-holds c volume S honest at =
    let is : c.args.medium.now ≡ Image c.in-Image.drive = search rules in
    c.open.ensures.holds volume S honest (subst (λ (m : Medium). HoldsState volume S (seen_by c.args.engine.now m)) is at)

pub returns-in-Image-clause-short : goal.returns-in-Image-clause-short
returns-in-Image-clause-short c volume S honest at =
    let is : c.args.medium.now ≡ Image c.in-Image.drive = search rules in
    c.open.ensures.short volume S honest (subst (λ (m : Medium). HoldsState volume S (seen_by c.args.engine.now m)) is at)

pub returns-in-InOrder-clause-holds : goal.returns-in-InOrder-clause-holds
returns-in-InOrder-clause-holds c volume S honest at =
    let is : c.args.medium.now ≡ InOrder c.in-InOrder.drive = search rules in
    c.open-in-InOrder.ensures.holds volume S honest (subst (λ (m : Medium). HoldsState volume S (seen_by c.args.engine.now m)) is at)

pub returns-in-Memory-clause-holds : goal.returns-in-Memory-clause-holds
returns-in-Memory-clause-holds c volume S honest at =
    let is : c.args.medium.now ≡ Memory c.in-Memory.drive = search rules in
    c.open-in-Memory.ensures.holds volume S honest (subst (λ (m : Medium). HoldsState volume S (seen_by c.args.engine.now m)) is at)

pub returns-in-InOrder-clause-short : goal.returns-in-InOrder-clause-short
returns-in-InOrder-clause-short c volume S honest at =
    let is : c.args.medium.now ≡ InOrder c.in-InOrder.drive = search rules in
    c.open-in-InOrder.ensures.short volume S honest (subst (λ (m : Medium). HoldsState volume S (seen_by c.args.engine.now m)) is at)

pub returns-in-Memory-clause-short : goal.returns-in-Memory-clause-short
returns-in-Memory-clause-short c volume S honest at =
    let is : c.args.medium.now ≡ Memory c.in-Memory.drive = search rules in
    c.open-in-Memory.ensures.short volume S honest (subst (λ (m : Medium). HoldsState volume S (seen_by c.args.engine.now m)) is at)

pub returns-in-Image-clause-nothing : goal.returns-in-Image-clause-nothing
returns-in-Image-clause-nothing c honest empty =
    let is : c.args.medium.now ≡ Image c.in-Image.drive = search rules in
    c.open.ensures.nothing honest (subst (λ (m : Medium). HoldsNothing (seen_by c.args.engine.now m)) is empty)

pub returns-in-InOrder-clause-nothing : goal.returns-in-InOrder-clause-nothing
returns-in-InOrder-clause-nothing c honest empty =
    let is : c.args.medium.now ≡ InOrder c.in-InOrder.drive = search rules in
    c.open-in-InOrder.ensures.nothing honest (subst (λ (m : Medium). HoldsNothing (seen_by c.args.engine.now m)) is empty)

pub returns-in-Memory-clause-nothing : goal.returns-in-Memory-clause-nothing
returns-in-Memory-clause-nothing c honest empty =
    let is : c.args.medium.now ≡ Memory c.in-Memory.drive = search rules in
    c.open-in-Memory.ensures.nothing honest (subst (λ (m : Medium). HoldsNothing (seen_by c.args.engine.now m)) is empty)

pub returns-in-Image-clause-shut : goal.returns-in-Image-clause-shut
returns-in-Image-clause-shut c = shuts c.args.engine.now c.open.new.self (λ kept there. (c.open.ensures.stays kept there).0) c.open.result c.open.ensures.closed

pub returns-in-InOrder-clause-shut : goal.returns-in-InOrder-clause-shut
returns-in-InOrder-clause-shut c =
    let called = c.open-in-InOrder in shuts c.args.engine.now called.new.self (λ kept there. (called.ensures.stays kept there).0) called.result called.ensures.closed

pub returns-in-Memory-clause-shut : goal.returns-in-Memory-clause-shut
returns-in-Memory-clause-shut c =
    let called = c.open-in-Memory in shuts c.args.engine.now called.new.self (λ kept there. (called.ensures.stays kept there).0) called.result called.ensures.closed
