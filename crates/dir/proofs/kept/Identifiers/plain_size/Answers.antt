use Rattle.std.proofs.Common.{◌≡◌, length, arith}
use Rattle.osta.proofs.Names.{name_few}
use Rattle.dir.proofs.Fronts.{front_proper, front_size}
use Rattle.dir.proofs.Sized.{plain_few}
use Rattle.dir.proofs.kept.Identifiers.plain_size.Goals as goal

pub returns-then-self-len-clause-size : goal.returns-then-self-len-clause-size
returns-then-self-len-clause-size c =
    let size = front_size c.args.dir.now.entries.entries c.args.self.now c.requires.front (omega (arith, c.len.ensures.len, c.if-self-len.true)) in
    omega (arith, size, c.len-then-self-len.ensures)

pub returns-then-self-len-clause-proper : goal.returns-then-self-len-clause-proper
returns-then-self-len-clause-proper c = front_proper c.args.dir.now.entries.entries c.args.self.now c.requires.front (omega (arith, c.len.ensures.len, c.if-self-len.true))

pub returns-then-self-len-clause-few : goal.returns-then-self-len-clause-few
returns-then-self-len-clause-few c =
    let es = c.args.dir.now.entries.entries in
    let all : c.args.self.now.count ≡ length es = omega (arith, c.len.ensures.len, c.if-self-len.true) in
    let proper = front_proper es c.args.self.now c.requires.front all in
    let few = plain_few es (λ k d lt. name_few _ (proper k d lt).name) in
    omega (arith, front_size es c.args.self.now c.requires.front all, few, c.len-then-self-len.ensures, c.requires.few)
