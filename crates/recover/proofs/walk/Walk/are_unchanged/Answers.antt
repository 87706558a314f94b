use Rattle.std.proofs.Common.{arith}
use Rattle.drive.specs.Journal.{held}
use Rattle.recover.proofs.Found.{visits_name}
use Rattle.recover.proofs.walk.Walk.are_unchanged.Goals as goal

pub returns-in-Some-clause-visits : goal.returns-in-Some-clause-visits
returns-in-Some-clause-visits c is journal entries within are =
    visits_name journal c.args.self.now c.is_unchanged.new.self c.in-Some.file entries c.args.index c.args.depth (c.in-Some.ensures.named (held journal) entries are) within
    (omega (arith, c.if-is_deepest.false)) (c.is_unchanged.ensures.leads is) (c.is_unchanged.ensures.below is) (c.is_unchanged.ensures.drawn is) (c.is_unchanged.ensures.reached is) (c.is_unchanged.ensures.uniques is)
    (c.is_unchanged.ensures.files is) c.is_unchanged.ensures.rest.directories
