use Rattle.std.proofs.lemmas.Result.{IfOk-weaker}
use Rattle.lookup.specs.Lookups.{below_seen}
use Rattle.planning.specs.Changes.{KeepsSeen}
use Rattle.planning.proofs.Keeping.{calm_keeps}
use Rattle.planning.proofs.before.StateBefore.change.Goals as goal

pub returns-in-Replace-clause-short : goal.returns-in-Replace-clause-short
returns-in-Replace-clause-short g c tree s = (c.replace.ensures.does tree c.args.moment 0 s).1

pub returns-in-Rename-clause-short : goal.returns-in-Rename-clause-short
returns-in-Rename-clause-short g c tree s = (c.rename.ensures.does tree 0 s).1

pub returns-in-Remove-clause-short : goal.returns-in-Remove-clause-short
returns-in-Remove-clause-short g c tree s = (c.remove.ensures.does tree 0 s).1

pub returns-in-Create-clause-keeps : goal.returns-in-Create-clause-keeps
returns-in-Create-clause-keeps g c tree once s count =
    let a = c.args.self.now.lookup in
    IfOk-weaker c.add.result _ (KeepsSeen g.D.Drive a c.args.moment) (λ change does. calm_keeps (below_seen g.D.Drive a) a.nodes.numbers.now _ _ _ tree _ c.args.moment _ change tt does) (c.add.ensures.does tree s count)

pub returns-in-MakeDir-clause-keeps : goal.returns-in-MakeDir-clause-keeps
returns-in-MakeDir-clause-keeps g c tree once s count =
    let a = c.args.self.now.lookup in
    IfOk-weaker c.add-in-MakeDir.result _ (KeepsSeen g.D.Drive a c.args.moment) (λ change does. calm_keeps (below_seen g.D.Drive a) a.nodes.numbers.now _ _ _ tree _ c.args.moment _ change tt does) (c.add-in-MakeDir.ensures.does tree s count)

pub returns-in-Replace-clause-keeps : goal.returns-in-Replace-clause-keeps
returns-in-Replace-clause-keeps g c tree once s count =
    let a = c.args.self.now.lookup in
    IfOk-weaker c.replace.result _ (KeepsSeen g.D.Drive a c.args.moment) (λ change does. calm_keeps (below_seen g.D.Drive a) a.nodes.numbers.now _ _ _ tree _ c.args.moment _ change tt does) ((c.replace.ensures.does tree c.args.moment 0 s).0)

pub returns-in-Append-clause-keeps : goal.returns-in-Append-clause-keeps
returns-in-Append-clause-keeps g c tree once s count = c.append.ensures.keeps tree c.args.moment once s

pub returns-in-Rename-clause-keeps : goal.returns-in-Rename-clause-keeps
returns-in-Rename-clause-keeps g c tree once s count =
    let a = c.args.self.now.lookup in
    IfOk-weaker c.rename.result _ (KeepsSeen g.D.Drive a c.args.moment) (λ change does. calm_keeps (below_seen g.D.Drive a) a.nodes.numbers.now _ _ _ tree _ c.args.moment _ change tt does) ((c.rename.ensures.does tree 0 s).0)

pub returns-in-Remove-clause-keeps : goal.returns-in-Remove-clause-keeps
returns-in-Remove-clause-keeps g c tree once s count =
    let a = c.args.self.now.lookup in
    IfOk-weaker c.remove.result _ (KeepsSeen g.D.Drive a c.args.moment) (λ change does. calm_keeps (below_seen g.D.Drive a) a.nodes.numbers.now _ _ _ tree _ c.args.moment _ change tt does) ((c.remove.ensures.does tree 0 s).0)
