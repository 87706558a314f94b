use Rattle.std.proofs.Common.{refl, sym, ◌∙◌}
use Rattle.drive.specs.Journal.{held}
use Rattle.recover.specs.Nodes.{data_of}
use Rattle.recover.proofs.Taken.{other_names}
use Rattle.recover.proofs.walk.read_names.Goals as goal

pub returns-clause-names : goal.returns-clause-names
returns-clause-names g c = λ h.
    let named = c.in_ok-names.ensures.named h in
    record { parent = c.if-names-above.false; links = c.if-links-names.false ∙ c.in_ok-names.names.counted; are = named.are; is = named.is }

pub returns-then-names-above-clause-refused : goal.returns-then-names-above-clause-refused
returns-then-names-above-clause-refused g c = rw c.damaged.ensures (λ h.
    let M = held (g.D.Drive.journal c.args.drive.now) in
    let named = c.in_ok-names.ensures.named h in
    other_names M c.args.extent c.in_ok-names.names.dir.parent c.in_ok-names.names.dir.entries.entries (data_of M c.args.extent) c.requires.first refl named.are named.is
    c.args.above c.args.links (λ above links. c.if-names-above.true above))

pub returns-then-links-names-clause-refused : goal.returns-then-links-names-clause-refused
returns-then-links-names-clause-refused g c = rw c.damaged-then-links-names.ensures (λ h.
    let M = held (g.D.Drive.journal c.args.drive.now) in
    let named = c.in_ok-names.ensures.named h in
    other_names M c.args.extent c.in_ok-names.names.dir.parent c.in_ok-names.names.dir.entries.entries (data_of M c.args.extent) c.requires.first refl named.are named.is
    c.args.above c.args.links (λ above links. c.if-links-names.true (links ∙ sym c.in_ok-names.names.counted)))
