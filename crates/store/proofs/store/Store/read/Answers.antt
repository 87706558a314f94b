use Rattle.std.proofs.Common.{◌∙◌, ap, refl, rules, subst, sym}
use Rattle.drive.specs.Journal.{Once}
use Rattle.lookup.specs.declared.nodes.Nodes.{Nodes}
use Rattle.lookup.proofs.Lending.{kept_lent, sees_lent}
use Rattle.store.proofs.store.Store.read.Goals as goal

pub returns-clause-reported : goal.returns-clause-reported
returns-clause-reported g c tree once s =
    let seen = sees_lent c.new.result c.read.new.self _ _ _ c.new.ensures.drive c.new.ensures.cache (search rules) c.args.self.now.vat_icb_address c.args.self.now.vat.entries.items tree
    (ap (λ (n : Nodes). n.vat_icb_address) c.new.ensures.nodes ∙ c.in_ok-nodes.ensures.nodes.0) (ap (λ (n : Nodes). n.numbers.now) c.new.ensures.nodes ∙ (c.in_ok-nodes.ensures.nodes.1 ∙ c.deref.ensures.value)) s in
    (c.read.ensures.told (subst (λ (d : _). Once (g.D.Drive.journal d)) (sym c.new.ensures.drive) once) tree seen).0

pub returns-clause-refused : goal.returns-clause-refused
returns-clause-refused g c tree once s going =
    let seen = sees_lent c.new.result c.read.new.self _ _ _ c.new.ensures.drive c.new.ensures.cache (search rules) c.args.self.now.vat_icb_address c.args.self.now.vat.entries.items tree
    (ap (λ (n : Nodes). n.vat_icb_address) c.new.ensures.nodes ∙ c.in_ok-nodes.ensures.nodes.0) (ap (λ (n : Nodes). n.numbers.now) c.new.ensures.nodes ∙ (c.in_ok-nodes.ensures.nodes.1 ∙ c.deref.ensures.value)) s in
    (c.read.ensures.told (subst (λ (d : _). Once (g.D.Drive.journal d)) (sym c.new.ensures.drive) once) tree seen).1

pub returns-clause-kept : goal.returns-clause-kept
returns-clause-kept g c = kept_lent c.new.result c.read.new.self _ _ _ c.new.ensures.drive c.new.ensures.cache (search rules) c.read.new.self.cache.now c.read.ensures.looks refl
