use Rattle.std.proofs.Common.{rules, ◌≡◌, List, Some, ap, ◌∙◌}
use Rattle.vat.specs.declared.record.Record.{Record}
use Rattle.vat.specs.declared.table.Vat.{Vat}
use Rattle.embedding.specs.Questions.{last_kept}
use Rattle.embedding.proofs.Asking.{is_last}
use Rattle.embedding.proofs.session.Session.last_number.Goals as goal

pub returns-clause-reports : goal.returns-clause-reports
returns-clause-reports c =
    let lent = c.unwrap-store.result.now in
    let is : c.look.new.self.engine.store ≡ Some lent = search rules in
    is_last c.args.client c.last_of.result c.args.self.now c.look.new.self lent is c.in_default.ensures.kept
    (c.last_of.ensures ∙ ap (λ (xs : List Record). last_kept c.args.client xs) (c.deref.ensures.value ∙ ap (λ (v : Vat). v.sessions.records.items) c.newest.ensures))
    c.in_default.ensures.asked
