use Rattle.std.proofs.Common.{◌≡◌, ◌≢◌, ◌<◌, List, length, get_or, ap, subst, ◌∙◌}
use Rattle.std.specs.Prelude.{All}
use Rattle.vat.specs.declared.record.Record.{Record}
use Rattle.table_update.proofs.RecordChanges.{reply_set, reply_pushed}
use Rattle.table_update.proofs.table.answer.Goals as goal

pub returns-in-Some-clause-kept : goal.returns-in-Some-clause-kept
returns-in-Some-clause-kept c =
    let rs = c.args.records.now.items in
    let found : (c.in-Some.i < length rs) × ((d : Record) → (get_or rs c.in-Some.i d).client ≡ c.args.client) =
    subst (λ (xs : List Record). (c.in-Some.i < length xs) × ((d : Record) → (get_or xs c.in-Some.i d).client ≡ c.args.client)) c.deref.ensures.value c.in-Some.ensures.some in
    reply_set c.args.client c.args.number c.args.reply rs c.in-Some.i c.index.result.now _ c.requires found.0 c.index.ensures (ap (λ (y : Record). y.client) c.index.ensures ∙ found.1 c.index.result.now) c.with-replies.ensures

pub returns-in_ok-push-in-None-clause-kept : goal.returns-in_ok-push-in-None-clause-kept
returns-in_ok-push-in-None-clause-kept c =
    let rs = c.args.records.now.items in
    let others : All (λ r. r.client ≢ c.args.client) rs = subst (λ (xs : List Record). All (λ r. r.client ≢ c.args.client) xs) c.deref.ensures.value c.in-None.ensures.none in
    c.in_ok-push-in-None.ensures.items ∙ reply_pushed c.args.client c.args.number c.args.reply rs _ others c.one.ensures
