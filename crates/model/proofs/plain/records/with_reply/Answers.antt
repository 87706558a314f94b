use Rattle.std.proofs.Common.{◌≡◌, ap, ◌∙◌, ◌==◌, sym, subst, refl, map, List, IfOk, false, true, ◌++◌, ◌∷◌, []}
use Rattle.std.specs.List.{list_any}
use Rattle.model.specs.Session.{ClientRecord}
use Rattle.model.specs.Plain.{reply_in, record_in}
use Rattle.model.specs.declared.plain.records.ClientRecord.{ClientRecord as PlainRecord}
use Rattle.model.proofs.PlainRecords.{pushed_record, answered_records}
use Rattle.model.proofs.plain.records.with_reply.Goals as goal

pub returns-then-not-has_record : goal.returns-then-not-has_record
returns-then-not-has_record c =
    let none : list_any (λ (r : PlainRecord). r.client == c.args.client) c.args.records.items ≡ false =
    ap (list_any (λ (r : PlainRecord). r.client == c.args.client)) (sym c.deref.ensures.value) ∙ sym c.if-not-has_record.ensures in
    ap (map record_in) c.in_ok-push-2.ensures.items
    ∙ pushed_record c.args.client c.args.number c.args.reply c.args.records.items _ refl refl (c.in_ok-push.ensures.items ∙ ap (λ xs. xs ++ c.args.reply ∷ []) c.new-replies.ensures.items) none

pub returns : goal.returns
returns c =
    let some : list_any (λ (r : PlainRecord). r.client == c.args.client) c.args.records.items ≡ true =
    ap (list_any (λ (r : PlainRecord). r.client == c.args.client)) (sym c.deref.ensures.value) ∙ sym c.if-not-has_record.ensures in
    let P : List ClientRecord → Type 0 = λ records. IfOk c.answer_all.result (λ new. map record_in new.items ≡ records) in
    subst P (answered_records c.args.client c.args.number (reply_in c.args.reply) c.args.records.items some) c.answer_all.ensures
