use Rattle.std.proofs.Common.{rules, ◌≡◌, ℕ, List, length, inl, inr, ap, subst, ◌∙◌, arith}
use Rattle.drive.specs.Journal.{Event, held}
use Rattle.recover.specs.Tables.{IsEntryAt, IsEntryRefused}
use Rattle.vat.specs.declared.table.Vat.{Vat}
use Rattle.embedding.specs.Statuses.{label_text_field}
use Rattle.embedding.proofs.Labels.{filled, label_short}
use Rattle.embedding.proofs.questions.status_on.Goals as goal

pub put_label-requires : goal.put_label-requires
put_label-requires g c = omega (arith, ap (λ (v : Vat). length v.label) c.newest-vat.ensures, label_short c.args.store.now.vat.label c.requires.keeps.fits.label)

pub returns-clause-reported : goal.returns-clause-reported
returns-clause-reported g c =
    let entry = c.in-Ok-table_entry.entry in
    let put = c.in-Ok-put_label.ensures.text in let named = ap (λ (v : Vat). v.label) c.newest-vat.ensures in let label = c.args.store.now.vat.label in
    let counted : c.len.result ≡ length c.newest-vat.result.now.sessions.records.items = search rules in
    record {
      capacity = c.capacity.ensures;
      next = c.in-Ok.ensures.next;
      commits = ap (λ (v : Vat). v.sessions.commits) c.newest-vat.ensures;
      files = ap (λ (v : Vat). v.files) c.newest-vat.ensures;
      directories = ap (λ (v : Vat). v.directories) c.newest-vat.ensures;
      clients = counted ∙ ap (λ (v : Vat). length v.sessions.records.items) c.newest-vat.ensures;
      label_length = put.0 ∙ ap length named;
      few = omega (arith, put.0 ∙ ap length named, label_short label c.requires.keeps.fits.label);
      label = put.1 ∙ filled c.newest-vat.result.now.label c.in-Ok-put_label.length put.0 ∙ ap label_text_field named;
      moment = λ honest. (
        entry,
        subst (λ (J : List Event). IsEntryAt (held J) c.args.store.now.vat_icb_address entry) c.next.ensures.journal
            (subst (λ (at : ℕ). IsEntryAt (held (g.D.Drive.journal c.next.new.self)) at entry) c.table.ensures (c.in-Ok-table_entry.ensures.found honest)),
        c.moment-moment.ensures.value,
      );
    }

pub returns-in-Err-table_entry-clause-refused : goal.returns-in-Err-table_entry-clause-refused
returns-in-Err-table_entry-clause-refused g c = λ honest.
    inl (subst (λ (J : List Event). IsEntryRefused (held J) c.args.store.now.vat_icb_address c.in-Err-table_entry.fault) c.next.ensures.journal
    (subst (λ (at : ℕ). IsEntryRefused (held (g.D.Drive.journal c.next.new.self)) at c.in-Err-table_entry.fault) c.table.ensures (c.in-Err-table_entry.ensures.refused honest)))

pub returns-in-Err-put_label-clause-refused : goal.returns-in-Err-put_label-clause-refused
returns-in-Err-put_label-clause-refused g c = λ honest. inr c.in-Err-put_label.ensures.refused
