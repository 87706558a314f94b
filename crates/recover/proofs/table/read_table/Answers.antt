use Rattle.std.proofs.Common.{◌≡◌, ◌∙◌, rules}
use Rattle.vat.specs.declared.fault.VatFault.TheVariants as vat_faults
use Rattle.recover.proofs.Tables.{below_entry, table_refused}
use Rattle.recover.proofs.table.read_table.Goals as goal

pub returns-in-Ok-clause-table : goal.returns-in-Ok-clause-table
returns-in-Ok-clause-table g c = (_, (λ h. cc (c.in_ok-bytes.ensures.read h)), c.in-Ok.ensures.found)

pub returns-in-Ok-clause-previous : goal.returns-in-Ok-clause-previous
returns-in-Ok-clause-previous g c = below_entry c.in-Ok.vat.previous c.args.at c.requires.low c.in-Ok.ensures.found.previous

pub returns-clause-refused : goal.returns-clause-refused
returns-clause-refused g c = rw c.damaged.ensures (λ h.
    let other : c.in-Err.fault ≡ vat_faults.Memory → ⊥ = search rules in
    table_refused _ c.args.entry.now _ _ c.in-Err.fault _ (c.deref.ensures.value ∙ c.in_ok-bytes.ensures.read h) c.number.ensures other c.in-Err.ensures.fault)

pub returns-clause-reads : goal.returns-clause-reads
returns-clause-reads g c = rw c.damaged.ensures c.in_ok-bytes.ensures.reads
