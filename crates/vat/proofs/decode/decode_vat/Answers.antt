use Rattle.std.proofs.Common.{inl, arith}
use Rattle.std.proofs.lemmas.Result.{err_from_is_err_and}
use Rattle.ecma.proofs.Faults.{no_fault}
use Rattle.vat.specs.Table.{view}
use Rattle.vat.specs.Rules.{table_rules}
use Rattle.vat.proofs.TableLaws.{is_table_at}
use Rattle.vat.proofs.TableReads.{rules_hold, one_table}
use Rattle.vat.proofs.decode.decode_vat.Goals as goal

pub returns-clause-found : goal.returns-clause-found
returns-clause-found c =
    let small = c.ranges.icb in
    let rules = c.in_ok-examine.ensures.rules in
    is_table_at c.args.icb (view c.in_ok-read.field-0) c.args.bytes.now (omega arith) (λ i. omega (arith, c.type_inv.bytes i))
    rules.0 rules.1.1.0 rules.1.1.1.0 rules.1.1.1.1.0 rules.1.1.1.1.1.0 rules.1.1.1.1.1.1.0 c.in_ok-read.ensures

pub returns-clause-only : goal.returns-clause-only
returns-clause-only c = λ t stands.
    let small = c.ranges.icb in
    let rules = c.in_ok-examine.ensures.rules in
    one_table c.args.icb c.args.icb (view c.in_ok-read.field-0) t c.args.bytes.now
    (is_table_at c.args.icb (view c.in_ok-read.field-0) c.args.bytes.now (omega arith) (λ i. omega (arith, c.type_inv.bytes i))
    rules.0 rules.1.1.0 rules.1.1.1.0 rules.1.1.1.1.0 rules.1.1.1.1.1.0 rules.1.1.1.1.1.1.0 c.in_ok-read.ensures)
    stands

pub returns-in_err-examine-clause-only : goal.returns-in_err-examine-clause-only
returns-in_err-examine-clause-only c = λ t stands. absurd (no_fault (table_rules c.args.icb c.args.bytes.now) c.in_err-examine.field-0.0 c.in_err-examine.ensures.fault (rules_hold c.args.icb t c.args.bytes.now stands))

pub returns-in_err-examine-clause-fault : goal.returns-in_err-examine-clause-fault
returns-in_err-examine-clause-fault c =
    let p = err_from_is_err_and c.from_residual.result c.from_residual.ensures.1 in
    rw (p.1, p.2) (inl c.in_err-examine.ensures.fault)
