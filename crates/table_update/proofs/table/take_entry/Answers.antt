use Rattle.std.proofs.Common.{◌≡◌, ◌≤◌, length, arith}
use Rattle.std.specs.Prelude.{Some}
use Rattle.limits.specs.declared.TheConstants.{ADDRESSES}
use Rattle.table_update.proofs.EntryChanges.{entry_set, not_free}
use Rattle.table_update.proofs.table.take_entry.Goals as goal
use Rattle.table_update.proofs.table.take_entry.Goals.{then-place-len-2-via-then-place-len-2, then-place-len-2-via-else-place-len-2+then-place-ge-ADDRESSES}

pub returns-then-place-len-clause-entry : goal.returns-then-place-len-clause-entry
returns-then-place-len-clause-entry c =
    entry_set c.args.entries.now.items c.args.address (Some c.args.number) (omega (arith, c.args.entries.now.ok.0, c.len.ensures, c.if-place-len.true))

pub returns-then-place-len-2-clause-free : goal.returns-then-place-len-2-clause-free
returns-then-place-len-2-clause-free c =
    let xs = c.args.entries.now.items in
    let past : length xs ≤ c.args.address = omega (arith, c.args.entries.now.ok.0, c.len.ensures, c.if-place-len.false) in
    let most : c.args.address ≡ length xs → ADDRESSES ≤ c.args.address = λ same. elim c.then-place-len-2.branch [
      | then-place-len-2-via-then-place-len-2 w ↦ absurd (omega (arith, c.args.entries.now.ok.0, c.len-2.ensures, w.if-place-len-2.true, same))
      | then-place-len-2-via-else-place-len-2+then-place-ge-ADDRESSES w ↦ omega (arith, w.if-place-ge-ADDRESSES.true)
    ] in
    (λ no. absurd cc, λ free. absurd (not_free xs c.args.address past most free))
