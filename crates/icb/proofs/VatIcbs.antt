-- Which blocks are no VAT ICB.
use Rattle.std.proofs.Common.{sym, ap, ◌∙◌}
pub use Rattle.ecma.proofs.Seals.{begins, located}
use Rattle.icb.specs.Entry.{Fields}
use Rattle.icb.specs.Laws.{OneEntry, OthersAreNone, EntriesBegin, DescriptorsAreNone}
use Rattle.icb.proofs.EntryReads.{keeps, one_said}

pub one_entry : OneEntry
one_entry d e here there block x y = (
  one_said d e block (keeps d here block x).1 (keeps e there block y).1,
  sym (located 261 here _ block x.laid.whole) ∙ located 261 there _ block y.laid.whole,
)

pub others_are_none : OthersAreNone
others_are_none e here there block entry other table = other (ap (λ (f : Fields). f.kind) (one_entry e table.fields here there block entry table.entry).0 ∙ table.kind)

pub entries_begin : EntriesBegin
entries_begin loc block table = begins 261 loc _ block table.entry.laid.whole

pub descriptors_are_none : DescriptorsAreNone
descriptors_are_none id here there body block d other table = other (sym (begins id here body block d) ∙ entries_begin there block table)
