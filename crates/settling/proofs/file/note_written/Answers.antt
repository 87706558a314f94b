use Rattle.std.proofs.Common.{List, ◌∙◌, sym, ap, subst}
use Rattle.drive.specs.Journal.{Event, InOrder, next_of, written}
use Rattle.drive.proofs.Whole.{blocks_told, whole-append, whole-written}
use Rattle.settling.proofs.Cutting.{in_order_more, next_more}
use Rattle.settling.proofs.file.note_written.Goals as goal

pub returns-clause-count : goal.returns-clause-count
returns-clause-count c =
    sym (next_more c.args.notes.now.journal c.args.at c.args.blocks.now c.requires.in_order (c.requires.next ∙ c.requires.count)) ∙ ap (λ (J : List Event). next_of J) (sym c.note.ensures.0)

pub returns-clause-in_order : goal.returns-clause-in_order
returns-clause-in_order c =
    subst InOrder (sym c.note.ensures.0) (in_order_more c.args.notes.now.journal c.args.at c.args.blocks.now c.requires.in_order (c.requires.next ∙ c.requires.count))

pub returns-clause-blocks : goal.returns-clause-blocks
returns-clause-blocks c = blocks_told c.args.blocks.now c.told-blocks

pub returns-clause-whole : goal.returns-clause-whole
returns-clause-whole c =
    λ all. rw c.note.ensures.0 (whole-append c.args.notes.now.journal (written c.args.at c.args.blocks.now) all (whole-written c.args.at c.args.blocks.now (returns-clause-blocks c)))
