use Rattle.std.proofs.Common.{ℕ, min, List, sym, ap, subst, ◌∙◌}
use Rattle.drive.specs.Journal.{Event, AreWhole, InOrder, next_of}
use Rattle.drive.proofs.Whole.{whole-take}
use Rattle.settling.specs.GatheringFile.{journal_of}
use Rattle.settling.proofs.Cutting.{in_order_front, next_front}
use Rattle.settling.proofs.file.GatheringFileDrive.cut.Goals as goal

pub invariant_of-self : goal.invariant_of-self
invariant_of-self c =
    let J : List Event = journal_of c.args.self.now in
    let n : ℕ = c.args.from in
    record {
      counted = c.min-self.ensures ∙ ap (λ m. min m n) c.args.self.now.counted ∙ sym (next_front n J c.args.self.now.in_order) ∙ ap (λ (K : List Event). next_of K) (sym c.note_group.ensures.0);
      in_order = subst InOrder (sym c.note_group.ensures.0) (in_order_front n J c.args.self.now.in_order);
      whole = subst AreWhole (sym c.note_group.ensures.0) (whole-take n J c.args.self.now.whole);
    }
