use Rattle.std.proofs.Common.{◌≡◌, ℕ, List, min, take, sym, ap, subst, ◌∙◌, arith}
use Rattle.drive.specs.FileDrive.{BeginsWith, journal_of}
use Rattle.drive.specs.Journal.{Event, AreWhole, InOrder, next_of, written}
use Rattle.drive.specs.Note.{fitted}
use Rattle.drive.specs.declared.file.FileDrive.{FileDrive}
use Rattle.drive.proofs.Journals.{next-fitted}
use Rattle.drive.proofs.Once.{in_order_of, once-written}
use Rattle.drive.proofs.Whole.{whole-take}
use Rattle.settling.proofs.Cutting.{in_order_front, next_front}
use Rattle.settling.proofs.Opening.{counts_of}
use Rattle.settling.proofs.file.GatheringFileDrive.over.Goals as goal

in_order : (d : FileDrive) → (image : List (List ℕ)) × BeginsWith image d → InOrder (journal_of d)
in_order d (image, begins) =
    let (m, fits, journal) = begins.journal in
    subst InOrder (sym journal) (in_order_of (written 0 (fitted m image)) (once-written 0 (fitted m image)))

pub invariant_of-result : goal.invariant_of-result
invariant_of-result c =
    let J : List Event = journal_of c.args.drive in
    let n : ℕ = c.in_ok-count.count in
    let order : InOrder J = in_order c.args.drive c.requires in
    let front : c.note_group.new.self.journal ≡ take n J = c.note_group.ensures.0 ∙ ap (λ (K : List Event). take n K) c.over-contents.ensures.0 in
    record {
      counted = c.min.ensures ∙ ap (λ k. min k n) c.into_parts-parts.ensures.1 ∙ sym (next_front n J order) ∙ ap (λ (K : List Event). next_of K) (sym front);
      in_order = subst InOrder (sym front) (in_order_front n J order);
      whole = subst AreWhole (sym front) (whole-take n J c.args.drive.whole);
    }

pub returns-clause-journal : goal.returns-clause-journal
returns-clause-journal c =
    let J : List Event = journal_of c.args.drive in
    let n : ℕ = c.in_ok-count.count in
    let front : c.note_group.new.self.journal ≡ take n J = c.note_group.ensures.0 ∙ ap (λ (K : List Event). take n K) c.over-contents.ensures.0 in
    counts_of _ _ J _ n _ (in_order c.args.drive c.requires) c.into_parts-parts.ensures.1 c.in_ok-len.ensures.seen front c.in_ok-count.ensures

pub returns-clause-fits : goal.returns-clause-fits
returns-clause-fits c =
    let J : List Event = journal_of c.args.drive in
    let n : ℕ = c.in_ok-count.count in
    let (image, begins) = c.requires in
    let (m, fits, journal) = begins.journal in
    let long : next_of J ≡ m = ap (λ (K : List Event). next_of K) journal ∙ next-fitted m image in
    let front : c.note_group.new.self.journal ≡ take n J = c.note_group.ensures.0 ∙ ap (λ (K : List Event). take n K) c.over-contents.ensures.0 in
    let few : next_of c.note_group.new.self.journal ≡ min (next_of J) n = ap (λ (K : List Event). next_of K) front ∙ next_front n J (in_order c.args.drive c.requires) in
    omega (arith, few, c.into_parts-parts.ensures.0, long, fits)
