use Rattle.std.proofs.Common.{◌≡◌, ◌≤◌, ℕ, List, sym, ◌∙◌, ap, subst}
use Rattle.drive.proofs.Journals.{next-fitted}
use Rattle.drive.proofs.Whole.{whole-written, whole-fitted}
use Rattle.drive.specs.Journal.{Event, AreWhole, next_of}
use Rattle.drive.specs.Note.{fitted}
use Rattle.drive.proofs.file.FileDrive.hold.Goals as goal

pub invariant_of-self : goal.invariant_of-self
invariant_of-self c =
    let count : ℕ = c.args.self.now.count in
    let blocks : List (List ℕ) = c.args.held.now.blocks in
    record {
      counted = sym (ap (λ (J : List Event). next_of J) c.holding-self.ensures.0 ∙ next-fitted count blocks);
      whole = subst AreWhole (sym c.holding-self.ensures.0) (whole-written 0 (fitted count blocks) (whole-fitted count blocks));
    }

pub returns-clause-image : goal.returns-clause-image
returns-clause-image c =
    let (image, begins) = c.requires in
    let (count, fits, journal) = begins.journal in
    let same : c.args.self.now.count ≡ count = c.args.self.now.counted ∙ ap (λ (J : List Event). next_of J) journal ∙ next-fitted count image in
    record {
      journal = (c.args.self.now.count, subst (λ (n : ℕ). n ≤ c.args.self.now.capacity) (sym same) fits, c.holding-self.ensures.0);
      writes = c.holding-self.ensures.1;
      failures = begins.failures;
      misreads = ap (λ (n : ℕ). n) c.holding-self.ensures.2;
    }
