use Rattle.std.proofs.Common.{◌≡◌, ℕ, List, false, sym, ◌∙◌, ap, subst}
use Rattle.drive.proofs.Journals.{next-fitted}
use Rattle.drive.proofs.Once.{in_order_of, once-written}
use Rattle.drive.proofs.Whole.{whole-written, whole-fitted}
use Rattle.drive.specs.Gathering.{Gathering}
use Rattle.drive.specs.Journal.{Event, AreWhole, InOrder, next_of, written}
use Rattle.drive.specs.Note.{fitted}
use Rattle.settling.proofs.file.GatheringFileDrive.hold.Goals as goal

pub invariant_of-self : goal.invariant_of-self
invariant_of-self c =
    let count : ℕ = c.args.self.now.count in
    let blocks : List (List ℕ) = c.args.held.now.blocks in
    record {
      counted = sym (ap (λ (J : List Event). next_of J) c.holding-self.ensures.0 ∙ next-fitted count blocks);
      in_order = subst InOrder (sym c.holding-self.ensures.0) (in_order_of (written 0 (fitted count blocks)) (once-written 0 (fitted count blocks)));
      whole = subst AreWhole (sym c.holding-self.ensures.0) (whole-written 0 (fitted count blocks) (whole-fitted count blocks));
    }

pub returns-clause-journal : goal.returns-clause-journal
returns-clause-journal c = c.holding-self.ensures.0 ∙ ap (λ (n : ℕ). written 0 (fitted n c.args.held.now.blocks)) c.args.self.now.counted

pub returns-clause-gathering : goal.returns-clause-gathering
returns-clause-gathering c =
    let never : c.args.self.now.image.gathers ≡ false = ap (λ (g : Gathering). g.gathers) c.requires.never in
    cc (never, c.holding-self.ensures.3, c.holding-self.ensures.4)
