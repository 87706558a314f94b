use Rattle.std.proofs.Common.{◌++◌, ◌≤◌, List, ℕ, ap, sym, ◌∙◌, arith, append-nil, refl}
use Rattle.drive.specs.Journal.{next_of}
use Rattle.grouping.proofs.Going.{no_mark, untouched_none}
use Rattle.grouping.proofs.group.end_commit.Goals as goal

pub returns-then-after-before : goal.returns-then-after-before
returns-then-after-before g c =
    let le : next_of (g.D.Drive.journal c.args.drive.now) ≤ c.args.before = omega (arith, c.count-after.ensures, c.if-after-before.true) in
    record {
      ok = sym (append-nil c.args.marks.now.items) ∙ ap (λ (l : List ℕ). c.args.marks.now.items ++ l) (sym (no_mark c.args.before _ le));
      untouched = untouched_none g.D.Drive c.args.drive.now;
      gathering = refl;
    }
