use Rattle.std.specs.Prelude.{slice_get}
use Rattle.std.proofs.Common.{◌≡◌, ℕ, ◌≤◌, ◌<◌, take, sym, ◌∙◌, subst, arith, List, Option, Some}
use Rattle.ecma.proofs.Faults.{no_fault}
use Rattle.icb.specs.FileSet.{IsFileSet, set_rules}
use Rattle.icb.specs.declared.set.FileSet.{FileSet}
use Rattle.icb.proofs.FileSets.{set_keeps}
use Rattle.drive.specs.Journal.{next_of, held}
use Rattle.recover.specs.Walk.{LeadsTo}
use Rattle.recover.proofs.Held.{held_below}
use Rattle.recover.proofs.Sets.{same_read, same_set, other_set, no_number, no_set}
use Rattle.recover.proofs.state.check_file_set.Goals as goal

pub returns-clause-set : goal.returns-clause-set
returns-clause-set g c = λ h.
    let below = c.in-Some.ensures.below in
    let within : c.in-Some.set_at < next_of (g.D.Drive.journal c.args.drive.now) = omega (arith, below.1, c.requires.within) in
    let same = same_set c.in-Ok.set c.args.front.now.label c.args.front.now.moment (sym c.ne.ensures ∙ c.if-ne.false) in
    let leads = subst (λ (es : List (Option ℕ)). LeadsTo es 0 c.in-Some.set_at) c.deref.ensures.value c.in-Some.ensures.some in
    record {
      number = leads.number;
      used = leads.used;
      block = c.in_ok-block.block;
      there = subst (λ n. slice_get (take c.args.at (held (g.D.Drive.journal c.args.drive.now))) n ≡ Some c.in_ok-block.block) leads.is
          (held_below _ c.args.at _ _ below.1 within (c.in_ok-block.ensures.read h));
      is = subst (λ (set : FileSet). IsFileSet set c.in_ok-block.block) same c.in-Ok.ensures.found;
    }

pub returns-in-None-clause-refused : goal.returns-in-None-clause-refused
returns-in-None-clause-refused g c = rw c.damaged.ensures (λ h.
    no_number (held (g.D.Drive.journal c.args.drive.now)) c.args.at c.args.vat.now.entries.items c.args.front.now.label c.args.front.now.moment
    (subst (λ (es : List (Option ℕ)). (there : ℕ) → LeadsTo es 0 there → c.args.at ≤ there) c.deref.ensures.value c.in-None.ensures.none))

pub returns-in-Err-clause-refused : goal.returns-in-Err-clause-refused
returns-in-Err-clause-refused g c = rw c.damaged-in-Err.ensures (λ h.
    let below = c.in-Some.ensures.below in
    let within : c.in-Some.set_at < next_of (g.D.Drive.journal c.args.drive.now) = omega (arith, below.1, c.requires.within) in
    let leads = subst (λ (es : List (Option ℕ)). LeadsTo es 0 c.in-Some.set_at) c.deref.ensures.value c.in-Some.ensures.some in
    no_set (held (g.D.Drive.journal c.args.drive.now)) c.args.at c.args.vat.now.entries.items c.args.front.now.label c.args.front.now.moment c.in-Some.set_at c.in_ok-block.block leads
    (held_below _ c.args.at _ _ below.1 within (c.in_ok-block.ensures.read h))
    (λ is. no_fault (set_rules c.in_ok-block.block) c.in-Err.fault c.in-Err.ensures.fault (set_keeps (record { label = c.args.front.now.label; moment = c.args.front.now.moment }) c.in_ok-block.block is).0))

pub returns-then-ne-clause-refused : goal.returns-then-ne-clause-refused
returns-then-ne-clause-refused g c = rw c.damaged-then-ne.ensures (λ h.
    let below = c.in-Some.ensures.below in
    let within : c.in-Some.set_at < next_of (g.D.Drive.journal c.args.drive.now) = omega (arith, below.1, c.requires.within) in
    let leads = subst (λ (es : List (Option ℕ)). LeadsTo es 0 c.in-Some.set_at) c.deref.ensures.value c.in-Some.ensures.some in
    no_set (held (g.D.Drive.journal c.args.drive.now)) c.args.at c.args.vat.now.entries.items c.args.front.now.label c.args.front.now.moment c.in-Some.set_at c.in_ok-block.block leads
    (held_below _ c.args.at _ _ below.1 within (c.in_ok-block.ensures.read h))
    (λ is. other_set c.in-Ok.set c.args.front.now.label c.args.front.now.moment (sym c.ne.ensures ∙ c.if-ne.true)
    (same_read c.in-Ok.set (record { label = c.args.front.now.label; moment = c.args.front.now.moment }) (c.in-Ok.ensures.only (record { label = c.args.front.now.label; moment = c.args.front.now.moment }) is))))
