use Rattle.std.proofs.Common.{◌≡◌, ◌++◌, List, ℕ, sym, ap, subst, ◌∙◌, arith, length-append, length}
use Rattle.drive.specs.Journal.{AreWhole, written}
use Rattle.settling.proofs.Giving.{ok_of, whole_on, written_on}
use Rattle.settling.proofs.memory.GatheringDriveDrive.write.Goals as goal

pub invariant_of-self-else-is_err-2 : goal.invariant_of-self-else-is_err-2
invariant_of-self-else-is_err-2 c =
    let old = c.args.self.now.blocks.items in
    let added : c.push_all.new.list.items ≡ old ++ c.args.blocks.now = ok_of c.push_all.result _ (sym c.is_err-2.ensures.value ∙ c.if-is_err-2.false) c.push_all.ensures.ok in
    record {
      fits = omega (arith, ap (λ (bs : List (List ℕ)). length bs) added, length-append old c.args.blocks.now, c.requires.fits, c.if-at-len.false, c.len.ensures, c.write.ensures.capacity);
      whole = subst (λ (bs : List (List ℕ)). AreWhole (written 0 bs)) (sym added) (whole_on old c.args.blocks.now c.args.self.now.whole c.push_all.ensures.blocks);
    }

pub returns-clause-ok : goal.returns-clause-ok
returns-clause-ok c =
    let old = c.args.self.now.blocks.items in
    let added : c.push_all.new.list.items ≡ old ++ c.args.blocks.now = ok_of c.push_all.result _ (sym c.is_err-2.ensures.value ∙ c.if-is_err-2.false) c.push_all.ensures.ok in
    let at_end : c.args.at ≡ length old = omega (arith, c.if-at-len.false, c.len.ensures) in
    ap (λ (bs : List (List ℕ)). written 0 bs) added ∙ written_on old c.args.blocks.now c.args.at at_end
