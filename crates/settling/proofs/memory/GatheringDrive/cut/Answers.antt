use Rattle.std.proofs.Common.{List, ℕ, sym, subst, arith}
use Rattle.drive.specs.Journal.{AreWhole, written}
use Rattle.settling.proofs.Giving.{whole_front}
use Rattle.settling.proofs.memory.GatheringDrive.cut.Goals as goal

pub invariant_of-self : goal.invariant_of-self
invariant_of-self c = record {
  fits = omega (arith, c.truncate.ensures.len, c.args.self.now.fits);
  whole = subst (λ (bs : List (List ℕ)). AreWhole (written 0 bs)) (sym c.truncate.ensures.items) (whole_front c.args.from c.args.self.now.blocks.items c.args.self.now.whole);
}
