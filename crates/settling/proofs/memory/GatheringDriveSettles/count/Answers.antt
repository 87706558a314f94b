use Rattle.std.proofs.Common.{◌≡◌, length, sym, ◌∙◌, arith}
use Rattle.settling.proofs.Giving.{next_counts}
use Rattle.settling.proofs.memory.GatheringDriveSettles.count.Goals as goal

pub returns : goal.returns
returns c =
    let n : c.len.result ≡ length c.args.self.now.blocks.items = omega (arith, c.len.ensures) in
    n ∙ sym (next_counts c.args.self.now.blocks.items)
