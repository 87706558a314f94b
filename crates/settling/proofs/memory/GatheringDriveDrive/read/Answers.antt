use Rattle.std.proofs.Common.{Some, [], ap, sym, ◌∙◌, arith}
use Rattle.settling.proofs.Giving.{below_count, found_at, same_at}
use Rattle.settling.proofs.memory.GatheringDriveDrive.read.Goals as goal

pub index-requires : goal.index-requires
index-requires c = omega (arith, below_count c.args.at c.args.self.now.blocks.items c.requires)

pub returns-clause-read : goal.returns-clause-read
returns-clause-read c = λ honest.
    let below = below_count c.args.at c.args.self.now.blocks.items c.requires in
    found_at c.args.self.now.blocks.items c.args.at below ∙ ap Some (same_at c.args.self.now.blocks.items c.args.at [] c.index.result.now below ∙ sym c.index.ensures)
