use Rattle.std.proofs.Common.{List, ℕ, sym, ap, ◌∙◌}
use Rattle.drive.specs.Journal.{written}
use Rattle.settling.proofs.Giving.{written_front}
use Rattle.settling.proofs.memory.GatheringDriveSettles.take_back.Goals as goal

pub returns-clause-journal : goal.returns-clause-journal
returns-clause-journal c = ap (λ (bs : List (List ℕ)). written 0 bs) c.cut.ensures.blocks ∙ sym (written_front c.args.from c.args.self.now.blocks.items)
