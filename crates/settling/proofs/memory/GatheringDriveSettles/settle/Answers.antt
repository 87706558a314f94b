use Rattle.std.proofs.Common.{◌≡◌, List, ℕ, take, sym, ap, ◌∙◌}
use Rattle.drive.specs.Journal.{written}
use Rattle.settling.specs.Gathered.{blocks_of}
use Rattle.settling.specs.declared.memory.GatheringDrive.{GatheringDrive}
use Rattle.settling.proofs.Giving.{on_err, written_front}
use Rattle.settling.proofs.memory.GatheringDriveSettles.settle.Goals as goal
use Rattle.settling.proofs.memory.GatheringDriveSettles.settle.Goals.{else-is_due-via-then-is_due+else-give, else-is_due-via-else-is_due}

pub returns-clause-err : goal.returns-clause-err
returns-clause-err c =
    let same : blocks_of c.else-is_due.self ≡ blocks_of c.args.self.now =
    elim c.else-is_due.branch [
      | else-is_due-via-then-is_due+else-give w ↦ ap (λ (d : GatheringDrive). blocks_of d) w.self-is ∙ w.give.ensures.rest.blocks
      | else-is_due-via-else-is_due w ↦ ap (λ (d : GatheringDrive). blocks_of d) w.self-is
    ] in
    on_err c.fail.result _ (ap (λ (bs : List (List ℕ)). written 0 bs) (c.cut.ensures.blocks ∙ ap (λ (bs : List (List ℕ)). take c.args.from bs) same) ∙ sym (written_front c.args.from c.args.self.now.blocks.items))
