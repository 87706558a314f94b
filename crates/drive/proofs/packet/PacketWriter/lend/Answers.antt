use Rattle.std.proofs.Common.{◌++◌, [], List, ℕ, ap, ◌∙◌, append-nil}
use Rattle.drive.specs.Waiting.{Waiting}
use Rattle.drive.proofs.Packing.{none_packed, stops_finished, stops_longer, takes_alone}
use Rattle.drive.proofs.packet.PacketWriter.lend.Goals as goal

pub returns-in-Ok-clause-ok : goal.returns-in-Ok-clause-ok
returns-in-Ok-clause-ok g c =
    let before = c.self.view_is ∙ c.in-Ok.ensures.empty in
    let blocks = c.args.blocks.now in
    let none = none_packed c.self.inside.lent.now c.self.inside.packet.items (ap (λ (v : Waiting). v.blocks) before) in
    takes_alone g.D.Drive c.args.drive.now c.finish.new.drive c.args.self.now _ blocks c.in-Ok.ensures.ok c.in-Ok.ensures.sends (ap (λ (v : Waiting). v.at) before)
    (ap (λ (bs : List (List ℕ)). blocks ++ bs) none ∙ append-nil blocks)

pub returns-in-Err-clause-err : goal.returns-in-Err-clause-err
returns-in-Err-clause-err g c =
    stops_longer c.args.drive.now c.finish.new.drive c.args.self.now [] c.args.blocks.now (stops_finished g.D.Drive c.args.drive.now c.finish.new.drive c.args.self.now c.in-Err.ensures.err c.in-Err.ensures.sends)
