use Rattle.std.proofs.Common.{◌++◌, [], ◌∷◌, List, ℕ, ap, ◌∙◌}
use Rattle.drive.specs.Waiting.{Waiting}
use Rattle.drive.proofs.Packing.{none_lent, none_packed, takes_alone}
use Rattle.drive.proofs.packet.PacketWriter.put_first.Goals as goal

pub returns-in-Ok-clause-ok : goal.returns-in-Ok-clause-ok
returns-in-Ok-clause-ok g c =
    let pushed = rw (c.unwrap.ensures, c.from_ref-alone.ensures.value) at c.extend_from_slice.ensures.items in
    let before = c.self.view_is ∙ c.in-Ok.ensures.empty in
    let empty = ap (λ (v : Waiting). v.blocks) before in
    let lent = none_lent c.self.inside.lent.now c.self.inside.packet.items empty in
    let packet = none_packed c.self.inside.lent.now c.self.inside.packet.items empty in
    takes_alone g.D.Drive c.args.drive.now c.finish.new.drive c.args.self.now _ (c.args.block.now ∷ []) c.in-Ok.ensures.ok c.in-Ok.ensures.sends (ap (λ (v : Waiting). v.at) before)
    (ap (λ (bs : List (List ℕ)). bs ++ c.extend_from_slice.new.self.items) lent ∙ pushed ∙ ap (λ (bs : List (List ℕ)). bs ++ c.args.block.now ∷ []) packet)
