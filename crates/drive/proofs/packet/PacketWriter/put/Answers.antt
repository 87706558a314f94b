use Rattle.std.proofs.Common.{◌++◌, [], ◌∷◌, List, ℕ, ap, sym, refl, ◌∙◌, append_assoc}
use Rattle.drive.specs.Waiting.{Waiting}
use Rattle.drive.proofs.Packing.{takes_waiting}
use Rattle.drive.proofs.packet.PacketWriter.put.Goals as goal

pub returns-clause-ok : goal.returns-clause-ok
returns-clause-ok g c =
    let pushed = rw (c.unwrap.ensures, c.from_ref-one.ensures.value) at c.extend_from_slice.ensures.items in
    let lent = c.self.inside.lent.now in
    let packet = c.self.inside.packet.items in
    let one = c.args.block.now ∷ [] in
    takes_waiting g.D.Drive c.args.drive.now c.args.drive.now c.args.self.now _ c.args.block.now refl (ap (λ (v : Waiting). v.at) c.self.view_is)
    (ap (λ (bs : List (List ℕ)). lent ++ bs) pushed ∙ sym (append_assoc lent packet one) ∙ ap (λ (v : Waiting). v.blocks ++ one) c.self.view_is)
