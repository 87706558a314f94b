use Rattle.std.proofs.Common.{◌∙◌, arith, ap, length}
use Rattle.dir.specs.Item.{said}
use Rattle.dir.proofs.Spelled.{after_tag, identifier_is, length-body_of}
use Rattle.dir.proofs.item.Item.write.Goals as goal

pub returns : goal.returns
returns c =
    let x = said c.args.self.now in
    identifier_is c.args.number c.args.more x _ _ (λ i. omega (arith, c.type_inv.into i)) c.seal.ensures.sealed
    (c.seal.ensures.body ∙ after_tag c.args.into.now c.write_body.new.into (omega (arith, c.requires.size))
    (omega (arith, c.requires.size, ap length c.write_body.ensures, length-body_of x c.args.more))) c.write_body.ensures
