use Rattle.std.proofs.Common.{◌≡◌, length, ap, subst, arith, IfSome}
use Rattle.dir.specs.Identifier.{identifier}
use Rattle.dir.specs.Item.{said}
use Rattle.dir.proofs.Spelled.{length-identifier}
use Rattle.dir.proofs.item.Item.write_from.Goals as goal

pub copy_from_slice-requires : goal.copy_from_slice-requires
copy_from_slice-requires c =
    let x = said c.args.self.now in
    let is : c.in-Some.bytes.now ≡ identifier 0 x 0 = subst (λ k. IfSome k (λ bytes. bytes.now ≡ identifier 0 x 0)) c.in-Some.is c.requires.kept in
    omega (arith, c.requires.size, c.if-more-eq0.true, ap length is, length-identifier 0 0 x)
