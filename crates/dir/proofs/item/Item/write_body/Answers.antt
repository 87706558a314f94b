use Rattle.std.proofs.Common.{◌+◌, length, arith}
use Rattle.std.proofs.lemmas.List.{length-take}
use Rattle.dir.specs.Item.{said}
use Rattle.dir.proofs.Spelled.{body_put}
use Rattle.dir.proofs.item.Item.write_body.Goals as goal

pub write_fields-requires-clause-size : goal.write_fields-requires-clause-size
write_fields-requires-clause-size c = omega (arith, length-take 22 c.args.into.now, c.requires.size)

pub returns : goal.returns
returns c =
    let use_end = 22 + c.from-use_end.result in
    body_put (said c.args.self.now) c.args.more use_end (use_end + length c.args.self.now.name.now) c.args.into.now c.write_fields.new.into c.write_use.new.into
    c.copy_from_slice.new.self c.fill.new.self c.requires.size (omega (arith, c.from-use_end.ensures)) (omega arith)
    c.write_fields.ensures c.write_use.ensures c.copy_from_slice.ensures.after (c.fill.ensures.after (λ y e. e))
