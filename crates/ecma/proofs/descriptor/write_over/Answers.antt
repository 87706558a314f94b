use Rattle.std.proofs.Common.{◌-◌, length, take, drop, arith}
use Rattle.ecma.specs.Field.{spelling}
use Rattle.ecma.proofs.Descriptors.{is_descriptor}
use Rattle.ecma.proofs.Seals.{block_is}
use Rattle.ecma.proofs.descriptor.write_over.Goals as goal

pub returns-clause-descriptor : goal.returns-clause-descriptor
returns-clause-descriptor c =
    let body = spelling c.args.fields.now in
    let before = c.args.block.now in
    let rest = drop (length body) (take (length before - 16) (drop 16 before)) in
    let size = c.write_fields-size.ensures.size in
    is_descriptor c.args.id c.args.loc c.write_fields-size.result body rest before c.write_fields-size.new.into c.fill.new.self c.seal.new.bytes
    c.requires.block c.write_fields-size.auto.into size (omega (arith, size, c.requires.few)) c.write_fields-size.ensures.written
    (c.fill.ensures.after (λ y e. e)) c.seal.auto.bytes c.seal.ensures.sealed c.seal.ensures.body

pub returns-clause-block : goal.returns-clause-block
returns-clause-block c = block_is c.args.id c.args.loc (spelling c.args.fields.now) _ (λ i. omega (arith, c.type_inv.block i)) (returns-clause-descriptor c)
