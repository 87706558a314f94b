use Rattle.ecma.specs.Field.{spelling}
use Rattle.ecma.proofs.Writing.{is_at}
use Rattle.ecma.proofs.field.are_fields_at.Goals as goal

pub returns : goal.returns
returns c = is_at c.args.at c.write_fields-size.result (spelling c.args.fields.now) c.args.bytes.now c.write_fields-size.new.into _ c.eq.result c.write_fields-size.ensures.size c.write_fields-size.ensures.written c.eq.ensures
