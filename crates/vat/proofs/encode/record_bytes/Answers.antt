use Rattle.std.proofs.Common.{rules}
use Rattle.vat.proofs.Records.{record_written}
use Rattle.vat.proofs.encode.record_bytes.Goals as goal

pub returns : goal.returns
returns c = record_written c.args.kept.now.client c.args.kept.now.latest c.places.result c.args.kept.now.replies c.write_fields.new.into c.write_fields.ensures.written (search rules) c.places.ensures
