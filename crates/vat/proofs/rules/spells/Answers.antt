use Rattle.vat.proofs.Records.{is_spelled}
use Rattle.vat.proofs.rules.spells.Goals as goal

pub returns : goal.returns
returns c = is_spelled c.args.version c.args.kept.now c.args.text.now c.record_bytes-bytes.result c.record_size.result c.eq.result c.requires c.record_size.ensures c.record_bytes-bytes.ensures c.eq.ensures
