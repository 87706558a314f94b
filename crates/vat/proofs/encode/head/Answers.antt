use Rattle.std.proofs.Common.{length, ap, ◌∙◌, arith}
use Rattle.vat.proofs.Labels.{length-label}
use Rattle.vat.proofs.Head.{head_written}
use Rattle.vat.proofs.encode.head.Goals as goal

pub returns : goal.returns
returns c = head_written c.args.vat.now.sessions.version c.record_size-record_size.result c.number.result c.len-count.result _ c.number_of.result _ c.args.vat.now.files c.args.vat.now.directories c.args.vat.now.sessions.next_unique c.args.vat.now.sessions.commits c.dstring_128-label.result _ c.write_fields.new.into (ap length c.dstring_128-label.ensures.value ∙ length-label c.args.vat.now.label c.dstring_128-label.ensures.label) c.dstring_128-label.ensures.value (omega (arith, c.len-count.ensures, c.args.vat.now.sessions.records.ok)) c.record_size-record_size.ensures c.number_of.ensures c.number.ensures c.write_fields.ensures.written
