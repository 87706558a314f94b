use Rattle.std.proofs.Common.{◌<◌, ◌∙◌, length, rules}
use Rattle.std.proofs.lemmas.List.{length-set}
use Rattle.model.specs.Plain.{reply_in}
use Rattle.model.proofs.PlainRecords.{answered_here, answered_past}
use Rattle.model.proofs.plain.records.answer_all.Goals as goal
use Rattle.model.proofs.plain.records.answer_all.Goals.{then-index-client+in_ok-answer, else-index-client}

pub loop-i-preserved : goal.loop-i-preserved
loop-i-preserved c =
    let within : c.loop-i.i < length c.args.records.items = search rules in
    let inside : c.loop-i.i < length c.loop-i.records.items = search rules in
    elim c.if-index-client.branch [
      | then-index-client+in_ok-answer w ↦ rw w.records-is (
        length-set c.loop-i.records.items c.loop-i.i _ ∙ c.loop-i.invariant.0,
        answered_here c.args.client c.args.number (reply_in c.args.reply) c.loop-i.records.items c.args.records.items c.loop-i.i c.index.result.now w.index_mut.result.now w.answer.new.self within c.loop-i.invariant.0 c.loop-i.invariant.1
            c.index.ensures w.index_mut.ensures.value w.if-index-client.true w.in_ok-answer.ensures,
      )
      | else-index-client w ↦ rw w.records-is (
        c.loop-i.invariant.0,
        answered_past c.args.client c.args.number (reply_in c.args.reply) c.loop-i.records.items c.args.records.items c.loop-i.i c.index.result.now within c.loop-i.invariant.0 c.loop-i.invariant.1 c.index.ensures w.if-index-client.false,
      )
    ]
