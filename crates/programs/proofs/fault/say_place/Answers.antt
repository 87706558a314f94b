use Rattle.std.proofs.Common.{◌∙◌}
use Rattle.engine.proofs.Messages.{on_err}
use Rattle.programs.proofs.Saying.{cut_block, cut_at, cut_by, cut_cause, said_at, said_by, said_cause}
use Rattle.programs.proofs.fault.say_place.Goals as goal

pub returns-in_err-put-clause-err : goal.returns-in_err-put-clause-err
returns-in_err-put-clause-err g c = on_err c.from_residual.result _ (cut_block c.args.block c.args.cause _ (g.E.Write.contents c.put.new.self.stream) _ c.in_err-put.ensures.err)

pub returns-in_err-put-2-clause-err : goal.returns-in_err-put-2-clause-err
returns-in_err-put-2-clause-err g c =
    on_err c.from_residual-in_err-put-2.result _ (cut_at c.args.block c.args.cause _ (g.E.Write.contents c.put.new.self.stream) _ c.as_bytes.result.now (c.as_bytes.ensures.value ∙ c.format.ensures.text) c.in_ok-put.ensures.ok c.in_err-put-2.ensures.err)

pub returns-in_err-put-3-clause-err : goal.returns-in_err-put-3-clause-err
returns-in_err-put-3-clause-err g c =
    let at = said_at c.args.block c.args.cause _ (g.E.Write.contents c.put.new.self.stream) (g.E.Write.contents c.put-2.new.self.stream) c.as_bytes.result.now (c.as_bytes.ensures.value ∙ c.format.ensures.text) c.in_ok-put.ensures.ok c.in_ok-put-2.ensures.ok in
    on_err c.from_residual-in_err-put-3.result _ (cut_by c.args.block c.args.cause _ (g.E.Write.contents c.put-2.new.self.stream) _ at c.in_err-put-3.ensures.err)

pub returns-clause-err : goal.returns-clause-err
returns-clause-err g c =
    let at = said_at c.args.block c.args.cause _ (g.E.Write.contents c.put.new.self.stream) (g.E.Write.contents c.put-2.new.self.stream) c.as_bytes.result.now (c.as_bytes.ensures.value ∙ c.format.ensures.text) c.in_ok-put.ensures.ok c.in_ok-put-2.ensures.ok in
    let by = said_by c.args.block c.args.cause _ (g.E.Write.contents c.put-2.new.self.stream) (g.E.Write.contents c.put-3.new.self.stream) at c.in_ok-put-3.ensures.ok in
    cut_cause c.args.block c.args.cause _ (g.E.Write.contents c.put-3.new.self.stream) _ c.put-4.result c.as_bytes-2.result.now (c.as_bytes-2.ensures.value ∙ c.format-2.ensures.text) by c.put-4.ensures.err

pub returns-clause-ok : goal.returns-clause-ok
returns-clause-ok g c =
    let at = said_at c.args.block c.args.cause _ (g.E.Write.contents c.put.new.self.stream) (g.E.Write.contents c.put-2.new.self.stream) c.as_bytes.result.now (c.as_bytes.ensures.value ∙ c.format.ensures.text) c.in_ok-put.ensures.ok c.in_ok-put-2.ensures.ok in
    let by = said_by c.args.block c.args.cause _ (g.E.Write.contents c.put-2.new.self.stream) (g.E.Write.contents c.put-3.new.self.stream) at c.in_ok-put-3.ensures.ok in
    said_cause c.args.block c.args.cause _ (g.E.Write.contents c.put-3.new.self.stream) _ c.put-4.result c.as_bytes-2.result.now (c.as_bytes-2.ensures.value ∙ c.format-2.ensures.text) by c.put-4.ensures.ok
