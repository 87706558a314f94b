use Rattle.std.proofs.Common.{◌∙◌}
use Rattle.engine.proofs.Messages.{on_err}
use Rattle.programs.proofs.Saying.{cut_name, cut_colon, cut_fault, cut_damage, cut_end, named, told, placed, ended}
use Rattle.programs.proofs.fault.say.Goals as goal

pub returns-in_err-put-clause-err : goal.returns-in_err-put-clause-err
returns-in_err-put-clause-err g c = on_err c.from_residual.result _ (cut_name c.args.name.now c.args.fault _ (g.E.Write.contents c.put.new.self.stream) _ c.as_bytes.result.now c.as_bytes.ensures.value c.in_err-put.ensures.err)

pub returns-in_err-put-2-clause-err : goal.returns-in_err-put-2-clause-err
returns-in_err-put-2-clause-err g c =
    on_err c.from_residual-in_err-put-2.result _ (cut_colon c.args.name.now c.args.fault _ (g.E.Write.contents c.put.new.self.stream) _ c.as_bytes.result.now c.as_bytes.ensures.value c.in_ok-put.ensures.ok c.in_err-put-2.ensures.err)

pub returns-in_err-put-3-clause-err : goal.returns-in_err-put-3-clause-err
returns-in_err-put-3-clause-err g c =
    let begun = named c.args.name.now c.args.fault _ (g.E.Write.contents c.put.new.self.stream) (g.E.Write.contents c.put-2.new.self.stream) c.as_bytes.result.now c.as_bytes.ensures.value c.in_ok-put.ensures.ok c.in_ok-put-2.ensures.ok in
    on_err c.from_residual-in_err-put-3.result _
    (cut_fault c.args.name.now c.args.fault _ (g.E.Write.contents c.put-2.new.self.stream) _ c.as_bytes-2.result.now (c.as_bytes-2.ensures.value ∙ c.name.ensures) begun c.in_err-put-3.ensures.err)

pub returns-in_err-say_damage-clause-err : goal.returns-in_err-say_damage-clause-err
returns-in_err-say_damage-clause-err g c =
    let begun = named c.args.name.now c.args.fault _ (g.E.Write.contents c.put.new.self.stream) (g.E.Write.contents c.put-2.new.self.stream) c.as_bytes.result.now c.as_bytes.ensures.value c.in_ok-put.ensures.ok c.in_ok-put-2.ensures.ok in
    let more = told c.args.name.now c.args.fault _ (g.E.Write.contents c.put-2.new.self.stream) (g.E.Write.contents c.put-3.new.self.stream) c.as_bytes-2.result.now (c.as_bytes-2.ensures.value ∙ c.name.ensures) begun c.in_ok-put-3.ensures.ok in
    on_err c.from_residual-in_err-say_damage.result _ (cut_damage c.args.name.now c.args.fault _ (g.E.Write.contents c.put-3.new.self.stream) _ c.damage.result c.damage.ensures more c.in_err-say_damage.ensures.err)

pub returns-clause-err : goal.returns-clause-err
returns-clause-err g c =
    let begun = named c.args.name.now c.args.fault _ (g.E.Write.contents c.put.new.self.stream) (g.E.Write.contents c.put-2.new.self.stream) c.as_bytes.result.now c.as_bytes.ensures.value c.in_ok-put.ensures.ok c.in_ok-put-2.ensures.ok in
    let more = told c.args.name.now c.args.fault _ (g.E.Write.contents c.put-2.new.self.stream) (g.E.Write.contents c.put-3.new.self.stream) c.as_bytes-2.result.now (c.as_bytes-2.ensures.value ∙ c.name.ensures) begun c.in_ok-put-3.ensures.ok in
    let all = placed c.args.name.now c.args.fault _ (g.E.Write.contents c.put-3.new.self.stream) (g.E.Write.contents c.say_damage.new.errors.stream) c.damage.result c.damage.ensures more c.in_ok-say_damage.ensures.ok in
    cut_end c.args.name.now c.args.fault _ (g.E.Write.contents c.say_damage.new.errors.stream) _ c.put-4.result all c.put-4.ensures.err

pub returns-clause-ok : goal.returns-clause-ok
returns-clause-ok g c =
    let begun = named c.args.name.now c.args.fault _ (g.E.Write.contents c.put.new.self.stream) (g.E.Write.contents c.put-2.new.self.stream) c.as_bytes.result.now c.as_bytes.ensures.value c.in_ok-put.ensures.ok c.in_ok-put-2.ensures.ok in
    let more = told c.args.name.now c.args.fault _ (g.E.Write.contents c.put-2.new.self.stream) (g.E.Write.contents c.put-3.new.self.stream) c.as_bytes-2.result.now (c.as_bytes-2.ensures.value ∙ c.name.ensures) begun c.in_ok-put-3.ensures.ok in
    let all = placed c.args.name.now c.args.fault _ (g.E.Write.contents c.put-3.new.self.stream) (g.E.Write.contents c.say_damage.new.errors.stream) c.damage.result c.damage.ensures more c.in_ok-say_damage.ensures.ok in
    ended c.args.name.now c.args.fault _ (g.E.Write.contents c.say_damage.new.errors.stream) _ c.put-4.result all c.put-4.ensures.ok
