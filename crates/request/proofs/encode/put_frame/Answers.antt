use Rattle.std.proofs.lemmas.Result.{on_err_weaker}
use Rattle.request.proofs.Appending.{keeps_front_through, grown_twice}
use Rattle.request.proofs.encode.put_frame.Goals as goal

pub returns-clause-err : goal.returns-clause-err
returns-clause-err c =
    let first = c.in_ok-put_u32.ensures.ok in
    let second = c.in_ok-put_u16.ensures.ok in
    let grown = grown_twice c.args.out.now.items c.reserve.new.self.items c.put_u32.new.out.items c.put_u16.new.out.items _ _ c.reserve.ensures.items first second in
    on_err_weaker c.put_body.result (λ kept. keeps_front_through c.args.out.now.items _ c.put_u16.new.out.items c.put_body.new.out.items grown kept) c.put_body.ensures.err
