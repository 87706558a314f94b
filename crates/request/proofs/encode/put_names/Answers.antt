use Rattle.request.proofs.Appending.{keeps_front_through, on_err}
use Rattle.request.proofs.encode.put_names.Goals as goal

pub returns-in_err-put_listed-clause-err : goal.returns-in_err-put_listed-clause-err
returns-in_err-put_listed-clause-err c =
    on_err _ (keeps_front_through c.args.out.now.items _ c.loop-listed.out.items c.put_listed.new.out.items c.loop-listed.invariant c.in_err-put_listed.ensures.err)
