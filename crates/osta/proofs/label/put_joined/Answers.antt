use Rattle.std.proofs.Common.{◌-◌, length, arith}
use Rattle.osta.proofs.Fields.{joined_over}
use Rattle.osta.proofs.label.put_joined.Goals as goal

pub returns : goal.returns
returns c =
    let n = length c.args.field.now in
    joined_over n (n - 1) c.args.id c.args.front.now c.args.back.now c.copy_from_slice.new.self c.copy_from_slice-2.new.self c.fill.new.self c.copy_from_slice.ensures.after c.copy_from_slice-2.ensures.after (c.fill.ensures.after (λ y h. h)) (omega (arith, c.requires.room)) c.requires.room
