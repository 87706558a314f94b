use Rattle.std.proofs.Common.{◌-◌, length, refl, arith}
use Rattle.osta.proofs.Fields.{written_over}
use Rattle.osta.proofs.dstring.put_spelling.Goals as goal

pub returns : goal.returns
returns c =
    let n = length c.args.field.now in
    written_over n (n - 1) (length c.args.spelling.now) c.args.spelling.now c.copy_from_slice.new.self c.fill.new.self c.copy_from_slice.ensures.after (c.fill.ensures.after (λ y h. h)) refl (omega (arith, c.requires.room)) c.requires.room
