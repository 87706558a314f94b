use Rattle.std.proofs.Common.{ℕ, ◌+◌, ◌<◌, get_or, refl, arith}
use Rattle.ecma.proofs.InBytes.{word_zeros, both_zeros}
use Rattle.ecma.proofs.standing.two_words.Goals as goal

pub returns : goal.returns
returns c =
    let at = c.args.at in
    let bytes = c.args.bytes.now in
    let small : (i : ℕ) → get_or bytes i 0 < 256 = λ i. omega (arith, c.type_inv.bytes i) in
    both_zeros at 8 8 (at + 8) bytes c.u64_at.result c.u64_at-2.result refl
    (word_zeros at bytes c.u64_at.result small (omega arith) c.u64_at.ensures)
    (word_zeros (at + 8) bytes c.u64_at-2.result small (omega arith) c.u64_at-2.ensures)
