use Rattle.std.proofs.Common.{◌≡◌, ◌+◌, ◌*◌, false, length, sym, ◌∙◌, arith}
use Rattle.std.specs.List.{list_all}
use Rattle.std.specs.Str.{chars}
use Rattle.osta.specs.Compressed.{is_narrow, compressed}
use Rattle.osta.proofs.Spellings.{length-spelling_wide}
use Rattle.osta.proofs.writing.compressed_len.Goals as goal

pub returns-else-is_narrow : goal.returns-else-is_narrow
returns-else-is_narrow c =
    let wide : list_all is_narrow (chars c.args.text.now) ≡ false = sym c.is_narrow.ensures ∙ c.if-is_narrow.false in
    let len : length (compressed c.args.text.now) ≡ 2 * length (chars c.args.text.now) + 1 = length-spelling_wide (chars c.args.text.now) (omega (arith, c.char_count-count.ensures.count)) wide in
    omega (arith, len, c.char_count-count.ensures.count)
