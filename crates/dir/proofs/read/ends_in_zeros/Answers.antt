use Rattle.std.proofs.Common.{◌≡◌, ◌*◌, ◌-◌, length, drop, replicate, ap, ◌∙◌, sym, arith}
use Rattle.std.specs.List.{concat}
use Rattle.std.proofs.lemmas.List.Concat.{concat_is}
use Rattle.dir.proofs.read.ends_in_zeros.Goals as goal

pub returns : goal.returns
returns c =
    let after = c.split_at.result.1.now in
    let size = c.args.size in
    let is : after ≡ drop size (concat c.args.blocks.now) =
    c.split_at.ensures.back ∙ ap (drop size) (c.as_flattened.ensures.value ∙ sym (concat_is c.args.blocks.now)) in
    let len : length after ≡ 2048 * length c.args.blocks.now - size = omega (arith, c.split_at.ensures.back_len, c.as_flattened.ensures.len) in (
      λ so. sym is ∙ c.are_zeros.ensures.0 so ∙ ap (λ m. replicate m 0) len,
      λ e. c.are_zeros.ensures.1 (is ∙ e ∙ ap (λ m. replicate m 0) (sym len)),
    )
