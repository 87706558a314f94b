use Rattle.std.proofs.Common.{◌≡◌, ◌+◌, ◌-◌, length, drop, replicate, ap, ◌∙◌, sym, arith}
use Rattle.dir.specs.Split.{name_size, use_size}
use Rattle.dir.proofs.Splits.{length-use, length-name}
use Rattle.std.proofs.lemmas.List.{length-drop}
use Rattle.dir.proofs.fids.Fid.has_zeros.Goals as goal

pub returns : goal.returns
returns c =
    let bytes = c.args.self.now.bytes.now in
    let used = length-use c.args.self.now c.requires in
    let named = length-name c.args.self.now c.requires in
    let n = 38 + use_size bytes + name_size bytes in
    let padding : c.split_at.result.1.now ≡ drop n bytes = c.split_at.ensures.back ∙ ap (λ m. drop m bytes) (omega arith) in
    let len : length c.split_at.result.1.now ≡ length bytes - n = ap length padding ∙ length-drop n bytes in (
      λ so. sym padding ∙ c.are_zeros.ensures.0 so ∙ ap (λ m. replicate m 0) len,
      λ e. c.are_zeros.ensures.1 (padding ∙ e ∙ ap (λ m. replicate m 0) (sym len)),
    )
