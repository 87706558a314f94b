use Rattle.std.proofs.Common.{◌≡◌, ◌-◌, ◌∙◌, ℕ, List, length, take, drop, replicate, sym, ap}
use Rattle.std.specs.Str.{bytes_eq}
use Rattle.std.proofs.lemmas.List.{length-replicate}
use Rattle.dir.proofs.Splits.{parts_from_use, use_tested, use_shown}
use Rattle.dir.proofs.fids.Fid.has_use.Goals as goal

pub returns-then-not-are_zeros : goal.returns-then-not-are_zeros
returns-then-not-are_zeros c =
    let used = c.args.self.now.implementation_use.now in
    let after = c.split_at.result.1.now in (
      λ so. absurd (cc),
      λ is_use.
          let parts = parts_from_use used ((use_shown c.args.self.now c.requires).1 is_use) in
          let zeros : after ≡ replicate (length used - 32) 0 = c.split_at.ensures.back ∙ ap (λ m. drop m used) c.min-id_size.ensures ∙ parts.1 in
          let len : length after ≡ length used - 32 = ap length zeros ∙ length-replicate (length used - 32) 0 in
          absurd (let so = c.are_zeros.ensures.1 (zeros ∙ ap (λ m. replicate m 0) (sym len)) in cc),
    )

pub returns : goal.returns
returns c =
    let used = c.args.self.now.implementation_use.now in
    let tested =
    use_tested used c.split_at.result.0.now c.split_at.result.1.now c.min-id_size.result c.eq.result c.min-id_size.ensures c.split_at.ensures.front c.split_at.ensures.back
    (c.are_zeros.ensures.0 c.if-not-are_zeros.false)
    (c.eq.ensures ∙ ap (λ (id : List ℕ). bytes_eq c.split_at.result.0.now (take c.min-id_size.result id)) c.to_bytes-developer.ensures) in
    let shown = use_shown c.args.self.now c.requires in
    (λ so. shown.0 (tested.0 so), λ e. tested.1 (shown.1 e))
