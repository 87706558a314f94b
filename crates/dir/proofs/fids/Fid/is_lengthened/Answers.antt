use Rattle.std.proofs.Common.{◌≡◌, ◌∙◌, ap, arith, length, sym}
use Rattle.std.proofs.lemmas.Bool.{not-true, not_from_false}
use Rattle.dir.specs.Identifier.{plain_size}
use Rattle.dir.specs.Layout.{fits}
use Rattle.dir.specs.Split.{name_size, use_size}
use Rattle.dir.proofs.Splits.{length-use}
use Rattle.dir.proofs.fids.Fid.is_lengthened.Goals as goal

pub returns-then-size-lt32 : goal.returns-then-size-lt32
returns-then-size-lt32 c =
    let used = length-use c.args.self.now c.requires.whole in
    (λ so. absurd (cc), λ long. let some = long.some in absurd (omega arith))

pub returns-then-size-ne0 : goal.returns-then-size-ne0
returns-then-size-ne0 c =
    let used = length-use c.args.self.now c.requires.whole in
    (λ so. absurd (cc), λ long. let whole = long.whole in absurd (omega arith))

pub returns : goal.returns
returns c =
    let used = length-use c.args.self.now c.requires.whole in
    let after = c.args.after.now in
    let told : c.fits.result ≡ fits (plain_size (name_size after)) (use_size c.args.self.now.bytes.now) =
    c.fits.ensures ∙ ap (λ n. fits n (length c.args.self.now.implementation_use.now)) (c.plain_size.ensures ∙ ap plain_size c.from.ensures)
    ∙ ap (fits (plain_size (name_size after))) used in (
      λ so. record { some = omega arith; whole = omega arith; full = omega arith; next = omega arith; left = sym told ∙ not-true c.fits.result so },
      λ long. not_from_false c.fits.result (told ∙ long.left),
    )
