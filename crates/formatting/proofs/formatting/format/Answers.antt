use Rattle.std.proofs.Common.{◌≡◌, min, ◌∙◌, subst, ap, rules}
use Rattle.std.specs.Prelude.{IfErr}
use Rattle.limits.specs.declared.TheConstants.{GREATEST_CAPACITY}
use Rattle.formatting.specs.NewVolume.{words_of, IsFormatRefused}
use Rattle.formatting.proofs.FormatJournals.{same_words}
use Rattle.formatting.proofs.formatting.format.Goals as goal

pub returns-clause-err : goal.returns-clause-err
returns-clause-err g c =
    let capacity = g.D.Drive.capacity c.args.drive.now in
    let volume : c.min.result ≡ min capacity GREATEST_CAPACITY = c.min.ensures ∙ ap (λ n. min n GREATEST_CAPACITY) c.capacity-capacity.ensures in
    let moment : c.unwrap-moment.result ≡ c.args.moment = search rules in
    let words = same_words (words_of c.in-Ok-parts_of.parts) _ _ _ _ _ _ c.in-Ok-parts_of.ensures volume c.in-Ok.ensures.label.0 moment in
    subst (λ w. IfErr c.complete.result (IsFormatRefused capacity w (g.D.Drive.journal c.args.drive.now) (g.D.Drive.journal c.complete.new.drive) (g.D.Drive.honest c.complete.new.drive))) words c.complete.ensures.err
