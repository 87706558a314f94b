use Rattle.std.proofs.Common.{◌≡◌, ◌∙◌, List, ℕ, false, nat_eq, sym, subst, rules}
use Rattle.std.specs.Option.{is_some}
use Rattle.std.specs.Cmp.Lexicographic.{pointwise}
use Rattle.indexmap.proofs.CallerLemmas.{insert_entry-new}
use Rattle.dir.specs.declared.entry.Entry.{Entry}
use Rattle.dir.specs.Fronts.{IsIdentifierPrefix}
use Rattle.dir.proofs.Fronts.{front_longer}
use Rattle.dir.proofs.Refusals.{none_of}
use Rattle.codec_tests.proofs.kept.add.Goals as goal

pub returns : goal.returns
returns g c =
    let entries = c.args.dir.now.entries.entries in
    let ids = c.args.identifiers.now in
    let fresh : false ≡ is_some c.in_ok-there.there = search rules in
    let absent = sym c.in_ok-there.ensures.old ∙ none_of c.in_ok-there.there fresh in
    subst (λ (es : List (List ℕ × Entry)). IsIdentifierPrefix ids es)
    (sym (c.in_ok-there.ensures.entries ∙ insert_entry-new (pointwise nat_eq) c.args.dir.now.entries c.in_ok-name.name _ absent))
    (front_longer entries _ ids c.requires)
