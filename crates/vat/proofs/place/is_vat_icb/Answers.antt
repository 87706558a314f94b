use Rattle.std.proofs.Common.{sym, ap, ◌∙◌, rules}
use denote.Enum.Bare.{same_true, true_same}
use Rattle.icb.specs.Entry.{Fields, fields_of}
use Rattle.icb.specs.contracts.entry.Kind.{the_type}
use Rattle.vat.proofs.place.is_vat_icb.Goals as goal

pub returns-in-Ok : goal.returns-in-Ok
returns-in-Ok c = (
  λ yes. record { fields = fields_of c.in-Ok.entry; kind = same_true the_type (search rules) _ _ (sym c.eq.ensures ∙ yes); entry = c.in-Ok.ensures.found },
  λ is. c.eq.ensures ∙ true_same the_type _ _ (ap (λ (f : Fields). f.kind) (c.in-Ok.ensures.only is.fields is.entry) ∙ is.kind),
)

pub returns-in-Err : goal.returns-in-Err
returns-in-Err c = (λ no. absurd cc, λ is. absurd (c.in-Err.ensures.only is.fields is.entry))
