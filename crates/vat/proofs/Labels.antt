-- A label in its field of 128 bytes.
use Rattle.std.proofs.Common.{◌≡◌, ℕ, List, length, sym, subst, ◌∙◌, inr, ap, arith}
use Rattle.std.specs.Prelude.{Bool, Option, Some, None, is_some, IfSome, IsTrue, ◌↔◌}
use Rattle.osta.specs.Compressed.{compressed}
use Rattle.osta.specs.Dstring.{dstring, Dstring}
use Rattle.osta.specs.Label.{IsLabel, IsLabelDstring}
use Rattle.osta.proofs.Fields.{length-field_of, text_from_Dstring}
use Rattle.osta.proofs.Names.{label_few, label_Dstring}
use Rattle.vat.specs.Rules.{label_field, HasLabel}

pub length-label : (text : List ℕ) → IsLabel text → length (dstring 128 text) ≡ 128
length-label text is = length-field_of 128 (compressed text) (omega (arith, label_few text is))

-- the bytes of a field that is known to be a label's
pub field_is : (text field : List ℕ) → length field ≡ 128 → IsLabelDstring text field → field ≡ dstring 128 text
field_is text field len is = is.field.spelled ∙ ap (λ (n : ℕ). dstring n text) len

pub field_told : (text field : List ℕ) → IsLabel text → field ≡ dstring 128 text → IsLabelDstring text field
field_told text field is e =
    let len = length-label text is in
    subst (IsLabelDstring text) (sym e) (record {
      label = is;
      field = subst (λ (n : ℕ). Dstring text n (dstring 128 text)) (sym len) (label_Dstring text 128 is (omega arith));
      size = inr len;
    })

pub one_label : (text other field : List ℕ) → IsLabelDstring text field → IsLabelDstring other field → text ≡ other
one_label text other field a b = sym (text_from_Dstring text field (length field) a.field) ∙ text_from_Dstring other field (length field) b.field

-- what reading a label answered says whether there is one
pub label_there : (o : Option (List ℕ)) (bytes field : List ℕ) (r : Bool) → field ≡ label_field bytes → r ≡ is_some o → IfSome o (λ label. IsLabelDstring label field)
    → ((text : List ℕ) → IsLabelDstring text field → o ≡ Some text) → IsTrue r ↔ HasLabel bytes
label_there None bytes field r is e some only = (
  λ told. absurd cc,
  λ has. absurd (let wrong = only has.label (subst (IsLabelDstring has.label) (sym is) has.spelled) in cc),
)
label_there (Some label) bytes field r is e some only = (λ told. record { label = label; spelled = subst (IsLabelDstring label) is some }, λ has. e)
