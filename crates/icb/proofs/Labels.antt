-- The fields of a label.
use Rattle.std.proofs.Common.{◌≡◌, ℕ, ◌≤◌, List, length, sym, ap, subst, ◌∙◌, inl, arith}
use Rattle.osta.specs.Compressed.{compressed}
use Rattle.osta.specs.Dstring.{dstring, Dstring}
use Rattle.osta.specs.Label.{IsLabel, IsLabelDstring, dstring_text}
use Rattle.osta.proofs.Fields.{length-field_of}
use Rattle.osta.proofs.Names.{label_Dstring, label_few, label_text}

pub length-label : (n : ℕ) (text : List ℕ) → IsLabel text → 32 ≤ n → length (dstring n text) ≡ n
length-label n text label room = length-field_of n (compressed text) (omega (arith, label_few text label))

-- the bytes of a label's short field are its dstring
pub is_label_dstring : (text bytes : List ℕ) → IsLabel text → bytes ≡ dstring 32 text → IsLabelDstring text bytes
is_label_dstring text bytes label spelled =
    let size : length bytes ≡ 32 = ap length spelled ∙ length-label 32 text label (omega arith) in
    let field : Dstring text 32 bytes = subst (λ (x : List ℕ). Dstring text 32 x) (sym spelled) (label_Dstring text 32 label (omega arith)) in
    record { label = label; field = subst (λ (n : ℕ). Dstring text n bytes) (sym size) field; size = inl size }

-- labels with one field are one
pub one_label : (a b : List ℕ) → IsLabel a → IsLabel b → dstring 32 a ≡ dstring 32 b → a ≡ b
one_label a b x y e = sym (label_text a x) ∙ ap dstring_text e ∙ label_text b y
