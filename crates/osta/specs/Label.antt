-- The label of a volume.
use Rattle.std.specs.Prelude.{◌≡◌, ◌⊎◌, ℕ, Bool, not, ◌==◌, List, ◌∷◌, length, None}
use Rattle.std.specs.Str.{IsUtf8}
use Rattle.osta.specs.FirstFault.{first_text_fault}
use Rattle.osta.specs.Compressed.{writing_faults, expanded}
use Rattle.osta.specs.Dstring.{dstring, dstring_spelling, Dstring}
use Rattle.osta.specs.Name.{has_character}
use Rattle.osta.specs.declared.fault.NameFault.{NameFault}
use Rattle.osta.specs.declared.fault.NameFault.TheVariants.{Empty, Nul}

-- the faults of a text as a label in their order, each beside what must hold
abbrev pub label_faults : List ℕ → List (NameFault × Bool)
label_faults text =
    (Empty, not (length text == 0))
    ∷ (Nul, not (has_character 0 text))
    ∷ writing_faults 31 text

pub record IsLabel (text : List ℕ) : Type 0 where
  pub utf8 : IsUtf8 text
  pub faultless : first_text_fault (label_faults text) ≡ None

-- the bytes are the dstring of 32 or of 128 bytes of a label
pub record IsLabelDstring (text bytes : List ℕ) : Type 0 where
  pub label : IsLabel text
  pub field : Dstring text (length bytes) bytes
  pub size : (length bytes ≡ 32) ⊎ (length bytes ≡ 128)

-- the text of a field
abbrev pub dstring_text : List ℕ → List ℕ
dstring_text bytes = expanded (dstring_spelling bytes)

-- the bytes are the field that keeps a label
pub record IsLabelField (bytes : List ℕ) : Type 0 where
  pub label : IsLabel (dstring_text bytes)
  pub field : dstring 32 (dstring_text bytes) ≡ bytes
