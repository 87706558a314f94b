-- The names of files and directories.
use Rattle.std.specs.Prelude.{◌≡◌, ℕ, Bool, not, ◌||◌, ◌==◌, List, [], ◌∷◌, drop, length, None, codes}
use Rattle.std.specs.List.{list_any}
use Rattle.std.specs.Str.{chars, IsUtf8, bytes_eq}
use Rattle.osta.specs.FirstFault.{first_text_fault}
use Rattle.osta.specs.Compressed.{compressed, writing_faults}
use Rattle.osta.specs.declared.fault.NameFault.{NameFault}
use Rattle.osta.specs.declared.fault.NameFault.TheVariants.{Empty, Dot, Slash, Nul}

-- the text of a directory itself, and of the one above
abbrev pub is_dots : List ℕ → Bool
is_dots text = bytes_eq text (codes ".") || bytes_eq text (codes "..")

-- the text has the character
abbrev pub has_character : ℕ → List ℕ → Bool
has_character c text = list_any (λ d. d == c) (chars text)

-- the faults of a text as that of a directory itself or of the one above, or as none, each beside what must hold
abbrev pub dots_faults : List ℕ → List (NameFault × Bool)
dots_faults text = (Empty, not (length text == 0)) ∷ (Dot, not (is_dots text)) ∷ []

-- the faults of a text as a name in their order, each beside what must hold
abbrev pub name_faults : List ℕ → List (NameFault × Bool)
name_faults text =
    (Empty, not (length text == 0))
    ∷ (Dot, not (is_dots text))
    ∷ (Slash, not (has_character 47 text))
    ∷ (Nul, not (has_character 0 text))
    ∷ writing_faults 255 text

pub record IsName (text : List ℕ) : Type 0 where
  pub utf8 : IsUtf8 text
  pub faultless : first_text_fault (name_faults text) ≡ None

-- the spelling of a kept name: where no other one is kept, the text after the compression identifier
abbrev pub kept_spelling : List ℕ → List ℕ → List ℕ
kept_spelling spelled [] = spelled
kept_spelling spelled (byte ∷ bytes) = byte ∷ bytes

-- how a name is kept: its text after the compression identifier 8, and its spelling where this is another one
pub record IsStoredName (spelled other : List ℕ) : Type 0 where
  pub front : spelled ≡ 8 ∷ drop 1 spelled
  pub name : IsName (drop 1 spelled)
  pub spelling : kept_spelling spelled other ≡ compressed (drop 1 spelled)
