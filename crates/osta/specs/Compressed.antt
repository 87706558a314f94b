-- Compressed Unicode (UDF 2.01 2.1.1): how a text is spelled on the medium, and what bytes spell.
use Rattle.std.specs.Prelude.{◌≡◌, ℕ, ◌+◌, ◌*◌, ◌/◌, ◌%◌, Bool, not, ◌&&◌, ◌||◌, ◌==◌, nat_lt, nat_le, List, [], ◌∷◌, length, IsTrue, encode_utf8_all, if◌then◌else◌}
use Rattle.std.specs.List.{list_all, flat_map}
use Rattle.std.specs.Str.{chars, IsUtf8}
use lib.Utf8.{scalar}
use Rattle.osta.specs.declared.fault.NameFault.{NameFault}
use Rattle.osta.specs.declared.fault.NameFault.TheVariants.{Wide, Long}
use Rattle.osta.specs.declared.fault.OstaFault.{OstaFault}
use Rattle.osta.specs.declared.fault.OstaFault.TheVariants.{CompId, Odd, NotShortest, Surrogate}

-- a character of 16 bits that is no byte order mark, read either way
abbrev pub has_spelling : ℕ → Bool
has_spelling c = nat_lt c 0x1_0000 && (not (c == 0xFEFF) && not (c == 0xFFFE))

-- a character that fits one byte
abbrev pub is_narrow : ℕ → Bool
is_narrow c = nat_lt c 0x100

-- a character of 16 bits, its high byte first
abbrev pub two_bytes : ℕ → List ℕ
two_bytes c = c / 256 ∷ c % 256 ∷ []

-- the bytes for characters: none for none; 8 and a byte each, where each fits one; else 16 and two bytes each
abbrev pub compressed_unicode : List ℕ → List ℕ
compressed_unicode [] = []
compressed_unicode (c ∷ cs) = if list_all is_narrow (c ∷ cs) then 8 ∷ c ∷ cs else 16 ∷ flat_map two_bytes (c ∷ cs)

-- the same for a text, which is seen as its bytes in UTF-8
abbrev pub compressed : List ℕ → List ℕ
compressed text = compressed_unicode (chars text)

-- each character of the text has a spelling
abbrev pub is_spellable : List ℕ → Bool
is_spellable text = list_all has_spelling (chars text)

-- the faults of a text that is to be written into so many bytes
abbrev pub writing_faults : ℕ → List ℕ → List (NameFault × Bool)
writing_faults room text =
    (Wide, is_spellable text)
    ∷ (Long, nat_le (length (compressed text)) room)
    ∷ []

-- the bytes are the spelling of the text
pub record Named (text bytes : List ℕ) : Type 0 where
  pub utf8 : IsUtf8 text
  pub spellable : IsTrue (is_spellable text)
  pub spelled : bytes ≡ compressed text

-- the numbers of two bytes each, the high byte first
abbrev pub units : List ℕ → List ℕ
units [] = []
units (high ∷ []) = []
units (high ∷ low ∷ rest) = (high * 256 + low) ∷ units rest

-- a number that is a character with a spelling, and so no surrogate
abbrev pub is_unit : ℕ → Bool
is_unit c = scalar c && has_spelling c

-- the character of a number of 16 bits: the replacement character for a surrogate, which is none
unfoldable pub unit_character : ℕ → ℕ
unit_character c = if scalar c then c else 0xFFFD

-- the characters that bytes spell
abbrev pub characters : List ℕ → List ℕ
characters [] = []
characters (id ∷ rest) = if id == 8 then rest else units rest

-- the text that bytes spell
abbrev pub expanded : List ℕ → List ℕ
expanded bytes = encode_utf8_all (characters bytes)

-- the faults of the bytes after a compression identifier in their order, each beside what must hold
abbrev pub narrow_faults : List ℕ → List (OstaFault × Bool)
narrow_faults rest = (NotShortest, not (length rest == 0)) ∷ []

abbrev pub wide_faults : List ℕ → List (OstaFault × Bool)
wide_faults rest =
    (Odd, length rest % 2 == 0)
    ∷ (NotShortest, not (list_all is_narrow (units rest)))
    ∷ (Surrogate, list_all is_unit (units rest))
    ∷ []

-- the faults of bytes as a spelling
abbrev pub spelling_faults : List ℕ → List (OstaFault × Bool)
spelling_faults [] = []
spelling_faults (id ∷ rest) = (CompId, id == 8 || id == 16) ∷ (if id == 8 then narrow_faults rest else wide_faults rest)
