-- dstrings: a spelling in a field of fixed length (ECMA-167 1/7.2.12).
use Rattle.std.specs.Prelude.{◌≡◌, ℕ, ◌-◌, ◌<◌, ◌==◌, nat_le, Bool, List, [], ◌∷◌, ◌++◌, length, take, replicate, slice_index, slice_range, IsTrue}
use Rattle.std.specs.List.{list_all}
use Rattle.std.specs.Str.{IsUtf8}
use Rattle.osta.specs.Compressed.{compressed, is_spellable, spelling_faults}
use Rattle.osta.specs.declared.fault.OstaFault.{OstaFault}
use Rattle.osta.specs.declared.fault.OstaFault.TheVariants.{Count, Tail}

-- a field of n bytes: a spelling, zeros, and how many bytes the spelling has
abbrev pub field_of : ℕ → List ℕ → List ℕ
field_of n bytes = bytes ++ (replicate (n - 1 - length bytes) 0 ++ (length bytes ∷ []))

-- the dstring of n bytes of a text
abbrev pub dstring : ℕ → List ℕ → List ℕ
dstring n text = field_of n (compressed text)

-- the bytes are the dstring of the text in a field of n bytes
pub record Dstring (text : List ℕ) (n : ℕ) (bytes : List ℕ) : Type 0 where
  pub utf8 : IsUtf8 text
  pub spellable : IsTrue (is_spellable text)
  pub room : length (compressed text) < n
  pub spelled : bytes ≡ dstring n text

-- how many bytes of a field are said to be the spelling
abbrev pub dstring_count : List ℕ → ℕ
dstring_count bytes = slice_index bytes (length bytes - 1)

-- the bytes of a field that spell its text
abbrev pub dstring_spelling : List ℕ → List ℕ
dstring_spelling bytes = take (dstring_count bytes) bytes

-- the faults of a field as a dstring in their order, each beside what must hold
abbrev pub dstring_faults : List ℕ → List (OstaFault × Bool)
dstring_faults bytes =
    (Count, nat_le (dstring_count bytes) (length bytes - 1))
    ∷ (Tail, list_all (λ b. b == 0) (slice_range bytes (dstring_count bytes) (length bytes - 1)))
    ∷ spelling_faults (dstring_spelling bytes)
