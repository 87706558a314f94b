-- The numbers that words say.
use Rattle.std.specs.Prelude.{◌≡◌, ℕ, List}
use Rattle.std.specs.Str.Parse.{IsNumeral, digits_value}

-- the word is decimal digits alone, and they write this number
abbrev pub IsNumeralOf : List ℕ → ℕ → Type 0
IsNumeralOf word number = IsNumeral 10 word × (digits_value 10 word ≡ number)
