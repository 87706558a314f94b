-- The words of each command of `udfburn`.
use Rattle.std.specs.Prelude.{◌≡◌, ℕ, ◌≤◌, ◌<◌, List, [], ◌∷◌, ◌++◌, codes}
use Rattle.limits.specs.declared.TheConstants.{LEAST_CAPACITY, GREATEST_CAPACITY, MOMENT_LIMIT}
use Rattle.command_line.specs.Number.{IsNumeralOf}
use Rattle.command_line.specs.declared.command.Command.{Command}
use Rattle.command_line.specs.declared.command.Command.TheVariants.{Format, Apply, List as Listing, Get, Log, Check, Send}
use Rattle.command_line.specs.declared.command.Storage.{Storage}
use Rattle.command_line.specs.declared.command.Storage.TheVariants.{Image, Memory}

-- a capacity that a volume may have, in blocks
abbrev pub IsCapacity : ℕ → Type 0
IsCapacity n = (LEAST_CAPACITY ≤ n) × (n ≤ GREATEST_CAPACITY)

-- `IMAGE`, or `mem:` and a capacity
abbrev pub NamesStorage : List ℕ → Storage → Type 0
NamesStorage word (Image path) = (word ≡ path.now) × ((rest : List ℕ) → word ≡ codes "mem:" ++ rest → ⊥)
NamesStorage word (Memory capacity) = (digits : List ℕ) × (word ≡ codes "mem:" ++ digits) × IsNumeralOf digits capacity × IsCapacity capacity

-- what comes after `apply`
abbrev pub AsksApply : List (List ℕ) → Command → Type 0
AsksApply words (Format image label moment capacity) = ⊥
AsksApply words (Apply medium) = (word : List ℕ) × (words ≡ word ∷ []) × NamesStorage word medium
AsksApply words (Listing image path) = ⊥
AsksApply words (Get image path) = ⊥
AsksApply words (Log image) = ⊥
AsksApply words (Check image) = ⊥
AsksApply words (Send socket) = ⊥

-- what comes after `format`
abbrev pub AsksFormat : List (List ℕ) → Command → Type 0
AsksFormat words (Format image label moment capacity) = (first second : List ℕ) × (words ≡ image.now ∷ label.now ∷ first ∷ second ∷ [])
    × IsNumeralOf first moment × (moment < MOMENT_LIMIT) × IsNumeralOf second capacity × IsCapacity capacity
AsksFormat words (Apply medium) = ⊥
AsksFormat words (Listing image path) = ⊥
AsksFormat words (Get image path) = ⊥
AsksFormat words (Log image) = ⊥
AsksFormat words (Check image) = ⊥
AsksFormat words (Send socket) = ⊥

-- the words, by position
abbrev pub Asks : List (List ℕ) → Command → Type 0
Asks words (Format image label moment capacity) = (rest : List (List ℕ)) × (words ≡ codes "format" ∷ rest) × AsksFormat rest (Format image label moment capacity)
Asks words (Apply medium) = (rest : List (List ℕ)) × (words ≡ codes "apply" ∷ rest) × AsksApply rest (Apply medium)
Asks words (Listing image path) = words ≡ codes "ls" ∷ image.now ∷ path.now ∷ []
Asks words (Get image path) = words ≡ codes "get" ∷ image.now ∷ path.now ∷ []
Asks words (Log image) = words ≡ codes "log" ∷ image.now ∷ []
Asks words (Check image) = words ≡ codes "check" ∷ image.now ∷ []
Asks words (Send socket) = words ≡ codes "send" ∷ socket.now ∷ []
