-- The words after a command's name are those of the command.
use Rattle.std.proofs.Common.{◌≡◌, ℕ, List, [], ◌∷◌, Option, Some, None, ap, subst, sym, ◌∙◌, arith, get_or, drop, codes}
use Rattle.std.specs.Prelude.{IfSome, IfNone}
use Rattle.command_line.specs.declared.command.Command.{Command}
use Rattle.command_line.specs.declared.command.Command.TheVariants.{Format, Apply, List as Listing, Get, Log, Check, Send}
use Rattle.command_line.specs.Number.{IsNumeralOf}
use Rattle.command_line.specs.Commands.{Asks, AsksFormat, AsksApply, IsCapacity}

-- the first byte of the first word
abbrev first_byte : List (List ℕ) → ℕ
first_byte words = get_or (get_or words 0 []) 0 0

pub format_found : (words rest : List (List ℕ)) (read : Option Command) → words ≡ codes "format" ∷ rest → IfSome read (AsksFormat rest) → IfSome read (Asks words)
format_found words rest None e h = tt
format_found words rest (Some (Format image label moment capacity)) e h = (rest, e, h)
format_found words rest (Some (Apply medium)) e h = absurd h
format_found words rest (Some (Listing image path)) e h = absurd h
format_found words rest (Some (Get image path)) e h = absurd h
format_found words rest (Some (Log image)) e h = absurd h
format_found words rest (Some (Check image)) e h = absurd h
format_found words rest (Some (Send socket)) e h = absurd h

format_alone : (words rest : List (List ℕ)) (command : Command) → words ≡ codes "format" ∷ rest → Asks words command → AsksFormat rest command
format_alone words rest (Format image label moment capacity) e asks =
    subst (λ (x : List (List ℕ)). AsksFormat x (Format image label moment capacity)) (ap (drop 1) (sym asks.1 ∙ e)) asks.2
format_alone words rest (Apply medium) e asks = let bad : ◌≡◌ {A = ℕ} 97 102 = ap first_byte (sym asks.1 ∙ e) in absurd (omega arith)
format_alone words rest (Listing image path) e asks = let bad : ◌≡◌ {A = ℕ} 108 102 = ap first_byte (sym asks ∙ e) in absurd (omega arith)
format_alone words rest (Get image path) e asks = let bad : ◌≡◌ {A = ℕ} 103 102 = ap first_byte (sym asks ∙ e) in absurd (omega arith)
format_alone words rest (Log image) e asks = let bad : ◌≡◌ {A = ℕ} 108 102 = ap first_byte (sym asks ∙ e) in absurd (omega arith)
format_alone words rest (Check image) e asks = let bad : ◌≡◌ {A = ℕ} 99 102 = ap first_byte (sym asks ∙ e) in absurd (omega arith)
format_alone words rest (Send socket) e asks = let bad : ◌≡◌ {A = ℕ} 115 102 = ap first_byte (sym asks ∙ e) in absurd (omega arith)

pub format_only : (words rest : List (List ℕ)) (read : Option Command) → words ≡ codes "format" ∷ rest
    → IfNone read ((command : Command) → AsksFormat rest command → ⊥) → IfNone read ((command : Command) → Asks words command → ⊥)
format_only words rest None e h = λ command asks. h command (format_alone words rest command e asks)
format_only words rest (Some command) e h = tt

pub apply_found : (words rest : List (List ℕ)) (read : Option Command) → words ≡ codes "apply" ∷ rest → IfSome read (AsksApply rest) → IfSome read (Asks words)
apply_found words rest None e h = tt
apply_found words rest (Some (Format image label moment capacity)) e h = absurd h
apply_found words rest (Some (Apply medium)) e h = (rest, e, h)
apply_found words rest (Some (Listing image path)) e h = absurd h
apply_found words rest (Some (Get image path)) e h = absurd h
apply_found words rest (Some (Log image)) e h = absurd h
apply_found words rest (Some (Check image)) e h = absurd h
apply_found words rest (Some (Send socket)) e h = absurd h

apply_alone : (words rest : List (List ℕ)) (command : Command) → words ≡ codes "apply" ∷ rest → Asks words command → AsksApply rest command
apply_alone words rest (Format image label moment capacity) e asks = let bad : ◌≡◌ {A = ℕ} 102 97 = ap first_byte (sym asks.1 ∙ e) in absurd (omega arith)
apply_alone words rest (Apply medium) e asks = subst (λ (x : List (List ℕ)). AsksApply x (Apply medium)) (ap (drop 1) (sym asks.1 ∙ e)) asks.2
apply_alone words rest (Listing image path) e asks = let bad : ◌≡◌ {A = ℕ} 108 97 = ap first_byte (sym asks ∙ e) in absurd (omega arith)
apply_alone words rest (Get image path) e asks = let bad : ◌≡◌ {A = ℕ} 103 97 = ap first_byte (sym asks ∙ e) in absurd (omega arith)
apply_alone words rest (Log image) e asks = let bad : ◌≡◌ {A = ℕ} 108 97 = ap first_byte (sym asks ∙ e) in absurd (omega arith)
apply_alone words rest (Check image) e asks = let bad : ◌≡◌ {A = ℕ} 99 97 = ap first_byte (sym asks ∙ e) in absurd (omega arith)
apply_alone words rest (Send socket) e asks = let bad : ◌≡◌ {A = ℕ} 115 97 = ap first_byte (sym asks ∙ e) in absurd (omega arith)

pub apply_only : (words rest : List (List ℕ)) (read : Option Command) → words ≡ codes "apply" ∷ rest
    → IfNone read ((command : Command) → AsksApply rest command → ⊥) → IfNone read ((command : Command) → Asks words command → ⊥)
apply_only words rest None e h = λ command asks. h command (apply_alone words rest command e asks)
apply_only words rest (Some command) e h = tt

-- a capacity that can not be read is none of a format
pub no_format : (words : List (List ℕ)) (word : List ℕ) (read : Option Command) → get_or words 3 [] ≡ word
    → ((n : ℕ) → IsNumeralOf word n → IsCapacity n → ⊥) → IfNone read ((command : Command) → AsksFormat words command → ⊥)
no_format words word (Some command) e h = tt
no_format words word None e h = λ command asks. unread command asks
  where
    unread : (command : Command) → AsksFormat words command → ⊥
    unread (Format image label moment capacity) asks =
        let second : word ≡ asks.1 = sym e ∙ ap (λ (l : List (List ℕ)). get_or l 3 []) asks.2 in
        h capacity (subst (λ (x : List ℕ). IsNumeralOf x capacity) (sym second) asks.5) asks.6
    unread (Apply medium) asks = asks
    unread (Listing image path) asks = asks
    unread (Get image path) asks = asks
    unread (Log image) asks = asks
    unread (Check image) asks = asks
    unread (Send socket) asks = asks
