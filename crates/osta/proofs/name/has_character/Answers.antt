use Rattle.std.proofs.Common.{ℕ, ◌==◌, List, ap, ◌∙◌}
use Rattle.std.specs.List.{list_any}
use Rattle.osta.proofs.Ascii.{ascii_character}
use Rattle.osta.proofs.name.has_character.Goals as goal

pub returns-then-is_ascii : goal.returns-then-is_ascii
returns-then-is_ascii c =
    c.has_byte.ensures
    ∙ (ap (λ (xs : List ℕ). list_any (λ b. b == c.args.wanted) xs) c.as_bytes.ensures.value
    ∙ ascii_character c.args.wanted c.args.text.now c.if-is_ascii.ensures.cases)
