use Rattle.std.proofs.Common.{ℕ, List, ◌++◌, sym, ap, ◌∙◌}
use Rattle.osta.specs.Compressed.{compressed}
use Rattle.osta.proofs.Names.{kept_other}
use Rattle.osta.proofs.name.Name.read.Goals as goal

pub of_ascii-requires-clause-name : goal.of_ascii-requires-clause-name
of_ascii-requires-clause-name c = record { utf8 = c.utf8.text; faultless = sym c.in_ok-check.ensures }

pub invariant_of-result : goal.invariant_of-result
invariant_of-result c =
    kept_other c.args.text.now _ _ (record { utf8 = c.utf8.text; faultless = sym c.in_ok-check.ensures }) c.in_ok-spelled.ensures
    (c.in_ok-compress.ensures.ok ∙ ap (λ (t : List ℕ). t ++ compressed c.args.text.now) c.new-other.ensures.items)
