use Rattle.dir.specs.Fronts.{IsIdentifierPrefix}
use Rattle.codec_tests.proofs.kept.add_all.Given as goal

abbrev pub invariant-loop-number : goal.invariant-loop-number
invariant-loop-number g l = IsIdentifierPrefix l.identifiers l.dir.entries.entries
