use Rattle.std.proofs.Common.{◌≡◌, ℕ, List, take, drop, sym, subst, ◌∙◌}
use Rattle.std.proofs.lemmas.Bool.{both_ways}
use Rattle.std.proofs.lemmas.Slice.Eq.{bytes_eq-Decides}
use Rattle.ecma.proofs.Timestamps.{one_moment}
use Rattle.icb.specs.declared.set.FileSet.{FileSet}
use Rattle.icb.specs.FileSet.{HasFileSetFields}
use Rattle.icb.proofs.FileSets.{fields_stand, label_stands, moment_stands, no_some, same_spelled, some_same}
use Rattle.icb.proofs.set.set_at.Goals as goal

pub returns-in_default-clause-none : goal.returns-in_default-clause-none
returns-in_default-clause-none c = λ set has. no_some set.label (c.in_default.ensures.only set.label (label_stands set c.args.block.now has))

pub returns-in_default-read-clause-none : goal.returns-in_default-read-clause-none
returns-in_default-read-clause-none c = λ set has. c.in_default-read.ensures.none set.moment (moment_stands set c.args.block.now c.set_stamp.result c.set_stamp.ensures has)

pub returns-then-eq-clause-some : goal.returns-then-eq-clause-some
returns-then-eq-clause-some c =
    let made : FileSet = record { label = c.in-Some.label; moment = c.in-Some-read.moment } in
    let is = c.encode_fsd-again.ensures in
    let same : take 496 (drop 16 c.encode_fsd-again.result) ≡ take 496 (drop 16 c.args.block.now) = (bytes_eq-Decides _ _).0 (sym c.eq.ensures ∙ c.if-eq.true) in
    subst (λ (x : List ℕ). HasFileSetFields made x) (sym (fields_stand made c.encode_fsd-again.result is) ∙ same) is.has

pub returns-else-eq-clause-none : goal.returns-else-eq-clause-none
returns-else-eq-clause-none c = λ set has.
    let block = c.args.block.now in
    let made : FileSet = record { label = c.in-Some.label; moment = c.in-Some-read.moment } in
    let is = c.encode_fsd-again.ensures in
    let label = some_same c.in-Some.label set.label (c.in-Some.ensures.only set.label (label_stands set block has)) in
    let moment = one_moment c.in-Some-read.moment set.moment c.set_stamp.result c.in-Some-read.ensures.some (moment_stands set block c.set_stamp.result c.set_stamp.ensures has) in
    let same : take 496 (drop 16 c.encode_fsd-again.result) ≡ take 496 (drop 16 block) =
    fields_stand made c.encode_fsd-again.result is ∙ same_spelled made set is.fields (take 496 (drop 16 block)) label moment is.has has in
    both_ways _ c.if-eq.false (c.eq.ensures ∙ (bytes_eq-Decides _ _).1 same)
