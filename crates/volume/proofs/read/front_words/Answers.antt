use Rattle.std.proofs.Common.{List, ℕ, sym, subst, inl, inr, arith}
use Rattle.std.proofs.lemmas.Bool.{both_ways}
use Rattle.ecma.specs.Timestamp.{IsMoment}
use Rattle.volume.proofs.read.front_words.Goals as goal

pub returns-in_default-read-clause-fault : goal.returns-in_default-read-clause-fault
returns-in_default-read-clause-fault c =
    let tag = c.has_tag.ensures.0 c.if-not-has_tag.false in
    inr (tag, inr ((c.in-Some.label, c.in-Some.ensures.some), inl ((λ m. c.in_default-read.ensures.none m.0 (subst (λ (x : List ℕ). IsMoment m.0 x) (sym c.stamp.ensures) m.1)), c.fault-in_default-read.ensures)))

pub returns-then-not-has_tag-2-clause-fault : goal.returns-then-not-has_tag-2-clause-fault
returns-then-not-has_tag-2-clause-fault c =
    let tag = c.has_tag.ensures.0 c.if-not-has_tag.false in
    let moment = subst (λ (x : List ℕ). IsMoment c.in-Some-read.moment x) c.stamp.ensures c.in-Some-read.ensures.some in
    inr (tag, inr ((c.in-Some.label, c.in-Some.ensures.some), inr ((c.in-Some-read.moment, moment), inl ((λ told. both_ways _ c.if-not-has_tag-2.true (c.has_tag-2.ensures.1 told)), c.fault-then-not-has_tag-2.ensures))))

pub returns-then-not-is_partition_length-clause-fault : goal.returns-then-not-is_partition_length-clause-fault
returns-then-not-is_partition_length-clause-fault c =
    let tag = c.has_tag.ensures.0 c.if-not-has_tag.false in
    let moment = subst (λ (x : List ℕ). IsMoment c.in-Some-read.moment x) c.stamp.ensures c.in-Some-read.ensures.some in
    let other = c.has_tag-2.ensures.0 c.if-not-has_tag-2.false in
    let length = c.u32_at-length.ensures in
    inr (tag, inr ((c.in-Some.label, c.in-Some.ensures.some), inr ((c.in-Some-read.moment, moment), inr (other, inl ((λ range. both_ways _ c.if-not-is_partition_length.true (c.is_partition_length.ensures.1 (omega (arith, length, range.0), omega (arith, length, range.1)))), c.fault-then-not-is_partition_length.ensures)))))

pub returns-clause-reports : goal.returns-clause-reports
returns-clause-reports c =
    let tag = c.has_tag.ensures.0 c.if-not-has_tag.false in
    let moment = subst (λ (x : List ℕ). IsMoment c.in-Some-read.moment x) c.stamp.ensures c.in-Some-read.ensures.some in
    let other = c.has_tag-2.ensures.0 c.if-not-has_tag-2.false in
    let length = c.u32_at-length.ensures in
    let range = c.is_partition_length.ensures.0 c.if-not-is_partition_length.false in
    record {
      rules = (tag, ((c.in-Some.label, c.in-Some.ensures.some), ((c.in-Some-read.moment, moment), (other, ((omega (arith, length, range.0), omega (arith, length, range.1)), tt)))));
      label = c.in-Some.ensures.some;
      moment = moment;
      capacity = omega (arith, length);
    }
