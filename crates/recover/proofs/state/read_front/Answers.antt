use Rattle.std.proofs.Common.{◌≡◌, ◌<◌, ◌≤◌, List, refl, sym, subst, length, arith}
use Rattle.std.proofs.lemmas.Option.{none-some}
use Rattle.std.proofs.lemmas.Result.{err_from_is_err_and}
use Rattle.limits.specs.declared.TheConstants.{PARTITION_START}
use Rattle.drive.specs.Journal.{Event, held, next_of}
use Rattle.drive.proofs.Reading.{reads_then}
use Rattle.recover.proofs.Fronts.{BeginsFront, more_front, no_block, no_front, no_words, whole_front}
use Rattle.recover.proofs.Held.{held_at, length-held}
use Rattle.recover.proofs.state.read_front.Goals as goal

pub loop-n-init : goal.loop-n-init
loop-n-init g c = record {
  seen = λ h. no_front _ _ _ _;
  words = λ h. (
    c.in_ok-primary.primary,
    c.in_ok-partition.partition,
    c.in_ok-primary.ensures.read (c.read_block-2.ensures.reads.honest h),
    rw c.read_block.ensures.reads.journal at (c.in_ok-partition.ensures.read h),
    c.in-Ok.ensures.reports,
  );
  reads = reads_then c.in_ok-primary.ensures.reads c.in_ok-partition.ensures.reads;
}

pub loop-n-preserved : goal.loop-n-preserved
loop-n-preserved g c = record {
  seen = λ h.
      let there = rw (c.loop-n.invariant.reads.journal) at (c.in_ok-block.ensures.read h) in
      let below : c.loop-n.n < next_of (g.D.Drive.journal c.args.drive.now) = omega arith in
      more_front _ _ _ _ _ _ (held_at _ _ _ below there) (c.in-None.ensures.none) (c.loop-n.invariant.seen (c.read_block-in-loop-n.ensures.reads.honest h));
  words = λ h. c.loop-n.invariant.words (c.read_block-in-loop-n.ensures.reads.honest h);
  reads = reads_then c.loop-n.invariant.reads c.in_ok-block.ensures.reads;
}

pub returns-clause-front : goal.returns-clause-front
returns-clause-front g c = λ h.
    let long : PARTITION_START ≤ length (held (g.D.Drive.journal c.args.drive.now)) = omega (arith, length-held (g.D.Drive.journal c.args.drive.now)) in
    let all : c.loop-n.n ≡ PARTITION_START = omega arith in
    whole_front _ _ _ _ c.in-Ok.ensures.capacity.0 c.in-Ok.ensures.capacity.1 long
    (subst (λ n. BeginsFront c.in-Ok.front.label c.in-Ok.front.moment c.in-Ok.front.capacity n (held (g.D.Drive.journal c.args.drive.now))) all (c.loop-n.invariant.seen h))

pub returns-in-Err-Field-clause-refused : goal.returns-in-Err-Field-clause-refused
returns-in-Err-Field-clause-refused g c = rw c.damaged.ensures (λ h. (
  refl,
  λ label moment capacity.
      let J : List Event = g.D.Drive.journal c.args.drive.now in
      let first : 32 < next_of J = omega (arith, c.requires.within) in
      let second : 34 < next_of J = omega (arith, c.requires.within) in
      no_words label moment capacity (held J) c.in_ok-primary.primary c.in_ok-partition.partition _ (held_at J 32 _ first (c.in_ok-primary.ensures.read (c.read_block-2.ensures.reads.honest h)))
      (held_at J 34 _ second (rw c.read_block.ensures.reads.journal at (c.in_ok-partition.ensures.read h))) c.in-Err-Field.ensures.fault,
))

pub returns-in-Some-clause-refused : goal.returns-in-Some-clause-refused
returns-in-Some-clause-refused g c = rw c.damaged-in-Some.ensures (λ h. (
  refl,
  λ label moment capacity.
      let J : List Event = g.D.Drive.journal c.args.drive.now in
      let first : 32 < next_of J = omega (arith, c.requires.within) in
      let second : 34 < next_of J = omega (arith, c.requires.within) in
      let here : c.loop-n.n < next_of J = omega (arith, c.requires.within, c.loop-n-test.true) in
      let inside : c.loop-n.n < PARTITION_START = omega (arith, c.loop-n-test.true) in
      let words = c.loop-n.invariant.words (c.read_block-in-loop-n.ensures.reads.honest h) in
      no_block label moment capacity (held J) c.in-Ok.front words.0 words.1 c.loop-n.n c.in_ok-block.block (held_at J 32 _ first words.2) (held_at J 34 _ second words.3)
      words.4 inside (held_at J c.loop-n.n _ here (rw c.loop-n.invariant.reads.journal at (c.in_ok-block.ensures.read h)))
      (λ is. none-some c.in-Some.field-0 (sym (c.in-Some.ensures.only is))),
))

pub returns-in_err-partition-clause-reads : goal.returns-in_err-partition-clause-reads
returns-in_err-partition-clause-reads g c =
    let q = err_from_is_err_and c.from_residual-in_err-partition.result c.from_residual-in_err-partition.ensures.1 in
    rw (q.1, q.2) (reads_then c.in_ok-primary.ensures.reads c.in_err-partition.ensures.reads)

pub returns-in-Err-Field-clause-reads : goal.returns-in-Err-Field-clause-reads
returns-in-Err-Field-clause-reads g c = rw c.damaged.ensures (reads_then c.in_ok-primary.ensures.reads c.in_ok-partition.ensures.reads)

pub returns-in_err-block-clause-reads : goal.returns-in_err-block-clause-reads
returns-in_err-block-clause-reads g c =
    let q = err_from_is_err_and c.from_residual-in_err-block.result c.from_residual-in_err-block.ensures.1 in
    rw (q.1, q.2) (reads_then c.loop-n.invariant.reads c.in_err-block.ensures.reads)

pub returns-in-Some-clause-reads : goal.returns-in-Some-clause-reads
returns-in-Some-clause-reads g c = rw c.damaged-in-Some.ensures (reads_then c.loop-n.invariant.reads c.in_ok-block.ensures.reads)

pub first_difference-requires-clause-low : goal.first_difference-requires-clause-low
first_difference-requires-clause-low g c = c.in-Ok.ensures.capacity.0

pub first_difference-requires-clause-high : goal.first_difference-requires-clause-high
first_difference-requires-clause-high g c = c.in-Ok.ensures.capacity.1

pub returns-clause-limits : goal.returns-clause-limits
returns-clause-limits g c = c.in-Ok.ensures.capacity
