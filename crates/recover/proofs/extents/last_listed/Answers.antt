use Rattle.std.proofs.Common.{◌≡◌, ℕ, ◌+◌, ◌-◌, ◌*◌, ◌<◌, ◌≤◌, IsTrue, inl, List, Option, Some, None, length, take, refl, sym, ap, subst, ◌∙◌, arith}
use Rattle.std.specs.Prelude.{IfSome, slice_get}
use Rattle.std.proofs.lemmas.Bool.{false≢true}
use Rattle.std.proofs.lemmas.Result.{err_from_is_err_and}
use Rattle.limits.specs.declared.TheConstants.{BLOCK_BYTES, ENTRY_DESCRIPTORS, PARTITION_START}
use Rattle.drive.specs.Journal.{Event, held, next_of}
use Rattle.drive.proofs.Reading.{reads_none, reads_then}
use Rattle.icb.specs.Extents.{descriptor_blocks, next_number}
use Rattle.udf.specs.Udf.{all_firsts}
use Rattle.recover.specs.declared.directory.Extent.{Extent}
use Rattle.recover.specs.Extents.{EndsLast}
use Rattle.recover.specs.Walk.{blocks_extent, last_of}
use Rattle.recover.proofs.Held.{length-held}
use Rattle.recover.proofs.LastExtent.{FitsExtent, extent_at, last_keeps}
use Rattle.recover.proofs.Listed.{all_fit, are_all, are_more, are_none, blocks_end, blocks_fit, bytes_from, extent_is, first_fit, last_all, last_from, last_none_left, last_on, none_last, none_listed, part_within, read_refused, same_count, too_far}
use Rattle.recover.proofs.extents.last_listed.Goals as goal

-- ---- all descriptors are in the entry

pub returns-then-count-eq0-clause-listed : goal.returns-then-count-eq0-clause-listed
returns-then-count-eq0-clause-listed g c = λ h. none_listed _ c.args.size c.args.descriptors.now (omega (arith, c.descriptor_blocks-count.ensures.count, c.if-count-eq0.true))

pub returns-then-count-eq0-clause-last : goal.returns-then-count-eq0-clause-last
returns-then-count-eq0-clause-last g c = λ h. c.last_extent.ensures ∙ none_last _ c.args.size c.args.descriptors.now (omega (arith, c.descriptor_blocks-count.ensures.count, c.if-count-eq0.true))

pub returns-then-count-eq0-clause-fits : goal.returns-then-count-eq0-clause-fits
returns-then-count-eq0-clause-fits g c =
    let size = c.args.size in
    let descriptors = c.args.descriptors.now in
    subst (λ (o : Option Extent). IfSome o FitsExtent) (sym c.last_extent.ensures)
    (last_keeps FitsExtent None size (all_firsts descriptors) tt (all_fit size descriptors c.requires.long c.requires.are (omega (arith, c.descriptor_blocks-count.ensures.count, c.if-count-eq0.true))))

-- ---- the blocks do not end below

pub returns-then-not-lies_below-clause-refused : goal.returns-then-not-lies_below-clause-refused
returns-then-not-lies_below-clause-refused g c = rw c.damaged.ensures (λ h.
    let count = c.descriptor_blocks-count.ensures.count in
    let some : 0 < descriptor_blocks c.args.size = omega (arith, count, c.if-count-eq0.false) in (
      inl refl,
      too_far (held (g.D.Drive.journal c.args.drive.now)) c.args.below c.args.entry_at c.args.size c.args.descriptors.now some
          (λ ends. false≢true (sym c.if-not-lies_below.true ∙ c.lies_below.ensures.1 (omega (arith, ends, count, c.next_number.ensures)))),
    ))

-- ---- the loop

pub last_extent-last-requires-clause-long : goal.last_extent-last-requires-clause-long
last_extent-last-requires-clause-long g c =
    let some : 0 < descriptor_blocks c.args.size = omega (arith, c.descriptor_blocks-count.ensures.count, c.if-count-eq0.false) in
    (ENTRY_DESCRIPTORS - 1, omega (arith, c.split_at.ensures.front_len), omega (arith, some))

pub loop-index-init : goal.loop-index-init
loop-index-init g c =
    let size = c.args.size in
    let descriptors = c.args.descriptors.now in
    let J : List Event = g.D.Drive.journal c.args.drive.now in
    let some : 0 < descriptor_blocks size = omega (arith, c.descriptor_blocks-count.ensures.count, c.if-count-eq0.false) in
    let whole : length descriptors ≡ 16 * ENTRY_DESCRIPTORS = omega (arith, c.requires.long, some) in
    let ends = c.lies_below.ensures.0 c.if-not-lies_below.false in
    let here = take (16 * (ENTRY_DESCRIPTORS - 1)) descriptors in
    let blocks : ◌≡◌ {A = Option Extent} (Some (record { first = c.next_number.result; size = c.descriptor_blocks-count.result * BLOCK_BYTES })) (blocks_extent size descriptors) =
    ap (λ (n : ℕ). Some (extent_at n (c.descriptor_blocks-count.result * BLOCK_BYTES))) c.next_number.ensures
    ∙ ap (λ (n : ℕ). Some (extent_at (next_number descriptors) n)) (let e : c.descriptor_blocks-count.result * BLOCK_BYTES ≡ BLOCK_BYTES * descriptor_blocks size = omega (arith, c.descriptor_blocks-count.ensures.count) in e)
    ∙ sym (extent_is (held J) size descriptors some) in
    let last : c.last_extent-last.result ≡ last_of (blocks_extent size descriptors) size (all_firsts here) =
    c.last_extent-last.ensures
    ∙ ap (λ (o : Option Extent). last_of o size (all_firsts c.split_at.result.0.now)) blocks
    ∙ ap (λ (ds : List ℕ). last_of (blocks_extent size descriptors) size (all_firsts ds)) c.split_at.ensures.front in
    record {
      are = λ h are. are;
      ends = λ h.
          ap (λ (o : Option Extent). last_from (held J) size descriptors o 0) last
          ∙ last_all (held J) size descriptors (blocks_extent size descriptors) whole some
          (omega (arith, ends, c.next_number.ensures, c.descriptor_blocks-count.ensures.count, c.requires.below, length-held J));
      fits =
          subst (λ (o : Option Extent). IfSome o FitsExtent) (sym last)
          (last_keeps FitsExtent (blocks_extent size descriptors) size (all_firsts here) (blocks_fit size descriptors c.requires.long c.requires.are) (first_fit size descriptors c.requires.long c.requires.are some));
      reads = reads_none g.D.Drive c.args.drive.now;
    }

pub last_in_block-requires-clause-number : goal.last_in_block-requires-clause-number
last_in_block-requires-clause-number g c =
    let some : 0 < descriptor_blocks c.args.size = omega (arith, c.descriptor_blocks-count.ensures.count, c.if-count-eq0.false) in
    omega (arith, blocks_end c.args.size c.args.descriptors.now c.requires.long c.requires.are some, c.next_number.ensures, c.descriptor_blocks-count.ensures.count, c.loop-index-test.true)

pub last_in_block-requires-clause-within : goal.last_in_block-requires-clause-within
last_in_block-requires-clause-within g c =
    let ends = c.lies_below.ensures.0 c.if-not-lies_below.false in
    let same = ap next_of c.loop-index.invariant.reads.journal in
    omega (arith, ends, same, c.loop-index-test.true, c.requires.below)

pub returns-in_err-last-clause-refused : goal.returns-in_err-last-clause-refused
returns-in_err-last-clause-refused g c =
    let q = err_from_is_err_and c.from_residual.result c.from_residual.ensures.1 in
    let size = c.args.size in
    let i = c.loop-index.index in
    rw (q.1, q.2) (λ h.
    read_refused (held (g.D.Drive.journal c.args.drive.now)) c.args.below c.args.entry_at size c.args.descriptors.now i (omega (arith, c.loop-index-test.true, c.descriptor_blocks-count.ensures.count))
    (held (g.D.Drive.journal c.loop-index.drive)) c.next_number.result c.bytes_from_block-left.result (ap held c.loop-index.invariant.reads.journal) c.next_number.ensures c.bytes_from_block-left.ensures.bytes _ (c.in_err-last.ensures.refused h))

pub loop-index-preserved : goal.loop-index-preserved
loop-index-preserved g c =
    let size = c.args.size in
    let descriptors = c.args.descriptors.now in
    let J : List Event = g.D.Drive.journal c.args.drive.now in
    let i = c.loop-index.index in
    let lt : i < descriptor_blocks size = omega (arith, c.loop-index-test.true, c.descriptor_blocks-count.ensures.count) in
    let ends = c.lies_below.ensures.0 c.if-not-lies_below.false in
    let read : IsTrue (g.D.Drive.honest c.last_in_block.new.drive) → EndsLast (held J) (next_number descriptors + i) (bytes_from size i) c.loop-index.last c.in_ok-last.last = λ h.
    subst (λ (K : List Event). EndsLast (held K) (next_number descriptors + i) (bytes_from size i) c.loop-index.last c.in_ok-last.last) c.loop-index.invariant.reads.journal
    (subst (λ (n : ℕ). EndsLast (held (g.D.Drive.journal c.loop-index.drive)) (n + i) (bytes_from size i) c.loop-index.last c.in_ok-last.last) c.next_number.ensures
    (subst (λ (n : ℕ). EndsLast (held (g.D.Drive.journal c.loop-index.drive)) (c.next_number.result + i) n c.loop-index.last c.in_ok-last.last) c.bytes_from_block-left.ensures.bytes (c.in_ok-last.ensures.ends h))) in
    let there : (h : IsTrue (g.D.Drive.honest c.last_in_block.new.drive)) → slice_get (held J) (next_number descriptors + PARTITION_START + i) ≡ Some (read h).block = λ h.
    subst (λ (n : ℕ). slice_get (held J) n ≡ Some (read h).block) (let e : next_number descriptors + i + PARTITION_START ≡ next_number descriptors + PARTITION_START + i = omega arith in e) (read h).there in
    record {
      are = λ h from. c.loop-index.invariant.are (c.in_ok-last.ensures.reads.honest h) (are_more (held J) size descriptors i lt (read h).block (there h) (read h).is from);
      ends = λ h.
          last_on (held J) size descriptors i lt (read h).block (there h) (read h).is c.loop-index.last c.in_ok-last.last
          (omega (arith, ends, c.next_number.ensures, c.descriptor_blocks-count.ensures.count, c.requires.below, length-held J)) (read h).ends
          ∙ c.loop-index.invariant.ends (c.in_ok-last.ensures.reads.honest h);
      fits = c.in_ok-last.ensures.fits;
      reads = reads_then c.loop-index.invariant.reads c.in_ok-last.ensures.reads;
    }

pub returns-clause-listed : goal.returns-clause-listed
returns-clause-listed g c = λ h.
    let size = c.args.size in
    let descriptors = c.args.descriptors.now in
    let J : List Event = g.D.Drive.journal c.args.drive.now in
    let count = same_count size in
    let ends = c.lies_below.ensures.0 c.if-not-lies_below.false in
    let done : descriptor_blocks size ≤ c.loop-index.index = omega (arith, c.loop-index-test.false, c.descriptor_blocks-count.ensures.count) in
    record {
      there = part_within _ _ (held J) (omega (arith, ends, count, c.next_number.ensures, c.descriptor_blocks-count.ensures.count, c.requires.below, length-held J));
      are = are_all (held J) size descriptors (c.loop-index.invariant.are h (are_none (held J) size descriptors c.loop-index.index done));
    }

pub returns-clause-last : goal.returns-clause-last
returns-clause-last g c = λ h.
    let done : descriptor_blocks c.args.size ≤ c.loop-index.index = omega (arith, c.loop-index-test.false, c.descriptor_blocks-count.ensures.count) in
    sym (last_none_left (held (g.D.Drive.journal c.args.drive.now)) c.args.size c.args.descriptors.now c.loop-index.last c.loop-index.index done) ∙ c.loop-index.invariant.ends h
