use Rattle.std.proofs.Common.{◌≡◌, ℕ, ◌+◌, ◌-◌, ◌*◌, ◌/◌, Some, drop, length, sym, ap, ◌∙◌, arith}
use Rattle.limits.specs.declared.TheConstants.{FILE_BYTES}
use Rattle.ecma.specs.Numbers.{u32_at}
use Rattle.icb.specs.Extents.{extent_size}
use Rattle.udf.specs.Udf.{firsts_in}
use Rattle.recover.specs.declared.directory.Extent.{Extent}
use Rattle.recover.specs.Walk.{last_of, later_of}
use Rattle.recover.proofs.LastExtent.{extent_at, last_more, last_none}
use Rattle.recover.proofs.extents.last_extent.Goals as goal

pub loop-index-init : goal.loop-index-init
loop-index-init c =
    let descriptors = c.args.descriptors.now in
    let count = length descriptors / 16 in
    ap (λ (n : ℕ). last_of c.args.last n (firsts_in (count - 0) descriptors)) (let e : c.args.size - 0 ≡ c.args.size = omega arith in e)
    ∙ ap (λ (n : ℕ). last_of c.args.last c.args.size (firsts_in n descriptors)) (let e : count - 0 ≡ count = omega arith in e)

pub loop-index-preserved : goal.loop-index-preserved
loop-index-preserved c =
    let size = c.args.size in
    let descriptors = c.args.descriptors.now in
    let count = length descriptors / 16 in
    let k = c.loop-index.index in
    let later : c.later.result ≡ later_of c.loop-index.last (extent_at (u32_at (16 * k + 4) descriptors) (extent_size size k)) =
    c.later.ensures ∙ ap (λ (n : ℕ). later_of c.loop-index.last (extent_at n c.extent_size.result)) c.extent_first.ensures
    ∙ ap (λ (n : ℕ). later_of c.loop-index.last (extent_at (u32_at (16 * k + 4) descriptors) n)) c.extent_size.ensures.size in
    ap (λ (e : Extent). last_of (Some e) (size - FILE_BYTES * (k + 1)) (firsts_in (count - (k + 1)) (drop (16 * (k + 1)) descriptors))) later
    ∙ sym (last_more c.loop-index.last size count k descriptors (omega (arith, c.loop-index-test.true)))
    ∙ c.loop-index.invariant

pub returns : goal.returns
returns c =
    let size = c.args.size in
    let descriptors = c.args.descriptors.now in
    let k = c.loop-index.index in
    sym (last_none c.loop-index.last (size - FILE_BYTES * k) (length descriptors / 16) k descriptors (omega (arith, c.loop-index-test.false)))
    ∙ c.loop-index.invariant
