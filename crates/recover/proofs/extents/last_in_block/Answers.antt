use Rattle.std.proofs.Common.{◌≡◌, ℕ, ◌*◌, List, Option, length, take, refl, sym, ap, subst, ◌∙◌, arith}
use Rattle.std.specs.Prelude.{IfSome}
use Rattle.std.proofs.lemmas.Bool.{false≢true}
use Rattle.std.proofs.lemmas.List.{length-take-le}
use Rattle.std.proofs.lemmas.Option.{same_Some}
use Rattle.limits.specs.declared.TheConstants.{BLOCK_DESCRIPTORS}
use Rattle.icb.specs.Extents.{IsDescriptorBlock, listed}
use Rattle.icb.proofs.DescriptorBlocks.{block_long}
use Rattle.icb.proofs.DescriptorParts.{listed_within}
use Rattle.udf.specs.Udf.{all_firsts}
use Rattle.recover.specs.declared.directory.Extent.{Extent}
use Rattle.recover.specs.Walk.{last_of}
use Rattle.recover.proofs.Held.{held_at}
use Rattle.recover.proofs.LastExtent.{FitsExtent, last_keeps}
use Rattle.recover.proofs.Listed.{list_fits, list_of}
use Rattle.recover.proofs.extents.last_in_block.Goals as goal

pub slice_bounds-last_extent-end : goal.slice_bounds-last_extent-end
slice_bounds-last_extent-end g c =
    let long = ap (λ (ds : List ℕ). length ds) c.in-Ok.ensures.descriptors ∙ block_long c.args.size c.args.number c.read_into.new.block c.in-Ok.ensures.found in
    sym (length-take-le (16 * c.listed-count.result) c.in-Ok.descriptors.now (omega (arith, long, listed_within BLOCK_DESCRIPTORS c.args.size, c.listed-count.ensures.listed)))

pub last_extent-requires-clause-long : goal.last_extent-requires-clause-long
last_extent-requires-clause-long g c =
    let long = ap (λ (ds : List ℕ). length ds) c.in-Ok.ensures.descriptors ∙ block_long c.args.size c.args.number c.read_into.new.block c.in-Ok.ensures.found in
    let within = listed_within BLOCK_DESCRIPTORS c.args.size in (
      c.listed-count.result,
      length-take-le (16 * c.listed-count.result) c.in-Ok.descriptors.now (omega (arith, long, within, c.listed-count.ensures.listed)),
      omega (arith, within, c.listed-count.ensures.listed),
    )

pub returns-in-Ok-clause-ends : goal.returns-in-Ok-clause-ends
returns-in-Ok-clause-ends g c = λ h. record {
  block = c.read_into.new.block;
  there = held_at _ _ _ c.requires.within (c.in_ok-read_into.ensures.read h);
  is = c.in-Ok.ensures.found;
  ends =
      c.last_extent.ensures
      ∙ ap (λ (n : ℕ). last_of c.args.last c.args.size (all_firsts (take (16 * n) c.in-Ok.descriptors.now))) c.listed-count.ensures.listed
      ∙ ap (λ (ds : List ℕ). last_of c.args.last c.args.size (all_firsts (take (16 * listed BLOCK_DESCRIPTORS c.args.size) ds))) c.in-Ok.ensures.descriptors;
}

pub returns-in-Ok-clause-fits : goal.returns-in-Ok-clause-fits
returns-in-Ok-clause-fits g c =
    let size = c.args.size in
    let block = c.read_into.new.block in
    let ends : c.last_extent.result ≡ last_of c.args.last size (all_firsts (list_of size block)) =
    c.last_extent.ensures
    ∙ ap (λ (n : ℕ). last_of c.args.last size (all_firsts (take (16 * n) c.in-Ok.descriptors.now))) c.listed-count.ensures.listed
    ∙ ap (λ (ds : List ℕ). last_of c.args.last size (all_firsts (take (16 * listed BLOCK_DESCRIPTORS size) ds))) c.in-Ok.ensures.descriptors in
    subst (λ (o : Option Extent). IfSome o FitsExtent) (sym ends)
    (last_keeps FitsExtent c.args.last size (all_firsts (list_of size block)) c.requires.fits (list_fits size c.args.number block c.in-Ok.ensures.found))

pub returns-in-Err-clause-refused : goal.returns-in-Err-clause-refused
returns-in-Err-clause-refused g c = rw c.damaged.ensures (λ h. (
  refl,
  λ block there is.
      let same = same_Some block c.read_into.new.block (sym there ∙ held_at _ _ _ c.requires.within (c.in_ok-read_into.ensures.read h)) in
      false≢true (c.in-Err.ensures.only (subst (IsDescriptorBlock c.args.size c.args.number) same is)),
))
