use Rattle.std.proofs.Common.{◌≡◌, ℕ, ◌+◌, ◌-◌, ◌*◌, List, ◌∷◌, [], ◌++◌, length, take, drop, sym, ap, subst, ◌∙◌, arith, length-append, length-drop}
use Rattle.std.proofs.lemmas.List.{drop-drop, take_all}
use Rattle.icb.specs.Extents.{AreExtents, IsDescriptorBlock, block_list, descriptors_in}
use Rattle.planning.proofs.Listing.{AreListed, are_left, listed_blocks, listed_push, whole_list}
use Rattle.planning.proofs.places.descriptor_list.Goals as goal

-- what is passed are the last descriptors
rest_is : (all : List ℕ) (n : ℕ) → take (length all - n) (drop n all) ≡ drop n all
rest_is all n = take_all (length all - n) (drop n all) (omega (arith, length-drop n all))

pub write_descriptors-requires-clause-are : goal.write_descriptors-requires-clause-are
write_descriptors-requires-clause-are c =
    let all = c.args.all.now in
    let m = 116 + 125 * c.loop-index.index in
    subst (λ (xs : List ℕ). AreExtents 0 c.bytes_from_block.result xs) (sym (rest_is all (16 * m)))
    (subst (λ (size : ℕ). AreExtents 0 size (drop (16 * m) all)) (sym c.bytes_from_block.ensures.bytes) (are_left c.args.size m all c.requires.are))

pub loop-index-preserved : goal.loop-index-preserved
loop-index-preserved c =
    let all = c.args.all.now in
    let size = c.args.size in
    let next = c.args.next in
    let index = c.loop-index.index in
    let blocks : List (List ℕ) = c.loop-index.blocks.items in
    let block : List ℕ = c.write_descriptors.new.block in
    let n = length blocks in
    let many : n ≡ index = c.loop-index.invariant.long in
    let pushed : c.push.new.self.items ≡ blocks ++ block ∷ [] = c.in_ok-push.ensures.items in
    let left : c.bytes_from_block.result ≡ size - 1_048_576 * 116 - 1_048_576 * (125 * n) = omega (arith, c.bytes_from_block.ensures.bytes, many) in
    let here : next + index ≡ next + n = omega (arith, many) in
    let place : 16 * (116 + 125 * index) ≡ 16 * 116 + 16 * (125 * n) = omega (arith, many) in
    let rest : drop (16 * (116 + 125 * index)) all ≡ drop (16 * (125 * n)) (drop (16 * 116) all) = ap (λ (i : ℕ). drop i all) place ∙ sym (drop-drop (16 * (125 * n)) (16 * 116) all) in
    let is = subst (λ (m : ℕ). IsDescriptorBlock (size - 1_048_576 * 116 - 1_048_576 * (125 * n)) m block) here (subst (λ (m : ℕ). IsDescriptorBlock m (next + index) block) left c.write_descriptors.ensures.is) in
    let list : descriptors_in block ≡ block_list (drop (16 * (125 * n)) (drop (16 * 116) all)) (next + n) =
    c.write_descriptors.ensures.list ∙ (λ i. block_list ((rest_is all (16 * (116 + 125 * index)) ∙ rest) i) (here i)) in
    record {
      long = ap (λ (bs : List (List ℕ)). length bs) pushed ∙ omega (arith, length-append blocks (block ∷ []), many);
      listed = subst (λ (bs : List (List ℕ)). AreListed (size - 1_048_576 * 116) next (drop (16 * 116) all) bs) (sym pushed)
          (listed_push blocks block (size - 1_048_576 * 116) next (drop (16 * 116) all) c.loop-index.invariant.listed is list);
    }

pub returns-clause-have : goal.returns-clause-have
returns-clause-have c = listed_blocks c.loop-index.blocks.items (c.args.size - 1_048_576 * 116) c.args.next (drop (16 * 116) c.args.all.now) c.loop-index.invariant.listed

pub returns-clause-all : goal.returns-clause-all
returns-clause-all c =
    whole_list c.args.size c.args.next c.args.all.now c.loop-index.blocks.items c.requires.long c.requires.many
    (omega (arith, c.loop-index.invariant.long, c.loop-index.auto, c.loop-index-test.false, c.descriptor_blocks-count.ensures.count)) c.loop-index.invariant.listed
