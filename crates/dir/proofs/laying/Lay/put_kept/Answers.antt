use Rattle.std.proofs.Common.{◌≡◌, ℕ, ◌+◌, ◌-◌, List, [], ◌++◌, min, length, take, drop, sym, ap, ◌∙◌, arith}
use Rattle.std.specs.Prelude.{slice_get}
use Rattle.std.proofs.lemmas.List.{append-nil, drop-drop, drop_all, length-drop, take_all}
use borrow.Rule.Slice.PartMut.{put_mid}
use Rattle.dir.specs.Directory.{identifiers_of}
use Rattle.dir.specs.Identifier.{plain_size}
use Rattle.dir.specs.Layout.{fits}
use Rattle.dir.specs.Split.{name_size}
use Rattle.dir.proofs.Filling.{short_said}
use Rattle.dir.proofs.Placing.{plain_bounds}
use Rattle.dir.proofs.Runs.{head_of, head_room, head_after, run_begun, run_more}
use Rattle.dir.proofs.laying.Lay.put_kept.Goals as goal

pub loop-next-init : goal.loop-next-init
loop-next-init c =
    let self = c.args.self.now in
    let start = c.args.start in
    let block = c.args.block.now in
    let kept = self.kept.now in
    let all : take (2048 - start) (drop start block) ≡ drop start block = take_all (2048 - start) (drop start block) (omega (arith, length-drop start block, c.told-block)) in
    let none : drop (start + (2048 - start)) block ≡ [] = drop_all (start + (2048 - start)) block (omega (arith, c.told-block)) in
    run_begun self start block c.copy_front.new.into (put_mid start (2048 - start) block c.copy_front.new.into) c.requires.inside c.requires.stood (omega (arith, c.if-self-eq0.false)) (omega (arith, c.if-self.false)) c.told-block
    (c.copy_front.ensures ∙ ap (λ (place : List ℕ). take (min (length kept) (length place)) kept ++ drop (min (length kept) (length place)) place) all)
    (ap (λ (t : List ℕ). take start block ++ (c.copy_front.new.into ++ t)) (drop-drop (2048 - start) start block ∙ none) ∙ ap (λ (t : List ℕ). take start block ++ t) (append-nil c.copy_front.new.into))

pub kept_size-requires : goal.kept_size-requires
kept_size-requires c =
    let self = c.args.self.now in
    let run = c.loop-next.invariant in
    let head = head_of self.known self.dir.now.parent c.loop-next.next self.dir.now.entries.entries c.loop-next.kept.now self.known_are run.some run.few run.left in
    omega (arith, head.long, plain_bounds (length head.x.name))

pub split_at-requires : goal.split_at-requires
split_at-requires c =
    let self = c.args.self.now in
    let run = c.loop-next.invariant in
    let head = head_of self.known self.dir.now.parent c.loop-next.next self.dir.now.entries.entries c.loop-next.kept.now self.known_are run.some run.few run.left in
    omega (arith, head.long, ap plain_size head.name, c.kept_size.ensures)

pub overflow_add-end : goal.overflow_add-end
overflow_add-end c =
    let self = c.args.self.now in
    let run = c.loop-next.invariant in
    let head = head_of self.known self.dir.now.parent c.loop-next.next self.dir.now.entries.entries c.loop-next.kept.now self.known_are run.some run.few run.left in
    let room = head_room self c.args.start c.args.block.now c.loop-next.at c.loop-next.next c.loop-next.kept.now c.loop-next.block run head in
    omega (arith, room, ap plain_size head.name, c.kept_size.ensures, c.split_at.ensures.front_len)

pub kept_size-requires-in-loop-next : goal.kept_size-requires-in-loop-next
kept_size-requires-in-loop-next c =
    let self = c.args.self.now in
    let run = c.loop-next.invariant in
    let second = head_after self c.args.start c.args.block.now c.loop-next.at c.loop-next.next c.loop-next.kept.now c.loop-next.block run c.loop-next-test.true in
    let same = c.split_at.ensures.back ∙ ap (λ (n : ℕ). drop n c.loop-next.kept.now) c.kept_size.ensures in
    omega (arith, second.long, plain_bounds (length second.x.name), ap length same)

pub overflow_sub-end : goal.overflow_sub-end
overflow_sub-end c =
    let self = c.args.self.now in
    let run = c.loop-next.invariant in
    let head = head_of self.known self.dir.now.parent c.loop-next.next self.dir.now.entries.entries c.loop-next.kept.now self.known_are run.some run.few run.left in
    let room = head_room self c.args.start c.args.block.now c.loop-next.at c.loop-next.next c.loop-next.kept.now c.loop-next.block run head in
    omega (arith, room, ap plain_size head.name, c.kept_size.ensures, c.split_at.ensures.front_len)

pub fits-requires : goal.fits-requires
fits-requires c =
    let self = c.args.self.now in
    let run = c.loop-next.invariant in
    let second = head_after self c.args.start c.args.block.now c.loop-next.at c.loop-next.next c.loop-next.kept.now c.loop-next.block run c.loop-next-test.true in
    let same = c.split_at.ensures.back ∙ ap (λ (n : ℕ). drop n c.loop-next.kept.now) c.kept_size.ensures in
    let name : name_size c.split_at.result.1.now ≡ length second.x.name = ap name_size same ∙ second.name in
    omega (arith, second.short, plain_bounds (length second.x.name), ap plain_size name, c.kept_size-in-loop-next.ensures)

pub loop-next-preserved : goal.loop-next-preserved
loop-next-preserved c =
    let self = c.args.self.now in
    let after = c.split_at.ensures.back ∙ ap (λ (n : ℕ). drop n c.loop-next.kept.now) c.kept_size.ensures in
    let stay = ap (λ (n : ℕ). fits n (2048 - (c.loop-next.at + length c.split_at.result.0.now))) (sym c.kept_size-in-loop-next.ensures) ∙ sym c.fits.ensures ∙ c.if-not-fits.false in
    let at = c.loop-next.at in
    let block = c.loop-next.block in
    let size = length c.split_at.result.0.now in
    run_more self c.args.start c.args.block.now at c.loop-next.next (at + size) c.loop-next.kept.now c.split_at.result.1.now block
    c.relocate.new.bytes (put_mid at (at + size - at) block c.relocate.new.bytes) c.loop-next.invariant c.loop-next-test.true after (omega (arith, c.split_at.ensures.front_len, c.kept_size.ensures)) stay c.relocate.ensures
    (ap (λ (t : List ℕ). take at block ++ (c.relocate.new.bytes ++ t)) (drop-drop (at + size - at) at block ∙ ap (λ (n : ℕ). drop n block) (omega arith)))

pub overflow_sub-next : goal.overflow_sub-next
overflow_sub-next c = c.loop-next.invariant.some

pub invariant_of-self : goal.invariant_of-self
invariant_of-self c =
    let self = c.args.self.now in
    let run = c.loop-next.invariant in
    let same : c.loop-next.next - 1 + 1 ≡ c.loop-next.next = omega (arith, run.some) in
    record {
      few = self.few;
      laid = omega (arith, run.few, self.known_are.few);
      numbers = omega (arith, self.numbers, run.onward);
      said = c.name_at-self.ensures.value ∙ ap (slice_get (identifiers_of self.dir.now)) same;
      short = short_said c.name_at-self.result c.name_at-self.ensures.short;
      known_are = self.known_are;
      left = run.left;
    }

pub returns-clause-within : goal.returns-clause-within
returns-clause-within c = c.loop-next.invariant.within

pub returns-clause-onward : goal.returns-clause-onward
returns-clause-onward c = c.loop-next.invariant.further

pub returns-clause-filled : goal.returns-clause-filled
returns-clause-filled c = c.loop-next.invariant.filled
