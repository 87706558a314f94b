use Rattle.std.proofs.Common.{◌≡◌, ℕ, ◌+◌, ◌-◌, ◌*◌, List, ◌∷◌, length, drop, arith, ap, sym, ◌∙◌}
use Rattle.std.specs.List.{flat_map}
use Rattle.osta.specs.Compressed.{two_bytes}
use Rattle.std.specs.Str.{chars}
use Rattle.std.proofs.lemmas.List.{length_push, length-drop, length-set, length-take, take_all}
use Rattle.std.proofs.lemmas.List.FromFn.{length-enumerate_from}
use Rattle.std.proofs.lemmas.Iterator.{YieldsList-from_chars}
use Rattle.std.proofs.lemmas.Iterator.Consumers.{YieldsList-from_enumerate, YieldsList-at, YieldsList-turn, YieldsList-end}
use Rattle.osta.proofs.Loops.{enumerate_turn, turn_spelled, wide_step, first_cell}
use Rattle.osta.proofs.writing.write_wide.Goals as goal

pub overflow_cast-c : goal.overflow_cast-c
overflow_cast-c c =
    let road = YieldsList-at c.into_iter-at-iterator.ensures.into_iter_gives (YieldsList-from_enumerate (YieldsList-at c.enumerate-at-items.ensures.source (YieldsList-from_chars c.args.text.now c.utf8.text cc)) c.enumerate-at-items.ensures.count) in
    let turn = enumerate_turn _ _ _ _ (YieldsList-turn road c.loop-at.yielded _ c.loop-at.yielded_by _ _ (c.in-Some.at, c.in-Some.c) c.in-Some.is c.next.ensures.steps) in
    omega (arith, turn_spelled _ _ _ _ turn c.requires.spellable)

pub slice_bounds-write_u16-start : goal.slice_bounds-write_u16-start
slice_bounds-write_u16-start c =
    let road = YieldsList-at c.into_iter-at-iterator.ensures.into_iter_gives (YieldsList-from_enumerate (YieldsList-at c.enumerate-at-items.ensures.source (YieldsList-from_chars c.args.text.now c.utf8.text cc)) c.enumerate-at-items.ensures.count) in
    let turn = enumerate_turn _ _ _ _ (YieldsList-turn road c.loop-at.yielded _ c.loop-at.yielded_by _ _ (c.in-Some.at, c.in-Some.c) c.in-Some.is c.next.ensures.steps) in
    omega (arith, turn.below, turn.index, c.loop-at.auto.into, length-set c.args.into.now 0 16)

pub slice_bounds-write_u16-count : goal.slice_bounds-write_u16-count
slice_bounds-write_u16-count c =
    let road = YieldsList-at c.into_iter-at-iterator.ensures.into_iter_gives (YieldsList-from_enumerate (YieldsList-at c.enumerate-at-items.ensures.source (YieldsList-from_chars c.args.text.now c.utf8.text cc)) c.enumerate-at-items.ensures.count) in
    let turn = enumerate_turn _ _ _ _ (YieldsList-turn road c.loop-at.yielded _ c.loop-at.yielded_by _ _ (c.in-Some.at, c.in-Some.c) c.in-Some.is c.next.ensures.steps) in
    omega (arith, turn.below, turn.index, c.loop-at.auto.into, length-set c.args.into.now 0 16)

pub write_u16-requires : goal.write_u16-requires
write_u16-requires c =
    let road = YieldsList-at c.into_iter-at-iterator.ensures.into_iter_gives (YieldsList-from_enumerate (YieldsList-at c.enumerate-at-items.ensures.source (YieldsList-from_chars c.args.text.now c.utf8.text cc)) c.enumerate-at-items.ensures.count) in
    let turn = enumerate_turn _ _ _ _ (YieldsList-turn road c.loop-at.yielded _ c.loop-at.yielded_by _ _ (c.in-Some.at, c.in-Some.c) c.in-Some.is c.next.ensures.steps) in
    omega (
      arith,
      turn.below,
      turn.index,
      c.loop-at.auto.into,
      length-set c.args.into.now 0 16,
      length-take (length c.loop-at.into - (2 * c.in-Some.at + 1)) (drop (2 * c.in-Some.at + 1) c.loop-at.into),
      length-drop (2 * c.in-Some.at + 1) c.loop-at.into,
    )

pub loop-at-init : goal.loop-at-init
loop-at-init c = first_cell c.args.into.now 16 (omega arith)

pub loop-at-preserved : goal.loop-at-preserved
loop-at-preserved c =
    let road = YieldsList-at c.into_iter-at-iterator.ensures.into_iter_gives (YieldsList-from_enumerate (YieldsList-at c.enumerate-at-items.ensures.source (YieldsList-from_chars c.args.text.now c.utf8.text cc)) c.enumerate-at-items.ensures.count) in
    let turn = enumerate_turn _ _ _ _ (YieldsList-turn road c.loop-at.yielded _ c.loop-at.yielded_by _ _ (c.in-Some.at, c.in-Some.c) c.in-Some.is c.next.ensures.steps) in
    let small = turn_spelled _ _ _ _ turn c.requires.spellable in
    rw (length_push c.loop-at.yielded (c.in-Some.at, c.in-Some.c)) (wide_step _ c.loop-at.into c.write_u16.new.buf _ _ _ turn small (omega (arith, turn.below, c.loop-at.auto.into, length-set c.args.into.now 0 16)) c.write_u16.ensures c.loop-at.invariant)

pub returns : goal.returns
returns c =
    let road = YieldsList-at c.into_iter-at-iterator.ensures.into_iter_gives (YieldsList-from_enumerate (YieldsList-at c.enumerate-at-items.ensures.source (YieldsList-from_chars c.args.text.now c.utf8.text cc)) c.enumerate-at-items.ensures.count) in
    let all = YieldsList-end road c.loop-at.yielded _ c.loop-at.yielded_by _ _ c.in-None.is c.next.ensures.steps in
    let end : length c.loop-at.yielded ≡ length (chars c.args.text.now) = all.1 ∙ length-enumerate_from 0 (chars c.args.text.now) in
    sym (take_all (2 * length c.loop-at.yielded + 1) c.loop-at.into (omega (arith, end, c.loop-at.auto.into, length-set c.args.into.now 0 16))) ∙ (c.loop-at.invariant ∙ ap (λ (xs : List ℕ). 16 ∷ flat_map two_bytes xs) (take_all (length c.loop-at.yielded) (chars c.args.text.now) (omega (arith, end))))
