use Rattle.std.proofs.Common.{◌≡◌, suc, ◌+◌, ℕ, List, [], ◌∷◌, ap, not, ◌∙◌, sym, subst, arith, drop, length, inl, inr}
use Rattle.std.specs.Prelude.{◌⊎◌}
use Rattle.std.specs.Option.{option_map}
use Rattle.dir.specs.Directory.{identifiers_of}
use Rattle.dir.specs.Identifier.{Identifier}
use Rattle.dir.specs.Item.{said}
use Rattle.dir.specs.Laying.{identifiers_left}
use Rattle.dir.specs.Layout.{FitsInBlock, identifier_blocks}
use Rattle.dir.proofs.Placing.{plain_bounds, stands_within}
use Rattle.dir.proofs.Filling.{IsOver, drop_some, drop_none, no_blocks, cleared_block, cleared_tag, said_past, begun, filled_put}
use Rattle.dir.proofs.laying.Lay.next_into.Goals as goal
use Rattle.dir.proofs.laying.Lay.next_into.Goals.{else-loop-at-test, then-loop-at-test+in_default}

pub returns-then-is_none-clause-none : goal.returns-then-is_none-clause-none
returns-then-is_none-clause-none c is =
    let self = c.args.self.now in
    let ids = identifiers_of self.dir.now in
    let none : drop self.next ids ≡ [] = drop_none ids self.next (said_past self.item ids self.next self.said (c.is_none.ensures ∙ ap not c.if-is_none.true)) in
    ap (identifier_blocks self.number) none ∙ no_blocks self.number

pub returns-then-is_none-clause-ended : goal.returns-then-is_none-clause-ended
returns-then-is_none-clause-ended c is = returns-then-is_none-clause-none c is

pub put-at-requires-clause-next : goal.put-at-requires-clause-next
put-at-requires-clause-next c = sym c.put_kept-at.new.self.said ∙ ap (option_map said) c.in-Some.is

pub put-at-requires-clause-short : goal.put-at-requires-clause-short
put-at-requires-clause-short c = c.put_kept-at.new.self.short c.in-Some.item c.in-Some.is

pub put-at-requires-clause-room : goal.put-at-requires-clause-room
put-at-requires-clause-room c =
    let here = c.put_kept-at.new.self in
    let ids = identifiers_of here.dir.now in
    let x = said c.in-Some.item in
    let filled = c.put_kept-at.ensures.filled c.args.self.now c.loop-at.invariant in
    let left = drop_some ids here.next x (sym here.said ∙ ap (option_map said) c.in-Some.is) in
    stands_within c.put_kept-at.result x (drop (suc here.next) ids) (here.short c.in-Some.item c.in-Some.is) filled.within
    (subst (λ (t : List Identifier). FitsInBlock c.put_kept-at.result t) left (filled.stood c.put_kept-at.ensures.within))

pub loop-at-preserved : goal.loop-at-preserved
loop-at-preserved c =
    let here = c.put_kept-at.new.self in
    let put = c.put-at.ensures in
    filled_put c.args.self.now here c.put-at.new.self c.put_kept-at.result c.put-at.result c.put_kept-at.new.block c.put-at.new.block (said c.in-Some.item)
    (c.put_kept-at.ensures.filled c.args.self.now c.loop-at.invariant) c.put_kept-at.ensures.within (sym here.said ∙ ap (option_map said) c.in-Some.is) (here.short c.in-Some.item c.in-Some.is)
    put.dir put.next put.number put.end put.within put.onward put.block c.put-at.array_long

pub loop-at-smaller : goal.loop-at-smaller
loop-at-smaller c =
    let size = plain_bounds (length c.in-Some.item.name.now) in
    omega (arith, c.loop-at-test.true, c.put_kept-at.ensures.onward, c.put-at.ensures.onward, size)

pub invariant_of-self : goal.invariant_of-self
invariant_of-self c =
    let start = c.args.self.now in
    let here = c.loop-at-test.self in
    let over : IsOver start here c.loop-at-test.at c.loop-at-test.block = elim c.loop-at-test.branch [
      | else-loop-at-test w ↦ rw (w.self-is, w.block-is, w.at-is) (record { filled = c.loop-at.invariant; over = inl (omega (arith, w.loop-at-test.false, c.loop-at.invariant.within)) })
      | then-loop-at-test+in_default w ↦
          rw (w.self-is, w.block-is, w.at-is)
          (record { filled = w.put_kept-at.ensures.filled start c.loop-at.invariant; over = inr (sym w.put_kept-at.new.self.said ∙ ap (option_map said) w.in_default.is) })
    ] in
    let some = begun start here c.loop-at-test.at c.loop-at-test.block over (c.is_none.ensures ∙ ap not c.if-is_none.false) in
    let further = over.filled.further some in
    let number = over.filled.number_is in
    record { few = here.few; laid = here.laid; numbers = omega (arith, start.numbers); said = here.said; short = here.short; known_are = here.known_are; left = here.left }

pub returns-clause-some : goal.returns-clause-some
returns-clause-some c is =
    let start = c.args.self.now in
    let here = c.loop-at-test.self in
    let ids = identifiers_of here.dir.now in
    let ended : IsOver start here c.loop-at-test.at c.loop-at-test.block = elim c.loop-at-test.branch [
      | else-loop-at-test w ↦ rw (w.self-is, w.block-is, w.at-is) (record { filled = c.loop-at.invariant; over = inl (omega (arith, w.loop-at-test.false, c.loop-at.invariant.within)) })
      | then-loop-at-test+in_default w ↦
          rw (w.self-is, w.block-is, w.at-is)
          (record { filled = w.put_kept-at.ensures.filled start c.loop-at.invariant; over = inr (sym w.put_kept-at.new.self.said ∙ ap (option_map said) w.in_default.is) })
    ] in
    let filled = ended.filled in
    let some = begun start here c.loop-at-test.at c.loop-at-test.block ended (c.is_none.ensures ∙ ap not c.if-is_none.false) in
    let over : (c.loop-at-test.at ≡ 2048) ⊎ (identifiers_left here ≡ []) = elim ended.over [ inl full ↦ inl full | inr none ↦ inr (drop_none ids here.next none) ] in
    cleared_block start.number c.loop-at-test.at (identifiers_left start) (identifiers_left here) c.loop-at-test.block c.clear_after.new.block c.clear_after.ensures filled.filled filled.size filled.within some over
    ∙ ap (λ (n : ℕ). c.clear_after.new.block ∷ identifier_blocks (n + 1) (identifiers_left here)) (sym filled.number_is)

pub returns-clause-tag : goal.returns-clause-tag
returns-clause-tag c is =
    let start = c.args.self.now in
    let here = c.loop-at-test.self in
    let over : IsOver start here c.loop-at-test.at c.loop-at-test.block = elim c.loop-at-test.branch [
      | else-loop-at-test w ↦ rw (w.self-is, w.block-is, w.at-is) (record { filled = c.loop-at.invariant; over = inl (omega (arith, w.loop-at-test.false, c.loop-at.invariant.within)) })
      | then-loop-at-test+in_default w ↦
          rw (w.self-is, w.block-is, w.at-is)
          (record { filled = w.put_kept-at.ensures.filled start c.loop-at.invariant; over = inr (sym w.put_kept-at.new.self.said ∙ ap (option_map said) w.in_default.is) })
    ] in
    let filled = over.filled in
    let some = begun start here c.loop-at-test.at c.loop-at-test.block over (c.is_none.ensures ∙ ap not c.if-is_none.false) in
    cleared_tag c.loop-at-test.at c.loop-at-test.block c.clear_after.new.block c.clear_after.ensures filled.size filled.within (filled.long some) (filled.tagged some)
