use Rattle.std.proofs.Common.{List, ℕ, [], ◌∷◌, ◌++◌, ap, sym, ◌∙◌, append_assoc, rules}
use Rattle.dir.specs.Laying.{blocks_left}
use Rattle.dir.proofs.whole.lay.Goals as goal

pub loop-lay-preserved : goal.loop-lay-preserved
loop-lay-preserved c =
    let done = c.loop-lay.blocks.items in
    let block = c.next_into.new.block in
    let left = blocks_left c.next_into.new.self in (
      c.loop-lay.invariant.0 ∙ ap (λ (bs : List (List ℕ)). done ++ bs) (c.next_into.ensures.some c.loop-lay-test.true) ∙ sym (append_assoc done (block ∷ []) left)
          ∙ ap (λ (bs : List (List ℕ)). bs ++ left) (sym c.in_ok-push.ensures.items),
      search rules,
    )
