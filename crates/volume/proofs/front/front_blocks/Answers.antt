use Rattle.std.proofs.Common.{ℕ, ◌≡◌, ◌+◌, List, [], ◌∷◌, ◌++◌, length, get_or, sym, ap, subst, ◌∙◌}
use Rattle.std.proofs.lemmas.List.{length-append}
use Rattle.volume.specs.Front.{IsFrontBlock}
use Rattle.volume.proofs.FrontLaws.{each_push}
use Rattle.volume.proofs.front.front_blocks.Goals as goal

pub loop-n-preserved : goal.loop-n-preserved
loop-n-preserved c =
    let P : ℕ → List ℕ → Type 0 = λ k b. IsFrontBlock c.args.label.now c.args.moment c.args.capacity k b in
    let items : c.push.new.self.items ≡ c.loop-n.blocks.items ++ c.front_block.result ∷ [] = c.in_ok-push.ensures.items in
    record {
      count = ap length items ∙ (length-append c.loop-n.blocks.items (c.front_block.result ∷ []) ∙ ap (λ (n : ℕ). n + 1) c.loop-n.invariant.count);
      each = λ k low. subst (λ (xs : List (List ℕ)). P k (get_or xs k [])) (sym items) (each_push P c.loop-n.blocks.items c.front_block.result c.loop-n.n c.loop-n.invariant.count c.loop-n.invariant.each c.front_block.ensures k low);
    }
