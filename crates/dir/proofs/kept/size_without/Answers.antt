use Rattle.std.proofs.Common.{◌≡◌, ◌≤◌, suc, ◌∙◌, ℕ, List, Some, length, sym, ap, subst, arith, rules}
use Rattle.std.specs.Prelude.{slice_get}
use Rattle.std.specs.List.{remove}
use Rattle.osta.specs.Compressed.{compressed}
use Rattle.dir.specs.declared.entry.Entry.{Entry}
use Rattle.dir.specs.Size.{End, end_of_data, next_end, name_sizes}
use Rattle.dir.proofs.Fronts.{without_before, without_after}
use Rattle.dir.proofs.Sized.{end_more, full_more}
use Rattle.dir.proofs.kept.size_without.Goals as goal
use Rattle.dir.proofs.kept.size_without.Goals.{then-left-index, else-left-index}

pub loop-left-preserved : goal.loop-left-preserved
loop-left-preserved c =
    let es = c.args.dir.now.entries.entries in
    let rest = remove es c.args.index in
    let left = c.loop-left.left in
    let e : List ℕ × Entry = (c.unwrap.result.0.now, c.unwrap.result.1.now) in
    let here : slice_get es c.if-left-index.at ≡ Some e = search rules in
    let found : slice_get rest left ≡ Some e = elim c.if-left-index.branch [
      | then-left-index w ↦
          let at : c.if-left-index.at ≡ left = w.at-is in
          without_before es c.args.index left e (omega (arith, w.if-left-index.true)) (subst (λ (n : ℕ). slice_get es n ≡ Some e) at here)
      | else-left-index w ↦
          let at : c.if-left-index.at ≡ suc left = omega (arith, w.at-is) in
          without_after es c.args.index left e (omega (arith, w.if-left-index.false)) (subst (λ (n : ℕ). slice_get es n ≡ Some e) at here)
    ] in
    let long = ap length c.compressed.ensures.value in
    let few : length (compressed e.0) ≤ 255 = omega (arith, c.compressed.ensures.few, long) in
    let end = c.add.ensures ∙ ap (next_end (end_of_data c.loop-left.size)) long in
    let full = full_more (end_of_data c.loop-left.size) (name_sizes rest) left (length (compressed e.0)) few c.loop-left.invariant.end c.loop-left.invariant.full in
    record {
      end = end ∙ ap (λ (n : End). next_end n (length (compressed e.0))) c.loop-left.invariant.end ∙ sym (end_more rest left e found);
      full = omega (arith, ap (λ (n : End). n.full) end, full);
    }
