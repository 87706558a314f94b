use Rattle.std.proofs.Common.{◌≡◌, ◌+◌, ℕ, List, Some, ap, ◌∙◌, arith, rules}
use Rattle.std.specs.Prelude.{slice_get}
use Rattle.dir.specs.declared.entry.Entry.{Entry}
use Rattle.dir.proofs.Fronts.{front_more, front_directories}
use Rattle.dir.proofs.kept.Identifiers.fill.Goals as goal

pub loop-index-preserved : goal.loop-index-preserved
loop-index-preserved c =
    let es = c.args.dir.now.entries.entries in
    let at : List ℕ × Entry = (c.unwrap.result.0.now, c.unwrap.result.1.now) in
    let here : slice_get es c.loop-index.index ≡ Some at = search rules in
    let found : slice_get es c.loop-index.self.count ≡ Some at = ap (slice_get es) c.loop-index.invariant.count ∙ here in
    let pushed = c.in_ok-push.ensures in
    record {
      front = front_more es c.loop-index.self c.push.new.self at c.loop-index.invariant.front found pushed.entry pushed.bytes pushed.count pushed.size pushed.directories;
      count = pushed.count ∙ ap (λ n. n + 1) c.loop-index.invariant.count;
      onward = omega (arith, pushed.count, c.loop-index.invariant.onward);
    }

pub push-requires-clause-within : goal.push-requires-clause-within
push-requires-clause-within c = front_directories c.args.dir.now.entries.entries c.loop-index.self c.loop-index.invariant.front
