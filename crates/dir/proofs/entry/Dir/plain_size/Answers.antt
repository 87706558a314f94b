use Rattle.std.proofs.Common.{◌≡◌, ◌∙◌, Some, List, ℕ, length, ap, subst, arith, rules}
use Rattle.std.specs.Prelude.{slice_get}
use Rattle.std.specs.List.{All}
use Rattle.std.proofs.lemmas.List.{take_all}
use Rattle.dir.specs.declared.entry.Entry.{Entry}
use Rattle.dir.specs.Directory.{IsDirectoryEntry}
use Rattle.dir.specs.Identifier.{Identifier, plain_size}
use Rattle.dir.specs.Size.{name_sizes, plain_sizes}
use Rattle.dir.proofs.Fronts.{all_more}
use Rattle.dir.proofs.Placing.{plain_bounds}
use Rattle.dir.proofs.Sized.{plain_more}
use Rattle.dir.proofs.entry.Dir.plain_size.Goals as goal

pub loop-i-preserved : goal.loop-i-preserved
loop-i-preserved c =
    let es = c.args.self.now.entries.entries in
    let e : List ℕ × Entry = (c.unwrap.result.0.now, c.unwrap.result.1.now) in
    let found : slice_get es c.loop-i.i ≡ Some e = search rules in
    let long = ap (λ (x : Identifier). plain_size (length x.name)) c.of_name-item.ensures.value in
    let bounds = plain_bounds (length c.of_name-item.result.name.now) in
    record {
      size = omega (arith, c.loop-i.invariant.size, plain_more es c.loop-i.i e found, long, c.plain_size-size.ensures);
      proper = all_more IsDirectoryEntry es c.loop-i.i e found c.of_name-item.ensures.entry c.loop-i.invariant.proper;
      small = omega (arith, c.loop-i.invariant.small, c.of_name-item.ensures.short, c.plain_size-size.ensures, bounds);
    }

pub returns-clause-size : goal.returns-clause-size
returns-clause-size c =
    let es = c.args.self.now.entries.entries in
    c.loop-i.invariant.size ∙ ap (λ (xs : List (List ℕ × Entry)). plain_sizes (name_sizes xs)) (take_all c.loop-i.i es (omega (arith, c.loop-i-test.false, c.len-i-end.ensures.len)))

pub returns-clause-proper : goal.returns-clause-proper
returns-clause-proper c =
    let es = c.args.self.now.entries.entries in
    subst (λ (xs : List (List ℕ × Entry)). All IsDirectoryEntry xs) (take_all c.loop-i.i es (omega (arith, c.loop-i-test.false, c.len-i-end.ensures.len))) c.loop-i.invariant.proper
