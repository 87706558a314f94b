use Rattle.std.proofs.Common.{◌≡◌, ◌-◌, ◌<◌, ℕ, List, Some, arith, rules}
use Rattle.std.specs.Prelude.{slice_get, if◌then◌else◌}
use Rattle.std.proofs.lemmas.Grind.{common_steps}
use Rattle.dir.specs.declared.entry.Entry.{Entry}
use Rattle.dir.specs.declared.kept.Identifiers.{Identifiers}
use Rattle.dir.specs.Directory.{is_directory}
use Rattle.dir.proofs.Fronts.{front_before, front_directory, front_within, front_without}
use Rattle.dir.proofs.kept.Identifiers.remove.Goals as goal

pub returns-then-index-self-clause-front : goal.returns-then-index-self-clause-front
returns-then-index-self-clause-front c = front_before c.args.dir.now.entries.entries c.args.self.now c.args.index c.requires.front c.if-index-self.true c.requires.there

pub cut-requires-clause-within : goal.cut-requires-clause-within
cut-requires-clause-within c = omega (arith, front_within c.args.dir.now.entries.entries c.args.self.now c.args.index c.requires.front (omega (arith, c.if-index-self.false)), c.place-start.ensures.end)

pub overflow_sub-self : goal.overflow_sub-self
overflow_sub-self c =
    let es = c.args.dir.now.entries.entries in
    let e : List ℕ × Entry = (c.unwrap.result.0.now, c.unwrap.result.1.now) in
    let found : slice_get es c.args.index ≡ Some e = search rules in
    let less = front_directory es c.args.self.now c.args.index e c.requires.front (omega (arith, c.if-index-self.false)) found in
    let one : c.from.result ≡ (if is_directory e.1.kind then 1 else 0) = grind (arith, common_steps) in
    omega (arith, less, one)

pub returns-clause-front : goal.returns-clause-front
returns-clause-front c =
    let es = c.args.dir.now.entries.entries in
    let ids = c.args.self.now in
    let e : List ℕ × Entry = (c.unwrap.result.0.now, c.unwrap.result.1.now) in
    let found : slice_get es c.args.index ≡ Some e = search rules in
    let kept : c.args.index < ids.count = omega (arith, c.if-index-self.false) in
    let less = front_directory es ids c.args.index e c.requires.front kept found in
    let one : c.from.result ≡ (if is_directory e.1.kind then 1 else 0) = grind (arith, common_steps) in
    let new : Identifiers = record { bytes = c.cut.new.bytes; count = ids.count - 1; size = c.size_without-self.result; directories = ids.directories - c.from.result } in
    front_without es ids new c.args.index c.place-start.result.0 c.place-start.result.1 e c.requires.front kept found c.place-start.ensures.start c.place-start.ensures.end c.cut.ensures
    (omega (arith, c.if-index-self.false)) c.size_without-self.ensures.end c.size_without-self.ensures.full (omega (arith, less, one))
