use Rattle.std.proofs.Common.{refl, inl}
use Rattle.formatting.proofs.Beginnings.{begins_there, begins_not, begins_nowhere}
use Rattle.formatting.proofs.images.require_part.Goals as goal

pub returns-then-starts_with-clause-begins : goal.returns-then-starts_with-clause-begins
returns-then-starts_with-clause-begins c =
    begins_there c.new-whole.result.capacity c.args.capacity c.args.moment c.args.label.now _ _ c.journal.result.now _ c.args.at c.args.part.now
    c.new-whole.ensures.capacity c.new-whole.ensures.journal c.journal.ensures c.in-Ok.ensures.ok
    c.in-Some.event.now c.in-Some.ensures.lookup.3.0 c.in-Some.ensures.lookup.1 c.starts_with.result c.starts_with.ensures.value c.if-starts_with.true

pub returns-in_default-clause-refused : goal.returns-in_default-clause-refused
returns-in_default-clause-refused c = inl (
  refl,
  begins_nowhere c.new-whole.result.capacity c.args.capacity c.args.moment c.args.label.now _ _ c.journal.result.now _ c.args.at c.args.part.now
      c.new-whole.ensures.capacity c.new-whole.ensures.journal c.journal.ensures c.in-Ok.ensures.ok
      c.in_default.ensures.lookup.3,
)

pub returns-clause-refused : goal.returns-clause-refused
returns-clause-refused c = inl (
  refl,
  begins_not c.new-whole.result.capacity c.args.capacity c.args.moment c.args.label.now _ _ c.journal.result.now _ c.args.at c.args.part.now
      c.new-whole.ensures.capacity c.new-whole.ensures.journal c.journal.ensures c.in-Ok.ensures.ok
      c.in-Some.event.now c.in-Some.ensures.lookup.3.0 c.in-Some.ensures.lookup.1 c.starts_with.result c.starts_with.ensures.value c.if-starts_with.false,
)
