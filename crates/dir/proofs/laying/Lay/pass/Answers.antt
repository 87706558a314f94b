use Rattle.std.proofs.Common.{◌<◌, ◌∙◌, arith, inl, inr}
use Rattle.dir.specs.Directory.{identifiers_of}
use Rattle.dir.specs.Item.{said}
use Rattle.dir.proofs.Filling.{length-identifiers, short_said, some_within}
use Rattle.dir.proofs.Fronts.{left_unknown, left_known, left_within, left_taken, left_after}
use Rattle.dir.proofs.laying.Lay.pass.Goals as goal

pub invariant_of-self : goal.invariant_of-self
invariant_of-self c =
    let self = c.args.self.now in
    record {
      few = self.few;
      laid = omega (arith, c.if-next-eq0.true);
      numbers = omega (arith, self.numbers);
      said = c.name_at-self.ensures.value;
      short = short_said c.name_at-self.result c.name_at-self.ensures.short;
      known_are = self.known_are;
      left = left_unknown self.known self.next self.dir.now.entries.entries self.kept.now (inl c.if-next-eq0.true) self.left;
    }

pub invariant_of-self-then-next-self : goal.invariant_of-self-then-next-self
invariant_of-self-then-next-self c =
    let self = c.args.self.now in
    let dir = self.dir.now in
    let inside = some_within (identifiers_of dir) self.next (said c.args.item.now) c.requires.next in
    let many = length-identifiers dir.parent dir.entries.entries in
    record {
      few = self.few;
      laid = omega arith;
      numbers = omega (arith, self.numbers);
      said = c.name_at-self.ensures.value;
      short = short_said c.name_at-self.result c.name_at-self.ensures.short;
      known_are = self.known_are;
      left = left_unknown self.known self.next dir.entries.entries self.kept.now (inr c.if-next-self.true) self.left;
    }

pub split_at-requires : goal.split_at-requires
split_at-requires c =
    let self = c.args.self.now in
    let dir = self.dir.now in
    let x = said c.args.item.now in
    let some : 0 < self.next = omega (arith, c.if-next-eq0.false) in
    left_within x _ self.kept.now c.plain_size.result c.plain_size.ensures
    (left_known self.known self.next dir.parent dir.entries.entries x self.kept.now some c.if-next-self.false c.requires.next self.left)

pub invariant_of-self-2 : goal.invariant_of-self-2
invariant_of-self-2 c =
    let self = c.args.self.now in
    let dir = self.dir.now in
    let x = said c.args.item.now in
    let some : 0 < self.next = omega (arith, c.if-next-eq0.false) in
    let inside = some_within (identifiers_of dir) self.next x c.requires.next in
    let many = length-identifiers dir.parent dir.entries.entries in
    let first = left_known self.known self.next dir.parent dir.entries.entries x self.kept.now some c.if-next-self.false c.requires.next self.left in
    record {
      few = self.few;
      laid = omega arith;
      numbers = omega (arith, self.numbers);
      said = c.name_at-self.ensures.value;
      short = short_said c.name_at-self.result c.name_at-self.ensures.short;
      known_are = self.known_are;
      left = c.split_at.ensures.back ∙ left_after self.known self.next dir.entries.entries x self.kept.now c.plain_size.result c.plain_size.ensures first;
    }

pub returns-clause-kept : goal.returns-clause-kept
returns-clause-kept c =
    let self = c.args.self.now in
    let dir = self.dir.now in
    let x = said c.args.item.now in
    let some : 0 < self.next = omega (arith, c.if-next-eq0.false) in
    c.split_at.ensures.front ∙ left_taken x _ self.kept.now c.plain_size.result c.plain_size.ensures
    (left_known self.known self.next dir.parent dir.entries.entries x self.kept.now some c.if-next-self.false c.requires.next self.left)
