use Rattle.std.proofs.Common.{◌≡◌, subst, ◌∙◌, rules}
use Rattle.request.specs.Frames.{fed}
use Rattle.grouping.specs.declared.open_group.OpenGroup.{OpenGroup}
use Rattle.embedding.specs.Grouped.{AddsBy, shown}
use Rattle.embedding.proofs.GroupCalls.{adds_by}
use Rattle.embedding.proofs.session.Session.answer.Goals as goal

pub returns-in-Some-take-clause-group : goal.returns-in-Some-take-clause-group
returns-in-Some-take-clause-group c = λ free g is.
    let old = c.args.self.now in let e = c.answer_in_group.ensures in
    let same : c.in-Some-take.group ≡ g = search rules in (
      subst (λ (h : OpenGroup). AddsBy c.answer_in_group.result h (fed old.frames c.args.bytes.now) (shown old) (shown c.answer_in_group.new.self) c.answer_in_group.new.self.group) same
          (adds_by c.answer_in_group.result c.in-Some-take.group (fed old.frames c.args.bytes.now) (shown old) (shown c.answer_in_group.new.self) c.answer_in_group.new.self.group e.ok e.err),
      e.ended ∙ free,
    )
