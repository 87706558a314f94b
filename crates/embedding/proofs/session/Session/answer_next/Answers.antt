use Rattle.std.proofs.Common.{◌≤◌, length, rules}
use Rattle.embedding.proofs.GroupCalls.{next_waits}
use Rattle.embedding.proofs.session.Session.answer_next.Goals as goal

pub returns-in-Ok-clause-ok : goal.returns-in-Ok-clause-ok
returns-in-Ok-clause-ok c =
    let e = c.in-Ok.ensures in let old = c.args.self.now in
    let within : old.taken ≤ length old.answers.items = search rules in
    record {
      answers = λ groups. next_waits _ _ _ _ old.answers.items _ _ _ old.taken within (e.ok groups);
      waits = e.waits;
      from = e.from;
      given = (search rules);
      kind = e.kind;
      groups = e.groups;
    }
