use Rattle.std.proofs.Common.{◌≡◌, ◌+◌, max, refl, length, rules}
use Rattle.model.specs.Plain.{reply_in}
use Rattle.model.specs.Session.{reply_to}
use Rattle.model.specs.PlainState.{state_in, request_in}
use Rattle.model.specs.declared.plain.state.State.{State}
use Rattle.model.proofs.PlainStates.{state_after, whole_after}
use Rattle.model.proofs.plain.state.State.apply.Goals as goal

pub returns-clause-state : goal.returns-clause-state
returns-clause-state c =
    let new : State = record {
      nodes = c.in_ok-nodes.nodes;
      records = c.in_ok-with_reply.field-0;
      commits = c.in_ok-ok_or.field-0;
      next_identity = c.in_ok-nodes.next_identity;
      table_length = c.max.result;
      moment = c.args.request.moment;
    } in
    let commit : c.in_ok-ok_or.field-0 ≡ c.args.self.commits + 1 = search rules in
    let answer : reply_in (record { code = c.code_of-code.result; commit = c.in_ok-ok_or.field-0 }) ≡ reply_to (state_in c.args.self) (request_in c.args.request) = search rules in
    let long : c.max.result ≡ max c.args.self.table_length (1 + length c.in_ok-nodes.nodes.items) = search rules in
    state_after c.args.self new c.args.request c.in_ok-nodes.ensures.apart c.in_ok-nodes.ensures.tree _ answer c.in_ok-with_reply.ensures commit c.in_ok-nodes.ensures.next long refl

pub returns-clause-whole : goal.returns-clause-whole
returns-clause-whole c =
    let new : State = record {
      nodes = c.in_ok-nodes.nodes;
      records = c.in_ok-with_reply.field-0;
      commits = c.in_ok-ok_or.field-0;
      next_identity = c.in_ok-nodes.next_identity;
      table_length = c.max.result;
      moment = c.args.request.moment;
    } in
    whole_after c.args.self new c.args.request c.requires c.in_ok-nodes.ensures.apart (returns-clause-state c)
