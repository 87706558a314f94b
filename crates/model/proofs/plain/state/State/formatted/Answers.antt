use Rattle.std.proofs.Common.{◌≡◌, ◌∙◌, ap, List, ◌++◌, ◌∷◌, [], rules}
use Rattle.model.specs.Session.{formatted}
use Rattle.model.specs.PlainState.{state_in}
use Rattle.model.specs.declared.plain.nodes.Content.TheVariants.{Directory}
use Rattle.model.specs.declared.plain.nodes.Entry.{Entry}
use Rattle.model.specs.declared.plain.state.State.{State}
use Rattle.model.proofs.PlainStates.{fresh_whole}
use Rattle.model.proofs.plain.state.State.formatted.Goals as goal

pub returns-clause-whole : goal.returns-clause-whole
returns-clause-whole c =
    let root : Entry = record { path = c.new-2.result; node = record { identity = 0; moment = c.args.moment; content = Directory c.new.result } } in
    let new : State = record { nodes = c.push.new.self; records = c.new-3.result; commits = 0; next_identity = 16; table_length = 2; moment = c.args.moment } in
    let is : state_in new ≡ formatted c.args.moment = search rules in
    fresh_whole new root c.args.moment (c.in_ok-push.ensures.items ∙ ap (λ (xs : List Entry). xs ++ root ∷ []) c.new-nodes.ensures.items) is
