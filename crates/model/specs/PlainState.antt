-- What the state of the plain program stands for.
use Rattle.std.specs.Prelude.{map}
use Rattle.model.specs.Session.{State, Request}
use Rattle.model.specs.Laws.{IsSound}
use Rattle.model.specs.Plain.{tree_in, record_in, operation_in, AreApart}
use Rattle.model.specs.declared.plain.state.Request.{Request as PlainRequest}
use Rattle.model.specs.declared.plain.state.State.{State as PlainState}

abbrev pub request_in : PlainRequest → Request
request_in request = record { client = request.client; number = request.number; moment = request.moment; operation = operation_in request.operation }

abbrev pub state_in : PlainState → State
state_in state = record {
  tree = tree_in state.nodes.items;
  records = map record_in state.records.items;
  commits = state.commits;
  next_identity = state.next_identity;
  table_length = state.table_length;
  moment = state.moment;
}

-- The state is one that requests can lead to. Each request keeps it so.
pub record IsWholeState (state : PlainState) : Type 0 where
  pub apart : AreApart state.nodes.items
  pub sound : IsSound (state_in state)
