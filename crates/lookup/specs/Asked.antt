-- What clients ask and are answered, in the model's words.
use Rattle.std.specs.Prelude.{Bool, true, false, List, map}
use Rattle.request.specs.declared.message.Op.{Op}
use Rattle.request.specs.declared.message.Op.TheVariants as asked
use Rattle.request.specs.declared.message.Request as asking
use Rattle.request.specs.declared.message.Query as querying
use Rattle.request.specs.declared.message.Query.TheVariants as query
use Rattle.request.specs.declared.answer.Listed.{Listed}
use Rattle.request.specs.declared.answer.NodeKind.{NodeKind}
use Rattle.request.specs.declared.answer.NodeStatus.{NodeStatus}
use Rattle.request.specs.declared.answer.NodeKind.TheVariants as kind
use Rattle.model.specs.Tree.{Name}
use Rattle.model.specs.Operation.{Operation}
use Rattle.model.specs.Operation.Operation.{Create, Replace, Append, MakeDir, Rename, Remove}
use Rattle.model.specs.Session.{Request}
use Rattle.durability.specs.Runs.{Query}
use Rattle.durability.specs.Runs.Query.{Get, List_, Stat, Read}
use Rattle.durability.specs.Runs as runs

abbrev pub model_operation : Op → Operation
model_operation (asked.Create path bytes) = Create path bytes
model_operation (asked.Replace path bytes) = Replace path bytes
model_operation (asked.Append path offset bytes) = Append path offset bytes
model_operation (asked.MakeDir path) = MakeDir path
model_operation (asked.Rename from to) = Rename from to
model_operation (asked.Remove path) = Remove path

abbrev pub model_request : asking.Request → Request
model_request r = record { client = r.client; number = r.number; moment = r.moment; operation = model_operation r.op }

abbrev pub said_query : querying.Query → Query
said_query (query.Get path) = Get path
said_query (query.List path) = List_ path
said_query (query.Stat path) = Stat path
said_query (query.Read path offset count) = Read path offset count

abbrev pub is_directory : NodeKind → Bool
is_directory kind.File = false
is_directory kind.Directory = true

-- a name of a directory, with what it leads to
abbrev pub said_listed : Listed → Bool × Name
said_listed l = (is_directory l.kind, l.name)

abbrev pub said_names : List Listed → List (Bool × Name)
said_names names = map said_listed names

-- what is known of a node
abbrev pub said_status : NodeStatus → runs.Answer
said_status status = runs.Answer.NodeIs (is_directory status.kind) status.moment status.size
