-- What comes to an engine and what it answers, in the words of the medium.
use Rattle.std.specs.Prelude.{◌≡◌, List, [], ◌∷◌, map, Option, Some, None}
use Rattle.request.specs.declared.message.Message as asked
use Rattle.request.specs.declared.message.Message.TheVariants as message
use Rattle.request.specs.declared.answer.Answer as told
use Rattle.request.specs.declared.answer.Answer.TheVariants as answer
use Rattle.request.specs.Numbers.{cause_number}
use Rattle.request.specs.Payload.{DecodesPayload}
use Rattle.durability.specs.Runs.{Message, Delivery, Answer}
use Rattle.durability.specs.Runs.Message.{Asks, Queries, Malformed, NoMemory}
use Rattle.durability.specs.Runs as medium
use Rattle.lookup.specs.Asked.{model_request, said_query, said_names, is_directory}
use Rattle.store.specs.Sessions.{reply_said}
use Rattle.engine.specs.declared.runs.Delivery as delivered
use Rattle.engine.specs.declared.runs.Delivery.TheVariants.{Frame, Restart}

abbrev pub model_message : asked.Message → Message
model_message (message.Request request) = Asks (model_request request)
model_message (message.Query query) = Queries (said_query query)
model_message (message.Malformed cause) = Malformed (cause_number cause)
model_message message.NoMemory = NoMemory

abbrev pub model_answer : told.Answer → Answer
model_answer (answer.Reply reply) = medium.Answer.Replied (reply_said reply)
model_answer (answer.Stale latest) = medium.Answer.IsStale latest
model_answer (answer.Gap latest) = medium.Answer.IsGap latest
model_answer answer.ClientsFull = medium.Answer.AreClientsFull
model_answer answer.Full = medium.Answer.Full
model_answer answer.Fault = medium.Answer.Fault
model_answer answer.Memory = medium.Answer.Memory
model_answer (answer.Malformed cause) = medium.Answer.IsMalformed (cause_number cause)
model_answer answer.Damaged = medium.Answer.Damaged
model_answer answer.NotFound = medium.Answer.NotFound
model_answer answer.IsDirectory = medium.Answer.IsDirectory
model_answer answer.NotDirectory = medium.Answer.NotDirectory
model_answer answer.TooLong = medium.Answer.TooLong
model_answer (answer.Data bytes) = medium.Answer.Data bytes
model_answer (answer.Names names) = medium.Answer.Names (said_names names)
model_answer (answer.Node status) = medium.Answer.NodeIs (is_directory status.kind) status.moment status.size

abbrev pub model_answers : List told.Answer → List Answer
model_answers answers = map model_answer answers

-- none at a restart
abbrev pub said_told : Option told.Answer → Option Answer
said_told None = None
said_told (Some a) = Some (model_answer a)

-- a frame brings the message that its payload has
abbrev pub IsDeliverySaid : delivered.Delivery → Delivery → Type 0
IsDeliverySaid (Frame payload) d = (m : asked.Message) × DecodesPayload m payload.items × (d ≡ medium.Delivery.Delivered (model_message m))
IsDeliverySaid Restart d = d ≡ medium.Delivery.Restart

abbrev pub AllSaid : List delivered.Delivery → List Delivery → Type 0
AllSaid [] [] = Unit {0}
AllSaid [] (d ∷ ds) = ⊥
AllSaid (one ∷ deliveries) [] = ⊥
AllSaid (one ∷ deliveries) (d ∷ ds) = IsDeliverySaid one d × AllSaid deliveries ds
