-- What a message says.
use Rattle.std.specs.Prelude.{◌≡◌, ℕ, List, Option, Some, None, Result, Ok, Err, IfSome, IfOk}
use Rattle.request.specs.declared.message.Cause.{Cause}
use Rattle.request.specs.declared.message.Request.{Request}
use Rattle.request.specs.declared.message.Message.{Message}
use Rattle.request.specs.declared.message.Message.TheVariants as message
use Rattle.request.specs.Spelling.{Said, payload_of, IsMessageInRange}
use Rattle.request.specs.Spelling.Said.{Changes, Asks}
use Rattle.request.specs.Reading.{said_at}

abbrev pub request_said : Request → Said
request_said request = Changes request.client request.number request.moment request.op

-- What a message says: what was said, or a fault. Lack of memory says nothing.
abbrev pub told_by : Message → Option (Result Said Cause)
told_by (message.Request request) = Some (Ok (request_said request))
told_by (message.Query query) = Some (Ok (Asks query))
told_by (message.Malformed cause) = Some (Err cause)
told_by message.NoMemory = None

-- The message is what this payload says, or its first fault, unless there was no memory.
abbrev pub DecodesPayload : Message → List ℕ → Type 0
DecodesPayload message payload = IfSome (told_by message) (λ told. told ≡ said_at payload)

-- where this was said, it may be said, and the payload spells it
abbrev pub IsSpelled : List ℕ → Result Said Cause → Type 0
IsSpelled payload told = IfOk told (λ said. IsMessageInRange said × (payload ≡ payload_of said))
