-- A stream of bytes as frames: the payload's length in four bytes, and the payload.
use Rattle.std.specs.Prelude.{◌≡◌, ℕ, ◌+◌, ◌<◌, ◌≤◌, ◌⊎◌, List, [], ◌∷◌, ◌++◌, length, take, Option, Some, None}
use Rattle.std.specs.Int.{w32, to_le_bytes, from_le_bytes}
use Rattle.request.specs.declared.message.Cause.TheVariants.{TooLong}
use Rattle.request.specs.declared.message.Message.{Message}
use Rattle.request.specs.declared.message.Message.TheVariants.{Malformed}
use Rattle.request.specs.Payload.{DecodesPayload, told_by}

abbrev pub frame : List ℕ → List ℕ
frame payload = to_le_bytes w32 (length payload) ++ payload

-- the length that four bytes or more begin with
abbrev pub length_at : List ℕ → ℕ
length_at bytes = from_le_bytes w32 (take 4 bytes)

-- the bytes begin with a length that no payload has
abbrev pub IsOverlong : List ℕ → Type 0
IsOverlong bytes = (4 ≤ length bytes) × (1114112 < length_at bytes)

-- less than a whole frame, and no such length
abbrev pub IsPartial : List ℕ → Type 0
IsPartial bytes = (length bytes < 4) ⊎ ((length_at bytes ≤ 1114112) × (length bytes < 4 + length_at bytes))

-- the bytes are a frame and the rest
pub record IsFramed (bytes payload rest : List ℕ) : Type 0 where
  pub whole : bytes ≡ frame payload ++ rest
  pub fits : length payload ≤ 1114112

-- the first message of the bytes, and what is after its frame
abbrev pub FirstIs : List ℕ → Message → List ℕ → Type 0
FirstIs bytes message rest = (payload : List ℕ) × IsFramed bytes payload rest × DecodesPayload message payload

-- A reader holds the bytes that were fed and not yet taken. It is None for good after an overlong length.
abbrev pub fed : Option (List ℕ) → List ℕ → Option (List ℕ)
fed None piece = None
fed (Some bytes) piece = Some (bytes ++ piece)

-- the reader gives this message, and is left so
abbrev pub TakesMessage : Option (List ℕ) → Message → Option (List ℕ) → Type 0
TakesMessage None message after = ⊥
TakesMessage (Some bytes) message (Some rest) = FirstIs bytes message rest
TakesMessage (Some bytes) message None = IsOverlong bytes × (message ≡ Malformed TooLong)

-- the reader's next message is this one
abbrev pub IsFirstMessage : Option (List ℕ) → Message → Type 0
IsFirstMessage reader message = (after : Option (List ℕ)) × TakesMessage reader message after

-- the reader gives nothing before more bytes are fed
abbrev pub IsIdle : Option (List ℕ) → Type 0
IsIdle None = Unit {0}
IsIdle (Some bytes) = IsPartial bytes

-- The first messages of a stream, and the reader after them.
abbrev pub MessagesAre : List ℕ → List Message → Option (List ℕ) → Type 0
MessagesAre bytes [] reader = reader ≡ Some bytes
MessagesAre bytes (message ∷ messages) reader =
    ((rest : List ℕ) × FirstIs bytes message rest × MessagesAre rest messages reader)
    ⊎ (IsOverlong bytes × (message ≡ Malformed TooLong) × (messages ≡ []) × (reader ≡ None))

-- All messages of a stream, and the reader after the last one.
pub record Frames (bytes : List ℕ) (messages : List Message) (reader : Option (List ℕ)) : Type 0 where
  pub messages_are : MessagesAre bytes messages reader
  pub idle : IsIdle reader

-- two messages say the same, unless one is lack of memory
abbrev pub Agree : Message → Message → Type 0
Agree m n = (told_by m ≡ None) ⊎ ((told_by n ≡ None) ⊎ (told_by m ≡ told_by n))
