-- A payload is read from left to right. What comes of it is what it says, or its first fault.
use Rattle.std.specs.Prelude.{◌≡◌, ℕ, ◌&&◌, zero, suc, List, [], ◌∷◌, length, take, drop, Result, Ok, Err, Bool, nat_lt, ◌==◌, is_none, if◌then◌else◌}
use Rattle.std.specs.Int.{Width, w16, w32, w64, byte_len, from_le_bytes}
use Rattle.std.specs.Str.{is_utf8}
use Rattle.limits.specs.declared.TheConstants.{FILE_BYTES, MOMENT_LIMIT}
use Rattle.osta.specs.FirstFault.{first_text_fault}
use Rattle.osta.specs.Name.{name_faults}
use Rattle.request.specs.declared.message.Cause.{Cause}
use Rattle.request.specs.declared.message.Cause.TheVariants as cause
use Rattle.request.specs.declared.message.Op.{Op}
use Rattle.request.specs.declared.message.Op.TheVariants as op
use Rattle.request.specs.declared.message.Query.{Query}
use Rattle.request.specs.declared.message.Query.TheVariants as query
use Rattle.request.specs.declared.payload.Change.{Change}
use Rattle.request.specs.declared.payload.Change.TheVariants as change
use Rattle.request.specs.declared.payload.Question.{Question}
use Rattle.request.specs.declared.payload.Question.TheVariants as question
use Rattle.request.specs.declared.payload.Kind.{Kind}
use Rattle.request.specs.declared.payload.Kind.TheVariants as kind
use Rattle.request.specs.declared.payload.ReadError.{ReadError}
use Rattle.request.specs.declared.payload.ReadError.TheVariants as errors
use Rattle.request.specs.Spelling.{Said}
use Rattle.request.specs.Spelling.Said.{Changes, Asks}

infixl 10 ◌>>=◌
abbrev pub ◌>>=◌ : {A B : Type 0} → Result A Cause → (A → Result B Cause) → Result B Cause
(Ok x) >>= f = f x
(Err e) >>= f = Err e

-- What a function returned, seen by view, is what reading gives, unless memory ran out.
abbrev pub Fails : {Y : Type 0} → ReadError → Result Y Cause → Type 0
Fails errors.Memory read = Unit {0}
Fails (errors.Malformed cause) read = read ≡ Err cause

abbrev pub Gives : {X Y : Type 0} → (X → Y) → Result X ReadError → Result Y Cause → Type 0
Gives view (Ok x) read = read ≡ Ok (view x)
Gives view (Err e) read = Fails e read

-- A field is a value and the bytes after it.
abbrev pub number_at : Width → List ℕ → Result (ℕ × List ℕ) Cause
number_at w bytes = if nat_lt (length bytes) (byte_len w) then Err cause.Short else Ok (from_le_bytes w (take (byte_len w) bytes), drop (byte_len w) bytes)

unfoldable pub client_at : List ℕ → Result (ℕ × List ℕ) Cause
client_at bytes = do
  n ← number_at w64 bytes
  if n.0 == 0 then Err cause.ClientZero else Ok n

unfoldable pub number_above_zero_at : List ℕ → Result (ℕ × List ℕ) Cause
number_above_zero_at bytes = do
  n ← number_at w64 bytes
  if n.0 == 0 then Err cause.NumberZero else Ok n

unfoldable pub moment_at : List ℕ → Result (ℕ × List ℕ) Cause
moment_at bytes = do
  n ← number_at w64 bytes
  if nat_lt n.0 MOMENT_LIMIT then Ok n else Err cause.Moment

-- UTF-8 that has none of the faults of a name
unfoldable pub is_name : List ℕ → Bool
is_name bytes = is_utf8 bytes && is_none (first_text_fault (name_faults bytes))

unfoldable pub tested_name : List ℕ → Result (List ℕ) Cause
tested_name bytes = if is_name bytes then Ok bytes else Err cause.Path

unfoldable pub name_at : List ℕ → Result (List ℕ × List ℕ) Cause
name_at bytes = do
  n ← number_at w16 bytes
  text ← (if nat_lt (length n.1) n.0 then Err cause.Short else tested_name (take n.0 n.1))
  Ok (text, drop n.0 n.1)

unfoldable pub names_at : ℕ → List ℕ → Result (List (List ℕ) × List ℕ) Cause
names_at zero bytes = Ok ([], bytes)
names_at (suc n) bytes = do
  first ← name_at bytes
  others ← names_at n first.1
  Ok (first.0 ∷ others.0, others.1)

unfoldable pub path_at : List ℕ → Result (List (List ℕ) × List ℕ) Cause
path_at [] = Err cause.Short
path_at (count ∷ bytes) = names_at count bytes

unfoldable pub data_at : List ℕ → Result (List ℕ × List ℕ) Cause
data_at bytes = do
  n ← number_at w32 bytes
  if nat_lt FILE_BYTES n.0 then Err cause.Extra else (if nat_lt (length n.1) n.0 then Err cause.Short else Ok (take n.0 n.1, drop n.0 n.1))

-- at least one byte
unfoldable pub appended_at : List ℕ → Result (List ℕ × List ℕ) Cause
appended_at bytes = do
  contents ← data_at bytes
  if length contents.0 == 0 then Err cause.Extra else Ok contents

unfoldable pub count_at : List ℕ → Result (ℕ × List ℕ) Cause
count_at bytes = do
  n ← number_at w32 bytes
  if nat_lt FILE_BYTES n.0 then Err cause.Extra else Ok n

unfoldable pub op_at : Change → List ℕ → Result (Op × List ℕ) Cause
op_at change.Create bytes = do
  path ← path_at bytes
  contents ← data_at path.1
  Ok (op.Create path.0 contents.0, contents.1)
op_at change.Replace bytes = do
  path ← path_at bytes
  contents ← data_at path.1
  Ok (op.Replace path.0 contents.0, contents.1)
op_at change.Append bytes = do
  path ← path_at bytes
  offset ← number_at w64 path.1
  contents ← appended_at offset.1
  Ok (op.Append path.0 offset.0 contents.0, contents.1)
op_at change.MakeDir bytes = do
  path ← path_at bytes
  Ok (op.MakeDir path.0, path.1)
op_at change.Rename bytes = do
  from ← path_at bytes
  to ← path_at from.1
  Ok (op.Rename from.0 to.0, to.1)
op_at change.Remove bytes = do
  path ← path_at bytes
  Ok (op.Remove path.0, path.1)

-- the value, where no byte is after it
abbrev pub ended : {A : Type 0} → A → List ℕ → Result A Cause
ended x bytes = if length bytes == 0 then Ok x else Err cause.Extra

unfoldable pub change_at : Change → List ℕ → Result Said Cause
change_at change bytes = do
  client ← client_at bytes
  number ← number_above_zero_at client.1
  moment ← moment_at number.1
  op ← op_at change moment.1
  ended (Changes client.0 number.0 moment.0 op.0) op.1

unfoldable pub query_at : Question → List ℕ → Result (Query × List ℕ) Cause
query_at question.Get bytes = do
  path ← path_at bytes
  Ok (query.Get path.0, path.1)
query_at question.List bytes = do
  path ← path_at bytes
  Ok (query.List path.0, path.1)
query_at question.Stat bytes = do
  path ← path_at bytes
  Ok (query.Stat path.0, path.1)
query_at question.Read bytes = do
  path ← path_at bytes
  offset ← number_at w64 path.1
  count ← count_at offset.1
  Ok (query.Read path.0 offset.0 count.0, count.1)

unfoldable pub question_at : Question → List ℕ → Result Said Cause
question_at question bytes = do
  asked ← query_at question bytes
  ended (Asks asked.0) asked.1

abbrev pub message_kind : ℕ → Result Kind Cause
message_kind byte =
    if byte == 1 then Ok (kind.Change change.Create)
    else (if byte == 2 then Ok (kind.Change change.Replace)
    else (if byte == 3 then Ok (kind.Change change.MakeDir)
    else (if byte == 4 then Ok (kind.Change change.Rename)
    else (if byte == 5 then Ok (kind.Change change.Remove)
    else (if byte == 6 then Ok (kind.Change change.Append)
    else (if byte == 16 then Ok (kind.Question question.Get)
    else (if byte == 17 then Ok (kind.Question question.List)
    else (if byte == 18 then Ok (kind.Question question.Stat)
    else (if byte == 19 then Ok (kind.Question question.Read)
    else Err cause.Kind)))))))))

unfoldable pub kind_at : List ℕ → Result (Kind × List ℕ) Cause
kind_at [] = Err cause.Short
kind_at (byte ∷ bytes) = do
  kind ← message_kind byte
  Ok (kind, bytes)

unfoldable pub fields_at : Kind → List ℕ → Result Said Cause
fields_at (kind.Change change) bytes = change_at change bytes
fields_at (kind.Question question) bytes = question_at question bytes

-- what a whole payload says, or its first fault
unfoldable pub said_at : List ℕ → Result Said Cause
said_at payload = do
  kind ← kind_at payload
  fields_at kind.0 kind.1
