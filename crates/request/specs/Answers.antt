-- Answers as bytes.
use Rattle.std.specs.Prelude.{ℕ, ◌<◌, ◌≤◌, ◌^◌, List, [], ◌∷◌, ◌++◌, length}
use Rattle.std.specs.List.{flat_map}
use Rattle.std.specs.Int.{w16, w32, w64, to_le_bytes}
use Rattle.limits.specs.declared.TheConstants.{FILE_BYTES}
use Rattle.request.specs.declared.answer.Listed.{Listed}
use Rattle.request.specs.declared.answer.NodeStatus.{NodeStatus}
use Rattle.request.specs.declared.answer.Answer.{Answer}
use Rattle.request.specs.declared.answer.Answer.TheVariants as answer
use Rattle.request.specs.Listing.{IsListing}
use Rattle.request.specs.Numbers.{code_number, cause_number, kind_number}
use Rattle.request.specs.Spelling.{name_field, data_field}
use Rattle.request.specs.Frames.{frame}

-- what an answer is, in two bytes
abbrev pub answer_code : Answer → ℕ
answer_code (answer.Reply reply) = code_number reply.code
answer_code (answer.Stale latest) = 32
answer_code (answer.Gap latest) = 33
answer_code answer.ClientsFull = 34
answer_code answer.Full = 35
answer_code answer.Fault = 36
answer_code answer.Memory = 37
answer_code (answer.Malformed cause) = 38
answer_code answer.Damaged = 39
answer_code answer.NotFound = 96
answer_code answer.IsDirectory = 97
answer_code answer.NotDirectory = 98
answer_code answer.TooLong = 99
answer_code (answer.Data bytes) = 64
answer_code (answer.Names names) = 65
answer_code (answer.Node status) = 66

-- a name in a directory: what it leads to in one byte, and the name
abbrev pub listed_field : Listed → List ℕ
listed_field listed = kind_number listed.kind ∷ name_field listed.name

-- the count of names in two bytes, and the names in their stored order
abbrev pub names_field : List Listed → List ℕ
names_field names = to_le_bytes w16 (length names) ++ flat_map listed_field names

-- what a node is, its moment, and its size
abbrev pub status_field : NodeStatus → List ℕ
status_field status = kind_number status.kind ∷ (to_le_bytes w64 status.moment ++ to_le_bytes w64 status.size)

-- what is after the code
abbrev pub answer_body : Answer → List ℕ
answer_body (answer.Reply reply) = to_le_bytes w32 reply.commit
answer_body (answer.Stale latest) = to_le_bytes w64 latest
answer_body (answer.Gap latest) = to_le_bytes w64 latest
answer_body answer.ClientsFull = []
answer_body answer.Full = []
answer_body answer.Fault = []
answer_body answer.Memory = []
answer_body (answer.Malformed cause) = to_le_bytes w16 (cause_number cause)
answer_body answer.Damaged = []
answer_body answer.NotFound = []
answer_body answer.IsDirectory = []
answer_body answer.NotDirectory = []
answer_body answer.TooLong = []
answer_body (answer.Data bytes) = data_field bytes
answer_body (answer.Names names) = names_field names
answer_body (answer.Node status) = status_field status

abbrev pub answer_payload : Answer → List ℕ
answer_payload answer = to_le_bytes w16 (answer_code answer) ++ answer_body answer

abbrev pub answer_frame : Answer → List ℕ
answer_frame answer = frame (answer_payload answer)

-- the ranges of the numbers, lengths and names in an answer
abbrev pub IsAnswer : Answer → Type 0
IsAnswer (answer.Reply reply) = reply.commit < 2 ^ 32
IsAnswer (answer.Stale latest) = latest < 2 ^ 64
IsAnswer (answer.Gap latest) = latest < 2 ^ 64
IsAnswer answer.ClientsFull = Unit {0}
IsAnswer answer.Full = Unit {0}
IsAnswer answer.Fault = Unit {0}
IsAnswer answer.Memory = Unit {0}
IsAnswer (answer.Malformed cause) = Unit {0}
IsAnswer answer.Damaged = Unit {0}
IsAnswer answer.NotFound = Unit {0}
IsAnswer answer.IsDirectory = Unit {0}
IsAnswer answer.NotDirectory = Unit {0}
IsAnswer answer.TooLong = Unit {0}
IsAnswer (answer.Data bytes) = length bytes ≤ FILE_BYTES
IsAnswer (answer.Names names) = IsListing names
IsAnswer (answer.Node status) = (status.moment < 2 ^ 64) × (status.size < 2 ^ 64)
