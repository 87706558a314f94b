-- What was read from a stream and written to one, where its bytes are known.
use Rattle.std.specs.Prelude.{◌≡◌, ◌⊎◌, ℕ, Bool, true, false, List, [], take, Option, Result, Ok, Err}
use Rattle.std.specs.Io.KnownBytes.{Appends, Consumes, IsAtEnd, Keeps}
use Rattle.request.specs.declared.frames.FeedFault.{FeedFault}
use Rattle.request.specs.declared.frames.FeedFault.TheVariants as feeding
use Rattle.engine.specs.declared.serving.ServeFault.{ServeFault}
use Rattle.engine.specs.declared.serving.ServeFault.TheVariants as faults

-- these bytes were read, and there are none at the end alone
pub record TakesPiece (before after : Option (List ℕ)) (piece : List ℕ) : Type 0 where
  pub consumed : Consumes before after piece
  pub end : piece ≡ [] → IsAtEnd after

-- a prefix of these bytes was written
abbrev pub PutsPrefix : Option (List ℕ) → Option (List ℕ) → List ℕ → Type 0
PutsPrefix before after bytes = (count : ℕ) × Appends before after (take count bytes)

-- The bytes were not written whole: a prefix of them where a write failed, and nothing where there was no memory to make them.
abbrev pub PutsUntil : ServeFault → Option (List ℕ) → Option (List ℕ) → List ℕ → Type 0
PutsUntil faults.Read before after bytes = ⊥
PutsUntil faults.Write before after bytes = PutsPrefix before after bytes
PutsUntil faults.Memory before after bytes = Keeps before after

-- Why a stream is read no further: a read failed, and took nothing; or there was no memory, for bytes that were read or for
-- more of a stream that could not be asked for its end.
abbrev pub LeavesBy : ServeFault → Option (List ℕ) → Option (List ℕ) → Type 0
LeavesBy faults.Read before after = Keeps before after
LeavesBy faults.Write before after = ⊥
LeavesBy faults.Memory before after = ((piece : List ℕ) × (piece ≡ [] → ⊥) × TakesPiece before after piece) ⊎ Keeps before after

-- it is the failure of a read
abbrev pub is_read : ServeFault → Bool
is_read faults.Read = true
is_read faults.Write = false
is_read faults.Memory = false

abbrev pub is_read_fault : {T : Type 0} → Result T ServeFault → Bool
is_read_fault (Ok x) = false
is_read_fault (Err fault) = is_read fault

-- the same of a reader of frames
abbrev pub is_feed_fault : {T : Type 0} → Result T FeedFault → Bool
is_feed_fault (Ok x) = false
is_feed_fault (Err feeding.Read) = true
is_feed_fault (Err feeding.Memory) = false
