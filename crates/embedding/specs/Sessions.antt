-- What a session is to its caller, and what each call does to it.
use Rattle.std.specs.Prelude.{◌≡◌, ◌⊎◌, ℕ, ◌+◌, ◌<◌, ◌≤◌, ◌++◌, min, Bool, true, false, List, length, take, drop, slice_get, Option, Some, None, Result, Ok, Err}
use Rattle.drive.specs.Gathering.{Gathering}
use Rattle.drive.specs.Journal.{Event}
use Rattle.request.specs.Frames.{fed}
use Rattle.engine.specs.Situation.{Situation}
use Rattle.embedding.specs.declared.fault.Fault.{Fault}
use Rattle.embedding.specs.declared.fault.Fault.TheVariants as faults
use Rattle.embedding.specs.declared.session.Session.{Session}
use Rattle.embedding.specs.Media.{seen_by, blocks_of, gathering_on, in_groups, in_memory}
use Rattle.embedding.specs.Replies.{Replies, RepliesButLast}

-- its engine, beside what its volume lies on
abbrev pub seen : Session → Situation
seen s = seen_by s.engine s.medium

-- how the writes of its medium wait for the disk
abbrev pub gathering_in : Session → Gathering
gathering_in s = gathering_on s.medium

-- the bytes of answers that were not taken yet
abbrev pub waiting : Session → List ℕ
waiting s = drop s.taken s.answers.items

-- the blocks of a volume in memory, each with its address
abbrev pub blocks : Session → List Event
blocks s = blocks_of s.medium

-- the volume and its stream of messages are as they were
pub record SameSession (old new : Session) : Type 0 where
  pub seen_is : seen new ≡ seen old
  pub frames : new.frames ≡ old.frames
  pub ended : new.ended ≡ old.ended
  pub group : new.group ≡ old.group

-- ---- messages

-- all messages of the bytes that came were answered, and their answers wait after those that waited
abbrev pub AnswersMessages : List ℕ → Session → Session → Type 0
AnswersMessages bytes old new = Replies (in_groups old.medium) (fed old.frames bytes) new.frames (seen old) (gathering_in old) (seen new) (gathering_in new) (waiting old) (waiting new)

-- nothing was taken of them
pub record TakesNothing (old new : Session) : Type 0 where
  pub seen_is : seen new ≡ seen old
  pub gathering : gathering_in new ≡ gathering_in old
  pub frames : new.frames ≡ old.frames
  pub waits : waiting new ≡ waiting old

-- Why the stream of messages is at its end. Memory is short for the bytes, or for an answer; or a frame was longer than a frame
-- may be, which has its answer too.
abbrev pub StopsBy : Fault → List ℕ → Session → Session → Type 0
StopsBy faults.Memory bytes old new = TakesNothing old new ⊎ RepliesButLast (in_groups old.medium) (fed old.frames bytes) new.frames (seen old) (gathering_in old) (seen new) (gathering_in new) (waiting old) (waiting new)
StopsBy faults.Device bytes old new = ⊥
StopsBy faults.TooLong bytes old new = AnswersMessages bytes old new × (new.frames ≡ None)
StopsBy faults.Text bytes old new = ⊥
StopsBy faults.Volume bytes old new = ⊥
StopsBy faults.Nothing bytes old new = ⊥

-- by the outcome
abbrev pub HearsBy : {T : Type 0} → Result T Fault → List ℕ → Session → Session → Type 0
HearsBy (Ok x) bytes old new = AnswersMessages bytes old new
HearsBy (Err fault) bytes old new = StopsBy fault bytes old new

abbrev pub ended_by : {T : Type 0} → Result T Fault → Option Fault
ended_by (Ok x) = None
ended_by (Err fault) = Some fault

-- Bytes of the stream of messages came while no group was open. A refusal ends the stream: each later call is refused alike, and does
-- nothing. What was taken is as it was. (What becomes of bytes that come while a group is open, `AddsToGroup` says.)
pub record AnswersStream {T : Type 0} (outcome : Result T Fault) (bytes : List ℕ) (old new : Session) : Type 0 where
  pub refused : (fault : Fault) → old.ended ≡ Some fault → (ended_by outcome ≡ Some fault) × (new ≡ old)
  pub heard : old.ended ≡ None → old.group ≡ None → HearsBy outcome bytes old new
  pub ended : old.group ≡ None → new.ended ≡ ended_by outcome
  pub group : old.group ≡ None → new.group ≡ None
  pub given : new.given ≡ old.given
  pub kind : in_memory new.medium ≡ in_memory old.medium

-- ---- what is taken

-- As many of the first bytes that waited were moved out as there were and had room. What comes after them in the room is as it
-- was.
pub record Took (old : Session) (room : List ℕ) (count : ℕ) (new : Session) (after : List ℕ) : Type 0 where
  pub count_is : count ≡ min (length room) (length (waiting old))
  pub moved : after ≡ take count (waiting old) ++ drop count room
  pub left : waiting new ≡ drop count (waiting old)
  pub same : SameSession old new
  pub given : new.given ≡ old.given
  pub medium : new.medium ≡ old.medium

-- The first block that was not taken was shown, or there was none, and what the caller has there stayed.
abbrev pub Shows : Session → Bool → ℕ × List ℕ → ℕ × List ℕ → Type 0
Shows s true before after = slice_get (blocks s) s.given ≡ Some after
Shows s false before after = (length (blocks s) ≤ s.given) × (after ≡ before)

-- It was taken, or there was none. Nothing else changed.
abbrev pub GivesOneBlock : Session → Bool → Session → Type 0
GivesOneBlock old true new = (old.given < length (blocks old)) × (new ≡ record old { given = old.given + 1 })
GivesOneBlock old false new = (length (blocks old) ≤ old.given) × (new ≡ old)
