-- What became of the messages of a stream, one after another.
use Rattle.std.specs.Prelude.{◌≡◌, ◌⊎◌, ℕ, ◌≤◌, List, [], ◌∷◌, ◌++◌, length, map, take, Option, Some, None, IsTrue}
use Rattle.std.specs.List.{flat_map}
use Rattle.std.specs.Io.KnownBytes.{Appends, Consumes, IsAtEnd}
use Rattle.request.specs.declared.answer.Answer.{Answer}
use Rattle.request.specs.declared.message.Message.{Message}
use Rattle.request.specs.Answers.{answer_frame}
use Rattle.request.specs.Frames.{TakesMessage, IsIdle, IsPartial, MessagesAre, fed}
use Rattle.model.specs.Session.{State}
use Rattle.durability.specs.Commit.{need}
use Rattle.durability.specs.Journal.{HoldsOnJournal}
use Rattle.durability.specs.Runs.{Delivery}
use Rattle.durability.specs.Runs.Delivery.{Delivered}
use Rattle.udf.specs.Udf.{udf, spelled_length}
use Rattle.engine.specs.Situation.{Situation}
use Rattle.engine.specs.declared.serving.ServeFault.{ServeFault}
use Rattle.engine.specs.declared.serving.ServeFault.TheVariants as faults
use Rattle.engine.specs.Answered.{faults}
use Rattle.engine.specs.Delivered.{IsAnswered}
use Rattle.engine.specs.Said.{model_answer, model_answers, model_message}
use Rattle.engine.specs.Steps.{HoldsState, IsStep}
use Rattle.engine.specs.Streams.{PutsPrefix}
use Rattle.engine.specs.Withstanding.{AsksFor, MessageSurvivesPowerLoss}

-- each message got its answer, in order
abbrev pub AllAnswered : List Message → Situation → List Answer → Situation → Type 0
AllAnswered [] before [] after = after ≡ before
AllAnswered [] before (a ∷ answers) after = ⊥
AllAnswered (m ∷ messages) before [] after = ⊥
AllAnswered (m ∷ messages) before (a ∷ answers) after = (during : Situation) × IsAnswered m before a during × AllAnswered messages during answers after

abbrev pub brought : List Message → List Delivery
brought messages = map (λ m. Delivered (model_message m)) messages

-- On an honest drive, where a state is recovered that an open store knows: what is recovered at each prefix of what was written is the
-- state after the first of the requests that were committed.
abbrev pub ServedHolds : List Message → Situation → List Answer → Situation → Type 0
ServedHolds messages before answers afterwards =
    (volume : ℕ) (S : State) → IsTrue afterwards.honest → HoldsState volume S before
    → HoldsOnJournal udf (need spelled_length) before.capacity volume S before.journal afterwards.journal (brought messages) (model_answers answers)

-- Of messages, one after another, from the recovered state where the first of them comes. Each is a step that the medium's
-- runs allow, from the state that the one before it left and the journal as it was when the message came. And whatever a loss
-- of power leaves of the writes for it, that state is recovered, or the one after the new request that it asks for.
abbrev pub EachWithstands : ℕ → (messages : List Message) → State → (before : Situation) → (answers : List Answer) → (afterwards : Situation) → AllAnswered messages before answers afterwards → State → Type 0
EachWithstands volume [] S before [] afterwards all S' = S' ≡ S
EachWithstands volume [] S before (a ∷ answers) afterwards all S' = ⊥
EachWithstands volume (m ∷ messages) S before [] afterwards all S' = ⊥
EachWithstands volume (m ∷ messages) S before (a ∷ answers) afterwards all S' =
    (T : State) × IsStep volume (Delivered (model_message m)) S before (Some (model_answer a)) T all.0
    × MessageSurvivesPowerLoss volume S (AsksFor m) (faults a) before all.0
    × EachWithstands volume messages T all.0 answers afterwards all.2 S'

-- so it is of these, as they were answered, on an honest drive where a state is recovered that an open store knows
abbrev pub ServedWithstands : (messages : List Message) → (before : Situation) → (answers : List Answer) → (afterwards : Situation) → AllAnswered messages before answers afterwards → Type 0
ServedWithstands messages before answers afterwards all =
    (volume : ℕ) (S : State) → IsTrue afterwards.honest → HoldsState volume S before → (S' : State) × EachWithstands volume messages S before answers afterwards all S'

-- a reader of frames gave these messages, in order
abbrev pub AllTaken : Option (List ℕ) → List Message → Option (List ℕ) → Type 0
AllTaken reader [] after = after ≡ reader
AllTaken reader (m ∷ messages) after = (between : Option (List ℕ)) × TakesMessage reader m between × AllTaken between messages after

-- the frames of answers, in order
abbrev pub frames_of : List Answer → List ℕ
frames_of answers = flat_map answer_frame answers

-- Messages that a reader of frames held were answered, and each answer's frame was written.
pub record Answering (reader after : Option (List ℕ)) (before afterwards : Situation) (output written : Option (List ℕ)) : Type 0 where
  pub messages : List Message
  pub answers : List Answer
  pub taken : AllTaken reader messages after
  pub answered : AllAnswered messages before answers afterwards
  pub told : Appends output written (frames_of answers)

-- no whole message waits, and each answer's frame was written
abbrev pub AllTold : List Answer → Option (List ℕ) → Option (List ℕ) → Option (List ℕ) → Type 0
AllTold answers reader output written = IsIdle reader × Appends output written (frames_of answers)

-- the last answer's frame was not written whole: each other one's was, and so many bytes of it
abbrev pub LastUntold : List Answer → ℕ → Option (List ℕ) → Option (List ℕ) → Type 0
LastUntold answers count output written = (others : List Answer) × (last : Answer) × (answers ≡ others ++ last ∷ []) × Appends output written (frames_of others ++ take count (answer_frame last))

-- bytes were read of which the reader of frames took none, after answers that were written whole
abbrev pub Unlooked : List Answer → Option (List ℕ) → Option (List ℕ) → Option (List ℕ) → Type 0
Unlooked answers reader output written = (earlier : Option (List ℕ)) × (piece : List ℕ) × IsIdle earlier × (piece ≡ [] → ⊥) × (reader ≡ fed earlier piece) × Appends output written (frames_of answers)

-- Why messages that are there were left, by what was written of their answers. A write fails at the last answer, or after
-- all of them. Memory is short where the last answer has no frame.
abbrev pub LeftAt : ServeFault → List Answer → Option (List ℕ) → Option (List ℕ) → Option (List ℕ) → Type 0
LeftAt faults.Read answers reader output written = ⊥
LeftAt faults.Write answers reader output written = AllTold answers reader output written ⊎ ((count : ℕ) × LastUntold answers count output written)
LeftAt faults.Memory answers reader output written = LastUntold answers 0 output written

-- Why a stream was left, by what was read of it, and written of the answers. A read fails where all that was read has its
-- answers; a write where something was read; and memory is short for such a message's answer, for bytes that were read, or
-- to read on where each answer is written.
abbrev pub LeftBy : ServeFault → List ℕ → List Answer → Option (List ℕ) → Option (List ℕ) → Option (List ℕ) → Type 0
LeftBy faults.Read bytes answers reader output written = AllTold answers reader output written
LeftBy faults.Write bytes answers reader output written = (bytes ≡ [] → ⊥) × LeftAt faults.Write answers reader output written
LeftBy faults.Memory bytes answers reader output written =
    LeftAt faults.Memory answers reader output written ⊎ (Unlooked answers reader output written ⊎ AllTold answers reader output written)

-- The same, but it ended with a fault, and of the answers' frames a prefix was written.
pub record AnswersSome (fault : ServeFault) (reader after : Option (List ℕ)) (before afterwards : Situation) (output written : Option (List ℕ)) : Type 0 where
  pub messages : List Message
  pub answers : List Answer
  pub taken : AllTaken reader messages after
  pub answered : AllAnswered messages before answers afterwards
  pub front : PutsPrefix output written (frames_of answers)
  pub left : LeftAt fault answers after output written

-- Bytes were read. The messages that a reader of frames gave of them, and that is left so, were answered, and each answer's frame was written.
pub record Serving (reader : Option (List ℕ)) (before afterwards : Situation) (input left output written : Option (List ℕ)) : Type 0 where
  pub bytes : List ℕ
  pub messages : List Message
  pub answers : List Answer
  pub consumed : Consumes input left bytes
  pub messages_are : MessagesAre bytes messages reader
  pub answered : AllAnswered messages before answers afterwards
  pub told : Appends output written (frames_of answers)

-- A frame was too long: in the last piece that was read, of so many bytes at most, and in none before it.
pub record IsCutOffWithin (most : ℕ) (bytes : List ℕ) (reader : Option (List ℕ)) : Type 0 where
  pub over : reader ≡ None
  pub earlier : List ℕ
  pub piece : List ℕ
  pub bytes_are : bytes ≡ earlier ++ piece
  pub short : length piece ≤ most
  pub messages : List Message
  pub waiting : List ℕ
  pub messages_are : MessagesAre earlier messages (Some waiting)
  pub partial : IsPartial waiting

abbrev pub IsCutOff : List ℕ → Option (List ℕ) → Type 0
IsCutOff = IsCutOffWithin 65536

-- All messages of the bytes that were read were answered in turn, and each answer's frame was written. The stream is at its end, or a frame was too long.
pub record ServesAll (before afterwards : Situation) (input left output written : Option (List ℕ)) : Type 0 where
  pub reader : Option (List ℕ)
  pub serving : Serving reader before afterwards input left output written
  pub holds : ServedHolds serving.messages before serving.answers afterwards
  pub withstands : ServedWithstands serving.messages before serving.answers afterwards serving.answered
  pub idle : IsIdle reader
  pub ends : IsAtEnd left ⊎ IsCutOff serving.bytes reader

-- The first messages of the bytes that were read were answered in turn, and of the answers' frames a prefix was written.
pub record ServesSome (before afterwards : Situation) (input left output written : Option (List ℕ)) : Type 0 where
  pub bytes : List ℕ
  pub messages : List Message
  pub answers : List Answer
  pub reader : Option (List ℕ)
  pub consumed : Consumes input left bytes
  pub messages_are : MessagesAre bytes messages reader
  pub answered : AllAnswered messages before answers afterwards
  pub holds : ServedHolds messages before answers afterwards
  pub withstands : ServedWithstands messages before answers afterwards answered
  pub front : PutsPrefix output written (frames_of answers)

-- The same, up to where this fault came.
pub record ServesUntil (fault : ServeFault) (before afterwards : Situation) (input left output written : Option (List ℕ)) : Type 0 where
  pub some : ServesSome before afterwards input left output written
  pub left_by : LeftBy fault some.bytes some.answers some.reader output written
