-- What became of the messages of a stream that were answered in groups.
use Rattle.std.specs.Prelude.{◌≡◌, ◌⊎◌, ℕ, List, [], ◌∷◌, ◌++◌, take, Option}
use Rattle.std.specs.Io.KnownBytes.{Appends, Consumes, IsAtEnd}
use Rattle.drive.specs.Gathering.{Gathering}
use Rattle.model.specs.Session.{after}
use Rattle.request.specs.Frames.{IsIdle, MessagesAre}
use Rattle.engine.specs.declared.serving.ServeFault.{ServeFault}
use Rattle.engine.specs.declared.serving.ServeFault.TheVariants as faults
use Rattle.engine.specs.Served.{AllTaken, AllTold, IsCutOffWithin, LastUntold, Unlooked, frames_of}
use Rattle.engine.specs.Situation.{Situation}
use Rattle.engine.specs.Streams.{PutsPrefix}
use Rattle.grouping.specs.Losses.{GroupsAreLives}
use Rattle.grouping.specs.Served.{AreGroups, Group, GroupsRun, GroupsWithstand, answers_of, messages_of}

-- Messages that a reader of frames held were answered in groups, and each answer's frame was written.
pub record Grouping (reader after : Option (List ℕ)) (before : Situation) (begun : Gathering) (afterwards : Situation) (ended : Gathering) (output written : Option (List ℕ)) : Type 0 where
  pub groups : List Group
  pub taken : AllTaken reader (messages_of groups) after
  pub are : AreGroups groups before begun afterwards ended
  pub told : Appends output written (frames_of (answers_of groups))

-- the frames of the last group's answers were not written whole: those of each other group were, and so many bytes of these
abbrev pub LastGroupUntold : List Group → ℕ → Option (List ℕ) → Option (List ℕ) → Type 0
LastGroupUntold groups count output written =
    (others : List Group) × (last : Group) × (groups ≡ others ++ last ∷ []) × Appends output written (frames_of (answers_of others) ++ take count (frames_of last.answers))

-- Why messages that are there were left: a write failed, in the last group's answers or after all of them; or there was no memory
-- for the last answer's frame.
abbrev pub LeftIn : ServeFault → List Group → Option (List ℕ) → Option (List ℕ) → Option (List ℕ) → Type 0
LeftIn faults.Read groups reader output written = ⊥
LeftIn faults.Write groups reader output written = AllTold (answers_of groups) reader output written ⊎ ((count : ℕ) × LastGroupUntold groups count output written)
LeftIn faults.Memory groups reader output written = LastUntold (answers_of groups) 0 output written

-- The same, but it ended with a fault, and of the answers' frames a prefix was written.
pub record GroupingSome (fault : ServeFault) (reader after : Option (List ℕ)) (before : Situation) (begun : Gathering) (afterwards : Situation) (ended : Gathering) (output written : Option (List ℕ)) : Type 0 where
  pub groups : List Group
  pub taken : AllTaken reader (messages_of groups) after
  pub are : AreGroups groups before begun afterwards ended
  pub front : PutsPrefix output written (frames_of (answers_of groups))
  pub left : LeftIn fault groups after output written

-- Bytes were read. Their messages were answered in groups, and each answer's frame was written.
pub record ServingGroups (reader : Option (List ℕ)) (before : Situation) (begun : Gathering) (afterwards : Situation) (ended : Gathering) (input left output written : Option (List ℕ)) : Type 0 where
  pub bytes : List ℕ
  pub groups : List Group
  pub consumed : Consumes input left bytes
  pub messages_are : MessagesAre bytes (messages_of groups) reader
  pub are : AreGroups groups before begun afterwards ended
  pub told : Appends output written (frames_of (answers_of groups))

-- All messages of the bytes that were read were answered in groups, and each answer's frame was written. The stream is at its end, or a frame was too long.
-- No more than so many bytes were read at once.
pub record ServesGroups (most : ℕ) (before : Situation) (begun : Gathering) (afterwards : Situation) (ended : Gathering) (input left output written : Option (List ℕ)) : Type 0 where
  pub reader : Option (List ℕ)
  pub serving : ServingGroups reader before begun afterwards ended input left output written
  pub run : GroupsRun serving.groups before begun afterwards ended serving.are
  pub withstand : GroupsWithstand serving.groups before begun afterwards ended serving.are
  pub lives : GroupsAreLives serving.groups before begun afterwards ended serving.are
  pub idle : IsIdle reader
  pub ends : IsAtEnd left ⊎ IsCutOffWithin most serving.bytes reader

-- Why a stream was left, as it is where messages are answered one by one.
abbrev pub LeftByIn : ServeFault → List ℕ → List Group → Option (List ℕ) → Option (List ℕ) → Option (List ℕ) → Type 0
LeftByIn faults.Read bytes groups reader output written = AllTold (answers_of groups) reader output written
LeftByIn faults.Write bytes groups reader output written = (bytes ≡ [] → ⊥) × LeftIn faults.Write groups reader output written
LeftByIn faults.Memory bytes groups reader output written =
    LeftIn faults.Memory groups reader output written ⊎ (Unlooked (answers_of groups) reader output written ⊎ AllTold (answers_of groups) reader output written)

-- The first messages of the bytes that were read were answered in groups, and of the answers' frames a prefix was written, up to where this fault came.
pub record ServesGroupsUntil (fault : ServeFault) (before : Situation) (begun : Gathering) (afterwards : Situation) (ended : Gathering) (input left output written : Option (List ℕ)) : Type 0 where
  pub bytes : List ℕ
  pub groups : List Group
  pub reader : Option (List ℕ)
  pub consumed : Consumes input left bytes
  pub messages_are : MessagesAre bytes (messages_of groups) reader
  pub are : AreGroups groups before begun afterwards ended
  pub run : GroupsRun groups before begun afterwards ended are
  pub withstand : GroupsWithstand groups before begun afterwards ended are
  pub lives : GroupsAreLives groups before begun afterwards ended are
  pub front : PutsPrefix output written (frames_of (answers_of groups))
  pub left_by : LeftByIn fault bytes groups reader output written
