-- Runs of an engine over deliveries: which answer each may get, what it commits, how far it writes, and what is recovered at each prefix.
use Rattle.std.specs.Prelude.{if◌then◌else◌, nat_lt, ◌≡◌, ◌⊎◌, ℕ, ◌+◌, ◌<◌, ◌≤◌, Bool, true, false, List, [], ◌∷◌, ◌++◌, length, take, drop, map, Option, Some, None}
use Rattle.std.specs.Option.{option_to_list}
use Rattle.std.specs.FinMap.{get}
use Rattle.limits.specs.declared.TheConstants.{FILE_BYTES}
use Rattle.model.specs.Tree.{Name, Path, Node, Tree, is_directory_at}
use Rattle.model.specs.Tree.Content.{File, Directory}
use Rattle.model.specs.Session.{State, Request, Reply, Due, due, reply_to, after}
use Rattle.model.specs.Runs.{AllNew, EachOnce}
use Rattle.model.specs.Session.Due.{Repeat, Stale, Gap, ClientsFull, New}
use Rattle.durability.specs.Formats.{Formats}
use Rattle.durability.specs.Volume.{Medium, RecoversTo, RecoveredTo}
use Rattle.durability.specs.Step.{Moves}

pub data Query : Type 0 where
  Get : (path : Path) → Query
  List_ : (path : Path) → Query
  Stat : (path : Path) → Query
  Read : (path : Path) (offset count : ℕ) → Query

pub data Message : Type 0 where
  Asks : (request : Request) → Message
  Queries : (query : Query) → Message
  Malformed : (cause : ℕ) → Message
  NoMemory : Message

pub data Delivery : Type 0 where
  Delivered : (message : Message) → Delivery
  Restart : Delivery

pub data Answer : Type 0 where
  Replied : (reply : Reply) → Answer
  IsStale : (latest : ℕ) → Answer
  IsGap : (latest : ℕ) → Answer
  AreClientsFull : Answer
  Full : Answer
  Fault : Answer
  Memory : Answer
  IsMalformed : (cause : ℕ) → Answer
  Damaged : Answer
  NotFound : Answer
  IsDirectory : Answer
  NotDirectory : Answer
  TooLong : Answer
  Data : (bytes : List ℕ) → Answer
  Names : (names : List (Bool × Name)) → Answer
  NodeIs : (directory : Bool) (moment size : ℕ) → Answer

-- the bytes of a file, unless one answer cannot hold them
abbrev pub whole_file : List ℕ → Answer
whole_file bytes = if nat_lt FILE_BYTES (length bytes) then TooLong else Data bytes

-- what the queries show of a node
abbrev pub got : Option Node → Answer
got None = NotFound
got (Some node) = elim node.content [ File bytes ↦ whole_file bytes | Directory names ↦ IsDirectory ]

-- the bytes that are there from the offset on, so many at most
abbrev pub piece_read : ℕ → ℕ → Option Node → Answer
piece_read offset count None = NotFound
piece_read offset count (Some node) = elim node.content [ File bytes ↦ Data (take count (drop offset bytes)) | Directory names ↦ IsDirectory ]

abbrev pub listed : Tree → Path → Option Node → Answer
listed tree path None = NotFound
listed tree path (Some node) = elim node.content [ File bytes ↦ NotDirectory | Directory names ↦ Names (map (λ name. (is_directory_at tree (path ++ name ∷ []), name)) names) ]

abbrev pub answer_to_stat : Option Node → Answer
answer_to_stat None = NotFound
answer_to_stat (Some node) = elim node.content [ File bytes ↦ NodeIs false node.moment (length bytes) | Directory names ↦ NodeIs true node.moment (length names) ]

abbrev pub told : Tree → Query → Answer
told tree (Get path) = got (get tree path)
told tree (List_ path) = listed tree path (get tree path)
told tree (Stat path) = answer_to_stat (get tree path)
told tree (Read path offset count) = piece_read offset count (get tree path)

-- what a delivery commits, and how many blocks it writes
pub record Effect : Type 0 where
  pub done : List Request
  pub blocks : ℕ

abbrev pub Nothing : Effect → Type 0
Nothing effect = (effect.done ≡ []) × (effect.blocks ≡ 0)

abbrev pub MayFail : Answer → Type 0
MayFail answer = (answer ≡ Fault) ⊎ (answer ≡ Memory)

-- A new request at a recovered state on so many blocks, on a volume of this capacity, and may need so many.
pub data AnswersNew (S : State) (mark capacity need : ℕ) (r : Request) : Answer → Effect → Type 0 where
  committed : (effect : Effect) → effect.done ≡ r ∷ [] → 1 ≤ effect.blocks → effect.blocks ≤ need → mark + need ≤ capacity → AnswersNew S mark capacity need r (Replied (reply_to S r)) effect
  failed : (effect : Effect) → (effect.done ≡ []) ⊎ ((effect.done ≡ r ∷ []) × (1 ≤ effect.blocks)) → effect.blocks ≤ need → (0 < effect.blocks → mark + need ≤ capacity) → AnswersNew S mark capacity need r Fault effect
  full : (effect : Effect) → Nothing effect → capacity < mark + need → AnswersNew S mark capacity need r Full effect
  no_memory : (effect : Effect) → Nothing effect → AnswersNew S mark capacity need r Memory effect

abbrev pub AnswersDue : State → ℕ → ℕ → ℕ → Request → Due → Answer → Effect → Type 0
AnswersDue S mark capacity need r (Repeat reply) answer effect = ((answer ≡ Replied reply) ⊎ MayFail answer) × Nothing effect
AnswersDue S mark capacity need r (Stale latest) answer effect = ((answer ≡ IsStale latest) ⊎ MayFail answer) × Nothing effect
AnswersDue S mark capacity need r (Gap latest) answer effect = ((answer ≡ IsGap latest) ⊎ MayFail answer) × Nothing effect
AnswersDue S mark capacity need r ClientsFull answer effect = ((answer ≡ AreClientsFull) ⊎ MayFail answer) × Nothing effect
AnswersDue S mark capacity need r New answer effect = AnswersNew S mark capacity need r answer effect

-- A delivery may get this answer, none at a restart, with this effect. need : what a request may need at a state.
abbrev pub Row : (State → Request → ℕ) → State → ℕ → ℕ → Delivery → Option Answer → Effect → Type 0
Row need S mark capacity Restart (Some answer) effect = ⊥
Row need S mark capacity Restart None effect = Nothing effect
Row need S mark capacity (Delivered message) None effect = ⊥
Row need S mark capacity (Delivered (Malformed cause)) (Some answer) effect = ((answer ≡ IsMalformed cause) ⊎ (answer ≡ Memory)) × Nothing effect
Row need S mark capacity (Delivered NoMemory) (Some answer) effect = (answer ≡ Memory) × Nothing effect
Row need S mark capacity (Delivered (Queries query)) (Some answer) effect = ((answer ≡ told S.tree query) ⊎ MayFail answer) × Nothing effect
Row need S mark capacity (Delivered (Asks r)) (Some answer) effect = AnswersDue S mark capacity (need S r) r (due S r.client r.number) answer effect

-- Each delivery's answer, the journal's length after it and how many requests are committed by then. Before the first these are mark and count, after the last the length is `end`.
abbrev pub Fits : (State → Request → ℕ) → ℕ → ℕ → State → ℕ → ℕ → List Delivery → List Answer → List ℕ → List ℕ → List Request → Type 0
Fits need capacity end S mark count [] answers marks counts C = (answers ≡ []) × (marks ≡ []) × (counts ≡ []) × (C ≡ []) × (mark ≡ end)
Fits need capacity end S mark count (d ∷ ds) answers marks counts C =
    (answer : Option Answer) × (effect : Effect) × (rest : List Answer) × (marks1 counts1 : List ℕ) × (C1 : List Request)
    × Row need S mark capacity d answer effect
    × (answers ≡ option_to_list answer ++ rest) × (C ≡ effect.done ++ C1)
    × (marks ≡ (mark + effect.blocks) ∷ marks1) × (counts ≡ (count + length effect.done) ∷ counts1)
    × Fits need capacity end (after S effect.done) (mark + effect.blocks) (count + length effect.done) ds rest marks1 counts1 C1

-- at each mark the count is this one
abbrev pub AtMarks : (ℕ → ℕ) → List ℕ → List ℕ → Type 0
AtMarks c [] [] = Unit {0}
AtMarks c (m ∷ marks) (n ∷ counts) = (c m ≡ n) × AtMarks c marks counts
AtMarks c [] (n ∷ counts) = ⊥
AtMarks c (m ∷ marks) [] = ⊥

module _ (formats : Formats) where
  -- From a medium that recovers to S these deliveries may get these answers, commit C, and leave a medium that recovers to S'.
  abbrev pub Runs : (State → Request → ℕ) → ℕ → ℕ → Medium → State → List Delivery → List Answer → List Request → Medium → State → Type 0
  Runs need drive volume B S [] answers C B' S' = (answers ≡ []) × (C ≡ []) × (B' ≡ B) × (S' ≡ S)
  Runs need drive volume B S (d ∷ ds) answers C B' S' =
      (B1 : Medium) × (answer : Option Answer) × (effect : Effect) × (rest : List Answer) × (C1 : List Request)
      × Row need S (length B) volume d answer effect × (length B1 ≡ length B + effect.blocks) × Moves formats drive volume B S B1 (after S effect.done)
      × (answers ≡ option_to_list answer ++ rest) × (C ≡ effect.done ++ C1)
      × Runs need drive volume B1 (after S effect.done) ds rest C1 B' S'

  -- The headline. The medium was `before` and is `afterwards`; each address was written once, in order, so a prefix of the journal is a prefix of the medium.
  pub record Holds (need : State → Request → ℕ) (drive volume : ℕ) (S : State) (before afterwards : Medium) (deliveries : List Delivery) (answers : List Answer) : Type 0 where
    pub committed : List Request
    pub marks : List ℕ
    pub counts : List ℕ
    pub c : ℕ → ℕ
    pub fits : Fits need volume (length afterwards) S (length before) 0 deliveries answers marks counts committed
    pub new : AllNew S committed
    pub once : EachOnce committed
    pub front : take (length before) afterwards ≡ before
    pub stands : (k : ℕ) → length before ≤ k → k ≤ length afterwards → (c k ≤ length committed) × RecoversTo formats drive volume (take k afterwards) (after S (take (c k) committed))
    pub never_falls : (j k : ℕ) → j ≤ k → c j ≤ c k
    pub at_start : c (length before) ≡ 0
    pub at_marks : AtMarks c marks counts
    pub at_end : c (length afterwards) ≡ length committed
    -- what was recovered before is remembered, and so is each commit of the run
    pub past : (k : ℕ) (T : State) → RecoveredTo formats drive volume before k T → RecoveredTo formats drive volume afterwards k T
    pub later : (j : ℕ) → j ≤ length committed → RecoveredTo formats drive volume afterwards (S.commits + j) (after S (take j committed))
