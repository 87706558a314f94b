-- Sessions of the library on one image, one after another, each known by the contracts of its calls alone: those that ended, and those that a power loss cut off.
use Rattle.std.specs.Prelude.{◌≡◌, ◌⊎◌, ⊤, ℕ, List, [], ◌∷◌, ◌++◌, map, Option, Some, None, Result, Ok, Err, IsTrue}
use Rattle.std.proofs.Common.{inl, inr, refl}
use Rattle.limits.specs.declared.TheConstants.{GREATEST_CAPACITY}
use Rattle.drive.specs.Journal.{Event, Once, held}
use Rattle.request.specs.Frames.{fed}
use Rattle.model.specs.Session.{State, Request}
use Rattle.durability.specs.Volume.{RecoversTo}
use Rattle.udf.specs.Udf.{udf}
use Rattle.engine.specs.Losses.{AreCut, Life, Survives}
use Rattle.grouping.specs.Losses.{LosesGroups, life_in}
use Rattle.grouping.specs.Losses.{LivesUntil as GroupsUntil}
use Rattle.embedding.specs.declared.fault.Fault.{Fault}
use Rattle.embedding.specs.declared.fault.Fault.TheVariants as faults
use Rattle.embedding.specs.declared.medium.Medium.{Medium}
use Rattle.embedding.specs.declared.session.Session.{Session}
use Rattle.embedding.specs.Media.{capacity_on, in_groups, journal_on}
use Rattle.embedding.specs.Opens.{Opened}
use Rattle.embedding.specs.Questions.{Asked}
use Rattle.embedding.specs.Replies.{AnswersInRun}
use Rattle.embedding.specs.Sessions.{AnswersStream, HearsBy, SameSession, StopsBy, gathering_in, seen}

-- A call of an open session: it brings bytes of messages, while no group is open; asks what the volume tells beside them; or takes bytes
-- of answers.
pub data Call : Type 0 where
  Bring : (bytes : List ℕ) → Call
  Ask : Call
  Take : Call

-- what it did, as the contract of its function says
abbrev pub IsCalled : Call → Session → Session → Type 0
IsCalled (Bring bytes) old new = (outcome : Result ⊤ Fault) × AnswersStream outcome bytes old new × (old.group ≡ None)
IsCalled Ask old new = Asked old new
IsCalled Take old new = SameSession old new

-- each of them on what the one before it left
abbrev pub AllCalled : List Call → Session → Session → Type 0
AllCalled [] old new = new ≡ old
AllCalled (call ∷ calls) old new = (between : Session) × IsCalled call old between × AllCalled calls between new

-- ---- the messages of a call, and their answers, as its contract has them

abbrev pub InRun : List ℕ → Session → Session → Type 0
InRun bytes old new = AnswersInRun (in_groups old.medium) (fed old.frames bytes) new.frames (seen old) (gathering_in old) (seen new) (gathering_in new)

-- none were answered where memory was short for the bytes
abbrev pub run_of_stop : (fault : Fault) (bytes : List ℕ) (old new : Session) → StopsBy fault bytes old new → Option (InRun bytes old new)
run_of_stop faults.Memory bytes old new (inl nothing) = None
run_of_stop faults.Memory bytes old new (inr h) = Some h.all
run_of_stop faults.Device bytes old new h = None
run_of_stop faults.TooLong bytes old new h = Some h.0.all
run_of_stop faults.Text bytes old new h = None
run_of_stop faults.Volume bytes old new h = None
run_of_stop faults.Nothing bytes old new h = None

abbrev pub run_of_heard : {T : Type 0} (outcome : Result T Fault) (bytes : List ℕ) (old new : Session) → HearsBy outcome bytes old new → Option (InRun bytes old new)
run_of_heard (Ok x) bytes old new h = Some h.all
run_of_heard (Err fault) bytes old new h = run_of_stop fault bytes old new h

-- nor where the stream had ended before
abbrev pub run_of_open : {R : Type 0} (ended : Option Fault) → (ended ≡ None → Option R) → Option R
run_of_open None heard = heard refl
run_of_open (Some fault) heard = None

abbrev pub run_of : (outcome : Result ⊤ Fault) (bytes : List ℕ) (old new : Session) → AnswersStream outcome bytes old new → old.group ≡ None → Option (InRun bytes old new)
run_of outcome bytes old new h alone = run_of_open old.ended (λ free. run_of_heard outcome bytes old new (h.heard free alone))

abbrev pub lives_of_run : (bytes : List ℕ) (old new : Session) → Option (InRun bytes old new) → List Life
lives_of_run bytes old new None = []
lives_of_run bytes old new (Some run) = map life_in run.groups

-- those of all calls, in order
abbrev pub lives_in : (calls : List Call) (old new : Session) → AllCalled calls old new → List Life
lives_in [] old new called = []
lives_in (Bring bytes ∷ calls) old new (between, (outcome, one, alone), rest) = lives_of_run bytes old between (run_of outcome bytes old between one alone) ++ lives_in calls between new rest
lives_in (Ask ∷ calls) old new (between, one, rest) = lives_in calls between new rest
lives_in (Take ∷ calls) old new (between, one, rest) = lives_in calls between new rest

-- ---- where a power loss cut a call off

-- It was lost while one of the call's groups was under way, and this is what is found.
abbrev pub LosesRun : (bytes : List ℕ) (old new : Session) → Option (InRun bytes old new) → List Event → Type 0
LosesRun bytes old new None lost = ⊥
LosesRun bytes old new (Some run) lost = LosesGroups run.groups (seen old) (gathering_in old) (seen new) (gathering_in new) run.are lost

-- so it was lost in one of these calls
abbrev pub LosesCalls : (calls : List Call) (old new : Session) → AllCalled calls old new → List Event → Type 0
LosesCalls [] old new called lost = ⊥
LosesCalls (Bring bytes ∷ calls) old new (between, (outcome, one, alone), rest) lost = LosesRun bytes old between (run_of outcome bytes old between one alone) lost ⊎ LosesCalls calls between new rest lost
LosesCalls (Ask ∷ calls) old new (between, one, rest) lost = LosesCalls calls between new rest lost
LosesCalls (Take ∷ calls) old new (between, one, rest) lost = LosesCalls calls between new rest lost

abbrev pub IsRunUntil : (bytes : List ℕ) (old new : Session) (run : Option (InRun bytes old new)) (lost : List Event) → LosesRun bytes old new run lost → List Life → Type 0
IsRunUntil bytes old new None lost loses lives = ⊥
IsRunUntil bytes old new (Some run) lost loses lives = GroupsUntil run.groups (seen old) (gathering_in old) (seen new) (gathering_in new) run.are lost loses lives

-- the lives up to there
abbrev pub LivesUntil : (calls : List Call) (old new : Session) (called : AllCalled calls old new) (lost : List Event) → LosesCalls calls old new called lost → List Life → Type 0
LivesUntil [] old new called lost loses lives = ⊥
LivesUntil (Bring bytes ∷ calls) old new (between, (outcome, one, alone), rest) lost (inl here) lives = IsRunUntil bytes old between (run_of outcome bytes old between one alone) lost here lives
LivesUntil (Bring bytes ∷ calls) old new (between, (outcome, one, alone), rest) lost (inr there) lives =
    (later : List Life) × (lives ≡ lives_of_run bytes old between (run_of outcome bytes old between one alone) ++ later) × LivesUntil calls between new rest lost there later
LivesUntil (Ask ∷ calls) old new (between, one, rest) lost loses lives = LivesUntil calls between new rest lost loses lives
LivesUntil (Take ∷ calls) old new (between, one, rest) lost loses lives = LivesUntil calls between new rest lost loses lives

-- ---- sessions

-- A session was opened on the file of an image, or on a drive that is written in order, and called. Then it ended, or its process did;
-- or a power loss cut one of its calls off. What the medium has no clause can know: this one had what was left there, and each read gave
-- what was written. Of a group that was never settled opening finds nothing.
pub record IsSession (calls : List Call) (before afterwards : List Event) : Type 0 where
  pub medium : Medium
  pub room : capacity_on medium ≡ GREATEST_CAPACITY
  pub finds : journal_on medium ≡ before
  pub first : Session
  pub last : Session
  pub opens : Opened medium first
  pub called : AllCalled calls first last
  pub honest : IsTrue (seen last).honest
  pub ends : (afterwards ≡ (seen last).journal) ⊎ LosesCalls calls first last called afterwards

-- what came to it and was answered
abbrev pub LivesOf : (calls : List Call) (first last : Session) (called : AllCalled calls first last) (afterwards : List Event) → (afterwards ≡ (seen last).journal) ⊎ LosesCalls calls first last called afterwards → List Life → Type 0
LivesOf calls first last called afterwards (inl ended) lives = lives ≡ lives_in calls first last called
LivesOf calls first last called afterwards (inr loses) lives = LivesUntil calls first last called afterwards loses lives

-- each session on what the one before it left
abbrev pub AllSessions : List (List Call) → List Event → List Event → Type 0
AllSessions [] before afterwards = afterwards ≡ before
AllSessions (calls ∷ sessions) before afterwards = (between : List Event) × IsSession calls before between × AllSessions sessions between afterwards

abbrev pub AllLives : (sessions : List (List Call)) (before afterwards : List Event) → AllSessions sessions before afterwards → List Life → Type 0
AllLives [] before afterwards all lives = lives ≡ []
AllLives (calls ∷ sessions) before afterwards (between, s, rest) lives =
    (first later : List Life) × (lives ≡ first ++ later) × LivesOf calls s.first s.last s.called between s.ends first × AllLives sessions between afterwards rest later

-- What sessions made of a volume: runs, each on what the one before it left. All requests that were acknowledged are among those
-- that were committed, and the state after these stands.
pub record SessionsSurvive (sessions : List (List Call)) (volume : ℕ) (S : State) (before afterwards : List Event) (all : AllSessions sessions before afterwards) : Type 0 where
  pub lives : List Life
  pub done : List Request
  pub are : AllLives sessions before afterwards all lives
  pub cuts : AreCut GREATEST_CAPACITY volume S before lives done afterwards
  pub survives : Survives GREATEST_CAPACITY volume S before done afterwards

-- So it is of any sessions, on any image that recovers to a state at first.
abbrev pub SessionsAreRuns : Type 0
SessionsAreRuns =
    (sessions : List (List Call)) (volume : ℕ) (S : State) (before afterwards : List Event) (all : AllSessions sessions before afterwards) → Once before → RecoversTo udf GREATEST_CAPACITY volume (held before) S
    → SessionsSurvive sessions volume S before afterwards all
