-- The commits that messages made which were answered one after another.
use Rattle.std.specs.Prelude.{◌≡◌, ◌⊎◌, List, [], ◌∷◌, ◌++◌, length}
use Rattle.drive.specs.Journal.{written}
use Rattle.model.specs.Session.{State, Request, due, reply_to, after_one}
use Rattle.model.specs.Session.Due.{New}
use Rattle.durability.specs.Runs.Answer.{Replied}
use Rattle.gathering.specs.Groups.{Commit}
use Rattle.request.specs.declared.answer.Answer.{Answer}
use Rattle.request.specs.declared.message.Message.{Message}
use Rattle.engine.specs.Answered.{faults}
use Rattle.engine.specs.Said.{model_answer}
use Rattle.engine.specs.Served.{AllAnswered}
use Rattle.engine.specs.Situation.{Situation}
use Rattle.engine.specs.Withstanding.{AsksFor}

-- no answer tells of a failing drive
abbrev pub NoneFailed : List Answer → Type 0
NoneFailed [] = Unit {0}
NoneFailed (a ∷ answers) = (faults a ≡ 0) × NoneFailed answers

-- A message asked for this new request, and got the request's own reply. All that it wrote is this commit.
pub record Commits (S : State) (asked : Message) (before : Situation) (a : Answer) (afterwards : Situation) (request : Request) (commit : Commit) : Type 0 where
  pub asks : AsksFor asked request
  pub new : due S request.client request.number ≡ New
  pub reply : model_answer a ≡ Replied (reply_to S request)
  pub journal : afterwards.journal ≡ before.journal ++ written (length before.journal) (commit.blocks ++ commit.mark ∷ [])

-- Of messages, one after another, these requests were committed, by these commits. Every other message wrote nothing.
abbrev pub AreGathered : (messages : List Message) → State → (before : Situation) → (answers : List Answer) → (afterwards : Situation) → AllAnswered messages before answers afterwards → List Request → List Commit → Type 0
AreGathered [] S before [] afterwards all requests group = (requests ≡ []) × (group ≡ [])
AreGathered [] S before (a ∷ answers) afterwards all requests group = ⊥
AreGathered (m ∷ messages) S before [] afterwards all requests group = ⊥
AreGathered (m ∷ messages) S before (a ∷ answers) afterwards all requests group =
    ((all.0.journal ≡ before.journal) × AreGathered messages S all.0 answers afterwards all.2 requests group)
    ⊎ ((request : Request) × (commit : Commit) × (more : List Request) × (others : List Commit)
    × (requests ≡ request ∷ more) × (group ≡ commit ∷ others) × Commits S m before a all.0 request commit
    × AreGathered messages (after_one S request) all.0 answers afterwards all.2 more others)
