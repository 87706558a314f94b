-- What came to a run and was answered, where the run ended and where a power loss cut it off; and runs after other runs.
use Rattle.std.specs.Prelude.{◌≡◌, ◌⊎◌, ℕ, List, [], ◌∷◌, ◌++◌}
use Rattle.drive.specs.Journal.{Event}
use Rattle.request.specs.declared.answer.Answer.{Answer}
use Rattle.request.specs.declared.message.Message.{Message}
use Rattle.model.specs.Session.{State, Request, after}
use Rattle.engine.specs.Losses.{AreCut, Life}
use Rattle.engine.specs.Said.{model_answers}
use Rattle.engine.specs.Served.{brought}
use Rattle.engine.specs.Withstanding.{AsksFor}

-- what came and was answered, where no power loss cut it off
abbrev pub life_of : List Message → List Answer → Life
life_of messages answers = record { said = brought messages; answers = model_answers answers; under = [] }

-- The same up to a power loss: the messages that were answered before it, and the request of the one under way, where the disk
-- kept all of its commit.
pub record IsLifeUntil (messages : List Message) (answers : List Answer) (life : Life) : Type 0 where
  pub done : List Message
  pub now : Message
  pub later : List Message
  pub order : messages ≡ done ++ now ∷ later
  pub given : List Answer
  pub others : List Answer
  pub answers_are : answers ≡ given ++ others
  pub under : List Request
  pub asked : (under ≡ []) ⊎ ((request : Request) × (under ≡ request ∷ []) × AsksFor now request)
  pub is : life ≡ record { said = brought done; answers = model_answers given; under = under }

-- it was lost in one of them, or after the last
abbrev pub IsLifeCut : List Message → List Answer → Life → Type 0
IsLifeCut messages answers life = (life ≡ life_of messages answers) ⊎ IsLifeUntil messages answers life

-- Runs one after another, and then others that began on what the first ones left, are runs one after another. So runs of which
-- different laws tell, of processes and of sessions, may follow each other in any order.
abbrev pub CutsJoin : Type 0
CutsJoin =
    (capacity volume : ℕ) (S : State) (before between afterwards : List Event) (first second : List Life) (done more : List Request) → AreCut capacity volume S before first done between
    → AreCut capacity volume (after S done) between second more afterwards → AreCut capacity volume S before (first ++ second) (done ++ more) afterwards
