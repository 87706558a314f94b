-- What each call of C's does to the session that its handle stands for.
use Rattle.std.specs.Prelude.{◌≡◌, ⊤, ℕ, ℤ, pos, Bool, true, false, List, [], length, Some, None, Result}
use Rattle.embedding.specs.declared.fault.Fault.{Fault}
use Rattle.embedding.specs.declared.fault.Fault.TheVariants.{Device, Nothing}
use Rattle.embedding.specs.declared.session.Session.{Session}
use Rattle.embedding.specs.Grouped.{AddsToGroup, SettlesGroup}
use Rattle.embedding.specs.Media.{in_memory}
use Rattle.embedding.specs.Numbers.{status, number_of}
use Rattle.embedding.specs.Opens.{OpensFile, OpensMemory}
use Rattle.embedding.specs.Sessions.{waiting, blocks, AnswersStream, Shows, GivesOneBlock}

-- The volume on a file or on a drive that is written in order, or a new one in memory, was opened in the session, and the number says
-- what became of it.
abbrev pub OpensVolume : Bool → ℤ → Session → Session → Type 0
OpensVolume in_order number old new = (outcome : Result ⊤ Fault) × (number ≡ status outcome) × OpensFile in_order outcome old new

abbrev pub OpensNewVolume : List ℕ → ℕ → ℕ → ℤ → Session → Session → Type 0
OpensNewVolume label moment capacity number old new = (outcome : Result ⊤ Fault) × (number ≡ status outcome) × OpensMemory label moment capacity outcome old new

-- bytes of messages came, and the number says what became of them
abbrev pub AnswersBytes : List ℕ → ℤ → Session → Session → Type 0
AnswersBytes bytes number old new = (outcome : Result ⊤ Fault) × (number ≡ status outcome) × AnswersStream outcome bytes old new × AddsToGroup outcome bytes old new

-- the open group was settled, or taken back, and the number says which
abbrev pub SettlesOpenGroup : ℤ → Session → Session → Type 0
SettlesOpenGroup number old new = (outcome : Result ⊤ Fault) × (number ≡ status outcome) × SettlesGroup outcome old new

-- so many bytes of answers wait
abbrev pub Counts : ℕ → Session → Session → Type 0
Counts count old new = (count ≡ length (waiting old)) × (new ≡ old)

-- whether there is a block, as a number
abbrev pub presence_number : Bool → ℤ
presence_number true = pos 0
presence_number false = number_of Nothing

abbrev pub ShowsBlock : ℤ → ℕ × List ℕ → ℕ × List ℕ → Session → Session → Type 0
ShowsBlock number before after old new = (there : Bool) × (number ≡ presence_number there) × Shows old there before after × (new ≡ old)

abbrev pub GivesBlock : ℤ → Session → Session → Type 0
GivesBlock number old new = (there : Bool) × (number ≡ presence_number there) × GivesOneBlock old there new

-- Nothing is held: no file, no block, no store, no part of a message and no answer. Each message is refused.
pub record Ended (s : Session) : Type 0 where
  pub kind : in_memory s.medium ≡ true
  pub medium : blocks s ≡ []
  pub given : s.given ≡ 0
  pub store : s.engine.store ≡ None
  pub frames : s.frames ≡ Some []
  pub waits : waiting s ≡ []
  pub ended : s.ended ≡ Some Device
  pub group : s.group ≡ None
