-- What a power loss may leave of what a message or a delivery wrote, where a disk keeps any choice of the blocks of the write that had not returned.
use Rattle.std.specs.Prelude.{◌≡◌, ◌⊎◌, ℕ, ◌<◌, List, [], ◌∷◌, ◌++◌, length, take}
use Rattle.drive.specs.Journal.{Event, written}
use Rattle.drive.specs.Writes.{IsLeft, IsTorn, LastIsCut, joined}
use Rattle.request.specs.declared.message.Message.{Message}
use Rattle.request.specs.declared.message.Message.TheVariants as message
use Rattle.request.specs.Payload.{DecodesPayload}
use Rattle.model.specs.Session.{State, Request, due, after_one}
use Rattle.model.specs.Session.Due.{New}
use Rattle.durability.specs.Formats.{Block}
use Rattle.durability.specs.Journal.{Advances}
use Rattle.udf.specs.Udf.{udf}
use Rattle.lookup.specs.Asked.{model_request}
use Rattle.engine.specs.declared.runs.Delivery.{Delivery}
use Rattle.engine.specs.declared.runs.Delivery.TheVariants.{Frame, Restart}
use Rattle.engine.specs.Situation.{Situation}

-- the state is recovered as before, or the one after a request that was asked for and is new
abbrev pub StandsOrCommits : ℕ → State → (Request → Type 0) → Situation → List Event → Type 0
StandsOrCommits volume S asked before journal =
    Advances udf before.capacity volume before.journal S journal S
    ⊎ ((request : Request) × asked request × (due S request.client request.number ≡ New) × Advances udf before.capacity volume before.journal S journal (after_one S request))

-- The writes that were made from one situation to the next, each once the one before it was whole. Where none failed, the
-- journal goes on by the blocks of all. Where the drive failed, there was no write, or the journal goes on by the blocks of all
-- but the last and a prefix of the last. Whatever a power loss leaves of them, each from where it began, the state is recovered
-- as before, or the one after a request that was asked for and is new.
pub record MessageSurvivesPowerLoss (volume : ℕ) (S : State) (asked : Request → Type 0) (failed : ℕ) (before afterwards : Situation) : Type 0 where
  pub added : List (List Block)
  pub writes_are : afterwards.writes ≡ before.writes ++ added
  pub whole : failed ≡ 0 → afterwards.journal ≡ before.journal ++ written (length before.journal) (joined added)
  pub cut : 0 < failed → ((added ≡ []) × (afterwards.journal ≡ before.journal)) ⊎ LastIsCut (length before.journal) before.journal added afterwards.journal
  pub torn : (left : List Block) (journal : List Event) → IsLeft added left → journal ≡ before.journal ++ written (length before.journal) left → StandsOrCommits volume S asked before journal

-- a message asks for this request
abbrev pub AsksFor : Message → Request → Type 0
AsksFor (message.Malformed cause) request = ⊥
AsksFor message.NoMemory request = ⊥
AsksFor (message.Query asked) request = ⊥
AsksFor (message.Request asked) request = request ≡ model_request asked

-- a delivery does
abbrev pub Brings : Delivery → Request → Type 0
Brings Restart request = ⊥
Brings (Frame payload) request = (m : Message) × DecodesPayload m payload.items × AsksFor m request

-- ---- where each write begins

-- the journal where these writes are whole, and where the next one begins
abbrev pub after_writes : List Event → List (List Block) → List Event
after_writes journal writes = journal ++ written (length journal) (joined writes)

-- When a write of a message began, the journal had all writes before it, and it goes on from there. Whatever a power loss leaves
-- of that write, from there on, the state is recovered as before, or the one after the request.
abbrev pub WritesBegin : Type 0
WritesBegin =
    (volume : ℕ) (S : State) (asked : Message) (failed : ℕ) (before afterwards : Situation) (account : MessageSurvivesPowerLoss volume S (AsksFor asked) failed before afterwards)
    → (earlier : List (List Block)) (write : List Block) (later : List (List Block)) → account.added ≡ earlier ++ write ∷ later
    → (take (length (after_writes before.journal earlier)) afterwards.journal ≡ after_writes before.journal earlier)
    × ((left : List Block) (journal : List Event) → IsTorn write left
    → journal ≡ after_writes before.journal earlier ++ written (length (after_writes before.journal earlier)) left → StandsOrCommits volume S (AsksFor asked) before journal)

-- Of two messages, one after the other, another account gives the first a write that the second made. Then it says that the
-- journal has all writes of the first. So where one of these was cut short, there is no such account.
abbrev pub WritesAreTheirOwn : Type 0
WritesAreTheirOwn =
    (volume : ℕ) (S T S' T' : State) (asked next : Message) (failed failed' : ℕ) (before during other afterwards : Situation)
    → (account : MessageSurvivesPowerLoss volume S (AsksFor asked) failed before during) → MessageSurvivesPowerLoss volume T (AsksFor next) failed' during afterwards
    → MessageSurvivesPowerLoss volume S' (AsksFor asked) failed before other → MessageSurvivesPowerLoss volume T' (AsksFor next) failed' other afterwards
    → (write : List Block) (more : List (List Block)) → other.writes ≡ during.writes ++ write ∷ more
    → take (length (after_writes before.journal account.added)) afterwards.journal ≡ after_writes before.journal account.added
