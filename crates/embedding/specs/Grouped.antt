-- A group that is open in a session: its messages have their answers, and the disk has them when it is settled.
use Rattle.std.specs.Prelude.{◌≡◌, ◌⊎◌, ℕ, ◌++◌, Bool, true, false, List, [], Option, Some, None, IsOk, Result, Ok, Err}
use Rattle.drive.specs.Gathering.{Gathering, KeepsGathering}
use Rattle.drive.specs.Journal.{next_of}
use Rattle.request.specs.declared.message.Message.{Message}
use Rattle.request.specs.Frames.{TakesMessage, fed}
use Rattle.settling.specs.Calls.{EndsGathering, begun}
use Rattle.settling.specs.Phases.{two_phases}
use Rattle.engine.specs.Situation.{Situation}
use Rattle.grouping.specs.declared.open_group.OpenGroup.{OpenGroup}
use Rattle.grouping.specs.OpenGroups.{AnswersNext, IsCutBack}
use Rattle.embedding.specs.declared.fault.Fault.{Fault}
use Rattle.embedding.specs.declared.fault.Fault.TheVariants as faults
use Rattle.embedding.specs.declared.session.Session.{Session}
use Rattle.embedding.specs.Media.{in_groups, in_memory}
use Rattle.embedding.specs.Sessions.{gathering_in, seen, waiting}

-- ---- what a session shows, its group apart

pub record Shown : Type 0 where
  pub in_groups : Bool  -- its medium is an image file
  pub in_memory : Bool
  pub situation : Situation
  pub gathering : Gathering
  pub frames : Option (List ℕ)
  pub waits : List ℕ  -- the bytes of answers that were not taken yet
  pub given : ℕ

abbrev pub shown : Session → Shown
shown s = record {
  in_groups = in_groups s.medium;
  in_memory = in_memory s.medium;
  situation = seen s;
  gathering = gathering_in s;
  frames = s.frames;
  waits = waiting s;
  given = s.given;
}

-- what C has not taken yet is as it was, and so is the kind of medium
pub record SameOutput (old new : Shown) : Type 0 where
  pub waits : new.waits ≡ old.waits
  pub given : new.given ≡ old.given
  pub kind : new.in_memory ≡ old.in_memory
  pub groups : new.in_groups ≡ old.in_groups

-- only the situation and how writes wait changed
pub record SameStream (old new : Shown) : Type 0 where
  pub frames : new.frames ≡ old.frames
  pub output : SameOutput old new

-- ---- a group begins

-- nothing is in it yet
pub record IsEmpty (before : Situation) (g : OpenGroup) : Type 0 where
  pub from : g.from ≡ next_of before.journal
  pub marks : g.marks.items ≡ []

-- from now on writes wait
pub record Gathers (old new : Shown) : Type 0 where
  pub situation : new.situation ≡ old.situation
  pub gathering : new.gathering ≡ begun old.gathering

-- A group that is open goes on. Otherwise one began, if the medium is an image file, and nothing was written.
pub record BeginsGroup (old new : Session) : Type 0 where
  pub goes_on : (g : OpenGroup) → old.group ≡ Some g → new ≡ old
  pub begins : old.group ≡ None → in_groups old.medium ≡ true → (g : OpenGroup) × (new.group ≡ Some g) × IsEmpty (seen old) g × Gathers (shown old) (shown new)
  pub none : old.group ≡ None → in_groups old.medium ≡ false → (new.group ≡ None) × (seen new ≡ seen old)
  pub ended : new.ended ≡ old.ended
  pub same : SameStream (shown old) (shown new)

-- ---- a group ends

-- The disk has it: it was given all but the marks, and then the marks, and each of both was synced.
pub record GivesGroup (g : OpenGroup) (old new : Shown) : Type 0 where
  pub situation : new.situation ≡ old.situation
  pub given : new.gathering.phases ≡ old.gathering.phases ++ two_phases g.from g.marks.items old.situation.journal

-- The disk cannot have it: as if its messages had not come, the medium is as it was, and the store is forgotten.
abbrev pub LosesAll : OpenGroup → Shown → Shown → Type 0
LosesAll g old new = IsCutBack g.from old.situation new.situation

-- by the outcome
abbrev pub EndsBy : {T : Type 0} → Result T Fault → OpenGroup → Shown → Shown → Type 0
EndsBy (Ok x) g old new = GivesGroup g old new
EndsBy (Err fault) g old new = (fault ≡ faults.Device) × LosesAll g old new

-- the drive gathers no more, and of the group it was given what each phase has, in order
abbrev pub EndsPhases : OpenGroup → Shown → Shown → Type 0
EndsPhases g old new = EndsGathering (two_phases g.from g.marks.items old.situation.journal) old.gathering new.gathering

-- The open group was settled, or taken back. Where none is open, nothing was done.
pub record SettlesGroup {T : Type 0} (outcome : Result T Fault) (old new : Session) : Type 0 where
  pub nothing : old.group ≡ None → IsOk outcome × (new ≡ old)
  pub ends : (g : OpenGroup) → old.group ≡ Some g → in_groups old.medium ≡ true → EndsBy outcome g (shown old) (shown new) × EndsPhases g (shown old) (shown new)
  pub group : new.group ≡ None
  pub ended : new.ended ≡ old.ended
  pub same : SameStream (shown old) (shown new)

-- The same where it is taken back.
pub record TakesGroupBack (old new : Session) : Type 0 where
  pub nothing : old.group ≡ None → new ≡ old
  pub back : (g : OpenGroup) → old.group ≡ Some g → in_groups old.medium ≡ true → LosesAll g (shown old) (shown new) × ((gathering_in new).gathers ≡ false)
  pub group : new.group ≡ None
  pub ended : new.ended ≡ old.ended
  pub same : SameStream (shown old) (shown new)

-- ---- a message comes

-- It is for the group that is open, or that one was settled and another began.
abbrev pub TurnsOver : (group turned : OpenGroup) → Shown → Shown → Type 0
TurnsOver group turned old new =
    ((turned ≡ group) × (new ≡ old))
    ⊎ ((old.in_groups ≡ true → GivesGroup group old new × (new.gathering.gathers ≡ true) × IsEmpty old.situation turned) × SameStream old new)

-- It was for another group, and the disk cannot have this one. The message is left out.
pub record FailsToSettle (fault : Fault) (group : OpenGroup) (old new : Shown) : Type 0 where
  pub told : fault ≡ faults.Device
  pub lost : old.in_groups ≡ true → LosesAll group old new
  pub left_out : (message : Message) (after : Option (List ℕ)) → TakesMessage old.frames message after → new.frames ≡ after
  pub output : SameOutput old new

-- It was answered on the medium that the messages before it left, if one is complete, and its answer waits after those that wait.
pub record AnswersInGroup (group added : OpenGroup) (old new : Shown) : Type 0 where
  pub answers : old.in_groups ≡ true → AnswersNext old.frames new.frames old.situation new.situation (Some old.waits) (Some new.waits) group.marks.items added.marks.items
  pub waits : old.in_groups ≡ true → KeepsGathering old.gathering new.gathering old.situation.writes new.situation.writes
  pub from : added.from ≡ group.from
  pub given : new.given ≡ old.given
  pub kind : new.in_memory ≡ old.in_memory
  pub groups : new.in_groups ≡ old.in_groups

-- The drive failed, or there was no memory for its answer or for a mark: the group was taken back.
pub record FailsToAnswer (fault : Fault) (group : OpenGroup) (old new : Shown) : Type 0 where
  pub told : (fault ≡ faults.Device) ⊎ (fault ≡ faults.Memory)
  pub lost : old.in_groups ≡ true → LosesAll group old new × (new.gathering.gathers ≡ false)
  pub output : SameOutput old new

-- There was no memory for the bytes: nothing was taken of them, and the group was taken back.
pub record FailsToTake (fault : Fault) (group : OpenGroup) (old new : Shown) : Type 0 where
  pub told : fault ≡ faults.Memory
  pub lost : old.in_groups ≡ true → LosesAll group old new × (new.gathering.gathers ≡ false)
  pub same : SameStream old new

-- The reader of frames has what came. The next message was answered in the open group, or in another one after that was settled.
pub record AddsNext (group : OpenGroup) (reader : Option (List ℕ)) (old new : Shown) (open_now : Option OpenGroup) : Type 0 where
  pub turned : OpenGroup
  pub between : Shown
  pub turns : TurnsOver group turned (record old { frames = reader }) between
  pub added : OpenGroup
  pub answers : AnswersInGroup turned added between new
  pub now_open : open_now ≡ Some added

-- no group is open any more: what was not settled was taken back
abbrev pub LosesGroup : Fault → OpenGroup → Option (List ℕ) → Shown → Shown → Option OpenGroup → Type 0
LosesGroup fault group reader old new open_now =
    (open_now ≡ None)
    × (FailsToTake fault group old new
    ⊎ (FailsToSettle fault group (record old { frames = reader }) new
    ⊎ ((turned : OpenGroup) × (between : Shown) × TurnsOver group turned (record old { frames = reader }) between × FailsToAnswer fault turned between new)))

-- by the outcome
abbrev pub AddsBy : {T : Type 0} → Result T Fault → OpenGroup → Option (List ℕ) → Shown → Shown → Option OpenGroup → Type 0
AddsBy (Ok x) group reader old new open_now = AddsNext group reader old new open_now
AddsBy (Err fault) group reader old new open_now = LosesGroup fault group reader old new open_now

-- Bytes came while a group was open, and the stream was not at its end: so it goes on.
abbrev pub AddsToGroup : {T : Type 0} → Result T Fault → List ℕ → Session → Session → Type 0
AddsToGroup outcome bytes old new =
    old.ended ≡ None → (g : OpenGroup) → old.group ≡ Some g → AddsBy outcome g (fed old.frames bytes) (shown old) (shown new) new.group × (new.ended ≡ None)
