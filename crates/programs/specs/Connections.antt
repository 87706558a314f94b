-- What the connections of a daemon leave on its drive.
use Rattle.std.specs.Prelude.{◌≡◌, ◌⊎◌, ⊤, ℕ, List, Option}
use Rattle.drive.specs.Gathering.{Gathering}
use Rattle.engine.specs.Situation.{Situation}
use Rattle.engine.specs.declared.serving.ServeFault.{ServeFault}
use Rattle.engine.specs.declared.serving.ServeFault.TheVariants as streams
use Rattle.grouping.specs.Losses.{GroupsAreLives}
use Rattle.grouping.specs.Served.{AreGroups, Group, GroupsRun, GroupsWithstand}
use Rattle.grouping.specs.Streams.{ServesGroups, ServesGroupsUntil}
use Rattle.recover.specs.declared.fault.StoreFault.TheVariants as stores
use Rattle.programs.specs.declared.fault.Fault.{Fault}
use Rattle.programs.specs.declared.fault.Fault.TheVariants.{Usage, Path, Socket, Store as Stored, Stream}
use Rattle.programs.specs.Inputs.{most_at_once}
use Rattle.programs.specs.Tasks.{IsPrefixOf}

-- Messages were answered in groups, and nothing else was done: from where the engine and its drive were before, to where they are.
-- On an honest drive where a state is recovered, what is recovered at each prefix of what was written is the state after the first of the requests that were committed.
-- Whatever a power loss leaves of what the disk was given of a group, the state after all that were committed before the group is recovered, or
-- the one after the first of its requests.
pub record ServesMessages (before : Situation) (begun : Gathering) (afterwards : Situation) (ended : Gathering) : Type 0 where
  pub groups : List Group
  pub are : AreGroups groups before begun afterwards ended
  pub run : GroupsRun groups before begun afterwards ended are
  pub withstand : GroupsWithstand groups before begun afterwards ended are
  pub lives : GroupsAreLives groups before begun afterwards ended are

-- nothing was done
abbrev pub IsAsBefore : Situation → Gathering → Situation → Gathering → Type 0
IsAsBefore before begun afterwards ended = (afterwards ≡ before) × (ended ≡ begun)

-- The first messages of a connection were answered up to where this fault came, or all were and then the output failed; and
-- of what was written with that a prefix is there.
pub record ServesPrefix (fault : ServeFault) (before : Situation) (begun : Gathering) (afterwards : Situation) (ended : Gathering) (input left output written : Option (List ℕ)) : Type 0 where
  pub gathered : Option (List ℕ)
  pub serves : ServesGroupsUntil fault before begun afterwards ended input left output gathered
      ⊎ ((fault ≡ streams.Write) × ServesGroups most_at_once before begun afterwards ended input left output gathered)
  pub front : IsPrefixOf gathered written

-- so it is of a connection whose output is there in the end, which is left by a stream's fault alone
abbrev pub LeavesStream : Fault → Situation → Gathering → Situation → Gathering → Option (List ℕ) → Option (List ℕ) → Option (List ℕ) → Option (List ℕ) → Type 0
LeavesStream Usage before begun afterwards ended input left output written = ⊥
LeavesStream Path before begun afterwards ended input left output written = ⊥
LeavesStream Socket before begun afterwards ended input left output written = ⊥
LeavesStream (Stored fault) before begun afterwards ended input left output written = ⊥
LeavesStream (Stream fault) before begun afterwards ended input left output written = ServesPrefix fault before begun afterwards ended input left output written

-- Why a connection was left. Nothing was done where the socket cannot be had, or memory is short for what waits to be written.
abbrev pub LeavesConnection : Fault → Situation → Gathering → Situation → Gathering → Type 0
LeavesConnection Usage before begun afterwards ended = ⊥
LeavesConnection Path before begun afterwards ended = ⊥
LeavesConnection Socket before begun afterwards ended = IsAsBefore before begun afterwards ended
LeavesConnection (Stored fault) before begun afterwards ended = (fault ≡ stores.Memory) × IsAsBefore before begun afterwards ended
LeavesConnection (Stream fault) before begun afterwards ended = ⊤
