-- What a `Phase` shows.
use Rattle.std.specs.Prelude.{List, map}
use Rattle.drive.specs.Journal.{Event}
use Rattle.settling.specs.declared.phase.Phase.{Phase}

abbrev pub blocks_in : Phase → List Event
blocks_in p = p.blocks.items

abbrev pub phases_in : List Phase → List (List Event)
phases_in phases = map blocks_in phases
