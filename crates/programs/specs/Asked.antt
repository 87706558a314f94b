-- What holds of each command that was read.
use Rattle.std.specs.Prelude.{◌<◌, ◌≤◌, ⊤}
use Rattle.limits.specs.declared.TheConstants.{GREATEST_CAPACITY, MOMENT_LIMIT}
use Rattle.command_line.specs.declared.command.Command.{Command}
use Rattle.command_line.specs.declared.command.Command.TheVariants.{Format, Apply, List, Get, Log, Check, Send}
use Rattle.command_line.specs.declared.command.Storage.TheVariants.{Image, Memory}

-- a format's moment has a timestamp, and a volume in memory is no larger than one may be
abbrev pub IsInRange : Command → Type 0
IsInRange (Format image label moment capacity) = moment < MOMENT_LIMIT
IsInRange (Apply (Image path)) = ⊤
IsInRange (Apply (Memory capacity)) = capacity ≤ GREATEST_CAPACITY
IsInRange (List image path) = ⊤
IsInRange (Get image path) = ⊤
IsInRange (Log image) = ⊤
IsInRange (Check image) = ⊤
IsInRange (Send socket) = ⊤
