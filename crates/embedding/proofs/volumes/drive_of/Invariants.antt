use Rattle.std.proofs.Common.{[]}
use Rattle.embedding.proofs.volumes.drive_of.Given as goal

abbrev pub ghost-over_number : goal.ghost-over_number
ghost-over_number a = []
