use Rattle.std.proofs.Common.{[]}
use Rattle.drive.proofs.memory.MemDrive.reopened.Given as goal

abbrev pub ghost-new : goal.ghost-new
ghost-new a = []
