use Rattle.std.proofs.Common.{[]}
use Rattle.drive.proofs.file.FileDrive.create.Given as goal

abbrev pub ghost-over : goal.ghost-over
ghost-over g a = []
