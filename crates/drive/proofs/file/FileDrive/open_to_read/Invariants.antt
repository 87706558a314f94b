use Rattle.std.proofs.Common.{[]}
use Rattle.drive.proofs.file.FileDrive.open_to_read.Given as goal

abbrev pub ghost-of : goal.ghost-of
ghost-of g a = []
