use Rattle.drive.proofs.file.FileDrive.of.Given as goal

abbrev pub ghost-new : goal.ghost-new
ghost-new g a = g.image
