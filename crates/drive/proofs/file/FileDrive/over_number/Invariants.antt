use Rattle.drive.proofs.file.FileDrive.over_number.Given as goal

abbrev pub ghost-of : goal.ghost-of
ghost-of g a = g.image
