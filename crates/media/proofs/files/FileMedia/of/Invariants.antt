use Rattle.media.specs.Seen.{blank_record}
use Rattle.media.proofs.files.FileMedia.of.Given as goal

abbrev pub ghost-over : goal.ghost-over
ghost-over g a = blank_record
