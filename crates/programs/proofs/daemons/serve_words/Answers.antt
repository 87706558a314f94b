use Rattle.programs.proofs.Telling.{served_asked, unasked, unserved}
use Rattle.programs.proofs.daemons.serve_words.Goals as goal

pub returns-in-Ok-clause-run : goal.returns-in-Ok-clause-run
returns-in-Ok-clause-run g c = served_asked _ c.in-Ok.asked _ c.serve_image.result _ _ c.in-Ok.ensures.read c.serve_image.ensures.serves

pub returns-in-Ok-clause-refused : goal.returns-in-Ok-clause-refused
returns-in-Ok-clause-refused g c = unserved _ c.in-Ok.asked _ c.serve_image.result _ _ c.in-Ok.ensures.read c.serve_image.ensures.serves

pub returns-in-Err-clause-refused : goal.returns-in-Err-clause-refused
returns-in-Err-clause-refused g c = unasked _ c.in-Err.fault c.from.result _ c.from.ensures c.in-Err.ensures.usage
