use Rattle.request.proofs.Names.{no_text, passes_as}
use Rattle.request.proofs.payload.read_name.Goals as goal

pub returns-in_default : goal.returns-in_default
returns-in_default c = no_text c.args.bytes.now c.in_default.ensures.cases.0

pub returns-in-Ok-read : goal.returns-in-Ok-read
returns-in-Ok-read c =
    let p = c.in-Ok-read.ensures.name in
    passes_as c.args.bytes.now c.in-Ok.text.now c.in-Ok-read.name c.in-Ok.ensures.cases.0 p.0 p.1
