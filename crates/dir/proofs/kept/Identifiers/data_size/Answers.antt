use Rattle.std.proofs.Common.{ap, ◌∙◌, arith}
use Rattle.dir.specs.Size.{end_bytes}
use Rattle.dir.proofs.Fronts.{front_short}
use Rattle.dir.proofs.Sized.{size_is, blocks_are}
use Rattle.dir.proofs.kept.Identifiers.data_size.Goals as goal

pub returns-then-self-len-clause-size : goal.returns-then-self-len-clause-size
returns-then-self-len-clause-size c =
    let self = c.args.self.now in
    let dir = c.args.dir.now in
    let es = dir.entries.entries in
    ap end_bytes c.requires.front.size ∙ size_is dir.parent es self.count 0 (omega (arith, c.len.ensures.len, c.if-self-len.true)) (front_short es self c.requires.front)

pub returns-then-self-len-clause-blocks : goal.returns-then-self-len-clause-blocks
returns-then-self-len-clause-blocks c first =
    let self = c.args.self.now in
    let dir = c.args.dir.now in
    let es = dir.entries.entries in
    blocks_are dir.parent es self.count first (omega (arith, c.len.ensures.len, c.if-self-len.true)) (front_short es self c.requires.front)
