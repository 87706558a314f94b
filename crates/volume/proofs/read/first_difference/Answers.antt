use Rattle.std.proofs.Common.{List, ℕ}
use Rattle.volume.specs.Front.{IsFrontBlock}
use Rattle.volume.proofs.ReadingLaws.{compared_none, compared_only, compared_some}
use Rattle.volume.proofs.read.first_difference.Goals as goal

pub returns-clause-none : goal.returns-clause-none
returns-clause-none c =
    let f = c.args.front.now in
    compared_none (λ (b : List ℕ). IsFrontBlock f.label f.moment f.capacity c.args.n b) c.first_other.result c.args.block.now c.front_block-expected.result c.first_other.ensures.none c.front_block-expected.ensures

pub returns-clause-some : goal.returns-clause-some
returns-clause-some c =
    compared_some c.args.front.now c.args.n c.first_other.result c.args.block.now c.front_block-expected.result c.first_other.ensures.some c.first_other.ensures.bytes c.front_block-expected.ensures

pub returns-clause-only : goal.returns-clause-only
returns-clause-only c = λ is.
    compared_only c.args.front.now c.args.n c.first_other.result c.args.block.now c.front_block-expected.result c.first_other.ensures.some c.first_other.ensures.bytes c.front_block-expected.ensures is
