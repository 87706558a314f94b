use Rattle.std.proofs.Common.{◌∙◌, None, ap, arith, Some}
use Rattle.std.proofs.lemmas.Option.{slice_get-get_or, slice_get_within}
use Rattle.lookup.proofs.lookup.Lookup.entry_at.Goals as goal

pub returns-clause-used : goal.returns-clause-used
returns-clause-used g c = slice_get-get_or c.args.self.now.nodes.numbers.now c.args.address None c.if-index-self.false ∙ ap Some c.in-Some.is

pub returns-then-index-self-clause-unused : goal.returns-then-index-self-clause-unused
returns-then-index-self-clause-unused g c number is =
    let within = slice_get_within c.args.self.now.nodes.numbers.now c.args.address (Some number) is in
    absurd (omega (arith, within, c.if-index-self.true))

pub returns-in_default-clause-unused : goal.returns-in_default-clause-unused
returns-in_default-clause-unused g c number is =
    c.in_default.not-Some number (cc (slice_get-get_or c.args.self.now.nodes.numbers.now c.args.address None c.if-index-self.false, is))
