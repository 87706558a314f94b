use Rattle.std.proofs.Common.{◌∙◌}
use Rattle.dir.proofs.Splits.{shows_front}
use Rattle.dir.proofs.fids.Fids.split.Goals as goal

pub returns-clause-prints : goal.returns-clause-prints
returns-clause-prints c =
    shows_front c.new.result c.args.self.now.data.now c.split_at.result.0.now c.from-use_size.result c.from-name_size.result c.rounded-size.result
    (c.from-use_size.ensures ∙ c.u16_at.ensures) c.from-name_size.ensures c.rounded-size.ensures c.split_at.ensures.front
    c.new.ensures.bytes c.new.ensures.icb c.new.ensures.implementation_use c.new.ensures.name
