use Rattle.udf.proofs.Said.{clear_starts_agree}
use Rattle.planning.proofs.places.Numbers.place_bytes.Goals as goal

pub returns-clause-start : goal.returns-clause-start
returns-clause-start c = clear_starts_agree c.args.bytes.now c.args.self.now.next c.clear_start-first.result c.clear_start-first.ensures.low c.clear_start-first.ensures.high c.clear_start-first.ensures.clear c.clear_start-first.ensures.least
