use Rattle.durability.proofs.One.{stands_one}
use Rattle.durability.proofs.Sound.{stands_sound}
use Rattle.udf.specs.Udf.{udf}
use Rattle.udf.proofs.Formats.{exact, bounded}
use Rattle.udf.proofs.laws.one_state_stands.Goals as goal

pub returns-clause-one : goal.returns-clause-one
returns-clause-one c = stands_one udf exact

pub returns-clause-sound : goal.returns-clause-sound
returns-clause-sound c = stands_sound udf bounded
