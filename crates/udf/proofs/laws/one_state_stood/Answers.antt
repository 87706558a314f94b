use Rattle.durability.proofs.History.{past_one, past_within, past_now}
use Rattle.udf.specs.Udf.{udf}
use Rattle.udf.proofs.Formats.{exact}
use Rattle.udf.proofs.laws.one_state_stood.Goals as goal

pub returns-clause-one : goal.returns-clause-one
returns-clause-one c = past_one udf exact

pub returns-clause-within : goal.returns-clause-within
returns-clause-within c = past_within udf exact

pub returns-clause-last : goal.returns-clause-last
returns-clause-last c = past_now udf
