use Rattle.udf.proofs.Said.{imitation_agrees, data_agrees, clear_starts_agree}
use Rattle.udf.proofs.laws.imitation_agrees.Goals as goal

pub returns-clause-imitates : goal.returns-clause-imitates
returns-clause-imitates c = imitation_agrees

pub returns-clause-clear : goal.returns-clause-clear
returns-clause-clear c = clear_starts_agree

pub returns-clause-data : goal.returns-clause-data
returns-clause-data c = data_agrees
