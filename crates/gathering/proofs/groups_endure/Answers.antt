use Rattle.udf.specs.Udf.{udf}
use Rattle.udf.proofs.Formats.{exact, bounded, distinct}
use Rattle.gathering.proofs.Choice.{any_marks}
use Rattle.gathering.proofs.Phases.{first_phase, second_phase, together}
use Rattle.gathering.proofs.groups_endure.Goals as goal

pub returns-clause-first : goal.returns-clause-first
returns-clause-first c = λ capacity volume. first_phase udf exact bounded distinct capacity volume

pub returns-clause-second : goal.returns-clause-second
returns-clause-second c = λ capacity volume. second_phase udf exact bounded distinct capacity volume

pub returns-clause-together : goal.returns-clause-together
returns-clause-together c = λ capacity volume. together udf exact bounded distinct capacity volume

pub returns-clause-any : goal.returns-clause-any
returns-clause-any c = λ capacity volume. any_marks udf exact bounded distinct capacity volume
