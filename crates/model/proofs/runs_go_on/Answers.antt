use Rattle.model.proofs.Runs.{after-append, refused, pass_after}
use Rattle.model.proofs.runs_go_on.Goals as goal

pub returns-clause-twice : goal.returns-clause-twice
returns-clause-twice c state first second = after-append first second state

pub returns-clause-refused : goal.returns-clause-refused
returns-clause-refused c state request sound refusal = refused state request sound refusal

pub returns-clause-tests : goal.returns-clause-tests
returns-clause-tests c name_ok bytes_ok state requests sound given before = pass_after name_ok bytes_ok state requests sound given before
