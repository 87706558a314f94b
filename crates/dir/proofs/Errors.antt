-- What holds whatever the error is.
use Rattle.std.proofs.Common.{Result, Ok, Err}
use Rattle.std.specs.Prelude.{IfErr}

pub if_err : {X E : Type 0} (r : Result X E) (Q : Type 0) → Q → IfErr r (λ _. Q)
if_err (Ok x) Q q = tt
if_err (Err e) Q q = q

-- what holds of each error
pub each_err : {X E : Type 0} (r : Result X E) (Q : E → Type 0) → ((e : E) → Q e) → IfErr r Q
each_err (Ok x) Q q = tt
each_err (Err e) Q q = q e
