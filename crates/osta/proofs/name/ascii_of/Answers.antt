use Rattle.std.proofs.Common.{Result, Ok, Err, MatchResult, IfNone}
use Rattle.std.specs.Result.{result_ok}
use Rattle.std.proofs.lemmas.Str.{IsUtf8-from_ascii}
use Rattle.osta.proofs.name.ascii_of.Goals as goal

-- a result that is no error is some value
some_told : {T E : Type 0} (r : Result T E) (Q : T → Type 0) (R : E → Type 0) (P : Type 0) → MatchResult r Q R → ((e : E) → R e → ⊥) → IfNone (result_ok r) P
some_told (Ok x) Q R P told never = tt
some_told (Err e) Q R P told never = absurd (never e told)

pub returns-clause-none : goal.returns-clause-none
returns-clause-none c =
    let utf8 = IsUtf8-from_ascii c.in_ok-id.rest.now c.if-not-is_ascii.ensures.cases in
    rw c.ok.ensures.value (some_told c.from_utf8.result _ _ _ c.from_utf8.ensures.cases (λ e told. told.0 utf8))
