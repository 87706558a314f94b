use Rattle.std.proofs.Common.{ℕ, List, Option, Some, None, inl, inr, refl, subst}
use Rattle.drive.specs.Journal.{Event, held}
use Rattle.recover.specs.Tables.{IsBefore, IsBeforeRefused}
use Rattle.embedding.proofs.commits.address_before.Goals as goal

pub returns-in-Ok-Some-clause-found : goal.returns-in-Ok-Some-clause-found
returns-in-Ok-Some-clause-found g c = λ h.
    let found = subst (λ (o : Option ℕ). IsBefore (held (g.D.Drive.journal c.next.new.self)) c.args.after o) c.in-Ok-Some.field-0-is (c.in-Ok-Some.ensures.before h) in
    inr (c.if-after-eq0.false, subst (λ (J : List Event). IsBefore (held J) c.args.after (Some c.in-Ok-Some.at)) c.next.ensures.journal found)

pub returns-in-Ok-None-clause-refused : goal.returns-in-Ok-None-clause-refused
returns-in-Ok-None-clause-refused g c = λ h.
    let found = subst (λ (o : Option ℕ). IsBefore (held (g.D.Drive.journal c.next.new.self)) c.args.after o) c.in-Ok-None.field-0-is (c.in-Ok-None.ensures.before h) in
    (c.if-after-eq0.false, inl (refl, inr (inr (subst (λ (J : List Event). IsBefore (held J) c.args.after None) c.next.ensures.journal found))))

pub returns-in-Err-before-clause-refused : goal.returns-in-Err-before-clause-refused
returns-in-Err-before-clause-refused g c = λ h. (
  c.if-after-eq0.false,
  inr (subst (λ (J : List Event). IsBeforeRefused (held J) c.args.after c.in-Err-before.fault) c.next.ensures.journal (c.in-Err-before.ensures.refused h)),
)
