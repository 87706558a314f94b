-- What a message writes, one call more at a time.
use Rattle.std.proofs.Common.{◌≡◌, inl, inr, ℕ, List, sym, ap, ◌∙◌, subst, arith}
use Rattle.drive.specs.Journal.{Event}
use Rattle.model.specs.Session.{State, Request}
use Rattle.recover.specs.Faults.{device_failures}
use Rattle.recover.specs.declared.fault.StoreFault.{StoreFault}
use Rattle.request.specs.declared.message.Request as asking
use Rattle.store.specs.Calls.{IsCommitPlanned}
use Rattle.store.specs.Putting.{IsCommitRefused}
use Rattle.store.specs.declared.store.Store.{Store}
use Rattle.engine.specs.Situation.{Situation}
use Rattle.engine.specs.Planned.{IsUnwrittenOrPlanned}

-- where a commit was refused and no write failed nothing was written
pub refused_unwritten : (before : Store) (request : asking.Request) (capacity : ℕ) (J K : List Event) (store : Store) (fault : StoreFault) → IsCommitRefused before request capacity J K store fault → device_failures fault ≡ 0 → K ≡ J
refused_unwritten before request capacity J K store fault (inl left) none = left.journal
refused_unwritten before request capacity J K store fault (inr failed) none = let bad : 1 ≡ 0 = ap device_failures (sym failed.device) ∙ none in absurd (omega (arith, bad))

-- from where nothing was written since
pub planned_from : (volume : ℕ) (S : State) (asked : Request → Type 0) (before during afterwards : Situation) → during.journal ≡ before.journal → during.capacity ≡ before.capacity
    → IsUnwrittenOrPlanned volume S asked during afterwards → IsUnwrittenOrPlanned volume S asked before afterwards
planned_from volume S asked before during afterwards journal size (inl same) = inl (same ∙ journal)
planned_from volume S asked before during afterwards journal size (inr (request, asks, new, p)) = inr (
  request,
  asks,
  new,
  subst (λ (n : ℕ). IsCommitPlanned n volume before.journal S request afterwards.journal) size
      (subst (λ (J : List Event). IsCommitPlanned during.capacity volume J S request afterwards.journal) journal p),
)
