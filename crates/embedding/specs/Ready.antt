-- A session keeps its engine ready for the next message. That has at most one proof, so that a field may state it.
use Rattle.std.specs.Prelude.{◌≡◌, ℕ, ◌-◌, List, [], ◌∷◌, Option, Some, None, IfSome}
use Rattle.std.proofs.Common.{sym, ap, ◌∙◌}
use Rattle.std.proofs.Props.{props}
use Rattle.std.specs.Coded.{Unit-prop}
use mathlib.Core.HLevel.{Σ_prop_path}
use Rattle.drive.specs.Journal.{Event}
use Rattle.vat.specs.Reply.{AreReplies}
use Rattle.vat.specs.declared.record.Reply.{Reply}
use Rattle.store.specs.Agrees.{IsStoreOn}
use Rattle.store.specs.declared.store.Store.{Store}
use Rattle.engine.specs.declared.engine.Engine.{Engine}
use Rattle.engine.specs.Situation.{IsReady}
use Rattle.embedding.specs.declared.medium.Medium.{Medium}
use Rattle.embedding.specs.Media.{seen_by}

replies_prop : (limit : ℕ) (replies : List Reply) → IsProp (AreReplies limit replies)
replies_prop limit [] = Unit-prop
replies_prop limit (reply ∷ older) = Prim.hlevel (props, replies_prop (reply.commit - 1) older)

abbrev number_in : Option (Option ℕ) → ℕ
number_in None = 0
number_in (Some None) = 0
number_in (Some (Some n)) = n

nested_set : IsSet (Option (Option ℕ))
nested_set = Prim.hlevel props

number_prop : (v : Option (Option ℕ)) → IsProp ((number : ℕ) × (v ≡ Some (Some number)))
number_prop v p q = Σ_prop_path (λ n. nested_set v (Some (Some n))) (ap number_in (sym p.1 ∙ q.1))

kept_prop : (kept : Option Store) (journal : List Event) (capacity : ℕ) → IsProp (IfSome kept (IsStoreOn journal capacity))
kept_prop None journal capacity = Unit-prop
kept_prop (Some store) journal capacity = Prim.hlevel (props, replies_prop, number_prop)

pub ready_prop : (engine : Engine) (medium : Medium) → IsProp (IsReady (seen_by engine medium))
ready_prop engine medium = kept_prop engine.store (seen_by engine medium).journal (seen_by engine medium).capacity
