-- What was delivered so far, and then a delivery more.
use Rattle.std.proofs.Common.{◌≡◌, List, [], ◌∷◌, ◌++◌, Option, Some, None, sum_by, arith, subst, ap, refl, ◌∙◌, sym, append_assoc, ℕ, ◌+◌, ◌<◌, length, take, get_or}
use Rattle.std.specs.Option.{option_to_list}
use Rattle.std.proofs.lemmas.List.{append-nil, take_more}
use Rattle.std.proofs.lemmas.List.Sums.{sum_by-append}
use Rattle.drive.specs.Reads.{CountsFailures}
use Rattle.request.specs.declared.answer.Answer.{Answer}
use Rattle.engine.specs.declared.runs.Delivery.{Delivery}
use Rattle.engine.specs.declared.runs.Delivery.TheVariants.{Frame, Restart}
use Rattle.engine.specs.Answered.{faults}
use Rattle.engine.specs.Situation.{Situation}
use Rattle.engine.specs.Delivered.{AllDelivered, Delivers}

pub delivered_more : (deliveries : List Delivery) (answers : List Answer) (s t u : Situation) (d : Delivery) (told : Option Answer)
    → AllDelivered deliveries s answers t → Delivers d t told u → AllDelivered (deliveries ++ d ∷ []) s (answers ++ option_to_list told) u
delivered_more [] answers s t u d told h k = (
  told,
  u,
  [],
  subst (λ (x : Situation). Delivers d x told u) h.1 k,
  ap (λ (x : List Answer). x ++ option_to_list told) h.0 ∙ sym (append-nil (option_to_list told)),
  (refl, refl),
)
delivered_more (e ∷ deliveries) answers s t u d told h k = (
  h.0,
  h.1,
  h.2 ++ option_to_list told,
  h.3,
  ap (λ (x : List Answer). x ++ option_to_list told) h.4 ∙ append_assoc (option_to_list h.0) h.2 (option_to_list told),
  delivered_more deliveries h.2 h.1 t u d told h.5 k,
)

-- the same of a list's next delivery
pub next_delivered : (deliveries : List Delivery) (i : ℕ) (d : Delivery) (answers later : List Answer) (s t u : Situation) (told : Option Answer)
    → i < length deliveries → d ≡ get_or deliveries i d → AllDelivered (take i deliveries) s answers t → Delivers d t told u
    → later ≡ answers ++ option_to_list told → AllDelivered (take (i + 1) deliveries) s later u
next_delivered deliveries i d answers later s t u told lt is h k e =
    let one : take (i + 1) deliveries ≡ take i deliveries ++ d ∷ [] =
    take_more deliveries i d lt ∙ ap (λ (x : Delivery). take i deliveries ++ x ∷ []) (sym is) in
    subst (λ (ds : List Delivery). AllDelivered ds s later u) (sym one)
    (subst (λ (ys : List Answer). AllDelivered (take i deliveries ++ d ∷ []) s ys u) (sym e)
    (delivered_more (take i deliveries) answers s t u d told h k))

-- ---- how many failures of the drive answers stand for

counted : (d : Delivery) (s t : Situation) (told : Option Answer) → Delivers d s told t → CountsFailures (sum_by faults (option_to_list told)) s.failures t.failures
counted Restart s t None h most = omega (arith, ap (λ (x : Situation). x.failures) h)
counted Restart s t (Some a) h most = absurd h
counted (Frame payload) s t None h most = absurd h
counted (Frame payload) s t (Some a) h most = let one = h.2.answered.failures most in omega (arith, one)

pub all_counted : (deliveries : List Delivery) (s : Situation) (answers : List Answer) (t : Situation) → AllDelivered deliveries s answers t → CountsFailures (sum_by faults answers) s.failures t.failures
all_counted [] s answers t h most = rw h.0 (omega (arith, ap (λ (x : Situation). x.failures) h.1))
all_counted (d ∷ deliveries) s answers t h most =
    let later = all_counted deliveries h.1 h.2 t h.5 most in
    let first = counted d s h.1 h.0 h.3 (omega (arith, later, most)) in
    rw (h.4, sum_by-append faults (option_to_list h.0) h.2) (omega (arith, later, first))
