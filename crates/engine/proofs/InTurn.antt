-- Which writes are whose, by what messages say of them.
use Rattle.std.proofs.Common.{◌≡◌, inl, inr, ℕ, zero, suc, ◌+◌, ◌-◌, List, [], ◌∷◌, ◌++◌, length, take, refl, sym, ap, ◌∙◌, subst, arith, append_assoc, append-nil, length-append}
use Rattle.std.proofs.lemmas.List.{append_cancel_left}
use Rattle.std.proofs.Math.Seq.{take-append-add, take-append_seam}
use Rattle.drive.specs.Journal.{Event, written}
use Rattle.drive.specs.Writes.{IsLeft, joined}
use Rattle.drive.proofs.Journals.{length-written, written-append}
use Rattle.drive.proofs.Turns.{joined_append}
use Rattle.durability.specs.Formats.{Block}
use Rattle.durability.proofs.Writes.{whole_left}
use Rattle.model.specs.Session.{State, Request}
use Rattle.engine.specs.Situation.{Situation}
use Rattle.engine.specs.Withstanding.{MessageSurvivesPowerLoss, WritesAreTheirOwn, WritesBegin, after_writes}

-- of a list that ends in one, and has one after some: these are the first of those before the last
before_last : (xs ys zs : List (List Block)) (x y : List Block) → xs ++ x ∷ [] ≡ ys ++ y ∷ zs → xs ≡ ys ++ take (length xs - length ys) (y ∷ zs)
before_last xs ys zs x y e =
    let split : length xs ≡ length ys + (length xs - length ys) = omega (arith, ap length e, length-append xs (x ∷ []), length-append ys (y ∷ zs)) in
    sym (take-append_seam xs (x ∷ [])) ∙ ap (λ (ws : List (List Block)). take (length xs) ws) e ∙ ap (λ (n : ℕ). take n (ys ++ y ∷ zs)) split ∙ take-append-add ys (y ∷ zs) (length xs - length ys)

-- some writes, and then more blocks
after_more : (J : List Event) (writes : List (List Block)) (more : List Block) → J ++ written (length J) (joined writes ++ more) ≡ after_writes J writes ++ written (length J + length (joined writes)) more
after_more J writes more =
    ap (λ (K : List Event). J ++ K) (written-append (length J) (joined writes) more) ∙ sym (append_assoc J (written (length J) (joined writes)) (written (length J + length (joined writes)) more))

after_both : (J : List Event) (writes more : List (List Block)) → after_writes J (writes ++ more) ≡ after_writes J writes ++ written (length J + length (joined writes)) (joined more)
after_both J writes more = ap (λ (bs : List Block). J ++ written (length J) bs) (joined_append writes more) ∙ after_more J writes (joined more)

module _ {volume : ℕ} {S : State} {asked : Request → Type 0} {before afterwards : Situation} where
  -- the journal goes on from where a message found it
  goes_on : {failed : ℕ} → MessageSurvivesPowerLoss volume S asked failed before afterwards → (rest : List Event) × (afterwards.journal ≡ before.journal ++ rest)
  goes_on {failed = zero} w = (written (length before.journal) (joined w.added), w.whole refl)
  goes_on {failed = suc n} w = elim (w.cut (omega arith)) [
    | inl none ↦ ([], none.1 ∙ sym (append-nil before.journal))
    | inr c ↦
        let (m, le, is) = c.front in
        let tail : List Event = written (length before.journal + length (joined c.earlier)) (take m c.last) in
        (written (length before.journal) (joined c.earlier) ++ tail, is ∙ append_assoc before.journal (written (length before.journal) (joined c.earlier)) tail)
  ]

  -- and from where each of its writes began
  begun : {failed : ℕ} (w : MessageSurvivesPowerLoss volume S asked failed before afterwards) (earlier : List (List Block)) (write : List Block) (later : List (List Block)) → w.added ≡ earlier ++ write ∷ later
      → (rest : List Event) × (afterwards.journal ≡ after_writes before.journal earlier ++ rest)
  begun {failed = zero} w earlier write later e =
      (written (length before.journal + length (joined earlier)) (joined (write ∷ later)), w.whole refl ∙ ap (λ (ws : List (List Block)). after_writes before.journal ws) e ∙ after_both before.journal earlier (write ∷ later))
  begun {failed = suc n} w earlier write later e = elim (w.cut (omega arith)) [
    | inl none ↦ absurd (omega (arith, ap length (sym none.0 ∙ e), length-append earlier (write ∷ later)))
    | inr c ↦
        let (m, le, is) = c.front in
        let tail : List Event = written (length before.journal + length (joined c.earlier)) (take m c.last) in
        let between : List (List Block) = take (length c.earlier - length earlier) (write ∷ later) in
        let more : List Event = written (length before.journal + length (joined earlier)) (joined between) in
        let whole : after_writes before.journal c.earlier ≡ after_writes before.journal earlier ++ more =
        ap (λ (ws : List (List Block)). after_writes before.journal ws) (before_last c.earlier earlier later c.last write (sym c.order ∙ e)) ∙ after_both before.journal earlier between in
        (more ++ tail, is ∙ ap (λ (K : List Event). K ++ tail) whole ∙ append_assoc (after_writes before.journal earlier) more tail)
  ]

pub writes_begin : WritesBegin
writes_begin volume S asked failed before afterwards w earlier write later e =
    let J : List Event = before.journal in
    let there = begun w earlier write later e in (
      ap (λ (K : List Event). take (length (after_writes J earlier)) K) there.1 ∙ take-append_seam (after_writes J earlier) there.0,
      λ left journal torn is.
          let size : length (after_writes J earlier) ≡ length J + length (joined earlier) = omega (arith, length-append J (written (length J) (joined earlier)), length-written (length J) (joined earlier)) in
          w.torn (joined earlier ++ left) journal (subst (λ (ws : List (List Block)). IsLeft ws (joined earlier ++ left)) (sym e) (whole_left earlier (write ∷ later) left (inl torn)))
          (is ∙ ap (λ (n : ℕ). after_writes J earlier ++ written n left) size ∙ sym (after_more J earlier left)),
    )

pub writes_are_their_own : WritesAreTheirOwn
writes_are_their_own volume S T S' T' asked next failed failed' before during other afterwards w w' v v' write more counts =
    let J : List Event = before.journal in
    let all : v.added ≡ w.added ++ write ∷ more =
    append_cancel_left before.writes v.added (w.added ++ write ∷ more)
    (sym v.writes_are ∙ counts ∙ ap (λ (ws : List (List Block)). ws ++ write ∷ more) w.writes_are ∙ append_assoc before.writes w.added (write ∷ more)) in
    let there = begun v w.added write more all in
    let onward = goes_on v' in
    ap (λ (K : List Event). take (length (after_writes J w.added)) K) (onward.1 ∙ ap (λ (K : List Event). K ++ onward.0) there.1 ∙ append_assoc (after_writes J w.added) there.0 onward.0)
    ∙ take-append_seam (after_writes J w.added) (there.0 ++ onward.0)
