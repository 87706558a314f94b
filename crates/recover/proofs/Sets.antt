-- The file set of a table, and two file sets that `!=` distinguishes or does not.
use Rattle.std.proofs.Common.{◌≡◌, ℕ, ◌+◌, ◌≤◌, Bool, true, false, ◌&&◌, not, nat_eq, List, take, Option, Some, refl, sym, ap, subst, ◌∙◌, arith}
use Rattle.std.specs.Prelude.{slice_get, Result, Ok, Err}
use Rattle.std.proofs.lemmas.Bool.{eq-eqb, true≢false}
use Rattle.std.specs.Cmp.Lexicographic.{pointwise}
use Rattle.std.proofs.lemmas.Map.Views.{exact_unsigned_eq}
use Rattle.std.proofs.lemmas.List.{length-take}
use Rattle.std.proofs.lemmas.Option.{same_Some, slice_get_within}
use Rattle.limits.specs.declared.TheConstants.{PARTITION_START}
use Rattle.icb.specs.declared.fault.IcbFault.{IcbFault}
use Rattle.icb.specs.declared.set.FileSet.{FileSet}
use Rattle.icb.specs.FileSet.{IsFileSet}
use Rattle.model.proofs.Lists.{bytes_same, bytes_eq-itself}
use Rattle.recover.specs.State.{HasFileSet}
use Rattle.recover.specs.Walk.{LeadsTo}

both : (a b : Bool) → not (a && b) ≡ false → (a ≡ true) × (b ≡ true)
both true true e = (refl, refl)
both true false e = absurd (true≢false e)
both false b e = absurd (true≢false e)

pub same_set : (set : FileSet) (label : List ℕ) (moment : ℕ) → not (pointwise nat_eq set.label label && nat_eq set.moment moment) ≡ false → set ≡ record { label = label; moment = moment }
same_set set label moment e =
    let parts = both (pointwise nat_eq set.label label) (nat_eq set.moment moment) e in
    let labels = bytes_same set.label label parts.0 in
    let moments = exact_unsigned_eq set.moment moment parts.1 in
    λ i. record { label = labels i; moment = moments i }

read_set : FileSet → Result FileSet IcbFault → FileSet
read_set other (Ok set) = set
read_set other (Err fault) = other

pub same_read : (a b : FileSet) → ◌≡◌ {A = Result FileSet IcbFault} (Ok a) (Ok b) → a ≡ b
unfolding read_set
same_read a b e = ap (read_set a) e

nat_eq-itself : (n : ℕ) → nat_eq n n ≡ true
nat_eq-itself n = eq-eqb n n refl

-- those that it distinguishes are not the same
pub other_set : (set : FileSet) (label : List ℕ) (moment : ℕ) → not (pointwise nat_eq set.label label && nat_eq set.moment moment) ≡ true → set ≡ record { label = label; moment = moment } → ⊥
other_set set label moment e same =
    let labels : pointwise nat_eq set.label label ≡ true = ap (λ (s : FileSet). pointwise nat_eq s.label label) same ∙ bytes_eq-itself label in
    let moments : nat_eq set.moment moment ≡ true = ap (λ (s : FileSet). nat_eq s.moment moment) same ∙ nat_eq-itself moment in
    let equal : (pointwise nat_eq set.label label && nat_eq set.moment moment) ≡ true = ap (λ b. b && nat_eq set.moment moment) labels ∙ moments in
    true≢false (sym e ∙ ap not equal)

module _ (M : List (List ℕ)) (at : ℕ) (entries : List (Option ℕ)) (label : List ℕ) (moment : ℕ) where
  -- nothing below leads to one
  pub no_number : ((there : ℕ) → LeadsTo entries 0 there → at ≤ there) → HasFileSet (take at M) entries label moment → ⊥
  no_number none has =
      let far = none (has.number + PARTITION_START) (record { number = has.number; used = has.used; is = refl }) in
      let near = slice_get_within (take at M) (has.number + PARTITION_START) has.block has.there in
      let l = length-take at M in
      omega (arith, far, near, l)

  -- and where it leads is another block
  pub no_set : (set_at : ℕ) (block : List ℕ) → LeadsTo entries 0 set_at → slice_get (take at M) set_at ≡ Some block → (IsFileSet (record { label = label; moment = moment }) block → ⊥) → HasFileSet (take at M) entries label moment → ⊥
  no_set set_at block leads there never has =
      let number : leads.number ≡ has.number = same_Some leads.number has.number (same_Some (Some leads.number) (Some has.number) (sym leads.used ∙ has.used)) in
      let same : set_at ≡ has.number + PARTITION_START = leads.is ∙ ap (λ n. n + PARTITION_START) number in
      let blocks : has.block ≡ block = same_Some has.block block (sym has.there ∙ subst (λ n. slice_get (take at M) n ≡ Some block) same there) in
      never (subst (IsFileSet (record { label = label; moment = moment })) blocks has.is)
