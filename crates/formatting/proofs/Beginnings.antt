-- Whether bytes begin a block of a format that was made in memory.
use Rattle.std.proofs.Common.{◌≡◌, ℕ, zero, suc, ◌<◌, ◌≤◌, List, [], ◌∷◌, ◌++◌, length, drop, Bool, true, false, Result, Ok, Err, Option, Some, inl, inr, refl, sym, ap, subst, ◌∙◌, arith, ◌==◌}
use Rattle.std.specs.Prelude.{slice_index_or, IfErr, OnOk}
use Rattle.std.specs.List.{starts_with}
use Rattle.std.proofs.lemmas.Bool.Decides.{Decides-eqb}
use Rattle.std.proofs.lemmas.Bool.{true≢false}
use Rattle.std.proofs.lemmas.Slice.Eq.{starts_is}
use Rattle.drive.specs.Journal.{Event, written, next_of}
use Rattle.drive.specs.Reads.{CountsFailures}
use Rattle.drive.proofs.Journals.{length-written}
use Rattle.formatting.specs.NewVolume.{words_on, IsFormatOf, IsFormatted}
use Rattle.recover.specs.Faults.{device_failures, devices}
use Rattle.recover.specs.declared.fault.StoreFault.{StoreFault}
use Rattle.formatting.specs.Beginning.{Begins, BeginsNot, IsBegun, IsNoPart, IsPartBegun, IsPartUnbegun, IsUnbegun}

-- what is at a place of a journal that was written in order
event_at : (from at : ℕ) (blocks : List (List ℕ)) (event : Event) → at < length (written from blocks) → event ≡ slice_index_or (written from blocks) at event
    → (at < length blocks) × (slice_index_or blocks at [] ≡ event.1)
event_at from at [] event fits h = absurd (omega (arith, fits))
event_at from zero (b ∷ blocks) event fits h = (omega arith, sym (ap (λ (e : Event). e.1) h))
event_at from (suc at) (b ∷ blocks) event fits h = let more = event_at (suc from) at blocks event (omega (arith, fits)) h in (omega (arith, more.0), more.1)

-- ---- the journal of a format on a drive that was blank

module _ (size capacity moment : ℕ) (label : List ℕ) (before J journal : List Event) (honest : Bool) (at : ℕ) (part : List ℕ)
    (sized : size ≡ capacity) (blank : before ≡ []) (same : journal ≡ J) (made : IsFormatted size (words_on size label moment) before J honest) where
  is_format : IsFormatOf (words_on capacity label moment) made.blocks
  is_format = subst (λ (n : ℕ). IsFormatOf (words_on n label moment) made.blocks) sized made.is

  all_written : journal ≡ written 0 made.blocks
  all_written = same ∙ made.journal ∙ ap (λ (j : List Event). j ++ written (next_of j) (drop (next_of j) made.blocks)) blank

  module _ (event : Event) (fits : at < length journal) (there : event ≡ slice_index_or journal at event) (r : Bool) (is : r ≡ starts_with ◌==◌ event.1 part) where
    here : (at < length made.blocks) × (slice_index_or made.blocks at [] ≡ event.1)
    here = event_at 0 at made.blocks event (subst (λ (j : List Event). at < length j) all_written fits) (there ∙ ap (λ (j : List Event). slice_index_or j at event) all_written)

    pub begins_there : r ≡ true → Begins (words_on capacity label moment) at part
    begins_there all = (made.blocks, is_format, (here.0, (drop (length part) event.1, here.1 ∙ (starts_is Decides-eqb event.1 part r is).0 all)))

    pub begins_not : r ≡ false → BeginsNot (words_on capacity label moment) at part
    begins_not other = (made.blocks, is_format, λ begun. true≢false (sym ((starts_is Decides-eqb event.1 part r is).1 begun.1.0 (sym here.1 ∙ begun.1.1)) ∙ other))

  pub begins_nowhere : length journal ≤ at → BeginsNot (words_on capacity label moment) at part
  begins_nowhere h =
      let long : length journal ≡ length made.blocks = ap length all_written ∙ length-written 0 made.blocks in
      (made.blocks, is_format, λ begun. absurd (omega (arith, h, long, begun.0)))

-- ---- what is left after the last whole block of an image

pub unbegun_part : {T : Type 0} (outcome : Result T StoreFault) (room capacity moment at : ℕ) (label part : List ℕ) (journal : List Event) → room ≡ capacity → at ≡ next_of journal → 0 < length part
    → IfErr outcome (IsNoPart room label moment at part) → IfErr outcome (IsPartUnbegun capacity label moment journal part)
unbegun_part (Ok x) room capacity moment at label part journal size next some h = tt
unbegun_part (Err fault) room capacity moment at label part journal size next some h =
    inr (some, subst (λ (n : ℕ). IsNoPart capacity label moment n part fault) next (subst (λ (n : ℕ). IsNoPart n label moment at part fault) size h))

-- or it is accepted
pub begun_part : {T : Type 0} (outcome : Result T StoreFault) (room capacity moment at : ℕ) (label part : List ℕ) (journal : List Event) → room ≡ capacity → at ≡ next_of journal
    → OnOk outcome (Begins (words_on room label moment) at part) → OnOk outcome (IsPartBegun capacity label moment journal part)
begun_part (Ok x) room capacity moment at label part journal size next h =
    inr (subst (λ (n : ℕ). Begins (words_on capacity label moment) n part) next (subst (λ (n : ℕ). Begins (words_on n label moment) at part) size h))
begun_part (Err fault) room capacity moment at label part journal size next h = tt

-- bytes are not refused for a failure of the drive, so none is counted
no_failure : {T : Type 0} (outcome : Result T StoreFault) (capacity moment at : ℕ) (label part : List ℕ) → IfErr outcome (IsNoPart capacity label moment at part) → devices outcome ≡ 0
no_failure (Ok x) capacity moment at label part h = refl
no_failure (Err fault) capacity moment at label part (inl h) = ap device_failures h.0
no_failure (Err fault) capacity moment at label part (inr (inl h)) = ap device_failures h.0
no_failure (Err fault) capacity moment at label part (inr (inr (inl h))) = ap device_failures h.0
no_failure (Err fault) capacity moment at label part (inr (inr (inr h))) = ap device_failures h

pub counts_part : {T : Type 0} (outcome : Result T StoreFault) (capacity moment at before now : ℕ) (label part : List ℕ) → now ≡ before
    → IfErr outcome (IsNoPart capacity label moment at part) → CountsFailures (devices outcome) before now
counts_part outcome capacity moment at before now label part same h few = omega (arith, same, no_failure outcome capacity moment at label part h)

-- the same of what a look found, and of its count of bytes
pub unbegun_look : {T : Type 0} (outcome : Result T StoreFault) (capacity moment : ℕ) (label part : List ℕ) (journal : List Event) (look : Option (List ℕ)) → look ≡ Some part → length part < 2048
    → IfErr outcome (IsPartUnbegun capacity label moment journal part) → IfErr outcome (IsUnbegun capacity label moment journal look)
unbegun_look (Ok x) capacity moment label part journal look seen short h = tt
unbegun_look (Err fault) capacity moment label part journal look seen short (inl device) = inl device
unbegun_look (Err fault) capacity moment label part journal look seen short (inr other) = inr (part, seen, other.0, short, other.1)

pub begun_look : {T : Type 0} (outcome : Result T StoreFault) (capacity moment : ℕ) (label part : List ℕ) (journal : List Event) (look : Option (List ℕ)) → look ≡ Some part → length part < 2048
    → OnOk outcome (IsPartBegun capacity label moment journal part) → OnOk outcome (IsBegun capacity label moment journal look)
begun_look (Ok x) capacity moment label part journal look seen short h = (part, seen, short, h)
begun_look (Err fault) capacity moment label part journal look seen short h = tt
