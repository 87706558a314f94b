-- How a group ends: the disk has it, or it was taken back and its messages were answered one by one.
use Rattle.std.proofs.Common.{◌≡◌, inl, inr, ℕ, Bool, true, false, List, ◌++◌, length, take, Option, Some, None, Result, Ok, Err, ap, subst, ◌∙◌, arith}
use Rattle.std.specs.Prelude.{OnOk, OnErr}
use Rattle.std.proofs.Math.Seq.{take-append_seam}
use Rattle.drive.specs.Gathering.{Gathering}
use Rattle.drive.specs.Journal.{counted}
use Rattle.drive.specs.Reads.{CountsFailures}
use Rattle.drive.specs.declared.Drive.{Ghosts}
use Rattle.store.specs.declared.store.Store.{Store}
use Rattle.engine.specs.declared.serving.ServeFault.TheVariants.{Memory}
use Rattle.engine.specs.Situation.{Situation, situation_on}
use Rattle.engine.specs.Served.{Answering, AnswersSome}
use Rattle.request.specs.Frames.{IsIdle}
use Rattle.grouping.specs.Groups.{GroupTold, GroupUntold, IsAlone, IsSettled, StartsAt}
use Rattle.grouping.specs.Steps.{Gathers}
use Rattle.grouping.proofs.Settled.{gathered_same, gathering_some_same}

module _ {E : Type 0} (reader after : Option (List ℕ)) (before : Situation) (begun : Gathering) (u : Situation) (ended : Gathering) (output written : Option (List ℕ)) where
  -- they were answered one by one until none was complete
  pub alone_told : (r : Result (Unit {0}) E) (start : Situation) → StartsAt before start → IsAlone before start begun ended
      → OnOk r (Answering reader after start u output written) → OnOk r (IsIdle after) → OnOk r (GroupTold reader after before begun u ended output written)
  alone_told (Ok v) start starts alone told idle = inr (start, starts, alone, told, idle)
  alone_told (Err e) start starts alone told idle = tt

  -- the same up to an answer for whose frame there was no memory
  pub alone_untold : (r : Result (Unit {0}) E) (start : Situation) → StartsAt before start → IsAlone before start begun ended
      → OnErr r (AnswersSome Memory reader after start u output written) → OnErr r (GroupUntold reader after before begun u ended output written)
  alone_untold (Ok v) start starts alone told = tt
  alone_untold (Err e) start starts alone told = inr (start, starts, alone, told)

  -- the disk has the group
  pub settled_told : (r : Result (Unit {0}) E) (s t : Situation) (marks : List ℕ) → s ≡ before → t ≡ u → IsSettled marks before u begun ended
      → Gathers (Some r) reader after s t output written marks → OnOk r (GroupTold reader after before begun u ended output written)
  settled_told (Ok v) s t marks same shows settled h = inl (marks, gathered_same reader after s before t u output written marks same shows h, settled)
  settled_told (Err e) s t marks same shows settled h = tt

  pub settled_untold : (r : Result (Unit {0}) E) (s t : Situation) (marks : List ℕ) → s ≡ before → t ≡ u → IsSettled marks before u begun ended
      → Gathers (Some r) reader after s t output written marks → OnErr r (GroupUntold reader after before begun u ended output written)
  settled_untold (Ok v) s t marks same shows settled h = tt
  settled_untold (Err e) s t marks same shows settled h = inl (marks, gathering_some_same reader after s before t u output written marks same shows h, settled)

-- the answers that there were before those of a group
pub front_is : (held output more : List ℕ) (n : ℕ) → held ≡ output ++ more → n ≡ length output → take n held ≡ output
front_is held output more n is long = ap (λ (m : ℕ). take m held) long ∙ ap (λ (l : List ℕ). take (length output) l) is ∙ take-append_seam output more

module _ {D E : Type 0} (drive : Ghosts D) (copy after : Option (List ℕ)) (store : Option Store) (d : D) (t : Situation) (held front : List ℕ) (n : ℕ) (w : Option (List ℕ)) (r : Result (Unit {0}) E) where
  -- the store is forgotten, and so are the answers of the group
  pub again_ok : store ≡ None → front ≡ take n held → OnOk r (Answering copy after (situation_on drive store d) t (Some front) w) → OnOk r (Answering copy after (situation_on drive None d) t (Some (take n held)) w)
  again_ok none is h = subst (λ (o : Option Store). OnOk r (Answering copy after (situation_on drive o d) t (Some (take n held)) w)) none (subst (λ (l : List ℕ). OnOk r (Answering copy after (situation_on drive store d) t (Some l) w)) is h)

  pub again_err : store ≡ None → front ≡ take n held → OnErr r (AnswersSome Memory copy after (situation_on drive store d) t (Some front) w) → OnErr r (AnswersSome Memory copy after (situation_on drive None d) t (Some (take n held)) w)
  again_err none is h = subst (λ (o : Option Store). OnErr r (AnswersSome Memory copy after (situation_on drive o d) t (Some (take n held)) w)) none (subst (λ (l : List ℕ). OnErr r (AnswersSome Memory copy after (situation_on drive store d) t (Some l) w)) is h)

-- a count of failures does not fall
pub counted_grows : (failed : Bool) (n m : ℕ) → m ≡ counted failed n → CountsFailures 0 n m
counted_grows true n m is = λ few. omega (arith, is, few)
counted_grows false n m is = λ few. omega (arith, is)

-- where a call did not fail, none was counted
pub counted_none : (failed : Bool) (n m : ℕ) → failed ≡ false → m ≡ counted failed n → m ≡ n
counted_none failed n m is e = e ∙ ap (λ (b : Bool). counted b n) is
