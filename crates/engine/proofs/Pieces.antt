-- Bytes that are written piece by piece.
use Rattle.std.proofs.Common.{◌≡◌, ℕ, ◌+◌, ◌-◌, ◌≤◌, List, length, take, drop, Option, Some, None, sym, ap, subst, ◌∙◌, arith}
use Rattle.std.specs.Io.KnownBytes.{Appends, Keeps}
use Rattle.std.proofs.lemmas.List.{drop-drop, length-drop}
use Rattle.std.proofs.Math.Seq.{take-add}
use Rattle.engine.proofs.Messages.{appends_more}

-- a writer held some bytes more, and then kept what it held
pub keeps_on : (a b c : Option (List ℕ)) (x : List ℕ) → Appends a b x → Keeps b c → Appends a c x
keeps_on None b c x h k = tt
keeps_on (Some xs) None c x h k = absurd h
keeps_on (Some xs) (Some ys) None x h k = absurd k
keeps_on (Some xs) (Some ys) (Some zs) x h k = k ∙ h

-- What was written is a prefix of the bytes, and the rest is what is after it.
pub record Written (a b : Option (List ℕ)) (bytes rest : List ℕ) : Type 0 where
  pub count : ℕ
  pub within : count ≤ length bytes
  pub rest_is : rest ≡ drop count bytes
  pub appends : Appends a b (take count bytes)

-- a piece more
pub written_more : (a b c : Option (List ℕ)) (bytes rest later : List ℕ) (n : ℕ) → Written a b bytes rest → n ≤ length rest → later ≡ drop n rest
    → Appends b c (take n rest) → Written a c bytes later
written_more a b c bytes rest later n w fits is more =
    let long : length rest ≡ length bytes - w.count = ap length w.rest_is ∙ length-drop w.count bytes in
    record {
      count = w.count + n;
      within = omega (arith, w.within, fits, long);
      rest_is = is ∙ ap (drop n) w.rest_is ∙ drop-drop n w.count bytes;
      appends = subst (λ (x : List ℕ). Appends a c x) (sym (take-add w.count n bytes))
          (appends_more a b c (take w.count bytes) (take n (drop w.count bytes)) w.appends (subst (λ (x : List ℕ). Appends b c (take n x)) w.rest_is more));
    }

-- nothing more
pub written_still : (a b c : Option (List ℕ)) (bytes rest later : List ℕ) → Written a b bytes rest → later ≡ rest → Keeps b c → Written a c bytes later
written_still a b c bytes rest later w same k =
    record { count = w.count; within = w.within; rest_is = same ∙ w.rest_is; appends = keeps_on a b c (take w.count bytes) w.appends k }
