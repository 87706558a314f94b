-- A list that grows in steps begins with what it began with.
use Rattle.std.proofs.Common.{◌≡◌, ℕ, ◌≤◌, List, ◌++◌, length, take, Result, Ok, Err, sym, ap, ◌∙◌, append_assoc, arith, length-append}
use Rattle.std.specs.Prelude.{OnErr}
use Rattle.std.proofs.lemmas.List.{take-take}
use Rattle.std.proofs.Math.Seq.{take-append_seam}
use Rattle.request.specs.Appending.{KeepsFront}

pub keeps_front_through : (old more mid new : List ℕ) → mid ≡ old ++ more → KeepsFront mid new → KeepsFront old new
keeps_front_through old more mid new grown kept =
    let within : length old ≤ length mid = omega (arith, length-append old more, ap length grown) in
    sym (take-take (length old) (length mid) new within) ∙ ap (take (length old)) (kept ∙ grown) ∙ take-append_seam old more

-- what was first, where two pieces were added
pub grown_twice : (old a b c x y : List ℕ) → a ≡ old → b ≡ a ++ x → c ≡ b ++ y → c ≡ old ++ (x ++ y)
grown_twice old a b c x y same first second =
    second ∙ ap (λ (l : List ℕ). l ++ y) (first ∙ ap (λ (l : List ℕ). l ++ x) same) ∙ append_assoc old x y

pub on_err : {T E P : Type 0} (r : Result T E) → P → OnErr r P
on_err (Ok x) p = tt
on_err (Err e) p = p
