-- Bytes as blocks.
use Rattle.std.proofs.Common.{◌≡◌, ℕ, ◌-◌, ◌≤◌, List, [], ◌++◌, length, take, drop, ap, ◌∙◌, arith}
use Rattle.std.proofs.lemmas.List.{append-nil, drop_at, drop_all, length-take, length-drop}
use borrow.Rule.Slice.PartMut.{put_mid}

-- a text written from the tag's end to the end of the bytes
pub after_tag : (into written text : List ℕ) → 16 ≤ length into → length text ≡ length into - 16
    → written ≡ text ++ drop (length text) (take (length into - 16) (drop 16 into))
    → drop 16 (put_mid 16 (length into - 16) into written) ≡ text
after_tag into written text long len put =
    let rest : List ℕ = drop (length into - 16) (drop 16 into) in
    let nothing : drop (length text) (take (length into - 16) (drop 16 into)) ≡ [] =
    drop_all (length text) (take (length into - 16) (drop 16 into)) (omega (arith, length-take (length into - 16) (drop 16 into))) in
    let none : rest ≡ [] = drop_all (length into - 16) (drop 16 into) (omega (arith, length-drop 16 into)) in
    drop_at (take 16 into) (written ++ rest) 16 (omega (arith, length-take 16 into))
    ∙ ap (λ (x : List ℕ). written ++ x) none ∙ append-nil written ∙ put ∙ ap (λ (x : List ℕ). text ++ x) nothing ∙ append-nil text
