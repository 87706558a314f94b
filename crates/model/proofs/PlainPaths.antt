-- Names and paths of the plain program.
use Rattle.std.proofs.Common.{◌≡◌, ℕ, ◌+◌, ◌-◌, ◌<◌, true, cond, List, [], ◌∷◌, ◌++◌, map, take, drop, length, get_or, refl, sym, ap, ◌∙◌, arith, ◌&&◌, length-drop, take_all, String, string_bytes}
use Rattle.std.proofs.lemmas.List.{take-map, drop-map, map_push, take_more, length-map, map-append}
use Rattle.std.specs.declared.alloc.Global.{Global}
use lib.Pointwise.{pointwise}
use Rattle.std.specs.Str.{bytes_eq}
use Rattle.model.specs.Tree.{Path, paths_eq, begins_with, parent_of, last_of}
use Rattle.model.specs.Operation.{moved}
use Rattle.model.specs.Plain.{texts_in}

pub parent_names : (names : List (String Global)) (n : ℕ) → n ≡ length names - 1 → texts_in (take n names) ≡ parent_of (texts_in names)
parent_names names n e = sym (take-map string_bytes n names) ∙ ap (λ k. take k (map string_bytes names)) (e ∙ ap (λ k. k - 1) (sym (length-map names string_bytes)))

pub last_names : (names : List (String Global)) (n : ℕ) → n ≡ length names - 1 → texts_in (take (length names - n) (drop n names)) ≡ last_of (texts_in names)
last_names names n e =
    let whole : take (length names - n) (drop n names) ≡ drop n names = take_all (length names - n) (drop n names) (omega (arith, length-drop n names)) in
    ap texts_in whole ∙ sym (drop-map string_bytes n names) ∙ ap (λ k. drop k (map string_bytes names)) (e ∙ ap (λ k. k - 1) (sym (length-map names string_bytes)))

pub copied_more : (names copy : List (String Global)) (old new : String Global) (i : ℕ) → i < length names → texts_in copy ≡ take i (texts_in names)
    → old ≡ get_or names i old → string_bytes new ≡ string_bytes old → texts_in (copy ++ new ∷ []) ≡ take (i + 1) (texts_in names)
copied_more names copy old new i l before at same =
    map_push string_bytes copy new ∙ (λ j. before j ++ (same ∙ ap string_bytes at) j ∷ [])
    ∙ (λ j. take-map string_bytes i names j ++ string_bytes (get_or names i old) ∷ []) ∙ sym (map_push string_bytes (take i names) (get_or names i old))
    ∙ ap (map string_bytes) (sym (take_more names i old l)) ∙ sym (take-map string_bytes (i + 1) names)

pointwise-paths : (p q : Path) → pointwise bytes_eq p q ≡ paths_eq p q
pointwise-paths [] [] = refl
pointwise-paths [] (y ∷ q) = refl
pointwise-paths (x ∷ p) [] = refl
pointwise-paths (x ∷ p) (y ∷ q) = ap (λ b. bytes_eq x y && b) (pointwise-paths p q)

-- a prefix of the path is compared with the other
pub begins_names : (names front : List (String Global)) → begins_with (texts_in names) (texts_in front) ≡ paths_eq (texts_in front) (texts_in (take (length front) names))
begins_names names front =
    pointwise-paths (texts_in front) (take (length (texts_in front)) (texts_in names))
    ∙ ap (paths_eq (texts_in front)) (ap (λ k. take k (texts_in names)) (length-map front string_bytes) ∙ take-map string_bytes (length front) names)

-- the new prefix, and what was after the old one
pub moved_names : (path from to new rest : List (String Global)) → begins_with (texts_in path) (texts_in from) ≡ true → texts_in new ≡ texts_in to
    → texts_in rest ≡ texts_in (take (length path - length from) (drop (length from) path)) → texts_in (new ++ rest) ≡ moved (texts_in from) (texts_in to) (texts_in path)
moved_names path from to new rest begins a b =
    let whole : take (length path - length from) (drop (length from) path) ≡ drop (length from) path = take_all (length path - length from) (drop (length from) path) (omega (arith, length-drop (length from) path)) in
    map-append string_bytes new rest ∙ (λ i. a i ++ (b ∙ ap texts_in whole ∙ sym (drop-map string_bytes (length from) path) ∙ ap (λ n. drop n (texts_in path)) (sym (length-map from string_bytes))) i)
    ∙ sym (ap (λ t. cond t (texts_in to ++ drop (length (texts_in from)) (texts_in path)) (texts_in path)) begins)
