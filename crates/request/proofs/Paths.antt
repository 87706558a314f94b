-- Names, paths and a file's bytes: what is read is what was written, and what was written is read again.
use Rattle.std.proofs.Common.{◌≡◌, ℕ, zero, suc, ◌^◌, ◌<◌, ◌≤◌, false, cond, eqb, ltb, List, [], ◌∷◌, ◌++◌, length, take, drop, Ok, Err, refl, sym, ap, subst, ◌∙◌, append_assoc, arith}
use Rattle.std.specs.List.{flat_map}
use Rattle.std.specs.Int.{w16, w32, to_le_bytes}
use Rattle.std.proofs.lemmas.Bool.{ltb-false, le-ltb}
use Rattle.std.proofs.lemmas.List.{take_at, drop_at, take-append-drop, length-append, length-take}
use Rattle.std.proofs.lemmas.List.Concat.{flat_map-cons}
use Rattle.std.specs.Prelude.{All}
use Rattle.std.proofs.lemmas.List.Elements.{All-nil, All-cons, All-head, All-tail}
use Rattle.limits.specs.declared.TheConstants.{FILE_BYTES}
use Rattle.osta.specs.Name.{IsName}
use Rattle.request.specs.declared.message.Cause.TheVariants as cause
use Rattle.request.specs.Spelling.{name_field, path_field, data_field}
use Rattle.request.specs.Path.{IsPath}
use Rattle.request.specs.Reading.{◌>>=◌, number_at, is_name, tested_name, name_at, names_at, path_at, data_at, appended_at, count_at}
use Rattle.request.proofs.Names.{IsName-from_is_name, passes, short_name}
use Rattle.request.proofs.Fields.{IsBytes, IsBytes-drop, IsBytes-rest, bind_ok, guard_passed, guard_met, above_zero, not_zero, ok_is, Takes, Takes-then, wide16, wide32, number_takes, number_again}

tested_is : (bytes text : List ℕ) → tested_name bytes ≡ Ok text → (bytes ≡ text) × IsName bytes
unfolding tested_name
tested_is bytes text e =
    let g = guard_met (is_name bytes) cause.Path (Ok bytes) text e in
    (ok_is bytes text g.1, IsName-from_is_name bytes g.0)

name_takes : (bytes : List ℕ) (x : List ℕ × List ℕ) → IsBytes bytes → name_at bytes ≡ Ok x → Takes bytes (name_field x.0) x.1 × IsName x.0
unfolding name_at
name_takes bytes x fits e =
    let b = bind_ok (number_at w16 bytes) (λ n. cond (ltb (length n.1) n.0) (Err cause.Short) (tested_name (take n.0 n.1)) >>= λ text. Ok (text, drop n.0 n.1)) x e in
    let n = b.0 in
    let c = bind_ok (cond (ltb (length n.1) n.0) (Err cause.Short) (tested_name (take n.0 n.1))) (λ text. Ok (text, drop n.0 n.1)) x b.2 in
    let g = guard_passed (ltb (length n.1) n.0) cause.Short (tested_name (take n.0 n.1)) c.0 c.1 in
    let tested = tested_is (take n.0 n.1) c.0 g.1 in
    let t = number_takes w16 (2 ^ 16) wide16 bytes n.0 n.1 fits b.1 in
    let long : n.0 ≤ length n.1 = ltb-false _ _ g.0 in
    let len : length (take n.0 n.1) ≡ n.0 = omega (arith, length-take n.0 n.1) in
    let second : Takes n.1 (take n.0 n.1) (drop n.0 n.1) = record { parts = sym (take-append-drop n.0 n.1); rest_fits = IsBytes-drop n.0 n.1 t.0.rest_fits } in
    let both = Takes-then bytes (to_le_bytes w16 n.0) n.1 (take n.0 n.1) (drop n.0 n.1) t.0 second in
    let whole : Takes bytes (name_field (take n.0 n.1)) (drop n.0 n.1) = subst (λ (k : ℕ). Takes bytes (to_le_bytes w16 k ++ take n.0 n.1) (drop n.0 n.1)) (sym len) both in
    let made : Takes bytes (name_field c.0) (drop n.0 n.1) × IsName c.0 = subst (λ (name : List ℕ). Takes bytes (name_field name) (drop n.0 n.1) × IsName name) tested.0 (whole, tested.1) in
    subst (λ (p : List ℕ × List ℕ). Takes bytes (name_field p.0) p.1 × IsName p.0) (ok_is (c.0, drop n.0 n.1) x c.2) made

name_again : (name rest : List ℕ) → IsName name → name_at (name_field name ++ rest) ≡ Ok (name, rest)
unfolding name_at
name_again name rest good =
    let long : ltb (length (name ++ rest)) (length name) ≡ false = le-ltb _ _ (omega (arith, length-append name rest)) in
    let short : length name < 2 ^ 16 = omega (arith, short_name name good) in
    rw (number_again w16 (2 ^ 16) wide16 (length name) (name ++ rest) short, long, take_at name rest (length name) refl, drop_at name rest (length name) refl, passes name good) refl

names_take : (n : ℕ) (bytes : List ℕ) (x : List (List ℕ) × List ℕ) → IsBytes bytes → names_at n bytes ≡ Ok x → Takes bytes (flat_map name_field x.0) x.1 × (length x.0 ≡ n) × All IsName x.0
unfolding names_at
names_take zero bytes x fits e =
    subst (λ (y : List (List ℕ) × List ℕ). Takes bytes (flat_map name_field y.0) y.1 × (length y.0 ≡ 0) × All IsName y.0) (ok_is ([], bytes) x e) (record { parts = refl; rest_fits = fits }, refl, All-nil IsName)
names_take (suc n) bytes x fits e =
    let a = bind_ok (name_at bytes) (λ first. names_at n first.1 >>= λ others. Ok (first.0 ∷ others.0, others.1)) x e in
    let b = bind_ok (names_at n a.0.1) (λ others. Ok (a.0.0 ∷ others.0, others.1)) x a.2 in
    let first = name_takes bytes a.0 fits a.1 in
    let second = names_take n a.0.1 b.0 first.0.rest_fits b.1 in
    let both = Takes-then bytes (name_field a.0.0) a.0.1 (flat_map name_field b.0.0) b.0.1 first.0 second.0 in
    let made : List (List ℕ) × List ℕ = (a.0.0 ∷ b.0.0, b.0.1) in
    subst (λ (y : List (List ℕ) × List ℕ). Takes bytes (flat_map name_field y.0) y.1 × (length y.0 ≡ suc n) × All IsName y.0) (ok_is made x b.2) (rw flat_map-cons both, ap suc second.1, All-cons IsName a.0.0 b.0.0 first.1 second.2)

names_again : (names : List (List ℕ)) (rest : List ℕ) → All IsName names → names_at (length names) (flat_map name_field names ++ rest) ≡ Ok (names, rest)
unfolding names_at
names_again [] rest good = refl
names_again (name ∷ names) rest good =
    let regrouped : flat_map name_field (name ∷ names) ++ rest ≡ name_field name ++ (flat_map name_field names ++ rest) = ap (λ (x : List ℕ). x ++ rest) (flat_map-cons name_field name names) ∙ append_assoc (name_field name) (flat_map name_field names) rest in
    ap (names_at (suc (length names))) regrouped ∙ rw (name_again name (flat_map name_field names ++ rest) (All-head IsName name names good), names_again names rest (All-tail IsName name names good)) refl

pub path_takes : (bytes : List ℕ) (x : List (List ℕ) × List ℕ) → IsBytes bytes → path_at bytes ≡ Ok x → Takes bytes (path_field x.0) x.1 × IsPath x.0
unfolding path_at
path_takes [] x fits e = absurd cc
path_takes (count ∷ bytes) x fits e =
    let t = names_take count bytes x (IsBytes-rest count bytes fits) e in
    let parts : count ∷ bytes ≡ path_field x.0 ++ x.1 = subst (λ (k : ℕ). count ∷ bytes ≡ (k ∷ flat_map name_field x.0) ++ x.1) (sym t.1) (ap (λ (w : List ℕ). count ∷ w) t.0.parts) in
    (record { parts = parts; rest_fits = t.0.rest_fits }, record { few = omega (arith, fits 0, t.1); names = t.2 })

pub path_again : (path : List (List ℕ)) (rest : List ℕ) → IsPath path → path_at (path_field path ++ rest) ≡ Ok (path, rest)
unfolding path_at
path_again path rest good = names_again path rest good.names

pub data_takes : (bytes : List ℕ) (x : List ℕ × List ℕ) → IsBytes bytes → data_at bytes ≡ Ok x → Takes bytes (data_field x.0) x.1 × (length x.0 ≤ FILE_BYTES)
unfolding data_at
data_takes bytes x fits e =
    let b = bind_ok (number_at w32 bytes) (λ n. cond (ltb FILE_BYTES n.0) (Err cause.Extra) (cond (ltb (length n.1) n.0) (Err cause.Short) (Ok (take n.0 n.1, drop n.0 n.1)))) x e in
    let n = b.0 in
    let t = number_takes w32 (2 ^ 32) wide32 bytes n.0 n.1 fits b.1 in
    let f = guard_passed (ltb FILE_BYTES n.0) cause.Extra (cond (ltb (length n.1) n.0) (Err cause.Short) (Ok (take n.0 n.1, drop n.0 n.1))) x b.2 in
    let g = guard_passed (ltb (length n.1) n.0) cause.Short (Ok (take n.0 n.1, drop n.0 n.1)) x f.1 in
    let few : n.0 ≤ FILE_BYTES = ltb-false _ _ f.0 in
    let long : n.0 ≤ length n.1 = ltb-false _ _ g.0 in
    let len : length (take n.0 n.1) ≡ n.0 = omega (arith, length-take n.0 n.1) in
    let second : Takes n.1 (take n.0 n.1) (drop n.0 n.1) = record { parts = sym (take-append-drop n.0 n.1); rest_fits = IsBytes-drop n.0 n.1 t.0.rest_fits } in
    let both = Takes-then bytes (to_le_bytes w32 n.0) n.1 (take n.0 n.1) (drop n.0 n.1) t.0 second in
    let whole : Takes bytes (data_field (take n.0 n.1)) (drop n.0 n.1) = subst (λ (k : ℕ). Takes bytes (to_le_bytes w32 k ++ take n.0 n.1) (drop n.0 n.1)) (sym len) both in
    subst (λ (p : List ℕ × List ℕ). Takes bytes (data_field p.0) p.1 × (length p.0 ≤ FILE_BYTES)) (ok_is (take n.0 n.1, drop n.0 n.1) x g.1) (whole, omega arith)

pub data_again : (bytes rest : List ℕ) → length bytes ≤ FILE_BYTES → data_at (data_field bytes ++ rest) ≡ Ok (bytes, rest)
unfolding data_at
data_again bytes rest few =
    let within : ltb FILE_BYTES (length bytes) ≡ false = le-ltb _ _ few in
    let long : ltb (length (bytes ++ rest)) (length bytes) ≡ false = le-ltb _ _ (omega (arith, length-append bytes rest)) in
    rw (number_again w32 (2 ^ 32) wide32 (length bytes) (bytes ++ rest) (omega arith), within, long, take_at bytes rest (length bytes) refl, drop_at bytes rest (length bytes) refl) refl

pub appended_takes : (bytes : List ℕ) (x : List ℕ × List ℕ) → IsBytes bytes → appended_at bytes ≡ Ok x → Takes bytes (data_field x.0) x.1 × (0 < length x.0) × (length x.0 ≤ FILE_BYTES)
unfolding appended_at
appended_takes bytes x fits e =
    let b = bind_ok (data_at bytes) (λ contents. cond (eqb (length contents.0) 0) (Err cause.Extra) (Ok contents)) x e in
    let g = guard_passed (eqb (length b.0.0) 0) cause.Extra (Ok b.0) x b.2 in
    let t = data_takes bytes b.0 fits b.1 in
    subst (λ (y : List ℕ × List ℕ). Takes bytes (data_field y.0) y.1 × (0 < length y.0) × (length y.0 ≤ FILE_BYTES)) (ok_is b.0 x g.1) (t.0, above_zero (length b.0.0) g.0, t.1)

pub appended_again : (bytes rest : List ℕ) → 0 < length bytes → length bytes ≤ FILE_BYTES → appended_at (data_field bytes ++ rest) ≡ Ok (bytes, rest)
unfolding appended_at
appended_again bytes rest some few = rw (data_again bytes rest few, not_zero (length bytes) some) refl

pub count_takes : (bytes : List ℕ) (x : ℕ × List ℕ) → IsBytes bytes → count_at bytes ≡ Ok x → Takes bytes (to_le_bytes w32 x.0) x.1 × (x.0 ≤ FILE_BYTES)
unfolding count_at
count_takes bytes x fits e =
    let b = bind_ok (number_at w32 bytes) (λ n. cond (ltb FILE_BYTES n.0) (Err cause.Extra) (Ok n)) x e in
    let g = guard_passed (ltb FILE_BYTES b.0.0) cause.Extra (Ok b.0) x b.2 in
    let t = number_takes w32 (2 ^ 32) wide32 bytes b.0.0 b.0.1 fits b.1 in
    let few : b.0.0 ≤ FILE_BYTES = ltb-false _ _ g.0 in
    subst (λ (y : ℕ × List ℕ). Takes bytes (to_le_bytes w32 y.0) y.1 × (y.0 ≤ FILE_BYTES)) (ok_is b.0 x g.1) (t.0, few)

pub count_again : (count : ℕ) (rest : List ℕ) → count ≤ FILE_BYTES → count_at (to_le_bytes w32 count ++ rest) ≡ Ok (count, rest)
unfolding count_at
count_again count rest few =
    let within : ltb FILE_BYTES count ≡ false = le-ltb _ _ few in
    rw (number_again w32 (2 ^ 32) wide32 count rest (omega (arith, few)), within) refl
