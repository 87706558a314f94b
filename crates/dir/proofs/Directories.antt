-- The data of a directory, read one identifier after another.
use Rattle.std.proofs.Common.{◌≡◌, ℕ, ◌+◌, ◌-◌, ◌*◌, ◌%◌, ◌^◌, ◌<◌, ◌≤◌, Bool, true, false, List, [], ◌∷◌, ◌++◌, length, refl, sym, ap, subst, ◌∙◌, append_assoc, arith, inl, inr}
use Rattle.std.specs.Prelude.{◌==◌, slice_index, if◌then◌else◌}
use Rattle.std.specs.List.{All}
use Rattle.std.proofs.lemmas.Bool.{cases_lt, eqb-true}
use Rattle.std.proofs.lemmas.Bool.Decides.{nat_tests}
use Rattle.std.proofs.lemmas.List.{get_or-drop, get_or_at, length-append, length-drop}
use Rattle.dir.specs.declared.fids.Fids.{Fids}
use Rattle.dir.specs.Identifier.{Identifier, rounded}
use Rattle.dir.specs.Layout.{laid, onward, FitsInBlock}
use Rattle.dir.specs.Reads.{IsFirstNameShort, ReadsIdentifier}
use Rattle.dir.specs.Split.{AreBytes, FitsIdentifier, size_of, use_size, name_size}
use Rattle.dir.proofs.Placing.{fits_cases, laid-nil}
use Rattle.dir.proofs.Steps.{read_stands, laid_found}

-- what is left of a directory whose first identifiers are done
pub record Continues (first : ℕ) (done : List Identifier) (fids : Fids) (xs : List Identifier) : Type 0 where
  pub more : List Identifier
  pub split : xs ≡ done ++ more
  pub there : fids.«data».now ≡ laid (first + fids.index) fids.at more
  pub stood : FitsInBlock fids.at more

-- the identifiers that are done were read from the beginning of the data, and what is left begins after them
pub record IsRead (whole : List ℕ) (first : ℕ) (done : List Identifier) (fids : Fids) : Type 0 where
  pub bytes : AreBytes fids.«data».now
  pub at4 : fids.at % 4 ≡ 0
  pub far : fids.index * 2048 + fids.at + length fids.«data».now ≡ length whole
  pub sound : (rest : List Identifier) → IsFirstNameShort rest → fids.«data».now ≡ laid (first + fids.index) fids.at rest → FitsInBlock fids.at rest
      → whole ≡ laid first 0 (done ++ rest)
  pub only : (xs : List Identifier) → All FitsIdentifier xs → whole ≡ laid first 0 xs → Continues first done fids xs

pub read_start : (whole : List ℕ) (first : ℕ) (fids : Fids) → AreBytes fids.«data».now → fids.«data».now ≡ whole → fids.at ≡ 0 → fids.index ≡ 0
    → IsRead whole first [] fids
read_start whole first fids bytes same at index =
    let number : first + fids.index ≡ first = omega arith in
    let places : (xs : List Identifier) → laid (first + fids.index) fids.at xs ≡ laid first 0 xs =
    λ (xs : List Identifier). ap (λ (n : ℕ). laid n fids.at xs) number ∙ ap (λ (n : ℕ). laid first n xs) at in
    record {
      bytes = bytes;
      at4 = omega arith;
      far = omega (arith, ap length same);
      sound = λ rest short there stood. sym same ∙ there ∙ places rest;
      only = λ xs fit e. record { more = xs; split = refl; there = same ∙ e ∙ sym (places xs); stood = inl at };
    }

-- the end of an identifier, as a place in its block or the start of the next
placed_next : (first index end : ℕ) (xs : List Identifier) (b : Bool)
    → laid (first + (if b then index + 1 else index)) (if b then 0 else end) xs ≡ (if b then laid (first + index + 1) 0 xs else laid (first + index) end xs)
placed_next first index end xs true = ap (λ (n : ℕ). laid n 0 xs) (omega arith)
placed_next first index end xs false = refl

far_next : (index end : ℕ) (b : Bool) → (b ≡ true → end ≡ 2048) → (if b then index + 1 else index) * 2048 + (if b then 0 else end) ≡ index * 2048 + end
far_next index end true full = let e = full refl in omega arith
far_next index end false full = refl

whole_next : (end : ℕ) (b : Bool) → end % 4 ≡ 0 → (if b then 0 else end) % 4 ≡ 0
whole_next end true e = refl
whole_next end false e = e

ended : (at size end : ℕ) → at % 4 ≡ 0 → end ≡ at + rounded size → end % 4 ≡ 0
ended at size end e is = omega arith

next_laid : (is_first : Bool) (first : ℕ) (old new : Fids) (x : Identifier) → ReadsIdentifier is_first first old new x → (xs : List Identifier)
    → laid (first + new.index) new.at xs ≡ onward (first + old.index) (old.at + size_of old.«data».now) xs
next_laid is_first first old new x r xs =
    let end = old.at + size_of old.«data».now in
    ap (λ (n : ℕ). laid (first + n) new.at xs) r.index
    ∙ ap (λ (n : ℕ). laid (first + (if end == 2048 then old.index + 1 else old.index)) n xs) r.at
    ∙ placed_next first old.index end xs (end == 2048)

within_next : (end at : ℕ) → at ≡ (if end == 2048 then 0 else end) → end < 2048 → at ≡ end
within_next end at e lt = let apart : (end == 2048) ≡ false = grind (arith, nat_tests) in e ∙ ap (λ (b : Bool). if b then 0 else end) apart

full_next : (end at : ℕ) → at ≡ (if end == 2048 then 0 else end) → end ≡ 2048 → at ≡ 0
full_next end at e full = let same : (end == 2048) ≡ true = grind (arith, nat_tests) in e ∙ ap (λ (b : Bool). if b then 0 else end) same

pub first_of_all : {X : Type 0} (P : X → Type 0) (a : List X) (x : X) (b : List X) → All P (a ++ (x ∷ b)) → P x
first_of_all P a x b all =
    subst P (get_or_at a x b x (length a) refl) (all (length a) x (omega (arith, length-append a (x ∷ b))))

pub rest_of_all : {X : Type 0} (P : X → Type 0) (a : List X) (x y : X) (b : List X) → All P (a ++ (x ∷ y ∷ b)) → P y
rest_of_all P a x y b all =
    first_of_all P (a ++ x ∷ []) y b (subst (λ (t : List _). All P t) (sym (append_assoc a (x ∷ []) (y ∷ b))) all)

-- the identifiers after one that fits are short
pub short_after : (done : List Identifier) (m : Identifier) (ms : List Identifier) → All FitsIdentifier (done ++ (m ∷ ms)) → IsFirstNameShort ms
short_after done m ms fit y r e =
    let all : All FitsIdentifier (done ++ (m ∷ y ∷ r)) = subst (λ (t : List Identifier). All FitsIdentifier (done ++ (m ∷ t))) e fit in
    (rest_of_all FitsIdentifier done m y r all).name

-- one identifier more is done
pub read_more : (is_first : Bool) (whole : List ℕ) (first : ℕ) (done : List Identifier) (old new : Fids) (x : Identifier)
    → IsRead whole first done old → ReadsIdentifier is_first first old new x → FitsIdentifier x → first + old.index < 2 ^ 32
    → IsRead whole first (done ++ x ∷ []) new
read_more is_first whole first done old new x k r f in_range =
    let bytes = old.«data».now in
    let n = size_of bytes in
    let end = old.at + n in
    let inside = old.in_block in
    let long = r.split.long in
    let all = r.split.whole in
    let high : end ≤ 2048 = elim (fits_cases n (2048 - old.at) r.split.within) [ inl e ↦ omega arith | inr e ↦ omega arith ] in
    let joined : (rest : List Identifier) → (done ++ x ∷ []) ++ rest ≡ done ++ (x ∷ rest) = λ (rest : List Identifier). append_assoc done (x ∷ []) rest in
    record {
      bytes = λ i. subst (λ (t : List ℕ). slice_index t i < 256) (sym r.rest) (subst (λ (v : ℕ). v < 256) (sym (get_or-drop n bytes i 0)) (k.bytes (n + i)));
      at4 = ap (λ (m : ℕ). m % 4) r.at ∙ whole_next end (end == 2048) (ended old.at (38 + use_size bytes + name_size bytes) end k.at4 refl);
      far =
          let place : new.index * 2048 + new.at ≡ old.index * 2048 + end =
          ap (λ (m : ℕ). m * 2048 + new.at) r.index ∙ ap (λ (m : ℕ). (if end == 2048 then old.index + 1 else old.index) * 2048 + m) r.at
          ∙ far_next old.index end (end == 2048) (eqb-true end 2048) in
          let before = k.far in
          omega (arith, ap length r.rest, length-drop n bytes);
      sound = λ rest short there stood.
          let after = sym r.rest ∙ there ∙ next_laid is_first first old new x r rest in
          let here = read_stands (first + old.index) old.at bytes rest k.bytes inside r.split r.head r.padded short after
          (λ (lt : end < 2048). subst (λ (m : ℕ). FitsInBlock m rest) (within_next end new.at r.at lt) stood) in
          let said : bytes ≡ laid (first + old.index) old.at (x ∷ rest) = here.0 ∙ ap (λ (y : Identifier). laid (first + old.index) old.at (y ∷ rest)) (sym r.says) in
          let stands : FitsInBlock old.at (x ∷ rest) = subst (λ (y : Identifier). FitsInBlock old.at (y ∷ rest)) (sym r.says) here.1 in
          k.sound (x ∷ rest) (λ y t e. let same : x ≡ y = cc in subst (λ (z : Identifier). length z.name ≤ 255) same f.name) said stands
          ∙ ap (laid first 0) (sym (joined rest));
      only = λ xs fit e.
          let before = k.only xs fit e in
          goes before before.more refl fit;
    }
  where
    goes : {xs : List Identifier} → (before : Continues first done old xs) → (more : List Identifier) → before.more ≡ more → All FitsIdentifier xs
        → Continues first (done ++ x ∷ []) new xs
    goes {xs} before [] e fit =
        let nothing : old.«data».now ≡ [] = before.there ∙ ap (laid (first + old.index) old.at) e ∙ laid-nil (first + old.index) old.at in
        let long = r.split.long in
        absurd (omega (arith, ap length nothing))
    goes {xs} before (m ∷ ms) e fit =
        let bytes = old.«data».now in
        let end = old.at + size_of bytes in
        let split : xs ≡ done ++ (m ∷ ms) = before.split ∙ ap (λ (t : List Identifier). done ++ t) e in
        let fit_all : All FitsIdentifier (done ++ (m ∷ ms)) = subst (λ (t : List Identifier). All FitsIdentifier t) split fit in
        let there : bytes ≡ laid (first + old.index) old.at (m ∷ ms) = before.there ∙ ap (laid (first + old.index) old.at) e in
        let stood : FitsInBlock old.at (m ∷ ms) = subst (λ (t : List Identifier). FitsInBlock old.at t) e before.stood in
        let found = laid_found (first + old.index) old.at bytes m ms k.bytes in_range old.in_block k.at4 (first_of_all FitsIdentifier done m ms fit_all) (short_after done m ms fit_all) there stood in
        let same : m ≡ x = sym found.says ∙ sym r.says in
        let high : end ≤ 2048 = elim (fits_cases (size_of bytes) (2048 - old.at) r.split.within) [ inl q ↦ omega (arith, old.in_block) | inr q ↦ omega (arith, old.in_block) ] in
        record {
          more = ms;
          split = split ∙ ap (λ (y : Identifier). done ++ (y ∷ ms)) same ∙ sym (append_assoc done (x ∷ []) ms);
          there = r.rest ∙ found.after ∙ sym (next_laid is_first first old new x r ms);
          stood = elim (cases_lt end 2048) [
            | inl lt ↦ subst (λ (n : ℕ). FitsInBlock n ms) (sym (within_next end new.at r.at lt)) (found.next lt)
            | inr ge ↦ inl (full_next end new.at r.at (omega arith))
          ];
        }
