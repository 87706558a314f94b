-- What a list of slots has at a path, where one of them is set or added.
use Rattle.std.proofs.Common.{◌≡◌, ℕ, zero, suc, ◌<◌, true, false, List, [], ◌∷◌, ◌++◌, length, get_or, set, cond, refl, sym, ◌∙◌, ap, subst, arith}
use Rattle.std.proofs.lemmas.Bool.{cond-true, cond-false}
use Rattle.std.proofs.lemmas.Slice.Eq.{bytes_eq-Decides}
use Rattle.std.specs.Prelude.{bytes_eq}
use Rattle.media.specs.declared.memory.Slot.{Slot}
use Rattle.media.specs.InMemory.{AreOthers, IsPlace, slot_at}

others_of : (s : Slot) (ss : List Slot) (path : List ℕ) (k : ℕ) → AreOthers (s ∷ ss) path (suc k) → AreOthers ss path k
others_of s ss path k others = λ i d lt. others (suc i) d (omega (arith, lt))

first_of : (s : Slot) (ss : List Slot) (path : List ℕ) (k : ℕ) → AreOthers (s ∷ ss) path (suc k) → bytes_eq path s.path.items ≡ false
first_of s ss path k others = others 0 s (omega arith)

pub place_of_rest : (s : Slot) (ss : List Slot) (path : List ℕ) (k : ℕ) → IsPlace (s ∷ ss) path (suc k) → IsPlace ss path k
place_of_rest s ss path k place = record {
  below = omega (arith, place.below);
  others = others_of s ss path k place.others;
  here = place.here;
}

-- what is at the path is what that slot has
pub slot_here : {A : Type 0} (of : Slot → A) (other : A) (ss : List Slot) (path : List ℕ) (k : ℕ) (d : Slot) → IsPlace ss path k → slot_at of other ss path ≡ of (get_or ss k d)
slot_here of other [] path k d place = absurd (omega (arith, place.below))
slot_here of other (s ∷ ss) path zero d place = rw (place.here d) refl
slot_here of other (s ∷ ss) path (suc k) d place = rw (first_of s ss path k place.others) (slot_here of other ss path k d (place_of_rest s ss path k place))

-- nothing is there where no slot is of the path
pub slot_none : {A : Type 0} (of : Slot → A) (other : A) (ss : List Slot) (path : List ℕ) → AreOthers ss path (length ss) → slot_at of other ss path ≡ other
slot_none of other [] path others = refl
slot_none of other (s ∷ ss) path others = rw (first_of s ss path (length ss) others) (slot_none of other ss path (others_of s ss path (length ss) others))

-- another slot of the same path, in its place
pub set_here : {A : Type 0} (of : Slot → A) (other : A) (ss : List Slot) (path : List ℕ) (k : ℕ) (d s : Slot) → IsPlace ss path k → s.path.items ≡ (get_or ss k d).path.items → slot_at of other (set ss k s) path ≡ of s
set_here of other [] path k d s place same = absurd (omega (arith, place.below))
set_here of other (t ∷ ss) path zero d s place same = cond-true (bytes_eq path s.path.items) (of s) (slot_at of other ss path) (ap (λ xs. bytes_eq path xs) same ∙ place.here d)
set_here of other (t ∷ ss) path (suc k) d s place same = rw (first_of t ss path k place.others) (set_here of other ss path k d s (place_of_rest t ss path k place) same)

-- it changes no path where it has what the old one had
pub set_alike : {A : Type 0} (of : Slot → A) (other : A) (ss : List Slot) (path : List ℕ) (k : ℕ) (d s : Slot) → k < length ss → s.path.items ≡ (get_or ss k d).path.items → of s ≡ of (get_or ss k d) → slot_at of other (set ss k s) path ≡ slot_at of other ss path
set_alike of other [] path k d s lt same alike = absurd (omega (arith, lt))
set_alike of other (t ∷ ss) path zero d s lt same alike =
    ap (λ b. cond b (of s) (slot_at of other ss path)) (ap (λ xs. bytes_eq path xs) same) ∙ ap (λ x. cond (bytes_eq path t.path.items) x (slot_at of other ss path)) alike
set_alike of other (t ∷ ss) path (suc k) d s lt same alike =
    ap (λ x. cond (bytes_eq path t.path.items) (of t) x) (set_alike of other ss path k d s (omega (arith, lt)) same alike)

same_path : (path : List ℕ) (xs : List ℕ) → bytes_eq path xs ≡ true → path ≡ xs
same_path path xs h = (bytes_eq-Decides path xs).0 h

-- and no other path
pub set_other : {A : Type 0} (of : Slot → A) (other : A) (ss : List Slot) (path : List ℕ) (k : ℕ) (d s : Slot) → IsPlace ss path k → s.path.items ≡ (get_or ss k d).path.items → (q : List ℕ) → bytes_eq q path ≡ false → slot_at of other (set ss k s) q ≡ slot_at of other ss q
set_other of other [] path k d s place same q apart = absurd (omega (arith, place.below))
set_other of other (t ∷ ss) path zero d s place same q apart =
    let old : bytes_eq q t.path.items ≡ false = subst (λ xs. bytes_eq q xs ≡ false) (same_path path t.path.items (place.here d)) apart in
    cond-false (bytes_eq q s.path.items) (of s) (slot_at of other ss q) (ap (λ xs. bytes_eq q xs) same ∙ old)
    ∙ sym (cond-false (bytes_eq q t.path.items) (of t) (slot_at of other ss q) old)
set_other of other (t ∷ ss) path (suc k) d s place same q apart =
    ap (λ x. cond (bytes_eq q t.path.items) (of t) x) (set_other of other ss path k d s (place_of_rest t ss path k place) same q apart)

-- a slot that is added is that of its path
pub push_here : {A : Type 0} (of : Slot → A) (other : A) (ss : List Slot) (path : List ℕ) (s : Slot) → AreOthers ss path (length ss) → s.path.items ≡ path → slot_at of other (ss ++ s ∷ []) path ≡ of s
push_here of other [] path s others same = cond-true (bytes_eq path s.path.items) (of s) other ((bytes_eq-Decides path s.path.items).1 (sym same))
push_here of other (t ∷ ss) path s others same = rw (first_of t ss path (length ss) others) (push_here of other ss path s (others_of t ss path (length ss) others) same)

-- and changes no other path
pub push_other : {A : Type 0} (of : Slot → A) (other : A) (ss : List Slot) (path : List ℕ) (s : Slot) → s.path.items ≡ path → (q : List ℕ) → bytes_eq q path ≡ false → slot_at of other (ss ++ s ∷ []) q ≡ slot_at of other ss q
push_other of other [] path s same q apart = cond-false (bytes_eq q s.path.items) (of s) other (ap (λ xs. bytes_eq q xs) same ∙ apart)
push_other of other (t ∷ ss) path s same q apart = ap (λ x. cond (bytes_eq q t.path.items) (of t) x) (push_other of other ss path s same q apart)
