-- Maps whose values are what lies at their keys, whatever is put in and taken out.
use Rattle.std.proofs.Common.{◌≡◌, ◌==◌, ◌&&◌, Bool, true, false, cond, List, [], Option, Some, None, refl, sym, subst}
use Rattle.std.specs.Prelude.{IfSome, Result, Ok, Err, OnOk, OnErr}
use Rattle.std.specs.HashMap.{HashMap, get, IsUnchanged, Updates}
use Rattle.std.specs.Map.{lookup}
use Rattle.std.proofs.lemmas.Bool.{eqb-true}
use Rattle.recover.specs.declared.directory.Extent.{Extent}
use Rattle.recover.specs.ReadCache.{same_extent}

-- ---- what compares as equal is the same

both : (a b : Bool) → (a && b) ≡ true → (a ≡ true) × (b ≡ true)
both true b e = (refl, e)
both false b e = cc

pub one_extent : (x y : Extent) → same_extent x y ≡ true → x ≡ y
one_extent x y e =
    let each = both (x.first == y.first) (x.size == y.size) e in
    let first : x.first ≡ y.first = eqb-true x.first y.first each.0 in
    let size : x.size ≡ y.size = eqb-true x.size y.size each.1 in
    λ i. record { first = first i; size = size i }

-- ---- maps of which each value has P at its key

module _ {K X : Type 0} (eq : K → K → Bool) (P : K → X → Type 0) where
  less : (k : K) (b : Bool) (o : Option X) → IfSome o (P k) → IfSome (cond b None o) (P k)
  less k true o h = tt
  less k false o h = h

  more : ((x y : K) → eq x y ≡ true → x ≡ y) → (k : K) (v : X) → P k v → (q : K) (b : Bool) → eq k q ≡ b → (o : Option X) → IfSome o (P q) → IfSome (cond b (Some v) o) (P q)
  more exact k v p q true e o h = subst (λ (x : K). P x v) (exact k q e) p
  more exact k v p q false e o h = h

  module _ {S : Type 0} where
    abbrev Holds : HashMap K X S → Type 0
    Holds m = (k : K) → IfSome (get eq m k) (P k)

    pub holds_none : (m : HashMap K X S) → m.entries ≡ [] → Holds m
    holds_none m e k = subst (λ (es : List (K × X)). IfSome (lookup (eq k) es) (P k)) (sym e) tt

    holds_same : (m n : HashMap K X S) → IsUnchanged m n → Holds m → Holds n
    holds_same m n e h k = subst (λ (es : List (K × X)). IfSome (lookup (eq k) es) (P k)) (sym e) (h k)

    pub holds_less : (test : K → Bool) (m n : HashMap K X S) → ((k : K) → get eq n k ≡ cond (test k) None (get eq m k)) → Holds m → Holds n
    holds_less test m n left h k = subst (λ (o : Option X). IfSome o (P k)) (sym (left k)) (less k (test k) (get eq m k) (h k))

    module _ (exact : (x y : K) → eq x y ≡ true → x ≡ y) (k : K) (v : X) (p : P k v) where
      holds_more : (m n : HashMap K X S) → Updates eq m n k (Some v) → Holds m → Holds n
      holds_more m n put h q = subst (λ (o : Option X). IfSome o (P q)) (sym (put.0 q)) (more exact k v p q (eq k q) refl (get eq m q) (h q))

      -- put in, or left out where there was no memory
      pub holds_put : {T E : Type 0} (r : Result T E) (m n : HashMap K X S) → OnOk r (Updates eq m n k (Some v)) → OnErr r (IsUnchanged m n) → Holds m → Holds n
      holds_put (Ok x) m n ok err h = holds_more m n ok h
      holds_put (Err e) m n ok err h = holds_same m n err h
