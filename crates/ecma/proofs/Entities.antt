-- The bytes of an entity identifier.
use Rattle.std.proofs.Common.{◌≡◌, ℕ, List, [], ◌∷◌, ◌++◌, length, take, drop, replicate, sym, ap, ◌∙◌, arith}
use Rattle.std.proofs.lemmas.List.{drop_all, length-append, length-drop, length-replicate, length-take, take_at}
use borrow.Rule.Slice.PartMut.{post_of}
use Rattle.ecma.specs.declared.entity.EntityId.{EntityId}
use Rattle.ecma.specs.EntityId.{zero_filled, entity_id}

pub length-zero_filled : (n : ℕ) (bytes : List ℕ) → length (zero_filled n bytes) ≡ n
length-zero_filled n bytes =
    omega (arith, length-take n (bytes ++ replicate n 0), length-append bytes (replicate n 0), length-replicate {A = ℕ} n 0)

-- an array of n bytes is as it is
pub zero_filled-all : (n : ℕ) (bytes : List ℕ) → length bytes ≡ n → zero_filled n bytes ≡ bytes
zero_filled-all n bytes len = take_at bytes (replicate n 0) n len

pub length-entity_id : (id : EntityId) → length (entity_id id) ≡ 32
length-entity_id id =
    let i = zero_filled 23 id.identifier in
    let s = zero_filled 8 id.suffix in
    omega (arith, length-append i (s ++ []), length-append s [], length-zero_filled 23 id.identifier, length-zero_filled 8 id.suffix)

-- the identifier and then the suffix copied over zeros
pub entity_spelled : (identifier suffix i s : List ℕ) → length i ≡ 23 → length s ≡ length (take 8 (drop 23 (i ++ replicate 8 0))) → i ≡ identifier → s ≡ suffix
    → 0 ∷ (take 23 (i ++ replicate 8 0) ++ (s ++ post_of 24 8 (0 ∷ (i ++ replicate 8 0)))) ≡ 0 ∷ (zero_filled 23 identifier ++ (zero_filled 8 suffix ++ []))
entity_spelled identifier suffix i s i-len s-room i-is s-is =
    let whole : length (i ++ replicate 8 0) ≡ 31 = omega (arith, length-append i (replicate 8 0), i-len) in
    let s-len : length s ≡ 8 = omega (arith, length-take 8 (drop 23 (i ++ replicate 8 0)), length-drop 23 (i ++ replicate 8 0)) in
    let left : take 23 (i ++ replicate 8 0) ≡ zero_filled 23 identifier =
    take_at i (replicate 8 0) 23 i-len ∙ sym (zero_filled-all 23 i i-len) ∙ ap (zero_filled 23) i-is in
    let right : s ≡ zero_filled 8 suffix = sym (zero_filled-all 8 s s-len) ∙ ap (zero_filled 8) s-is in
    let nothing : post_of 24 8 (0 ∷ (i ++ replicate 8 0)) ≡ [] = drop_all 8 (drop 23 (i ++ replicate 8 0)) (omega (arith, length-drop 23 (i ++ replicate 8 0))) in
    ap (λ (x : List ℕ). 0 ∷ (x ++ (s ++ post_of 24 8 (0 ∷ (i ++ replicate 8 0))))) left
    ∙ ap (λ (x : List ℕ). 0 ∷ (zero_filled 23 identifier ++ (x ++ post_of 24 8 (0 ∷ (i ++ replicate 8 0))))) right
    ∙ ap (λ (x : List ℕ). 0 ∷ (zero_filled 23 identifier ++ (zero_filled 8 suffix ++ x))) nothing
