-- What is at an address of the volume header, and that only one block can be there.
use Rattle.std.proofs.Common.{◌≡◌, ℕ, ◌+◌, ◌%◌, ◌<◌, ◌≤◌, Bool, cond, ltb, List, [], ◌∷◌, ◌++◌, length, get_or, sym, ap, subst, ◌∙◌, inl, inr, arith}
use Rattle.std.proofs.Math.ListN.{get_or-append}
use Rattle.std.proofs.Math.Seq.{get_or-append_seam}
use Rattle.std.proofs.lemmas.Bool.{cases_lt, lt-ltb, le-ltb}
use Rattle.ecma.proofs.Pieces.{IsBytes}
use Rattle.ecma.proofs.Seals.{one_descriptor}
use Rattle.ecma.proofs.Timestamps.{one_spelling}
use Rattle.volume.specs.Front.{HeaderBlock, HasContent, IsFrontBlock, front_content, recognition_content, sequence_content, later_content}
use Rattle.volume.specs.Front.HeaderBlock.{Nothing, Recognition, Descriptor}

pub content_low : (label : List ℕ) (moment : ℕ) (stamp : List ℕ) (capacity n : ℕ) → n < 32 → front_content label moment stamp capacity n ≡ recognition_content n
content_low label moment stamp capacity n low =
    ap (λ (b : Bool). cond b (recognition_content n) (cond (ltb n 64) (sequence_content label moment stamp capacity (n % 16)) (later_content stamp capacity n))) (lt-ltb n 32 low)

pub content_between : (label : List ℕ) (moment : ℕ) (stamp : List ℕ) (capacity n : ℕ) → 32 ≤ n → n < 64 → front_content label moment stamp capacity n ≡ sequence_content label moment stamp capacity (n % 16)
content_between label moment stamp capacity n low high =
    ap (λ (b : Bool). cond b (recognition_content n) (cond (ltb n 64) (sequence_content label moment stamp capacity (n % 16)) (later_content stamp capacity n))) (le-ltb n 32 low)
    ∙ ap (λ (b : Bool). cond b (sequence_content label moment stamp capacity (n % 16)) (later_content stamp capacity n)) (lt-ltb n 64 high)

pub content_high : (label : List ℕ) (moment : ℕ) (stamp : List ℕ) (capacity n : ℕ) → 64 ≤ n → front_content label moment stamp capacity n ≡ later_content stamp capacity n
content_high label moment stamp capacity n low =
    ap (λ (b : Bool). cond b (recognition_content n) (cond (ltb n 64) (sequence_content label moment stamp capacity (n % 16)) (later_content stamp capacity n))) (le-ltb n 32 (omega arith))
    ∙ ap (λ (b : Bool). cond b (sequence_content label moment stamp capacity (n % 16)) (later_content stamp capacity n)) (le-ltb n 64 low)

one_content : (n : ℕ) (content : HeaderBlock) (a b : List ℕ) → IsBytes a → IsBytes b → HasContent n content a → HasContent n content b → a ≡ b
one_content n Nothing a b fa fb x y = x ∙ sym y
one_content n (Recognition identifier) a b fa fb x y = x ∙ sym y
one_content n (Descriptor identifier fields) a b fa fb x y = one_descriptor identifier n fields a b fa fb x y

pub one_front_block : (label : List ℕ) (moment capacity n : ℕ) (a b : List ℕ) → IsBytes a → IsBytes b → IsFrontBlock label moment capacity n a → IsFrontBlock label moment capacity n b → a ≡ b
one_front_block label moment capacity n a b fa fb x y =
    let stamp : x.stamp ≡ y.stamp = one_spelling moment x.stamp y.stamp x.moment_is y.moment_is in
    one_content n (front_content label moment y.stamp capacity n) a b fa fb (subst (λ (s : List ℕ). HasContent n (front_content label moment s capacity n) a) stamp x.holds) y.holds

-- one more block after those of a volume header
pub each_push : (P : ℕ → List ℕ → Type 0) (xs : List (List ℕ)) (b : List ℕ) (n : ℕ) → length xs ≡ n → ((k : ℕ) → k < n → P k (get_or xs k [])) → P n b
    → (k : ℕ) → k < n + 1 → P k (get_or (xs ++ b ∷ []) k [])
each_push P xs b n len each last k low = elim (cases_lt k n) [
  | inl lt ↦ subst (P k) (sym (get_or-append xs (b ∷ []) [] k (omega (arith, len)))) (each k lt)
  | inr le ↦
      let there : b ≡ get_or (xs ++ b ∷ []) n [] = sym (ap (λ (m : ℕ). get_or (xs ++ b ∷ []) m []) (sym len) ∙ get_or-append_seam xs b [] []) in
      let same : n ≡ k = omega arith in
      subst (λ (m : ℕ). P m (get_or (xs ++ b ∷ []) m [])) same (subst (P n) there last)
]
