-- A medium that goes on by blocks none of which imitates: what is recovered on it, and what was recovered before, is what it was.
use Rattle.std.proofs.Common.{◌≡◌, ◌↔◌, ◌⊎◌, inl, inr, ℕ, zero, suc, ◌+◌, ◌-◌, ◌≤◌, ◌<◌, List, [], ◌∷◌, ◌++◌, length, take, slice_get, Some, refl, sym, ◌∙◌, subst, arith}
use Rattle.std.proofs.lemmas.Option.{none-some, same_Some, slice_get_within}
use Rattle.std.proofs.lemmas.List.{take-append-le, length-take}
use Rattle.model.specs.Session.{State}
use Rattle.durability.specs.Formats.{Block, Formats}
use Rattle.durability.specs.Volume.{Medium, partition_start, IsVatIcbAt, NoneImitates, IsLast, HasTable, Describes, RecoversTo, LastTable, RecoveredBefore, RecoveredTo}
use Rattle.durability.proofs.Lists.{side, get-append, get_past, get-take}

module _ (formats : Formats) where
  pub none_at : (at j i : ℕ) (bs : List Block) (b : Block) → NoneImitates formats at bs → slice_get bs j ≡ Some b → i ≡ at + j → IsVatIcbAt formats b i → ⊥
  none_at at j i [] b n e p t = none-some b e
  none_at at zero i (x ∷ bs) b n e p t =
      let here : i ≡ at = omega arith in
      n.0 (subst (λ (y : Block). IsVatIcbAt formats y at) (sym (same_Some x b e)) (subst (λ k. IsVatIcbAt formats b k) here t))
  none_at at (suc j) i (x ∷ bs) b n e p t = none_at (suc at) j i bs b n.1 e (omega arith) t

  pub none_from : (at : ℕ) (bs : List Block) → ((j : ℕ) (b : Block) → slice_get bs j ≡ Some b → IsVatIcbAt formats b (at + j) → ⊥) → NoneImitates formats at bs
  none_from at [] h = tt
  none_from at (b ∷ bs) h = (
    (λ t. h 0 b refl (subst (λ n. IsVatIcbAt formats b n) (let e : at ≡ at + 0 = omega arith in e) t)),
    none_from (suc at) bs (λ j c e t. h (suc j) c e (subst (λ n. IsVatIcbAt formats c n) (let same : suc at + j ≡ at + suc j = omega arith in same) t)),
  )

  pub none-take : (j at : ℕ) (bs : List Block) → NoneImitates formats at bs → NoneImitates formats at (take j bs)
  none-take zero at bs n = tt
  none-take (suc j) at [] n = tt
  none-take (suc j) at (b ∷ bs) n = (n.0, none-take j (suc at) bs n.1)

  pub none-append : (at : ℕ) (xs ys : List Block) → NoneImitates formats at xs → NoneImitates formats (at + length xs) ys → NoneImitates formats at (xs ++ ys)
  none-append at [] ys x y = subst (λ n. NoneImitates formats n ys) (let e : at + 0 ≡ at = omega arith in e) y
  none-append at (b ∷ xs) ys x y = (x.0, none-append (suc at) xs ys x.1 (subst (λ n. NoneImitates formats n ys) (let e : at + suc (length xs) ≡ suc at + length xs = omega arith in e) y))

  -- no prefix of such blocks has a table entry
  pub none_take_at : (at k : ℕ) (bs : List Block) → NoneImitates formats at bs → (i : ℕ) (b : Block) → slice_get (take k bs) i ≡ Some b → IsVatIcbAt formats b (at + i) → ⊥
  none_take_at at k bs n i b e t = none_at at i (at + i) (take k bs) b (none-take k at bs n) e refl t

  pub within : (B : Medium) (at : ℕ) (block : Block) → IsLast formats B at block → at < length B
  within B at block l = slice_get_within B at block l.there

  module _ (B : Medium) (bs : List Block) (none : NoneImitates formats (length B) bs) where
    -- a table entry at its address is not among the new blocks
    imitates_below : (i : ℕ) (b : Block) → slice_get (B ++ bs) i ≡ Some b → IsVatIcbAt formats b i → i < length B
    imitates_below i b e t = go (side i (length B))
      where
        go : (i < length B) ⊎ (length B ≤ i) → i < length B
        go (inl h) = h
        go (inr h) =
            let back : i ≡ length B + (i - length B) = omega arith in
            absurd (none_at (length B) (i - length B) i bs b none (sym (get_past B bs i (i - length B) back) ∙ e) back t)

    last_more : (at : ℕ) (block : Block) → IsLast formats B at block → IsLast formats (B ++ bs) at block
    last_more at block l = record {
      there = get-append B bs at (within B at block l) ∙ l.there;
      is = l.is;
      no_later = λ later other lt e t. let h = imitates_below later other e t in l.no_later later other lt (sym (get-append B bs later h) ∙ e) t;
    }

    pub last_less : (at : ℕ) (block : Block) → IsLast formats (B ++ bs) at block → IsLast formats B at block
    last_less at block l = record {
      there = sym (get-append B bs at (imitates_below at block l.there l.is)) ∙ l.there;
      is = l.is;
      no_later = λ later other lt e t. l.no_later later other lt (get-append B bs later (slice_get_within B later other e) ∙ e) t;
    }

    front_same : (n : ℕ) → n ≤ length B → take n (B ++ bs) ≡ take n B
    front_same n h = take-append-le n B bs h

    module _ (capacity volume : ℕ) (S : State) where
      pub stands_more : RecoversTo formats capacity volume B S → RecoversTo formats capacity volume (B ++ bs) S
      stands_more s = record {
        at = s.at;
        block = s.block;
        last = last_more s.at s.block s.last;
        tells = let h = within B s.at s.block s.last in subst (λ (M : Medium). Describes formats capacity volume M s.at s.block S) (sym (front_same s.at (omega arith))) s.tells;
      }

      pub stands_less : RecoversTo formats capacity volume (B ++ bs) S → RecoversTo formats capacity volume B S
      stands_less s = record {
        at = s.at;
        block = s.block;
        last = last_less s.at s.block s.last;
        tells = let h = imitates_below s.at s.block s.last.there s.last.is in subst (λ (M : Medium). Describes formats capacity volume M s.at s.block S) (front_same s.at (omega arith)) s.tells;
      }

    abbrev table_more : LastTable formats B → LastTable formats (B ++ bs)
    table_more l = record {
      at = l.at;
      block = l.block;
      last = last_more l.at l.block l.last;
      table = l.table;
      moment = l.moment;
      has = let h = within B l.at l.block l.last in subst (λ (M : Medium). HasTable formats M l.at l.block l.table l.moment) (sym (front_same l.at (omega arith))) l.has;
    }

    abbrev table_less : LastTable formats (B ++ bs) → LastTable formats B
    table_less l = record {
      at = l.at;
      block = l.block;
      last = last_less l.at l.block l.last;
      table = l.table;
      moment = l.moment;
      has = let h = imitates_below l.at l.block l.last.there l.last.is in subst (λ (M : Medium). HasTable formats M l.at l.block l.table l.moment) (front_same l.at (omega arith)) l.has;
    }

  -- a step of the chain
  abbrev pub Before : ℕ → ℕ → ℕ → State → ℕ → ℕ → Medium → Type 0
  Before steps capacity volume S at commits M = (before : LastTable formats M) × (before.at ≡ at) × (before.table.commits + 1 ≡ commits) × RecoveredBefore formats steps capacity volume M S

  module _ (capacity volume : ℕ) (S : State) where
    pub stood_more : (steps : ℕ) (B : Medium) (bs : List Block) → NoneImitates formats (length B) bs → RecoveredBefore formats steps capacity volume B S → RecoveredBefore formats steps capacity volume (B ++ bs) S
    stood_more zero B bs none s = stands_more B bs none capacity volume S s
    stood_more (suc steps) B bs none (last, previous, is_previous, before, at, commits, rest) =
        let inside = slice_get_within (take (previous + 258) B) before.at before.block before.last.there in
        let size : previous + 258 ≤ length B = cut_within previous B (subst (λ n. n < length (take (previous + 258) B)) at inside) in
        let same : take (previous + 258) B ≡ take (previous + 258) (B ++ bs) = sym (front_same B bs none (previous + 258) size) in
        let tail = subst (Before steps capacity volume S (previous + partition_start) last.table.commits) same (before, at, commits, rest) in
        (table_more B bs none last, previous, is_previous, tail.0, tail.1, tail.2, tail.3)
      where
        cut_within : (p : ℕ) (C : Medium) → p + 257 < length (take (p + 258) C) → p + 258 ≤ length C
        cut_within p C h = grind (arith, length-take)

    pub stood_less : (steps : ℕ) (B : Medium) (bs : List Block) → NoneImitates formats (length B) bs → RecoveredBefore formats steps capacity volume (B ++ bs) S → RecoveredBefore formats steps capacity volume B S
    stood_less zero B bs none s = stands_less B bs none capacity volume S s
    stood_less (suc steps) B bs none (last, previous, is_previous, before, at, commits, rest) =
        let inside : before.at < previous + 258 = omega (arith, at) in
        let there : slice_get (B ++ bs) before.at ≡ Some before.block = sym (get-take (previous + 258) (B ++ bs) before.at inside) ∙ before.last.there in
        let size = imitates_below B bs none before.at before.block there before.last.is in
        let same : take (previous + 258) (B ++ bs) ≡ take (previous + 258) B = front_same B bs none (previous + 258) (omega (arith, at)) in
        let tail = subst (Before steps capacity volume S (previous + partition_start) last.table.commits) same (before, at, commits, rest) in
        (table_less B bs none last, previous, is_previous, tail.0, tail.1, tail.2, tail.3)

    pub stands_both : (B : Medium) (bs : List Block) → NoneImitates formats (length B) bs → RecoversTo formats capacity volume B S ↔ RecoversTo formats capacity volume (B ++ bs) S
    stands_both B bs none = (stands_more B bs none capacity volume S, stands_less B bs none capacity volume S)

    pub past_both : (B : Medium) (bs : List Block) → NoneImitates formats (length B) bs → (k : ℕ) → RecoveredTo formats capacity volume B k S ↔ RecoveredTo formats capacity volume (B ++ bs) k S
    past_both B bs none k = (
      (λ (last, steps, count, stood). (table_more B bs none last, steps, count, stood_more steps B bs none stood)),
      (λ (last, steps, count, stood). (table_less B bs none last, steps, count, stood_less steps B bs none stood)),
    )
