-- Any choice of the marks of a group: the newest one that is there decides.
use Rattle.std.proofs.Common.{if◌then◌else◌, ◌≡◌, ◌⊎◌, inl, inr, ℕ, zero, suc, Bool, true, false, List, [], ◌∷◌, ◌++◌, length, take, refl, sym, ◌∙◌, ap, subst, subst₂, arith, append_assoc, append-nil, length-append}
use Rattle.drive.specs.Writes.{unwritten}
use Rattle.model.specs.Session.{State, Request, after_one, after}
use Rattle.durability.specs.Formats.{Block, Formats, AreExact, AreBounded, AreDistinct}
use Rattle.durability.specs.Volume.{Medium, NoneImitates, RecoversTo}
use Rattle.durability.proofs.Mediums.{stands_both, past_both}
use Rattle.durability.proofs.One.{stands_one}
use Rattle.gathering.specs.Groups.{Commit, with_marks, first_there, HasMarks, newest_of, newest, AreInTurn}
use Rattle.gathering.specs.Laws.{EndsWith}
use Rattle.gathering.proofs.Marks.{blank, first_cons}
use Rattle.gathering.proofs.Phases.{zeros_none, none_blank}
use Rattle.gathering.proofs.Beside.{beside_size}
use Rattle.gathering.proofs.Past.{HasPast, past_without, past_with}
use Rattle.gathering.proofs.After.{Follows, follows_itself, stands_other, follows_next}

-- the first mark is there, or it is not and none after it is
newest_zero : (here : Bool) (n : ℕ) → newest_of here n ≡ 0 → (here ≡ false) × (n ≡ 0)
newest_zero true zero e = absurd (omega (arith, e))
newest_zero false zero e = (refl, refl)
newest_zero here (suc n) e = absurd (omega (arith, e))

-- without a newest mark there is none
none_newest : (there : ℕ → Bool) (group : List Commit) → newest there group ≡ 0 → with_marks there group ≡ blank group
none_newest there [] e = refl
none_newest there (commit ∷ group) e =
    let z = newest_zero (there 0) (newest (λ i. there (suc i)) group) e in
    ap (λ (b : Bool). (commit.blocks ++ (if b then commit.mark else unwritten) ∷ []) ++ with_marks (λ i. there (suc i)) group) z.0
    ∙ ap (λ (xs : List Block). (commit.blocks ++ unwritten ∷ []) ++ xs) (none_newest (λ i. there (suc i)) group z.1)

module _ (formats : Formats) (exact : AreExact formats) (bounded : AreBounded formats) (distinct : AreDistinct formats) (capacity volume : ℕ) where
  -- on a medium that follows the one on which the group was planned
  newest_stands : (M N : Medium) (S : State) (requests : List Request) (group : List Commit) → Follows formats capacity volume M N S
      → AreInTurn formats capacity volume M S requests group → (there : ℕ → Bool)
      → (newest there group ≡ 0) ⊎ RecoversTo formats capacity volume (N ++ with_marks there group) (after S (take (newest there group) requests))
  newest_stands M N S [] [] both turn there = inl refl
  newest_stands M N S [] (commit ∷ group) both turn there = absurd turn
  newest_stands M N S (r ∷ requests) [] both turn there = absurd turn
  newest_stands M N S (r ∷ requests) (commit ∷ group) both (stands, plan, more) there =
      go (there 0) (newest (λ i. there (suc i)) group) refl
      (newest_stands (M ++ (commit.blocks ++ commit.mark ∷ [])) (N ++ (commit.blocks ++ (if there 0 then commit.mark else unwritten) ∷ [])) (after_one S r) requests group
      (follows_next formats exact bounded distinct capacity volume M N S both stands r commit.blocks commit.mark plan (if there 0 then commit.mark else unwritten)) more (λ i. there (suc i)))
    where
      size : length N ≡ length M
      size = beside_size formats 0 M N both.beside

      -- its mark is there, and none after it
      own : newest (λ i. there (suc i)) group ≡ 0 → RecoversTo formats capacity volume (N ++ ((commit.blocks ++ commit.mark ∷ []) ++ with_marks (λ i. there (suc i)) group)) (after_one S r)
      own none =
          let one = stands_other formats exact bounded distinct capacity volume M N S both stands r commit.blocks commit.mark plan in
          let clear : NoneImitates formats (length (N ++ (commit.blocks ++ commit.mark ∷ []))) (with_marks (λ i. there (suc i)) group) =
          subst₂ (λ (n : ℕ) (xs : List Block). NoneImitates formats n xs)
          (let e : length (M ++ (commit.blocks ++ commit.mark ∷ [])) ≡ length (N ++ (commit.blocks ++ commit.mark ∷ [])) = omega (arith, size, length-append M (commit.blocks ++ commit.mark ∷ []), length-append N (commit.blocks ++ commit.mark ∷ [])) in e)
          (sym (none_newest (λ i. there (suc i)) group none)) (none_blank formats exact bounded distinct capacity volume (M ++ (commit.blocks ++ commit.mark ∷ [])) (after_one S r) requests group more) in
          subst (λ (X : Medium). RecoversTo formats capacity volume X (after_one S r)) (append_assoc N (commit.blocks ++ commit.mark ∷ []) (with_marks (λ i. there (suc i)) group))
          ((stands_both formats capacity volume (after_one S r) (N ++ (commit.blocks ++ commit.mark ∷ [])) (with_marks (λ i. there (suc i)) group) clear).0 one)

      go : (here : Bool) (n : ℕ) → newest (λ i. there (suc i)) group ≡ n
          → (newest (λ i. there (suc i)) group ≡ 0) ⊎ RecoversTo formats capacity volume ((N ++ (commit.blocks ++ (if here then commit.mark else unwritten) ∷ [])) ++ with_marks (λ i. there (suc i)) group) (after (after_one S r) (take (newest (λ i. there (suc i)) group) requests))
          → (newest_of here (newest (λ i. there (suc i)) group) ≡ 0)
          ⊎ RecoversTo formats capacity volume (N ++ ((commit.blocks ++ (if here then commit.mark else unwritten) ∷ []) ++ with_marks (λ i. there (suc i)) group)) (after S (take (newest_of here (newest (λ i. there (suc i)) group)) (r ∷ requests)))
      go true zero e later = inr (subst (λ (k : ℕ). RecoversTo formats capacity volume (N ++ ((commit.blocks ++ commit.mark ∷ []) ++ with_marks (λ i. there (suc i)) group)) (after S (take (newest_of true k) (r ∷ requests)))) (sym e) (own e))
      go false zero e later = inl (ap (λ (k : ℕ). newest_of false k) e)
      go here (suc n) e (inl none) = absurd (omega (arith, e, none))
      go here (suc n) e (inr stands_later) =
          let last = if here then commit.mark else unwritten in
          let same : newest_of here (newest (λ i. there (suc i)) group) ≡ suc (newest (λ i. there (suc i)) group) = ap (λ (k : ℕ). newest_of here k) e ∙ ap suc (sym e) in
          inr (subst (λ (k : ℕ). RecoversTo formats capacity volume (N ++ ((commit.blocks ++ last ∷ []) ++ with_marks (λ i. there (suc i)) group)) (after S (take k (r ∷ requests)))) (sym same)
          (subst (λ (X : Medium). RecoversTo formats capacity volume X (after (after_one S r) (take (newest (λ i. there (suc i)) group) requests)))
          (append_assoc N (commit.blocks ++ last ∷ []) (with_marks (λ i. there (suc i)) group)) stands_later))

  any_stand : (B : Medium) (S : State) (requests : List Request) (group : List Commit) → RecoversTo formats capacity volume B S → AreInTurn formats capacity volume B S requests group
      → (there : ℕ → Bool) → RecoversTo formats capacity volume (B ++ with_marks there group) (after S (take (newest there group) requests))
  any_stand B S requests group stands turn there = elim (newest_stands B B S requests group (follows_itself formats capacity volume B S) turn there) [
    | inl none ↦
        subst₂ (λ (k : ℕ) (xs : List Block). RecoversTo formats capacity volume (B ++ xs) (after S (take k requests))) (sym none) (sym (none_newest there group none))
        ((stands_both formats capacity volume S B (blank group) (none_blank formats exact bounded distinct capacity volume B S requests group turn)).0 stands)
    | inr newer ↦ newer
  ]

  -- what is recovered of the past is what all marks would show
  past_marks : (M N : Medium) (S : State) (requests : List Request) (group : List Commit) → Follows formats capacity volume M N S → HasPast formats exact bounded distinct capacity volume M N
      → AreInTurn formats capacity volume M S requests group → (there : ℕ → Bool)
      → HasPast formats exact bounded distinct capacity volume (M ++ with_marks (first_there (length requests)) group) (N ++ with_marks there group)
  past_marks M N S [] [] both past turn there = subst₂ (λ (X Y : Medium). HasPast formats exact bounded distinct capacity volume X Y) (sym (append-nil M)) (sym (append-nil N)) past
  past_marks M N S [] (commit ∷ group) both past turn there = absurd turn
  past_marks M N S (r ∷ requests) [] both past turn there = absurd turn
  past_marks M N S (r ∷ requests) (commit ∷ group) both past (stands, plan, more) there =
      let last = if there 0 then commit.mark else unwritten in
      let M1 = M ++ (commit.blocks ++ commit.mark ∷ []) in
      let N1 = N ++ (commit.blocks ++ last ∷ []) in
      let next = follows_next formats exact bounded distinct capacity volume M N S both stands r commit.blocks commit.mark plan last in
      let all : M1 ++ with_marks (first_there (length requests)) group ≡ M ++ with_marks (first_there (length (r ∷ requests))) (commit ∷ group) =
      append_assoc M (commit.blocks ++ commit.mark ∷ []) (with_marks (first_there (length requests)) group) ∙ ap (λ (xs : List Block). M ++ xs) (sym (first_cons (length requests) commit group)) in
      subst₂ (λ (X Y : Medium). HasPast formats exact bounded distinct capacity volume X Y) all (append_assoc N (commit.blocks ++ last ∷ []) (with_marks (λ i. there (suc i)) group))
      (past_marks M1 N1 (after_one S r) requests group next (either (there 0)) more (λ i. there (suc i)))
    where
      either : (here : Bool) → HasPast formats exact bounded distinct capacity volume (M ++ (commit.blocks ++ commit.mark ∷ [])) (N ++ (commit.blocks ++ (if here then commit.mark else unwritten) ∷ []))
      either true = past_with formats exact bounded distinct capacity volume M N S both stands r commit.blocks commit.mark plan past
      either false = past_without formats exact bounded distinct capacity volume M N S both stands r commit.blocks commit.mark plan past

  ends_all : (B : Medium) (S : State) (requests : List Request) (group : List Commit) → RecoversTo formats capacity volume B S → AreInTurn formats capacity volume B S requests group
      → (there : ℕ → Bool)
      → EndsWith formats capacity volume S (take (newest there group) requests) (B ++ with_marks (first_there (length requests)) group) (B ++ with_marks there group)
  ends_all B S requests group stands turn there =
      let one = any_stand B S requests group stands turn there in
      record {
        stands = one;
        alone = λ other_capacity other_volume T is. stands_one formats exact other_capacity other_volume capacity volume (B ++ with_marks there group) T (after S (take (newest there group) requests)) is one;
        past = past_marks B B S requests group (follows_itself formats capacity volume B S) (λ k T was. was) turn there;
      }

  -- a last block of zeros may be missing
  ends_less : (B left all : Medium) (S : State) (done : List Request) → EndsWith formats capacity volume S done all (B ++ (left ++ unwritten ∷ [])) → EndsWith formats capacity volume S done all (B ++ left)
  ends_less B left all S done f =
      let none : NoneImitates formats (length (B ++ left)) (unwritten ∷ []) = (zeros_none formats exact bounded distinct capacity volume (length (B ++ left)), tt) in
      let g = subst (λ (X : Medium). EndsWith formats capacity volume S done all X) (sym (append_assoc B left (unwritten ∷ []))) f in
      let one = (stands_both formats capacity volume (after S done) (B ++ left) (unwritten ∷ []) none).1 g.stands in
      record {
        stands = one;
        alone = λ other_capacity other_volume T is. stands_one formats exact other_capacity other_volume capacity volume (B ++ left) T (after S done) is one;
        past = λ k T was. g.past k T ((past_both formats capacity volume T (B ++ left) (unwritten ∷ []) none k).0 was);
      }

  pub any_marks : (B : Medium) (S : State) (requests : List Request) (group : List Commit) → RecoversTo formats capacity volume B S → AreInTurn formats capacity volume B S requests group
      → (there : ℕ → Bool) (left : List Block) → HasMarks there group left
      → EndsWith formats capacity volume S (take (newest there group) requests) (B ++ with_marks (first_there (length requests)) group) (B ++ left)
  any_marks B S requests group stands turn there left has =
      let all = B ++ with_marks (first_there (length requests)) group in
      let done = take (newest there group) requests in
      let whole = ends_all B S requests group stands turn there in
      elim has [
        | inl e ↦ subst (λ (xs : List Block). EndsWith formats capacity volume S done all (B ++ xs)) (sym e) whole
        | inr e ↦ ends_less B left all S done (subst (λ (xs : List Block). EndsWith formats capacity volume S done all (B ++ xs)) (sym e) whole)
      ]
