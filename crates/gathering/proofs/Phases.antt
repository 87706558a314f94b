-- What is left of a group in its two phases.
use Rattle.std.proofs.Common.{◌≡◌, inl, inr, ℕ, zero, suc, ◌+◌, ◌-◌, ◌≤◌, List, [], ◌∷◌, ◌++◌, length, take, drop, refl, sym, ◌∙◌, ap, subst, arith, append_assoc, append-nil, length-append}
use Rattle.drive.specs.Writes.{IsTorn, unwritten, joined}
use Rattle.model.specs.Session.{State, Request, after_one, after}
use Rattle.durability.specs.Formats.{Block, Formats, AreExact, AreBounded, AreDistinct}
use Rattle.durability.specs.Volume.{Medium, partition_start, IsVatIcbAt, NoneImitates, RecoversTo}
use Rattle.durability.specs.Plan.{IsPlanned}
use Rattle.durability.specs.Torn.{AreAlike, Endures, IsTried, AreTried, AreCommitted}
use Rattle.durability.proofs.Mediums.{none-append}
use Rattle.durability.proofs.Torn.{none_left, alike, endures}
use Rattle.durability.proofs.Commits.{moves_front}
use Rattle.durability.proofs.One.{stands_one}
use Rattle.durability.proofs.Planned.{planned_carries}
use Rattle.gathering.specs.Groups.{Commit, with_marks, first_there, HasMarks, one_by_one, AreInTurn}
use Rattle.gathering.proofs.Marks.{whole, blank, first_cons, first_split}

module _ (formats : Formats) (exact : AreExact formats) (bounded : AreBounded formats) (distinct : AreDistinct formats) (capacity volume : ℕ) where
  pub zeros_none : (at : ℕ) → IsVatIcbAt formats unwritten at → ⊥
  zeros_none at (far, fields, kind, entry) = distinct.zeros (at - partition_start) fields entry

  -- a commit with its mark or with zeros takes as many blocks
  pub as_long : (B : Medium) (commit : Commit) (last : Block) → length (B ++ (commit.blocks ++ commit.mark ∷ [])) ≡ length B + length (commit.blocks ++ last ∷ [])
  as_long B commit last = omega (arith, length-append B (commit.blocks ++ commit.mark ∷ []), length-append commit.blocks (commit.mark ∷ []), length-append commit.blocks (last ∷ []))

  -- ---- the first phase

  pub none_blank : (B : Medium) (S : State) (requests : List Request) (group : List Commit) → AreInTurn formats capacity volume B S requests group → NoneImitates formats (length B) (blank group)
  none_blank B S [] [] turn = tt
  none_blank B S [] (commit ∷ group) turn = absurd turn
  none_blank B S (r ∷ requests) [] turn = absurd turn
  none_blank B S (r ∷ requests) (commit ∷ group) (stands, plan, more) =
      let out = planned_carries formats capacity volume exact distinct B S stands bounded r commit.blocks commit.mark plan in
      let here = none-append formats (length B) commit.blocks (unwritten ∷ []) out.none (zeros_none (length B + length commit.blocks), tt) in
      let later = none_blank (B ++ (commit.blocks ++ commit.mark ∷ [])) (after_one S r) requests group more in
      none-append formats (length B) (commit.blocks ++ unwritten ∷ []) (blank group) here (subst (λ n. NoneImitates formats n (blank group)) (as_long B commit unwritten) later)

  pub first_phase : (B : Medium) (S : State) (requests : List Request) (group : List Commit) → AreInTurn formats capacity volume B S requests group → (left : List Block) → IsTorn (blank group) left
      → AreAlike formats capacity volume B (B ++ left)
  first_phase B S requests group turn left torn =
      let none : NoneImitates formats (length B) (blank group ++ []) = subst (λ (xs : List Block). NoneImitates formats (length B) xs) (sym (append-nil (blank group))) (none_blank B S requests group turn) in
      alike formats distinct exact bounded capacity volume B left (none_left formats distinct (length B) (blank group ∷ []) left none (inl torn))

  -- ---- the second phase

  -- blocks none of which imitates, after commits
  endures_more : (B M left : Medium) (S : State) (done : List Request) → Endures formats capacity volume B S done M → NoneImitates formats (length M) left → Endures formats capacity volume B S done (M ++ left)
  endures_more B M left S done f none =
      let moves = moves_front formats capacity volume M left (after S done) none f.stands in
      record {
        more = (f.more.0 ++ left, ap (λ (xs : List Block). xs ++ left) f.more.1 ∙ append_assoc B f.more.0 left);
        stands = moves.ends;
        alone = λ other_capacity other_volume T is. stands_one formats exact other_capacity other_volume capacity volume (M ++ left) T (after S done) is moves.ends;
        past = λ commits T was. moves.past commits T (f.past commits T was);
        later = λ j few. moves.past (S.commits + j) (after S (take j done)) (f.later j few);
      }

  -- a last block of zeros may be missing
  endures_less : (B left : Medium) (S : State) (done : List Request) → Endures formats capacity volume B S done (B ++ (left ++ unwritten ∷ [])) → Endures formats capacity volume B S done (B ++ left)
  endures_less B left S done f =
      let same = alike formats distinct exact bounded capacity volume (B ++ left) (unwritten ∷ []) (zeros_none (length (B ++ left)), tt) in
      let g = subst (λ (M : Medium). Endures formats capacity volume B S done M) (sym (append_assoc B left (unwritten ∷ []))) f in
      let stands = (same.stands (after S done)).1 g.stands in
      record {
        more = (left, refl);
        stands = stands;
        alone = λ other_capacity other_volume T is. stands_one formats exact other_capacity other_volume capacity volume (B ++ left) T (after S done) is stands;
        past = λ commits T was. (same.past commits T).1 (g.past commits T was);
        later = λ j few. (same.past (S.commits + j) (after S (take j done))).1 (g.later j few);
      }

  -- a commit all of which is there
  one_tried : (B : Medium) (S : State) (r : Request) (commit : Commit) (stands : RecoversTo formats capacity volume B S) → IsPlanned formats capacity volume B S stands r commit.blocks commit.mark
      → IsTried formats capacity volume B S r (commit.blocks ++ commit.mark ∷ []) (r ∷ [])
  one_tried B S r commit stands plan = record {
    stands = stands;
    blocks = commit.blocks;
    mark = commit.mark;
    planned = plan;
    writes = commit.blocks ∷ (commit.mark ∷ []) ∷ [];
    are = record { before = commit.blocks ∷ []; order = append-nil commit.blocks; writes_are = refl };
    left_is = inr (commit.mark ∷ [], refl, inr ([], refl, refl));
    whole = λ e. refl;
    part = λ not. absurd (not refl);
  }

  pub all_tried : (B : Medium) (S : State) (requests : List Request) (group : List Commit) → AreInTurn formats capacity volume B S requests group → (n : ℕ) → n ≤ length requests
      → AreTried formats capacity volume B S (take n requests) (take n requests) (B ++ whole (take n group))
  all_tried B S [] [] turn zero few = (refl, append-nil B)
  all_tried B S [] [] turn (suc n) few = absurd (omega arith)
  all_tried B S [] (commit ∷ group) turn n few = absurd turn
  all_tried B S (r ∷ requests) [] turn n few = absurd turn
  all_tried B S (r ∷ requests) (commit ∷ group) (stands, plan, more) zero few = (refl, append-nil B)
  all_tried B S (r ∷ requests) (commit ∷ group) (stands, plan, more) (suc n) few =
      let rest = all_tried (B ++ (commit.blocks ++ commit.mark ∷ [])) (after_one S r) requests group more n (omega (arith, few)) in (
        commit.blocks ++ commit.mark ∷ [],
        r ∷ [],
        take n requests,
        one_tried B S r commit stands plan,
        refl,
        subst (λ (M : Medium). AreTried formats capacity volume (B ++ (commit.blocks ++ commit.mark ∷ [])) (after_one S r) (take n requests) (take n requests) M)
            (append_assoc B (commit.blocks ++ commit.mark ∷ []) (whole (take n group))) rest,
      )

  -- the others are as in the first phase
  rest_none : (B : Medium) (S : State) (requests : List Request) (group : List Commit) → AreInTurn formats capacity volume B S requests group → (n : ℕ)
      → NoneImitates formats (length (B ++ whole (take n group))) (blank (drop n group))
  rest_none B S [] [] turn zero = tt
  rest_none B S [] [] turn (suc n) = tt
  rest_none B S [] (commit ∷ group) turn n = absurd turn
  rest_none B S (r ∷ requests) [] turn n = absurd turn
  rest_none B S (r ∷ requests) (commit ∷ group) turn zero =
      subst (λ (M : Medium). NoneImitates formats (length M) (blank (commit ∷ group))) (sym (append-nil B)) (none_blank B S (r ∷ requests) (commit ∷ group) turn)
  rest_none B S (r ∷ requests) (commit ∷ group) (stands, plan, more) (suc n) =
      subst (λ (M : Medium). NoneImitates formats (length M) (blank (drop n group))) (append_assoc B (commit.blocks ++ commit.mark ∷ []) (whole (take n group)))
      (rest_none (B ++ (commit.blocks ++ commit.mark ∷ [])) (after_one S r) requests group more n)

  first_endure : (B : Medium) (S : State) (requests : List Request) (group : List Commit) → RecoversTo formats capacity volume B S → AreInTurn formats capacity volume B S requests group → (n : ℕ) → n ≤ length requests
      → Endures formats capacity volume B S (take n requests) (B ++ with_marks (first_there n) group)
  first_endure B S requests group stands turn n few =
      let first = endures formats distinct exact bounded capacity volume (take n requests) B S (take n requests) (B ++ whole (take n group)) stands (all_tried B S requests group turn n few) in
      let all = endures_more B (B ++ whole (take n group)) (blank (drop n group)) S (take n requests) first (rest_none B S requests group turn n) in
      subst (λ (M : Medium). Endures formats capacity volume B S (take n requests) M)
      (append_assoc B (whole (take n group)) (blank (drop n group)) ∙ ap (λ (xs : List Block). B ++ xs) (sym (first_split n group))) all

  pub second_phase : (B : Medium) (S : State) (requests : List Request) (group : List Commit) → RecoversTo formats capacity volume B S → AreInTurn formats capacity volume B S requests group → (n : ℕ) → n ≤ length requests
      → (left : List Block) → HasMarks (first_there n) group left → Endures formats capacity volume B S (take n requests) (B ++ left)
  second_phase B S requests group stands turn n few left (inl all) =
      subst (λ (xs : List Block). Endures formats capacity volume B S (take n requests) (B ++ xs)) (sym all) (first_endure B S requests group stands turn n few)
  second_phase B S requests group stands turn n few left (inr less) =
      endures_less B left S (take n requests) (subst (λ (xs : List Block). Endures formats capacity volume B S (take n requests) (B ++ xs)) (sym less) (first_endure B S requests group stands turn n few))

  -- ---- all marks

  pub together : (B : Medium) (S : State) (requests : List Request) (group : List Commit) → AreInTurn formats capacity volume B S requests group
      → AreCommitted formats capacity volume B S requests (one_by_one group) × (joined (one_by_one group) ≡ with_marks (first_there (length requests)) group)
  together B S [] [] turn = (refl, refl)
  together B S [] (commit ∷ group) turn = absurd turn
  together B S (r ∷ requests) [] turn = absurd turn
  together B S (r ∷ requests) (commit ∷ group) (stands, plan, more) =
      let rest = together (B ++ (commit.blocks ++ commit.mark ∷ [])) (after_one S r) requests group more in (
        (
          stands,
          commit.blocks,
          commit.mark,
          commit.blocks ∷ (commit.mark ∷ []) ∷ [],
          one_by_one group,
          plan,
          record { before = commit.blocks ∷ []; order = append-nil commit.blocks; writes_are = refl },
          refl,
          rest.0,
        ),
        sym (append_assoc commit.blocks (commit.mark ∷ []) (joined (one_by_one group)))
            ∙ ap (λ (xs : List Block). (commit.blocks ++ commit.mark ∷ []) ++ xs) rest.1 ∙ sym (first_cons (length requests) commit group),
      )
