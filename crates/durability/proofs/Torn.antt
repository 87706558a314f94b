-- What a power loss leaves of writes has no table entry but the last block, where that went out alone after the others.
use Rattle.std.proofs.Common.{◌≡◌, ◌⊎◌, inl, inr, ℕ, zero, suc, ◌+◌, ◌-◌, ◌≤◌, ◌<◌, List, [], ◌∷◌, ◌++◌, length, take, Some, refl, sym, ◌∙◌, ap, subst, arith, append_assoc, append-nil, length-append}
use Rattle.std.proofs.lemmas.List.{take-append-le}
use Rattle.std.proofs.lemmas.Option.{same_Some, slice_get_within}
use Rattle.drive.specs.Writes.{joined, LastIsAlone, IsTorn, IsLeft}
use Rattle.model.specs.Session.{State, Request, Due, due, after_one, after, formatted}
use Rattle.model.specs.Session.Due.{New}
use Rattle.model.proofs.Runs.{after-append}
use Rattle.durability.specs.Formats.{Block, Formats, AreExact, AreBounded, AreDistinct}
use Rattle.durability.specs.Volume.{Medium, partition_start, IsVatIcbAt, NoneImitates, RecoversTo, RecoveredTo}
use Rattle.durability.specs.Step.{Moves, CarriesOut, IsFormat}
use Rattle.durability.specs.Plan.{zeros, IsPlanned}
use Rattle.durability.specs.Runs.{Delivery, Answer, Effect, AnswersDue, Row, Runs}
use Rattle.durability.specs.Runs.Message.{Asks}
use Rattle.durability.specs.Runs.Delivery.{Delivered}
use Rattle.durability.specs.Runs.Answer.{Fault}
use Rattle.durability.specs.Runs.AnswersNew.{failed}
use Rattle.durability.specs.Torn.{AreAlike, RecoversToNothing, Endures, IsTried, AreTried, AreCommitted}
use Rattle.durability.proofs.Lists.{side, take_past}
use Rattle.drive.proofs.Turns.{joined_append}
use Rattle.durability.proofs.Writes.{last_left, joined_writes, writes_short, split_left}
use Rattle.durability.proofs.Mediums.{none_at, none_from, none-append, stands_both, past_both}
use Rattle.durability.proofs.One.{stands_one}
use Rattle.durability.proofs.History.{past_now}
use Rattle.durability.proofs.Commits.{moves_front, moves_whole}
use Rattle.durability.proofs.Planned.{planned_carries}
use Rattle.durability.proofs.Formatted.{format_stands}
use Rattle.durability.proofs.Runs.{runs_more}

commits_after : (done : List Request) (S : State) → (after S done).commits ≡ S.commits + length done
commits_after [] S = omega arith
commits_after (r ∷ done) S = omega (arith, commits_after done (after_one S r))

module _ (formats : Formats) (distinct : AreDistinct formats) where
  -- ---- none of it imitates

  zeros_none : (at : ℕ) (b : Block) → b ≡ zeros → IsVatIcbAt formats b at → ⊥
  zeros_none at b same (far, fields, kind, entry) = distinct.zeros (at - partition_start) fields (subst (λ (x : Block). formats.IsEntry fields x (at - partition_start)) same entry)

  none_torn : (at : ℕ) (write left : List Block) → NoneImitates formats at write → IsTorn write left → NoneImitates formats at left
  none_torn at write left none torn = none_from formats at left (λ j b e t. elim (torn.each j (slice_get_within left j b e)) [
    | inl same ↦ none_at formats at j (at + j) write b none (sym same ∙ e) refl t
    | inr blank ↦ zeros_none (at + j) b (same_Some b zeros (sym e ∙ blank)) t
  ])

  -- the parts of blocks none of which imitates
  none_first : (at : ℕ) (xs ys : List Block) → NoneImitates formats at (xs ++ ys) → NoneImitates formats at xs
  none_first at [] ys none = tt
  none_first at (x ∷ xs) ys none = (none.0, none_first (suc at) xs ys none.1)

  none_second : (at : ℕ) (xs ys : List Block) → NoneImitates formats at (xs ++ ys) → NoneImitates formats (at + length xs) ys
  none_second at [] ys none = subst (λ n. NoneImitates formats n ys) (let e : at ≡ at + 0 = omega arith in e) none
  none_second at (x ∷ xs) ys none = subst (λ n. NoneImitates formats n ys) (let e : suc at + length xs ≡ at + suc (length xs) = omega arith in e) (none_second (suc at) xs ys none.1)

  pub none_left : (at : ℕ) (writes : List (List Block)) (left : List Block) → NoneImitates formats at (joined writes) → IsLeft writes left → NoneImitates formats at left
  none_left at [] left none is = subst (λ (xs : List Block). NoneImitates formats at xs) (sym is) tt
  none_left at (write ∷ writes) left none (inl torn) = none_torn at write left (none_first at write (joined writes) none) torn
  none_left at (write ∷ writes) left none (inr (rest, whole, more)) =
      subst (λ (xs : List Block). NoneImitates formats at xs) (sym whole)
      (none-append formats at write rest (none_first at write (joined writes) none) (none_left (at + length write) writes rest (none_second at write (joined writes) none) more))

  -- What is left of writes of which the last block goes out alone: none imitates, or it is all of them.
  pub none_or_whole : (at : ℕ) (blocks : List Block) (mark : Block) (writes : List (List Block)) (left : List Block) → NoneImitates formats at blocks → LastIsAlone blocks mark writes → IsLeft writes left
      → NoneImitates formats at left ⊎ (left ≡ blocks ++ mark ∷ [])
  none_or_whole at blocks mark writes left none are is =
      let clear : NoneImitates formats at (joined are.before) = subst (λ (xs : List Block). NoneImitates formats at xs) (sym are.order) none in
      elim (last_left are.before mark left (subst (λ (ws : List (List Block)). IsLeft ws left) are.writes_are is)) [
        | inl part ↦ inl (none_left at are.before left clear part)
        | inr all ↦ elim all [
          | inl blank ↦ inl (subst (λ (xs : List Block). NoneImitates formats at xs) (sym blank) (none-append formats at (joined are.before) (zeros ∷ []) clear (zeros_none (at + length (joined are.before)) zeros refl, tt)))
          | inr whole ↦ inr (whole ∙ ap (λ (xs : List Block). xs ++ mark ∷ []) are.order)
        ]
      ]

  module _ (exact : AreExact formats) (bounded : AreBounded formats) (capacity volume : ℕ) where
    -- ---- a commit

    pub alike : (B left : Medium) → NoneImitates formats (length B) left → AreAlike formats capacity volume B (B ++ left)
    alike B left none = record {
      stands = λ S. stands_both formats capacity volume S B left none;
      past = λ commits S. past_both formats capacity volume S B left none commits;
    }

    -- without its last block
    pub part_alike : (B : Medium) (S : State) (stands : RecoversTo formats capacity volume B S) (r : Request) (blocks : List Block) (mark : Block) → IsPlanned formats capacity volume B S stands r blocks mark
        → (writes : List (List Block)) (left : List Block) → joined writes ≡ blocks → IsLeft writes left → AreAlike formats capacity volume B (B ++ left)
    part_alike B S stands r blocks mark plan writes left order is =
        let out = planned_carries formats capacity volume exact distinct B S stands bounded r blocks mark plan in
        alike B left (none_left (length B) writes left (subst (λ (xs : List Block). NoneImitates formats (length B) xs) (sym order) out.none) is)

    -- what comes after moves
    endures_same : (B left : Medium) (S : State) → RecoversTo formats capacity volume B S → Moves formats capacity volume B S (B ++ left) S → Endures formats capacity volume B S [] (B ++ left)
    endures_same B left S stands moves = record {
      more = moves.more;
      stands = moves.ends;
      alone = λ other_capacity other_volume T is. stands_one formats exact other_capacity other_volume capacity volume (B ++ left) T S is moves.ends;
      past = moves.past;
      later = λ j few.
          subst (λ n. RecoveredTo formats capacity volume (B ++ left) n (after S (take j []))) (let e : S.commits ≡ S.commits + j = omega (arith, few) in e)
          (subst (λ (T : State). RecoveredTo formats capacity volume (B ++ left) S.commits T) (none_done j) (moves.past S.commits S (past_now formats capacity volume B S stands)));
    }
      where
        none_done : (j : ℕ) → S ≡ after S (take j [])
        none_done zero = refl
        none_done (suc j) = refl

    endures_none : (B left : Medium) (S : State) → RecoversTo formats capacity volume B S → NoneImitates formats (length B) left → Endures formats capacity volume B S [] (B ++ left)
    endures_none B left S stands none = endures_same B left S stands (moves_front formats capacity volume B left S none stands)

    endures_one : (B left : Medium) (S : State) (r : Request) → RecoversTo formats capacity volume B S → Moves formats capacity volume B S (B ++ left) (after_one S r) → Endures formats capacity volume B S (r ∷ []) (B ++ left)
    endures_one B left S r stands moves = record {
      more = moves.more;
      stands = moves.ends;
      alone = λ other_capacity other_volume T is. stands_one formats exact other_capacity other_volume capacity volume (B ++ left) T (after_one S r) is moves.ends;
      past = moves.past;
      later = λ j few. one j few;
    }
      where
        one : (j : ℕ) → j ≤ length (r ∷ []) → RecoveredTo formats capacity volume (B ++ left) (S.commits + j) (after S (take j (r ∷ [])))
        one zero few = subst (λ n. RecoveredTo formats capacity volume (B ++ left) n S) (let e : S.commits ≡ S.commits + 0 = omega arith in e) (moves.past S.commits S (past_now formats capacity volume B S stands))
        one (suc zero) few = subst (λ n. RecoveredTo formats capacity volume (B ++ left) n (after_one S r)) (let e : (after_one S r).commits ≡ S.commits + suc zero = omega arith in e) (past_now formats capacity volume (B ++ left) (after_one S r) moves.ends)
        one (suc (suc j)) few = absurd (omega arith)

    -- Whatever is left of a commit: the old state is recovered, or all of it is there and the state after the request is.
    pub commit_torn : (B : Medium) (S : State) (stands : RecoversTo formats capacity volume B S) (r : Request) (blocks : List Block) (mark : Block) → IsPlanned formats capacity volume B S stands r blocks mark
        → (writes : List (List Block)) (left : List Block) → LastIsAlone blocks mark writes → IsLeft writes left
        → Moves formats capacity volume B S (B ++ left) S ⊎ ((left ≡ blocks ++ mark ∷ []) × Moves formats capacity volume B S (B ++ left) (after_one S r))
    commit_torn B S stands r blocks mark plan writes left are is =
        let out = planned_carries formats capacity volume exact distinct B S stands bounded r blocks mark plan in
        elim (none_or_whole (length B) blocks mark writes left out.none are is) [
          | inl none ↦ inl (moves_front formats capacity volume B left S none stands)
          | inr whole ↦
              let e : B ++ left ≡ (B ++ blocks) ++ mark ∷ [] = ap (λ (xs : Medium). B ++ xs) whole ∙ sym (append_assoc B blocks (mark ∷ [])) in
              inr (whole, subst (λ (M : Medium). Moves formats capacity volume B S M (after_one S r)) (sym e) (moves_whole formats capacity volume exact B blocks mark S r stands out))
        ]

    -- all but the last block, and after them nothing or zeros; or the last block
    pub mark_decides : (B : Medium) (S : State) (stands : RecoversTo formats capacity volume B S) (r : Request) (blocks : List Block) (mark : Block) → IsPlanned formats capacity volume B S stands r blocks mark
        → Endures formats capacity volume B S [] (B ++ blocks) × Endures formats capacity volume B S [] (B ++ (blocks ++ zeros ∷ [])) × Endures formats capacity volume B S (r ∷ []) (B ++ (blocks ++ mark ∷ []))
    mark_decides B S stands r blocks mark plan =
        let out = planned_carries formats capacity volume exact distinct B S stands bounded r blocks mark plan in
        let e : B ++ (blocks ++ mark ∷ []) ≡ (B ++ blocks) ++ mark ∷ [] = sym (append_assoc B blocks (mark ∷ [])) in (
          endures_none B blocks S stands out.none,
          endures_none B (blocks ++ zeros ∷ []) S stands (none-append formats (length B) blocks (zeros ∷ []) out.none (zeros_none (length B + length blocks) zeros refl, tt)),
          endures_one B (blocks ++ mark ∷ []) S r stands (subst (λ (M : Medium). Moves formats capacity volume B S M (after_one S r)) (sym e) (moves_whole formats capacity volume exact B blocks mark S r stands out)),
        )

    -- ---- commits in turn

    tried : (B : Medium) (S : State) (r : Request) (left : List Block) (done : List Request) → IsTried formats capacity volume B S r left done → Endures formats capacity volume B S done (B ++ left)
    tried B S r left done t = go (none_or_whole (length B) t.blocks t.mark t.writes left out.none t.are t.left_is)
      where
        out : CarriesOut formats capacity volume B S t.stands r t.blocks t.mark
        out = planned_carries formats capacity volume exact distinct B S t.stands bounded r t.blocks t.mark t.planned

        far : 257 ≤ length B + length t.blocks
        far = omega (arith, t.stands.last.is.0, slice_get_within B t.stands.at t.stands.block t.stands.last.there)

        -- the last block imitates
        apart : NoneImitates formats (length B) left → left ≡ t.blocks ++ t.mark ∷ [] → ⊥
        apart none e = (none_second (length B) t.blocks (t.mark ∷ []) (subst (λ (xs : List Block). NoneImitates formats (length B) xs) e none)).0 (far, out.has.fields, out.has.kind, out.has.entry)

        go : NoneImitates formats (length B) left ⊎ (left ≡ t.blocks ++ t.mark ∷ []) → Endures formats capacity volume B S done (B ++ left)
        go (inl none) = subst (λ (d : List Request). Endures formats capacity volume B S d (B ++ left)) (sym (t.part (apart none))) (endures_none B left S t.stands none)
        go (inr whole) =
            rw whole (subst (λ (d : List Request). Endures formats capacity volume B S d (B ++ (t.blocks ++ t.mark ∷ []))) (sym (t.whole whole)) (mark_decides B S t.stands r t.blocks t.mark t.planned).2)

    -- one after the other
    endures_join : (B M N : Medium) (S : State) (first second : List Request) → Endures formats capacity volume B S first M → Endures formats capacity volume M (after S first) second N
        → Endures formats capacity volume B S (first ++ second) N
    endures_join B M N S first second f s =
        let ends : after S (first ++ second) ≡ after (after S first) second = after-append first second S in
        record {
          more = (f.more.0 ++ s.more.0, s.more.1 ∙ ap (λ (xs : Medium). xs ++ s.more.0) f.more.1 ∙ append_assoc B f.more.0 s.more.0);
          stands = subst (λ (T : State). RecoversTo formats capacity volume N T) (sym ends) s.stands;
          alone = λ other_capacity other_volume T is. s.alone other_capacity other_volume T is ∙ sym ends;
          past = λ commits T was. s.past commits T (f.past commits T was);
          later = λ j few. at j few (side j (length first));
        }
      where
        at : (j : ℕ) → j ≤ length (first ++ second) → (j < length first) ⊎ (length first ≤ j) → RecoveredTo formats capacity volume N (S.commits + j) (after S (take j (first ++ second)))
        at j few (inl low) =
            subst (λ (D : List Request). RecoveredTo formats capacity volume N (S.commits + j) (after S D)) (sym (take-append-le j first second (omega (arith, low))))
            (s.past (S.commits + j) (after S (take j first)) (f.later j (omega (arith, low))))
        at j few (inr high) =
            let i : ℕ = j - length first in
            let split : take j (first ++ second) ≡ first ++ take i second = take_past j i first second (omega (arith, high)) in
            let state : after (after S first) (take i second) ≡ after S (take j (first ++ second)) = sym (ap (λ (D : List Request). after S D) split ∙ after-append first (take i second) S) in
            let count : (after S first).commits + i ≡ S.commits + j = omega (arith, high, commits_after first S) in
            subst (λ n. RecoveredTo formats capacity volume N n (after S (take j (first ++ second)))) count
            (subst (λ (T : State). RecoveredTo formats capacity volume N ((after S first).commits + i) T) state (s.later i (omega (arith, high, few, length-append first second))))

    pub endures : (requests : List Request) (B : Medium) (S : State) (done : List Request) (afterwards : Medium) → RecoversTo formats capacity volume B S → AreTried formats capacity volume B S requests done afterwards
        → Endures formats capacity volume B S done afterwards
    endures [] B S done afterwards stands (none, same) =
        rw (none, same) (subst (λ (M : Medium). Endures formats capacity volume B S [] M) (append-nil B) (endures_none B [] S stands tt))
    endures (r ∷ requests) B S done afterwards stands (left, now, later, one, order, more) =
        let f = tried B S r left now one in
        rw order (endures_join B (B ++ left) afterwards S now later f (endures requests (B ++ left) (after S now) later afterwards f.stands more))

    -- at any moment of commits in turn: the state after the first of them
    moments : (requests : List Request) (B : Medium) (S : State) (writes : List (List Block)) (left : List Block) → RecoversTo formats capacity volume B S → AreCommitted formats capacity volume B S requests writes
        → IsLeft writes left → (j : ℕ) × (j ≤ length requests) × Endures formats capacity volume B S (take j requests) (B ++ left)
    moments [] B S writes left stands none is =
        let empty : left ≡ [] = subst (λ (ws : List (List Block)). IsLeft ws left) none is in
        (0, omega arith, endures_none B left S stands (subst (λ (xs : List Block). NoneImitates formats (length B) xs) (sym empty) tt))
    moments (r ∷ requests) B S writes left stands (standing, blocks, mark, first, others, plan, are, order, more) is =
        go (split_left first others left (subst (λ (ws : List (List Block)). IsLeft ws left) order is)) (λ rest afterwards. moments requests (B ++ (blocks ++ mark ∷ [])) (after_one S r) others rest whole.stands more afterwards)
      where
        whole : Endures formats capacity volume B S (r ∷ []) (B ++ (blocks ++ mark ∷ []))
        whole = (mark_decides B S standing r blocks mark plan).2

        go : IsLeft first left ⊎ ((rest : List Block) × (left ≡ joined first ++ rest) × IsLeft others rest)
            → ((rest : List Block) → IsLeft others rest → (j : ℕ) × (j ≤ length requests) × Endures formats capacity volume (B ++ (blocks ++ mark ∷ [])) (after_one S r) (take j requests) ((B ++ (blocks ++ mark ∷ [])) ++ rest))
            → (j : ℕ) × (j ≤ length (r ∷ requests)) × Endures formats capacity volume B S (take j (r ∷ requests)) (B ++ left)
        go (inl part) later = elim (commit_torn B S standing r blocks mark plan first left are part) [
          | inl stays ↦ (0, omega arith, endures_same B left S stands stays)
          | inr all ↦ (1, omega arith, endures_one B left S r stands all.1)
        ]
        go (inr (rest, e, afterwards)) later =
            let l = later rest afterwards in
            let all : (B ++ (blocks ++ mark ∷ [])) ++ rest ≡ B ++ left =
            append_assoc B (blocks ++ mark ∷ []) rest ∙ ap (λ (xs : List Block). B ++ (xs ++ rest)) (sym (joined_writes blocks mark first are)) ∙ ap (λ (xs : List Block). B ++ xs) (sym e) in (
              suc l.0,
              omega (arith, l.1),
              subst (λ (M : Medium). Endures formats capacity volume B S (take (suc l.0) (r ∷ requests)) M) all
                  (endures_join B (B ++ (blocks ++ mark ∷ [])) ((B ++ (blocks ++ mark ∷ [])) ++ rest) S (r ∷ []) (take l.0 requests) whole l.2),
            )

    -- all of them whole
    all_whole : (requests : List Request) (B : Medium) (S : State) (writes : List (List Block)) → RecoversTo formats capacity volume B S → AreCommitted formats capacity volume B S requests writes
        → Endures formats capacity volume B S requests (B ++ joined writes)
    all_whole [] B S writes stands none = rw none (endures_none B [] S stands tt)
    all_whole (r ∷ requests) B S writes stands (standing, blocks, mark, first, others, plan, are, order, more) =
        let one = (mark_decides B S standing r blocks mark plan).2 in
        let all : (B ++ (blocks ++ mark ∷ [])) ++ joined others ≡ B ++ joined writes =
        append_assoc B (blocks ++ mark ∷ []) (joined others) ∙ ap (λ (xs : List Block). B ++ (xs ++ joined others)) (sym (joined_writes blocks mark first are))
        ∙ ap (λ (xs : List Block). B ++ xs) (sym (joined_append first others)) ∙ ap (λ (ws : List (List Block)). B ++ joined ws) (sym order) in
        subst (λ (M : Medium). Endures formats capacity volume B S (r ∷ requests) M) all
        (endures_join B (B ++ (blocks ++ mark ∷ [])) ((B ++ (blocks ++ mark ∷ [])) ++ joined others) S (r ∷ []) requests one
        (all_whole requests (B ++ (blocks ++ mark ∷ [])) (after_one S r) others one.stands more))

    -- Those that were answered are whole. Of others, begun after them, the first are.
    pub answered_endure : (answered others : List Request) (B : Medium) (S : State) (first second : List (List Block)) (left : List Block) → RecoversTo formats capacity volume B S
        → AreCommitted formats capacity volume B S answered first → AreCommitted formats capacity volume (B ++ joined first) (after S answered) others second → IsLeft second left
        → (j : ℕ) × (j ≤ length others) × Endures formats capacity volume B S (answered ++ take j others) ((B ++ joined first) ++ left)
    answered_endure answered others B S first second left stands before afterwards is =
        let f = all_whole answered B S first stands before in
        let s = moments others (B ++ joined first) (after S answered) second left f.stands afterwards is in
        (s.0, s.1, endures_join B (B ++ joined first) ((B ++ joined first) ++ left) S answered (take s.0 others) f s.2)

    -- ---- runs

    -- A power loss in a commit is, in the account of a run, a delivery that is answered by a fault.
    pub torn_runs : (need : State → Request → ℕ) (ds : List Delivery) (S : State) (B : Medium) (answers : List Answer) (C : List Request) (B' : Medium) (S' : State) → Runs formats need capacity volume B S ds answers C B' S'
        → (stands : RecoversTo formats capacity volume B' S') (r : Request) (blocks : List Block) (mark : Block) → IsPlanned formats capacity volume B' S' stands r blocks mark
        → due S' r.client r.number ≡ New → length (blocks ++ mark ∷ []) ≤ need S' r → length B' + need S' r ≤ volume
        → (writes : List (List Block)) (left : List Block) → LastIsAlone blocks mark writes → IsLeft writes left
        → (done : List Request) × ((done ≡ []) ⊎ ((done ≡ r ∷ []) × (left ≡ blocks ++ mark ∷ [])))
        × Runs formats need capacity volume B S (ds ++ Delivered (Asks r) ∷ []) (answers ++ Fault ∷ []) (C ++ done) (B' ++ left) (after S' done)
    torn_runs need ds S B answers C B' S' runs stands r blocks mark plan new few room writes left are is = go (commit_torn B' S' stands r blocks mark plan writes left are is)
      where
        row : (effect : Effect) → (effect.done ≡ []) ⊎ ((effect.done ≡ r ∷ []) × (1 ≤ effect.blocks)) → effect.blocks ≡ length left → Row need S' (length B') volume (Delivered (Asks r)) (Some Fault) effect
        row effect what size =
            subst (λ (d : Due). AnswersDue S' (length B') volume (need S' r) r d Fault effect) (sym new)
            (failed effect what (omega (arith, size, few, writes_short blocks mark writes left are is)) (λ some. room))

        size : length (B' ++ left) ≡ length B' + length left
        size = length-append B' left

        go : Moves formats capacity volume B' S' (B' ++ left) S' ⊎ ((left ≡ blocks ++ mark ∷ []) × Moves formats capacity volume B' S' (B' ++ left) (after_one S' r))
            → (done : List Request) × ((done ≡ []) ⊎ ((done ≡ r ∷ []) × (left ≡ blocks ++ mark ∷ [])))
            × Runs formats need capacity volume B S (ds ++ Delivered (Asks r) ∷ []) (answers ++ Fault ∷ []) (C ++ done) (B' ++ left) (after S' done)
        go (inl stays) =
            let effect : Effect = record { done = []; blocks = length left } in
            ([], inl refl, runs_more formats need capacity volume ds S B answers C B' S' (Delivered (Asks r)) (Some Fault) effect (B' ++ left) runs (row effect (inl refl) refl) size stays)
        go (inr whole) =
            let effect : Effect = record { done = r ∷ []; blocks = length left } in
            let some : 1 ≤ length left = omega (arith, ap (λ (xs : List Block). length xs) whole.0, length-append blocks (mark ∷ [])) in
            (r ∷ [], inr (refl, whole.0), runs_more formats need capacity volume ds S B answers C B' S' (Delivered (Asks r)) (Some Fault) effect (B' ++ left) runs (row effect (inr (refl, some)) refl) size whole.1)

    -- ---- a format

    none_stands : (B : Medium) → NoneImitates formats 0 B → RecoversToNothing formats B
    none_stands B none other_capacity other_volume S s = none_at formats 0 s.at s.at B s.block none s.last.there (omega arith) s.last.is

    -- without its last block
    pub format_part : (label : List ℕ) (moment : ℕ) (blocks : List Block) (mark : Block) → IsFormat formats capacity volume label moment blocks mark
        → (writes : List (List Block)) (left : List Block) → joined writes ≡ blocks → IsLeft writes left → RecoversToNothing formats left
    format_part label moment blocks mark format writes left order is =
        none_stands left (none_left 0 writes left (subst (λ (xs : List Block). NoneImitates formats 0 xs) (sym order) format.none) is)

    pub format_torn : (label : List ℕ) (moment : ℕ) (blocks : List Block) (mark : Block) → IsFormat formats capacity volume label moment blocks mark
        → (writes : List (List Block)) (left : List Block) → LastIsAlone blocks mark writes → IsLeft writes left
        → RecoversToNothing formats left ⊎ ((left ≡ blocks ++ mark ∷ []) × RecoversTo formats capacity volume left (formatted moment))
    format_torn label moment blocks mark format writes left are is = elim (none_or_whole 0 blocks mark writes left format.none are is) [
      | inl none ↦ inl (none_stands left none)
      | inr whole ↦ inr (whole, subst (λ (M : Medium). RecoversTo formats capacity volume M (formatted moment)) (sym whole) (format_stands formats capacity volume label moment blocks mark format exact))
    ]
