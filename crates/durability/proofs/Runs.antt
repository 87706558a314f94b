-- What a run says of each prefix of the medium.
use Rattle.std.proofs.Common.{◌≡◌, ◌⊎◌, inl, inr, ⊎_elim, ℕ, zero, suc, ◌+◌, ◌-◌, ◌≤◌, ◌<◌, cond, nat_lt, List, [], ◌∷◌, ◌++◌, length, take, Option, Some, None, refl, sym, ◌∙◌, ap, subst, subst₂, arith, add-zero, append_assoc, append-nil, length-append, lt-ltb, le-ltb}
use Rattle.std.specs.Option.{option_to_list}
use Rattle.std.proofs.lemmas.List.{take-append-le, take_at, take_all}
use Rattle.model.specs.Session.{State, Request, Due, after_one, after, due}
use Rattle.model.specs.Session.Due.{Repeat, Stale, Gap, ClientsFull, New}
use Rattle.durability.specs.Formats.{Formats}
use Rattle.durability.specs.Volume.{Medium, RecoversTo, RecoveredTo}
use Rattle.durability.specs.Step.{Moves}
use Rattle.model.specs.Runs.{AllNew}
use Rattle.durability.specs.Runs.{Delivery, Answer, Effect, AnswersNew, AnswersDue, Row, Fits, AtMarks, Runs, Holds}
use Rattle.durability.specs.Runs.Message.{Asks, Queries, Malformed, NoMemory}
use Rattle.durability.specs.Runs.Delivery.{Delivered, Restart}
use Rattle.durability.specs.Runs.AnswersNew.{committed, failed, full, no_memory}
use Rattle.durability.proofs.Lists.{side, take_past}
use Rattle.durability.proofs.History.{past_now}
use Rattle.model.proofs.Sessions.{each_once}

-- a delivery commits nothing, or one new request and writes
abbrev Commits : State → Effect → Type 0
Commits S effect = (effect.done ≡ []) ⊎ ((r : Request) × (effect.done ≡ r ∷ []) × (1 ≤ effect.blocks) × (due S r.client r.number ≡ New))

new_commits : (S : State) (mark capacity need : ℕ) (r : Request) (answer : Answer) (effect : Effect) → due S r.client r.number ≡ New → AnswersNew S mark capacity need r answer effect → Commits S effect
new_commits S mark capacity need r answer effect new (committed e is grows within room) = inr (r, is, grows, new)
new_commits S mark capacity need r answer effect new (failed e (inl none) within room) = inl none
new_commits S mark capacity need r answer effect new (failed e (inr done) within room) = inr (r, done.0, done.1, new)
new_commits S mark capacity need r answer effect new (full e nothing room) = inl nothing.0
new_commits S mark capacity need r answer effect new (no_memory e nothing) = inl nothing.0

due_commits : (S : State) (mark capacity need : ℕ) (r : Request) (d : Due) (answer : Answer) (effect : Effect) → due S r.client r.number ≡ d → AnswersDue S mark capacity need r d answer effect → Commits S effect
due_commits S mark capacity need r (Repeat reply) answer effect at row = inl row.1.0
due_commits S mark capacity need r (Stale latest) answer effect at row = inl row.1.0
due_commits S mark capacity need r (Gap latest) answer effect at row = inl row.1.0
due_commits S mark capacity need r ClientsFull answer effect at row = inl row.1.0
due_commits S mark capacity need r New answer effect at row = new_commits S mark capacity need r answer effect at row

row_commits : (need : State → Request → ℕ) (S : State) (mark capacity : ℕ) (d : Delivery) (answer : Option Answer) (effect : Effect) → Row need S mark capacity d answer effect → Commits S effect
row_commits need S mark capacity Restart (Some answer) effect row = absurd row
row_commits need S mark capacity Restart None effect row = inl row.0
row_commits need S mark capacity (Delivered message) None effect row = absurd row
row_commits need S mark capacity (Delivered (Malformed cause)) (Some answer) effect row = inl row.1.0
row_commits need S mark capacity (Delivered NoMemory) (Some answer) effect row = inl row.1.0
row_commits need S mark capacity (Delivered (Queries query)) (Some answer) effect row = inl row.1.0
row_commits need S mark capacity (Delivered (Asks r)) (Some answer) effect row = due_commits S mark capacity (need S r) r (due S r.client r.number) answer effect refl row

quiet : (S : State) (effect : Effect) → Commits S effect → effect.blocks ≡ 0 → effect.done ≡ []
quiet S effect (inl none) z = none
quiet S effect (inr one) z = absurd (omega (arith, one.2))

after-append : (D C : List Request) (S : State) → after S (D ++ C) ≡ after (after S D) C
after-append [] C S = refl
after-append (r ∷ D) C S = after-append D C (after_one S r)

-- x below a place, and y from there on
abbrev pick : ℕ → ℕ → ℕ → ℕ → ℕ
pick k place x y = cond (nat_lt k place) x y

pick_low : (k place x y : ℕ) → k < place → pick k place x y ≡ x
pick_low k place x y h = rw (lt-ltb k place h) refl

pick_high : (k place x y : ℕ) → place ≤ k → pick k place x y ≡ y
pick_high k place x y h = rw (le-ltb k place h) refl

-- the count at each mark, where the marks do not fall
abbrev AtRisingMarks : (ℕ → ℕ) → ℕ → List ℕ → List ℕ → Type 0
AtRisingMarks c low [] [] = Unit {0}
AtRisingMarks c low (m ∷ marks) (n ∷ counts) = (low ≤ m) × (c m ≡ n) × AtRisingMarks c m marks counts
AtRisingMarks c low [] (n ∷ counts) = ⊥
AtRisingMarks c low (m ∷ marks) [] = ⊥

marks_plain : (c : ℕ → ℕ) (low : ℕ) (marks counts : List ℕ) → AtRisingMarks c low marks counts → AtMarks c marks counts
marks_plain c low [] [] a = tt
marks_plain c low [] (n ∷ counts) a = a
marks_plain c low (m ∷ marks) [] a = a
marks_plain c low (m ∷ marks) (n ∷ counts) a = (a.1, marks_plain c m marks counts a.2)

-- the marks lie where the new count is the old one
marks_kept : (n place low : ℕ) (c : ℕ → ℕ) (marks counts : List ℕ) → place ≤ low → AtRisingMarks c low marks counts → AtRisingMarks (λ k. pick k place n (c k)) low marks counts
marks_kept n place low c [] [] h a = tt
marks_kept n place low c [] (x ∷ counts) h a = a
marks_kept n place low c (m ∷ marks) [] h a = a
marks_kept n place low c (m ∷ marks) (x ∷ counts) h a =
    let past : place ≤ m = omega (arith, a.0) in
    (a.0, pick_high m place n (c m) past ∙ a.1, marks_kept n place m c marks counts past a.2)

module _ (formats : Formats) (need : State → Request → ℕ) (drive volume : ℕ) where
  -- What a run says from any count on.
  record From (n : ℕ) (S : State) (B B' : Medium) (ds : List Delivery) (answers : List Answer) (C : List Request) : Type 0 where
    marks : List ℕ
    counts : List ℕ
    c : ℕ → ℕ
    fits : Fits need volume (length B') S (length B) n ds answers marks counts C
    front : (K : Medium) × (B' ≡ B ++ K)
    stands : (k : ℕ) → length B ≤ k → k ≤ length B' → RecoversTo formats drive volume (take k B') (after S (take (c k - n) C))
    never_falls : (j k : ℕ) → j ≤ k → c j ≤ c k
    at_start : c (length B) ≡ n
    at_marks : AtRisingMarks c (length B) marks counts
    at_end : c (length B') ≡ n + length C
    past : (k : ℕ) (T : State) → RecoveredTo formats drive volume B k T → RecoveredTo formats drive volume B' k T
    new : AllNew S C
    commits : (j : ℕ) → j ≤ length C → RecoveredTo formats drive volume B' (S.commits + j) (after S (take j C))

  from_none : (n : ℕ) (S : State) (B : Medium) → RecoversTo formats drive volume B S → From n S B B [] [] []
  from_none n S B stands = record {
    marks = [];
    counts = [];
    c = λ k. n;
    fits = (refl, refl, refl, refl, refl);
    front = ([], sym (append-nil B));
    stands = λ k low high. rw (take_all k B low, take_nothing (n - n)) stands;
    never_falls = λ j k le. omega arith;
    at_start = refl;
    at_marks = tt;
    at_end = omega arith;
    past = λ k T p. p;
    new = tt;
    commits = λ j le. let z : j ≡ 0 = omega arith in
        rw (z, add-zero) (past_now formats drive volume B S stands);
  }
    where
      take_nothing : (k : ℕ) → take k (let none : List Request = [] in none) ≡ []
      take_nothing zero = refl
      take_nothing (suc k) = refl

  module _ (n : ℕ) (S : State) (B B1 B' : Medium) (d : Delivery) (ds : List Delivery) (answer : Option Answer) (effect : Effect) (rest : List Answer) (C1 : List Request)
      (row : Row need S (length B) volume d answer effect) (size : length B1 ≡ length B + effect.blocks) (moves : Moves formats drive volume B S B1 (after S effect.done)) (stands : RecoversTo formats drive volume B S)
      (later : From (n + length effect.done) (after S effect.done) B1 B' ds rest C1) where
    abbrev c : ℕ → ℕ
    c k = pick k (length B1) n (later.c k)

    reaches : length B1 ≤ length B'
    reaches = let e : length B' ≡ length (B1 ++ later.front.0) = ap (λ (M : Medium). length M) later.front.1 in omega (arith, length-append B1 later.front.0)

    -- inside the delivery the old state is recovered
    inside : (k : ℕ) → length B ≤ k → k < length B1 → RecoversTo formats drive volume (take k B') (after S (take (c k - n) (effect.done ++ C1)))
    inside k low high =
        let front : take k B' ≡ take k B1 = ap (λ (M : Medium). take k M) later.front.1 ∙ take-append-le k B1 later.front.0 (omega arith) in
        let count : c k - n ≡ 0 = omega (arith, pick_low k (length B1) n (later.c k) high) in
        rw (front, count) (moves.fronts k low high)

    -- from its end on the later run says it
    afterwards : (k : ℕ) → length B1 ≤ k → k ≤ length B' → RecoversTo formats drive volume (take k B') (after S (take (c k - n) (effect.done ++ C1)))
    afterwards k low high =
        let least : n + length effect.done ≤ later.c k = omega (arith, later.at_start, later.never_falls (length B1) k low) in
        let count : c k - n ≡ length effect.done + (later.c k - (n + length effect.done)) = omega (arith, pick_high k (length B1) n (later.c k) low) in
        let same : after S (take (c k - n) (effect.done ++ C1)) ≡ after (after S effect.done) (take (later.c k - (n + length effect.done)) C1) =
        ap (λ (D : List Request). after S D) (take_past (c k - n) (later.c k - (n + length effect.done)) effect.done C1 count) ∙ after-append effect.done (take (later.c k - (n + length effect.done)) C1) S in
        subst (λ (T : State). RecoversTo formats drive volume (take k B') T) (sym same) (later.stands k low high)

    grows : (j k : ℕ) → j ≤ k → (j < length B1) ⊎ (length B1 ≤ j) → (k < length B1) ⊎ (length B1 ≤ k) → c j ≤ c k
    grows j k le (inl a) (inl b) = omega (arith, pick_low j (length B1) n (later.c j) a, pick_low k (length B1) n (later.c k) b)
    grows j k le (inl a) (inr b) = omega (arith, pick_low j (length B1) n (later.c j) a, pick_high k (length B1) n (later.c k) b, later.at_start, later.never_falls (length B1) k b)
    grows j k le (inr a) (inl b) = absurd (omega arith)
    grows j k le (inr a) (inr b) = omega (arith, pick_high j (length B1) n (later.c j) a, pick_high k (length B1) n (later.c k) b, later.never_falls j k le)

    starts : (length B < length B1) ⊎ (length B1 ≤ length B) → c (length B) ≡ n
    starts (inl lt) = pick_low (length B) (length B1) n (later.c (length B)) lt
    starts (inr ge) =
        let same : length B ≡ length B1 = omega (arith, size) in
        let still : effect.blocks ≡ 0 = omega (arith, size) in
        let none : length effect.done ≡ 0 = ap (λ (D : List Request). length D) (quiet S effect (row_commits need S (length B) volume d answer effect row) still) in
        pick_high (length B) (length B1) n (later.c (length B)) ge ∙ ap (λ k. later.c k) same ∙ later.at_start ∙ (let e : n + length effect.done ≡ n = omega arith in e)

    commits_more : (done : List Request) → (done ≡ []) ⊎ ((r : Request) × (done ≡ r ∷ []) × (1 ≤ effect.blocks) × (due S r.client r.number ≡ New)) → RecoveredTo formats drive volume B' S.commits S
        → ((j : ℕ) → j ≤ length C1 → RecoveredTo formats drive volume B' ((after S done).commits + j) (after (after S done) (take j C1)))
        → (j : ℕ) → j ≤ length (done ++ C1) → RecoveredTo formats drive volume B' (S.commits + j) (after S (take j (done ++ C1)))
    commits_more done (inl none) now rest_commits = rw none (rw none at rest_commits)
    commits_more done (inr one) now rest_commits = rw one.1 (one_more one.0 (rw one.1 at rest_commits))
      where
        one_more : (r : Request) → ((j : ℕ) → j ≤ length C1 → RecoveredTo formats drive volume B' ((after_one S r).commits + j) (after (after_one S r) (take j C1)))
            → (j : ℕ) → j ≤ length (r ∷ C1) → RecoveredTo formats drive volume B' (S.commits + j) (after S (take j (r ∷ C1)))
        one_more r p zero le = subst (λ m. RecoveredTo formats drive volume B' m S) (let e : S.commits ≡ S.commits + 0 = omega arith in e) now
        one_more r p (suc i) le = subst (λ m. RecoveredTo formats drive volume B' m (after (after_one S r) (take i C1))) (let e : (S.commits + 1) + i ≡ S.commits + suc i = omega arith in e) (p i (omega arith))

    all_new : (done : List Request) → (done ≡ []) ⊎ ((r : Request) × (done ≡ r ∷ []) × (1 ≤ effect.blocks) × (due S r.client r.number ≡ New)) → AllNew (after S done) C1 → AllNew S (done ++ C1)
    all_new done (inl none) rest_new = rw none (rw none at rest_new)
    all_new done (inr one) rest_new = rw one.1 (one.3, rw one.1 at rest_new)

    from_more : From n S B B' (d ∷ ds) (option_to_list answer ++ rest) (effect.done ++ C1)
    from_more = record {
      marks = (length B + effect.blocks) ∷ later.marks;
      counts = (n + length effect.done) ∷ later.counts;
      c = c;
      fits = (
        answer,
        effect,
        rest,
        later.marks,
        later.counts,
        C1,
        row,
        refl,
        refl,
        refl,
        refl,
        subst (λ m. Fits need volume (length B') (after S effect.done) m (n + length effect.done) ds rest later.marks later.counts C1) size later.fits,
      );
      front = (moves.more.0 ++ later.front.0, later.front.1 ∙ ap (λ (M : Medium). M ++ later.front.0) moves.more.1 ∙ append_assoc B moves.more.0 later.front.0);
      stands = λ k low high. ⊎_elim (λ lt. inside k low lt) (λ ge. afterwards k ge high) (side k (length B1));
      never_falls = λ j k le. grows j k le (side j (length B1)) (side k (length B1));
      at_start = starts (side (length B) (length B1));
      at_marks = subst (λ m. AtRisingMarks c (length B) (m ∷ later.marks) ((n + length effect.done) ∷ later.counts)) size
          (let up : length B ≤ length B1 = omega (arith, size) in
          (up, pick_high (length B1) (length B1) n (later.c (length B1)) (omega arith) ∙ later.at_start, marks_kept n (length B1) (length B1) later.c later.marks later.counts (omega arith) later.at_marks));
      at_end = pick_high (length B') (length B1) n (later.c (length B')) reaches ∙ later.at_end ∙ (let e : (n + length effect.done) + length C1 ≡ n + length (effect.done ++ C1) = omega (arith, length-append effect.done C1) in e);
      past = λ k T p. later.past k T (moves.past k T p);
      new = all_new effect.done (row_commits need S (length B) volume d answer effect row) later.new;
      commits = commits_more effect.done (row_commits need S (length B) volume d answer effect row) (later.past S.commits S (moves.past S.commits S (past_now formats drive volume B S stands))) later.commits;
    }

  -- what a run says of each prefix
  from_runs : (n : ℕ) (ds : List Delivery) (S : State) (B : Medium) (answers : List Answer) (C : List Request) (B' : Medium) (S' : State) → RecoversTo formats drive volume B S
      → Runs formats need drive volume B S ds answers C B' S' → From n S B B' ds answers C
  from_runs n [] S B answers C B' S' stands (ea, ec, eb, es) =
      rw (ea, ec, eb) (from_none n S B stands)
  from_runs n (d ∷ ds) S B answers C B' S' stands (B1, answer, effect, rest, C1, row, size, moves, ea, ec, more) =
      let later = from_runs (n + length effect.done) ds (after S effect.done) B1 rest C1 B' S' moves.ends more in
      rw (ea, ec) (from_more n S B B1 B' d ds answer effect rest C1 row size moves stands later)

  pub holds : (S : State) (B B' : Medium) (ds : List Delivery) (answers : List Answer) (C : List Request) (S' : State) → RecoversTo formats drive volume B S
      → Runs formats need drive volume B S ds answers C B' S' → Holds formats need drive volume S B B' ds answers
  holds S B B' ds answers C S' stands runs =
      let f = from_runs 0 ds S B answers C B' S' stands runs in
      record {
        committed = C;
        marks = f.marks;
        counts = f.counts;
        c = f.c;
        fits = f.fits;
        new = f.new;
        once = each_once S C f.new;
        front = ap (λ (M : Medium). take (length B) M) f.front.1 ∙ take_at B f.front.0 (length B) refl;
        stands = λ k low high. (omega (arith, f.never_falls k (length B') high, f.at_end), subst (λ n. RecoversTo formats drive volume (take k B') (after S (take n C))) (let e : f.c k - 0 ≡ f.c k = omega arith in e) (f.stands k low high));
        never_falls = f.never_falls;
        at_start = f.at_start;
        at_marks = marks_plain f.c (length B) f.marks f.counts f.at_marks;
        at_end = f.at_end ∙ (let e : 0 + length C ≡ length C = omega arith in e);
        past = f.past;
        later = f.commits;
      }

  -- one more delivery after a run
  pub runs_more : (ds : List Delivery) (S : State) (B : Medium) (answers : List Answer) (C : List Request) (B' : Medium) (S' : State) (d : Delivery) (answer : Option Answer) (effect : Effect) (B'' : Medium)
      → Runs formats need drive volume B S ds answers C B' S'
      → Row need S' (length B') volume d answer effect → length B'' ≡ length B' + effect.blocks → Moves formats drive volume B' S' B'' (after S' effect.done)
      → Runs formats need drive volume B S (ds ++ d ∷ []) (answers ++ option_to_list answer) (C ++ effect.done) B'' (after S' effect.done)
  runs_more [] S B answers C B' S' d answer effect B'' (ea, ec, eb, es) row size moves =
      let P : Medium → State → Type 0 = λ M T. Row need T (length M) volume d answer effect → length B'' ≡ length M + effect.blocks → Moves formats drive volume M T B'' (after T effect.done)
      → Runs formats need drive volume B S (d ∷ []) (answers ++ option_to_list answer) (C ++ effect.done) B'' (after T effect.done) in
      subst₂ P (sym eb) (sym es) (λ row1 size1 moves1. (
        B'',
        answer,
        effect,
        [],
        [],
        row1,
        size1,
        moves1,
        ap (λ (xs : List Answer). xs ++ option_to_list answer) ea ∙ sym (append-nil (option_to_list answer)),
        ap (λ (D : List Request). D ++ effect.done) ec ∙ sym (append-nil effect.done),
        (refl, refl, refl, refl),
      )) row size moves
  runs_more (x ∷ ds) S B answers C B' S' d answer effect B'' (B1, a1, e1, rest, C1, row1, size1, moves1, ea, ec, more) row size moves = (
    B1,
    a1,
    e1,
    rest ++ option_to_list answer,
    C1 ++ effect.done,
    row1,
    size1,
    moves1,
    ap (λ (xs : List Answer). xs ++ option_to_list answer) ea ∙ append_assoc (option_to_list a1) rest (option_to_list answer),
    ap (λ (D : List Request). D ++ effect.done) ec ∙ append_assoc e1.done C1 effect.done,
    runs_more ds (after S e1.done) B1 rest C1 B' S' d answer effect B'' more row size moves,
  )

  -- two runs are one
  pub runs_join : (ds es : List Delivery) (S : State) (B : Medium) (answers answers' : List Answer) (C C' : List Request) (B1 : Medium) (S1 : State) (B2 : Medium) (S2 : State)
      → Runs formats need drive volume B S ds answers C B1 S1 → Runs formats need drive volume B1 S1 es answers' C' B2 S2 → Runs formats need drive volume B S (ds ++ es) (answers ++ answers') (C ++ C') B2 S2
  runs_join [] es S B answers answers' C C' B1 S1 B2 S2 (ea, ec, eb, same) later =
      rw (ea, ec) (subst₂ (λ (M : Medium) (T : State). Runs formats need drive volume M T es answers' C' B2 S2) eb same later)
  runs_join (d ∷ ds) es S B answers answers' C C' B1 S1 B2 S2 (M, answer, effect, rest, D, row, size, moves, ea, ec, more) later = (
    M,
    answer,
    effect,
    rest ++ answers',
    D ++ C',
    row,
    size,
    moves,
    ap (λ (xs : List Answer). xs ++ answers') ea ∙ append_assoc (option_to_list answer) rest answers',
    ap (λ (E : List Request). E ++ C') ec ∙ append_assoc effect.done D C',
    runs_join ds es (after S effect.done) M rest answers' D C' B1 S1 B2 S2 more later,
  )

  -- after a run the state after all its commits is recovered
  pub runs_end : (ds : List Delivery) (S : State) (B : Medium) (answers : List Answer) (C : List Request) (B' : Medium) (S' : State) → RecoversTo formats drive volume B S
      → Runs formats need drive volume B S ds answers C B' S' → RecoversTo formats drive volume B' S' × (S' ≡ after S C)
  runs_end [] S B answers C B' S' stands (ea, ec, eb, same) = rw (ec, eb, same) (stands, refl)
  runs_end (d ∷ ds) S B answers C B' S' stands (M, answer, effect, rest, D, row, size, moves, ea, ec, more) =
      let end = runs_end ds (after S effect.done) M rest D B' S' moves.ends more in
      (end.0, end.1 ∙ sym (after-append effect.done D S) ∙ ap (λ (E : List Request). after S E) (sym ec))
