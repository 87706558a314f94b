-- The two phases of a group are those of its commits.
use Rattle.std.proofs.Common.{◌≡◌, ◌≢◌, inl, inr, ℕ, suc, ◌+◌, ◌-◌, ◌<◌, ◌≤◌, cond, Bool, true, false, List, [], ◌∷◌, ◌++◌, length, drop, refl, sym, ap, subst, ◌∙◌, arith, append_assoc, append-nil, length-append, eq-eqb, ne_eqb}
use Rattle.std.proofs.Math.Seq.{drop-append_seam}
use Rattle.std.proofs.lemmas.List.Elements.{filter-append}
use Rattle.drive.specs.Journal.{Event, written}
use Rattle.drive.specs.Writes.{unwritten}
use Rattle.drive.proofs.Journals.{written-append, length-written}
use Rattle.model.specs.Session.{State, Request, after_one}
use Rattle.durability.specs.Formats.{Block}
use Rattle.gathering.specs.Groups.{Commit, with_marks, none_there}
use Rattle.settling.specs.Phases.{is_mark, blank_at, blanked, marked, two_phases}
use Rattle.request.specs.declared.answer.Answer.{Answer}
use Rattle.request.specs.declared.message.Message.{Message}
use Rattle.engine.specs.Served.{AllAnswered}
use Rattle.engine.specs.Situation.{Situation}
use Rattle.group_losses.specs.Gathered.{AreGathered}
use Rattle.grouping.specs.Groups.{mark_of, marks_of}
use Rattle.grouping.specs.Phases.{marks_from, PhasesAreOfCommits}
use Rattle.grouping.proofs.Going.{no_mark, some_mark}

-- the places of the marks of commits that begin at an address
abbrev places : ℕ → List Commit → List ℕ
places from [] = []
places from (commit ∷ group) = (from + length commit.blocks) ∷ places (suc (from + length commit.blocks)) group

abbrev all_there : ℕ → Bool
all_there i = true

-- ---- which addresses are marks

is_here : (x : ℕ) (marks : List ℕ) → is_mark (x ∷ marks) x ≡ true
is_here x marks = rw (eq-eqb x x refl) refl

is_elsewhere : (x at : ℕ) (marks : List ℕ) → x ≢ at → is_mark (x ∷ marks) at ≡ is_mark marks at
is_elsewhere x at marks other = rw (ne_eqb x at other) refl

-- none is before the first commit
none_before : (from at : ℕ) (group : List Commit) → at < from → is_mark (places from group) at ≡ false
none_before from at [] lt = refl
none_before from at (commit ∷ group) lt =
    is_elsewhere (from + length commit.blocks) at (places (suc (from + length commit.blocks)) group) (let other : from + length commit.blocks ≢ at = omega (arith, lt) in other)
    ∙ none_before (suc (from + length commit.blocks)) at group (omega (arith, lt))

-- ---- blocks of which none, or the same, are marks

blanked-append : (marks : List ℕ) (J K : List Event) → blanked marks (J ++ K) ≡ blanked marks J ++ blanked marks K
blanked-append marks [] K = refl
blanked-append marks (e ∷ J) K = ap (λ (L : List Event). blank_at marks e ∷ L) (blanked-append marks J K)

blank_none : (marks : List ℕ) (from : ℕ) (bs : List Block) → ((at : ℕ) → from ≤ at → at < from + length bs → is_mark marks at ≡ false) → blanked marks (written from bs) ≡ written from bs
blank_none marks from [] none = refl
blank_none marks from (b ∷ bs) none =
    ap (λ (L : List Event). blank_at marks (from, b) ∷ L) (blank_none marks (suc from) bs (λ at ge lt. none at (omega (arith, ge)) (omega (arith, lt))))
    ∙ ap (λ (is : Bool). (from, cond is unwritten b) ∷ written (suc from) bs) (none from (omega arith) (omega arith))

blank_same : (marks others : List ℕ) (from : ℕ) (bs : List Block) → ((at : ℕ) → from ≤ at → is_mark marks at ≡ is_mark others at) → blanked marks (written from bs) ≡ blanked others (written from bs)
blank_same marks others from [] same = refl
blank_same marks others from (b ∷ bs) same =
    ap (λ (L : List Event). blank_at marks (from, b) ∷ L) (blank_same marks others (suc from) bs (λ at ge. same at (omega (arith, ge))))
    ∙ ap (λ (is : Bool). (from, cond is unwritten b) ∷ blanked others (written (suc from) bs)) (same from (omega arith))

mark_none : (marks : List ℕ) (from : ℕ) (bs : List Block) → ((at : ℕ) → from ≤ at → at < from + length bs → is_mark marks at ≡ false) → marked marks (written from bs) ≡ []
mark_none marks from [] none = refl
mark_none marks from (b ∷ bs) none =
    ap (λ (is : Bool). cond is ((from, b) ∷ marked marks (written (suc from) bs)) (marked marks (written (suc from) bs))) (none from (omega arith) (omega arith))
    ∙ mark_none marks (suc from) bs (λ at ge lt. none at (omega (arith, ge)) (omega (arith, lt)))

mark_same : (marks others : List ℕ) (from : ℕ) (bs : List Block) → ((at : ℕ) → from ≤ at → is_mark marks at ≡ is_mark others at) → marked marks (written from bs) ≡ marked others (written from bs)
mark_same marks others from [] same = refl
mark_same marks others from (b ∷ bs) same =
    ap (λ (L : List Event). cond (is_mark marks from) ((from, b) ∷ L) L) (mark_same marks others (suc from) bs (λ at ge. same at (omega (arith, ge))))
    ∙ ap (λ (is : Bool). cond is ((from, b) ∷ marked others (written (suc from) bs)) (marked others (written (suc from) bs))) (same from (omega arith))

-- ---- one commit and the others

split : (from : ℕ) (bs : List Block) (b : Block) (rest : List Block) → written from ((bs ++ b ∷ []) ++ rest) ≡ written from bs ++ (from + length bs, b) ∷ written (suc (from + length bs)) rest
split from bs b rest = ap (λ (l : List Block). written from l) (append_assoc bs (b ∷ []) rest) ∙ written-append from bs (b ∷ rest)

module _ (from : ℕ) (commit : Commit) (group : List Commit) where
  abbrev at_mark : ℕ
  at_mark = from + length commit.blocks

  abbrev marks : List ℕ
  marks = places from (commit ∷ group)

  none_in : (at : ℕ) → from ≤ at → at < from + length commit.blocks → is_mark marks at ≡ false
  none_in at ge lt =
      is_elsewhere at_mark at (places (suc at_mark) group) (let other : at_mark ≢ at = omega (arith, lt) in other)
      ∙ none_before (suc at_mark) at group (omega (arith, lt))

  same_after : (at : ℕ) → suc at_mark ≤ at → is_mark marks at ≡ is_mark (places (suc at_mark) group) at
  same_after at ge = is_elsewhere at_mark at (places (suc at_mark) group) (let other : at_mark ≢ at = omega (arith, ge) in other)

  blank_there : blank_at marks (at_mark, commit.mark) ≡ (at_mark, unwritten)
  blank_there = ap (λ (is : Bool). (at_mark, cond is unwritten commit.mark)) (is_here at_mark (places (suc at_mark) group))

  mark_there : (L : List Event) → marked marks ((at_mark, commit.mark) ∷ L) ≡ (at_mark, commit.mark) ∷ marked marks L
  mark_there L = ap (λ (is : Bool). cond is ((at_mark, commit.mark) ∷ marked marks L) (marked marks L)) (is_here at_mark (places (suc at_mark) group))

-- first all blocks with zeros for the marks
blanks_are : (from : ℕ) (group : List Commit) → blanked (places from group) (written from (with_marks all_there group)) ≡ written from (with_marks none_there group)
blanks_are from [] = refl
blanks_are from (commit ∷ group) =
    let here : ℕ = from + length commit.blocks in
    let marks : List ℕ = places from (commit ∷ group) in
    let rest : List Event = written (suc here) (with_marks all_there group) in
    ap (λ (J : List Event). blanked marks J) (split from commit.blocks commit.mark (with_marks all_there group))
    ∙ blanked-append marks (written from commit.blocks) ((here, commit.mark) ∷ rest)
    ∙ ap (λ (J : List Event). J ++ blank_at marks (here, commit.mark) ∷ blanked marks rest) (blank_none marks from commit.blocks (none_in from commit group))
    ∙ ap (λ (e : Event). written from commit.blocks ++ e ∷ blanked marks rest) (blank_there from commit group)
    ∙ ap (λ (J : List Event). written from commit.blocks ++ (here, unwritten) ∷ J)
    (blank_same marks (places (suc here) group) (suc here) (with_marks all_there group) (same_after from commit group) ∙ blanks_are (suc here) group)
    ∙ sym (split from commit.blocks unwritten (with_marks none_there group))

-- and then the marks
marks_are : (from : ℕ) (group : List Commit) → marked (places from group) (written from (with_marks all_there group)) ≡ marks_from from group
marks_are from [] = refl
marks_are from (commit ∷ group) =
    let here : ℕ = from + length commit.blocks in
    let marks : List ℕ = places from (commit ∷ group) in
    let rest : List Event = written (suc here) (with_marks all_there group) in
    ap (λ (J : List Event). marked marks J) (split from commit.blocks commit.mark (with_marks all_there group))
    ∙ filter-append (λ (e : Event). is_mark marks e.0) (written from commit.blocks) ((here, commit.mark) ∷ rest)
    ∙ ap (λ (J : List Event). J ++ marked marks ((here, commit.mark) ∷ rest)) (mark_none marks from commit.blocks (none_in from commit group))
    ∙ mark_there from commit group rest
    ∙ ap (λ (J : List Event). (here, commit.mark) ∷ J)
    (mark_same marks (places (suc here) group) (suc here) (with_marks all_there group) (same_after from commit group) ∙ marks_are (suc here) group)

-- ---- what messages made

abbrev IsMade : Situation → Situation → List ℕ → List Commit → Type 0
IsMade before afterwards marks group =
    (afterwards.journal ≡ before.journal ++ written (length before.journal) (with_marks all_there group)) × (marks ≡ places (length before.journal) group)

-- a message that wrote nothing comes first
made_same : (before during afterwards : Situation) (marks : List ℕ) (group : List Commit) → during.journal ≡ before.journal → IsMade during afterwards marks group → IsMade before afterwards (mark_of before during ++ marks) group
made_same before during afterwards marks group same made =
    let none : mark_of before during ≡ [] = no_mark (length before.journal) (length during.journal) (omega (arith, ap length same)) in (
      made.0 ∙ ap (λ (J : List Event). J ++ written (length J) (with_marks all_there group)) same,
      ap (λ (l : List ℕ). l ++ marks) none ∙ made.1 ∙ ap (λ (J : List Event). places (length J) group) same,
    )

-- or one that made a commit
made_more : (before during afterwards : Situation) (marks : List ℕ) (commit : Commit) (group : List Commit) → during.journal ≡ before.journal ++ written (length before.journal) (commit.blocks ++ commit.mark ∷ [])
    → IsMade during afterwards marks group → IsMade before afterwards (mark_of before during ++ marks) (commit ∷ group)
made_more before during afterwards marks commit group goes made =
    let n : ℕ = length before.journal in
    let blocks : List Block = commit.blocks ++ commit.mark ∷ [] in
    let few : length blocks ≡ suc (length commit.blocks) = length-append commit.blocks (commit.mark ∷ []) ∙ omega arith in
    let long : length during.journal ≡ n + length blocks = ap length goes ∙ length-append before.journal (written n blocks) ∙ ap (λ (k : ℕ). n + k) (length-written n blocks) in
    let next : length during.journal ≡ suc (n + length commit.blocks) = omega (arith, long, few) in
    let last : length during.journal - 1 ≡ n + length commit.blocks = omega (arith, next) in
    let one : mark_of before during ≡ (length during.journal - 1) ∷ [] = some_mark n (length during.journal) (omega (arith, next)) in
    let rest : List Block = with_marks all_there group in (
      made.0
          ∙ ap (λ (J : List Event). J ++ written (length during.journal) rest) goes
          ∙ ap (λ (k : ℕ). (before.journal ++ written n blocks) ++ written k rest) long
          ∙ append_assoc before.journal (written n blocks) (written (n + length blocks) rest)
          ∙ ap (λ (J : List Event). before.journal ++ J) (sym (written-append n blocks rest)),
      ap (λ (l : List ℕ). l ++ marks) one
          ∙ ap (λ (l : List ℕ). (length during.journal - 1) ∷ l) made.1
          ∙ ap (λ (k : ℕ). k ∷ places (length during.journal) group) last
          ∙ ap (λ (k : ℕ). (n + length commit.blocks) ∷ places k group) next,
    )

made : (messages : List Message) (S : State) (before : Situation) (answers : List Answer) (afterwards : Situation) (all : AllAnswered messages before answers afterwards)
    → (requests : List Request) (group : List Commit) → AreGathered messages S before answers afterwards all requests group → IsMade before afterwards (marks_of messages before answers afterwards all) group
made [] S before [] afterwards all requests group h =
    subst (λ (g : List Commit). IsMade before afterwards [] g) (sym h.1) (ap (λ (s : Situation). s.journal) all ∙ sym (append-nil before.journal), refl)
made [] S before (a ∷ answers) afterwards all requests group h = absurd h
made (m ∷ messages) S before [] afterwards all requests group h = absurd h
made (m ∷ messages) S before (a ∷ answers) afterwards all requests group (inl (same, more)) =
    made_same before all.0 afterwards (marks_of messages all.0 answers afterwards all.2) group same (made messages S all.0 answers afterwards all.2 requests group more)
made (m ∷ messages) S before (a ∷ answers) afterwards all requests group (inr (request, commit, later, others, requests_are, group_is, commits, rest)) =
    subst (λ (g : List Commit). IsMade before afterwards (mark_of before all.0 ++ marks_of messages all.0 answers afterwards all.2) g) (sym group_is)
    (made_more before all.0 afterwards (marks_of messages all.0 answers afterwards all.2) commit others commits.journal (made messages (after_one S request) all.0 answers afterwards all.2 later others rest))

pub phases_are_of_commits : PhasesAreOfCommits
phases_are_of_commits messages S before answers afterwards all requests group h =
    let n : ℕ = length before.journal in
    let is = made messages S before answers afterwards all requests group h in
    let rest : drop n afterwards.journal ≡ written n (with_marks all_there group) = ap (λ (J : List Event). drop n J) is.0 ∙ drop-append_seam before.journal (written n (with_marks all_there group)) in
    ap (λ (marks : List ℕ). two_phases n marks afterwards.journal) is.1
    ∙ ap (λ (J : List Event). blanked (places n group) J ∷ marked (places n group) J ∷ []) rest
    ∙ ap (λ (J : List Event). J ∷ marked (places n group) (written n (with_marks all_there group)) ∷ []) (blanks_are n group)
    ∙ ap (λ (J : List Event). written n (with_marks none_there group) ∷ J ∷ []) (marks_are n group)
