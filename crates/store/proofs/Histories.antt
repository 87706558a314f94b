-- The commits of a chain, as they are found one by one.
use Rattle.std.proofs.Common.{◌≡◌, ℕ, ◌+◌, ◌<◌, ◌≤◌, List, [], ◌∷◌, ◌++◌, Option, Some, None, IsNone, IfSome, All, ◌↔◌, refl, sym, ap, subst, ◌∙◌, arith, append-nil, append_assoc}
use Rattle.std.proofs.lemmas.List.Elements.{All-append, All-cons, All-nil}
use Rattle.limits.specs.declared.TheConstants.{PARTITION_START}
use Rattle.vat.specs.Table.{Table}
use Rattle.recover.specs.Tables.{HasTableAt, IsBefore}
use Rattle.store.specs.declared.history.Commit.{Commit}
use Rattle.store.specs.History.{IsChain, IsHistory, report_of}

-- with the commits that a chain goes on to, those that were found are all
abbrev pub GoesOn : List (List ℕ) → ℕ → Table → List Commit → Type 0
GoesOn M at t found = (rest : List Commit) → IsChain M t.previous t.commits rest → IsHistory M at (found ++ rest)

pub begins : (M : List (List ℕ)) (at : ℕ) (t : Table) (none found : List Commit) (c : Commit) → HasTableAt M at t → none ≡ [] → c ≡ report_of at t → found ≡ none ++ c ∷ [] → GoesOn M at t found
begins M at t none found c has empty is_c is = λ rest chain.
    let first : found ≡ report_of at t ∷ [] = is ∙ ap (λ (cs : List Commit). cs ++ c ∷ []) empty ∙ ap (λ (d : Commit). d ∷ []) is_c in
    (t, has, rest, ap (λ (cs : List Commit). cs ++ rest) first, chain)

pub goes_on : (M : List (List ℕ)) (at number : ℕ) (t u : Table) (found more : List Commit) (c : Commit) → GoesOn M at t found → t.previous ≡ Some number → HasTableAt M (number + PARTITION_START) u
    → u.commits + 1 ≡ t.commits → c ≡ report_of (number + PARTITION_START) u → more ≡ found ++ c ∷ [] → GoesOn M at u more
goes_on M at number t u found more c before link has fewer is_c is = λ rest chain.
    let same : more ++ rest ≡ found ++ c ∷ rest = ap (λ (cs : List Commit). cs ++ rest) is ∙ append_assoc found (c ∷ []) rest in
    subst (IsHistory M at) (sym same) (before (c ∷ rest) (number, link, u, has, fewer, is_c, chain))

pub ends : (M : List (List ℕ)) (at : ℕ) (t : Table) (found : List Commit) → GoesOn M at t found → t.previous ≡ None → (IsNone t.previous ↔ (t.commits ≡ 0)) → IsHistory M at found
ends M at t found before none first =
    let is_none : IsNone t.previous = subst (λ (p : Option ℕ). IsNone p) (sym none) refl in
    subst (IsHistory M at) (append-nil found) (before [] (none, first.0 is_none))

-- each of the commits is within a medium
abbrev pub AreWithin : ℕ → List Commit → Type 0
AreWithin next found = All (λ (c : Commit). (PARTITION_START ≤ c.vat_icb_address) × (c.vat_icb_address < next)) found

pub first_within : (next at : ℕ) (t : Table) (none found : List Commit) (c : Commit) → PARTITION_START ≤ at → at < next → none ≡ [] → c ≡ report_of at t → found ≡ none ++ c ∷ [] → AreWithin next found
first_within next at t none found c low high empty is_c is =
    let P = λ (d : Commit). (PARTITION_START ≤ d.vat_icb_address) × (d.vat_icb_address < next) in
    let first : found ≡ report_of at t ∷ [] = is ∙ ap (λ (cs : List Commit). cs ++ c ∷ []) empty ∙ ap (λ (d : Commit). d ∷ []) is_c in
    subst (AreWithin next) (sym first) (All-cons P (report_of at t) [] (low, high) (All-nil P))

pub more_within : (next at : ℕ) (t : Table) (found more : List Commit) (c : Commit) → AreWithin next found → PARTITION_START ≤ at → at < next → c ≡ report_of at t → more ≡ found ++ c ∷ [] → AreWithin next more
more_within next at t found more c before low high is_c is =
    let P = λ (d : Commit). (PARTITION_START ≤ d.vat_icb_address) × (d.vat_icb_address < next) in
    let one : P c = subst P (sym is_c) (low, high) in
    subst (AreWithin next) (sym is) (All-append P found (c ∷ []) before (All-cons P c [] one (All-nil P)))

-- a link, and the one after it
pub link_below : (link : Option ℕ) (number at : ℕ) → link ≡ Some number → IfSome link (λ n. n + PARTITION_START < at) → number + PARTITION_START < at
link_below link number at is below = subst (λ (p : Option ℕ). IfSome p (λ n. n + PARTITION_START < at)) is below

pub next_below : (link : Option ℕ) (number at : ℕ) → IfSome link (λ n. n < number) → number + PARTITION_START < at → IfSome link (λ n. n + PARTITION_START < at)
next_below None number at less below = tt
next_below (Some n) number at less below = omega (arith, less, below)

pub next_later : (link : Option ℕ) (number : ℕ) → IfSome link (λ n. n < number) → IfSome link (λ n. n + PARTITION_START < number + PARTITION_START)
next_later None number less = tt
next_later (Some n) number less = omega (arith, less)

-- one step of the chain
pub one_before : (M : List (List ℕ)) (at number : ℕ) (t u : Table) → HasTableAt M at t → t.previous ≡ Some number → HasTableAt M (number + PARTITION_START) u → u.commits + 1 ≡ t.commits
    → IsBefore M at (Some (number + PARTITION_START))
one_before M at number t u has link before fewer = (t, has, number, link, refl, u, before, fewer)

pub no_link : (link : Option ℕ) → ((n : ℕ) → link ≡ Some n → ⊥) → link ≡ None
no_link None never = refl
no_link (Some n) never = absurd (never n refl)
