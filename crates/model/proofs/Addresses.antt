-- The table of virtual addresses: how many are used, and the least that is not.
use Rattle.std.proofs.Common.{◌≡◌, ◌↔◌, inl, inr, ℕ, zero, suc, ◌+◌, ◌<◌, ◌≤◌, max, Bool, true, false, cond, if◌then◌else◌, nat_lt, List, [], ◌∷◌, ◌++◌, length, map, Contains, Option, Some, None, is_some, refl, sym, ◌∙◌, ap, subst, arith}
use Rattle.std.specs.Prelude.{slice_set}
use Rattle.std.proofs.lemmas.Bool.{true≢false, false≢true, ltb-true, ltb-false}
use Rattle.std.proofs.lemmas.List.{length-set, length_push}
use Rattle.std.proofs.lemmas.List.Sums.{sum_by-cons}
use Rattle.std.proofs.lemmas.Option.{none-some}
use Rattle.std.specs.FinMap.{entries, find, len, len-entries, get-entries}
use Rattle.model.specs.Tree.{Path, Node, Tree, IsTree, Has, path_cmp}
use Rattle.model.specs.Graph.{Graph, Stored, MakesTree, IsFunctional}
use Rattle.model.specs.Change.{IsReached, stored_in}
use Rattle.model.specs.Addresses.{AddressTable, HoldsNodes, is_used, used_in, used_first, free_address, with_address}
use Rattle.model.specs.LawsAddresses.{IsLeastFree, IsWith, IsWithout}
use Rattle.model.proofs.Lists.{contains_here, contains_there, contains_cons, not_in_nil, contains_map, map_contains, all_contains}
use Rattle.model.proofs.Paths.{path_cases}
use Rattle.model.proofs.Moving.{keys_have}
use Rattle.model.proofs.Place.{Placed, reached_path, reached_at}
use Rattle.model.proofs.Made.{one_in, place_of, placed_from_makes}
use Rattle.model.proofs.Counts.{one, EntriesApart, keys_apart}
use Rattle.model.proofs.Entries.{out_here, set_beside, with_used, without_used}

-- how many addresses are used, entry by entry
used : AddressTable → ℕ
used [] = 0
used (None ∷ table) = used table
used (Some start ∷ table) = suc (used table)

used-in : (table : AddressTable) → used_in table ≡ used table
unfolding used
used-in [] = refl
used-in (None ∷ table) = let a = sum_by-cons (λ (e : Option ℕ). one (is_some e)) None table in let b = used-in table in omega arith
used-in (Some start ∷ table) = let a = sum_by-cons (λ (e : Option ℕ). one (is_some e)) (Some start) table in let b = used-in table in omega arith

none_used : (table : AddressTable) → ((a : ℕ) → is_used table a ≡ true → ⊥) → used table ≡ 0
unfolding used
none_used [] none = refl
none_used (None ∷ table) none = none_used table (λ a e. none (suc a) e)
none_used (Some start ∷ table) none = absurd (none 0 refl)

all_used : (table : AddressTable) → ((a : ℕ) → a < length table → is_used table a ≡ true) → used table ≡ length table
unfolding used
all_used [] all = refl
all_used (None ∷ table) all = absurd (false≢true (all 0 (omega arith)))
all_used (Some start ∷ table) all = ap suc (all_used table (λ a l. all (suc a) (omega arith)))

used_most : (table : AddressTable) → used table ≤ length table
unfolding used
used_most [] = omega arith
used_most (None ∷ table) = let l = used_most table in omega arith
used_most (Some start ∷ table) = let l = used_most table in omega arith

-- an unused entry
used_less : (table : AddressTable) (a : ℕ) → a < length table → is_used table a ≡ false → used table < length table
unfolding used
used_less [] a l e = absurd (omega arith)
used_less (None ∷ table) zero l e = let m = used_most table in omega arith
used_less (Some start ∷ table) zero l e = absurd (true≢false e)
used_less (None ∷ table) (suc a) l e = let m = used_less table a (omega arith) e in omega arith
used_less (Some start ∷ table) (suc a) l e = let m = used_less table a (omega arith) e in omega arith

within : (table : AddressTable) (a : ℕ) → is_used table a ≡ true → a < length table
within [] a e = absurd (false≢true e)
within (x ∷ table) zero e = omega arith
within (x ∷ table) (suc a) e = let l = within table a e in omega arith

-- one entry more, and one less
set_more : (table : AddressTable) (a start : ℕ) → a < length table → is_used table a ≡ false → used (slice_set table a (Some start)) ≡ used table + 1
unfolding used
set_more [] a start l e = absurd (omega arith)
set_more (None ∷ table) zero start l e = omega arith
set_more (Some s ∷ table) zero start l e = absurd (true≢false e)
set_more (None ∷ table) (suc a) start l e = set_more table a start (omega arith) e
set_more (Some s ∷ table) (suc a) start l e = let m = set_more table a start (omega arith) e in omega arith

set_less : (table : AddressTable) (a : ℕ) → is_used table a ≡ true → used (slice_set table a None) + 1 ≡ used table
unfolding used
set_less [] a e = absurd (false≢true e)
set_less (None ∷ table) zero e = absurd (false≢true e)
set_less (Some s ∷ table) zero e = omega arith
set_less (None ∷ table) (suc a) e = set_less table a e
set_less (Some s ∷ table) (suc a) e = let m = set_less table a e in omega arith

push_used : (table : AddressTable) (start : ℕ) → used (table ++ Some start ∷ []) ≡ used table + 1
unfolding used
push_used [] start = refl
push_used (None ∷ table) start = push_used table start
push_used (Some s ∷ table) start = let m = push_used table start in omega arith

-- addresses that are listed once each
Apart : List ℕ → Type 0
Apart [] = Unit {0}
Apart (x ∷ xs) = (Contains xs x → ⊥) × Apart xs

-- where just these are used, so many are
filled : (xs : List ℕ) (table : AddressTable) → Apart xs → ((a : ℕ) → (is_used table a ≡ true) ↔ Contains xs a) → used table ≡ length xs
unfolding Apart
filled [] table apart same = none_used table (λ a e. not_in_nil a ((same a).0 e))
filled (x ∷ xs) table apart same =
    let here = (same x).1 (contains_here x xs) in
    let rest = filled xs (slice_set table x None) apart.1 fewer in
    let less = set_less table x here in
    omega arith
  where
    fewer : (a : ℕ) → (is_used (slice_set table x None) a ≡ true) ↔ Contains xs a
    fewer a = (
      (λ e. let other : a ≡ x → ⊥ = λ s. true≢false (sym e ∙ ap (is_used (slice_set table x None)) s ∙ out_here table x) in
          elim (contains_cons x xs a ((same a).0 (sym (set_beside table x None a other) ∙ e))) [ inl s ↦ absurd (other (sym s)) | inr c ↦ c ]),
      (λ c. let other : a ≡ x → ⊥ = λ s. apart.0 (subst (Contains xs) s c) in
          set_beside table x None a other ∙ (same a).1 (contains_there x xs a c)),
    )

-- what is found is an entry of the list
found_entry : (path : Path) (es : List (Path × Node)) → is_some (find path_cmp path es) ≡ true → (e : Path × Node) × Contains es e × (e.0 ≡ path)
found_entry path [] h = absurd (false≢true h)
found_entry path (x ∷ es) h = elim (path_cases path x.0) [
  | inl p ↦ (x, contains_here x es, sym p.1)
  | inr p ↦ let r = found_entry path es (sym (ap (λ b. is_some (cond b (Some x.1) (find path_cmp path es))) p.0) ∙ h) in (r.0, contains_there x es r.0 r.1, r.2)
]

entry_found : (e : Path × Node) (es : List (Path × Node)) → Contains es e → find path_cmp e.0 es ≡ None → ⊥
entry_found e [] c none = not_in_nil e c
entry_found e (x ∷ es) c none = elim (path_cases e.0 x.0) [
  | inl p ↦ none-some x.1 (sym none ∙ ap (λ b. cond b (Some x.1) (find path_cmp e.0 es)) p.0)
  | inr p ↦ elim (contains_cons x es e c) [
    | inl s ↦ p.1 (ap (λ y. y.0) (sym s))
    | inr d ↦ entry_found e es d (sym (ap (λ b. cond b (Some x.1) (find path_cmp e.0 es)) p.0) ∙ none)
  ]
]

module _ (graph : Graph) (tree : Tree) (place : Path → ℕ) (one : IsFunctional graph) (is : IsTree tree) (placed : Placed graph tree place) (table : AddressTable) (holds : HoldsNodes graph table) where
  places : List ℕ
  places = map (λ e. place e.0) (entries tree)

  has_entry : (e : Path × Node) → Contains (entries tree) e → Has tree e.0
  has_entry e c = all_contains (λ x. Has tree x.0) (entries tree) e (keys_have (entries tree) (Has tree) (λ x h. ap is_some (get-entries tree x) ∙ h)) c

  reached_place : (a : ℕ) → IsReached graph a → Contains (places) a
  unfolding places
  reached_place a r =
      let x = reached_path graph tree place one is placed a r in
      let e = found_entry x.0 (entries tree) (sym (ap is_some (get-entries tree x.0)) ∙ x.2) in
      subst (Contains (map (λ e. place e.0) (entries tree))) (ap place e.2 ∙ sym x.1) (contains_map (λ e. place e.0) (entries tree) e.0 e.1)

  place_reached : (a : ℕ) → Contains places a → IsReached graph a
  unfolding places
  place_reached a c =
      let e = map_contains (λ e. place e.0) (entries tree) a c in
      reached_at graph tree place one is placed e.0.0 (has_entry e.0 e.1) a (sym e.2)

  size : (es : List (Path × Node)) → length (map (λ e. place e.0) es) ≡ length es
  size [] = refl
  size (x ∷ es) = ap suc (size es)

  places_apart : (es : List (Path × Node)) → EntriesApart es → ((e : Path × Node) → Contains es e → Has tree e.0) → Apart (map (λ e. place e.0) es)
  unfolding Apart
  places_apart [] d has = tt
  places_apart (x ∷ es) d has = (
    (λ c.
        let e = map_contains (λ e. place e.0) es (place x.0) c in
        let same = placed.apart e.0.0 x.0 (has e.0 (contains_there x es e.0 e.1)) (has x (contains_here x es)) e.2 in
        entry_found e.0 es e.1 (subst (λ q. find path_cmp q es ≡ None) (sym same) d.0)),
    places_apart es d.1 (λ e c. has e (contains_there x es e c)),
  )

  all_apart : Apart (0 ∷ places)
  unfolding Apart places
  all_apart = ((λ c. holds.apart (place_reached 0 c)), places_apart (entries tree) (keys_apart tree) has_entry)

  same_used : (a : ℕ) → (is_used table a ≡ true) ↔ Contains (0 ∷ places) a
  same_used zero = ((λ e. contains_here 0 places), (λ c. holds.set))
  same_used (suc a) = (
    (λ e. contains_there 0 places (suc a) (reached_place (suc a) ((holds.nodes (suc a) (omega arith)).0 e))),
    (λ c. elim (contains_cons 0 places (suc a) c) [ inl z ↦ absurd (omega arith) | inr d ↦ (holds.nodes (suc a) (omega arith)).1 (place_reached (suc a) d) ]),
  )

  pub used_nodes : used_in table ≡ 1 + len tree
  unfolding places
  used_nodes =
      let all = filled (0 ∷ places) table all_apart same_used in
      let many = size (entries tree) in
      let nodes = len-entries tree in
      let count = used-in table in
      omega arith

pub used_are_nodes : (graph : ℕ → Option Stored) (tree : Tree) (table : AddressTable) → IsTree tree → MakesTree (stored_in graph) tree → HoldsNodes (stored_in graph) table → used_in table ≡ 1 + len tree
used_are_nodes graph tree table is makes holds =
    used_nodes (stored_in graph) tree (place_of (stored_in graph) tree (one_in graph) is makes) (one_in graph) is (placed_from_makes (stored_in graph) tree (one_in graph) is makes) table holds

-- the first unused entry
first_unused : (table : AddressTable) → is_used table (used_first table) ≡ false
first_unused [] = refl
first_unused (None ∷ table) = refl
first_unused (Some start ∷ table) = first_unused table

first_within : (table : AddressTable) → used_first table ≤ length table
first_within [] = omega arith
first_within (None ∷ table) = omega arith
first_within (Some start ∷ table) = let l = first_within table in omega arith

first_least : (table : AddressTable) (k : ℕ) → k < used_first table → is_used table k ≡ true
first_least [] k l = absurd (omega arith)
first_least (None ∷ table) k l = absurd (omega arith)
first_least (Some start ∷ table) zero l = refl
first_least (Some start ∷ table) (suc k) l = first_least table k (omega arith)

after_two : (table : AddressTable) → 2 ≤ length table → (x y : Option ℕ) × (rest : AddressTable) × (table ≡ x ∷ y ∷ rest)
after_two [] l = absurd (omega arith)
after_two (x ∷ []) l = absurd (omega arith)
after_two (x ∷ y ∷ rest) l = (x, y, rest, refl)

-- what is known of the least free address of a table
record Least (table : AddressTable) (address : ℕ) : Type 0 where
  unused : is_used table address ≡ false
  from_two : 2 ≤ address
  within_it : address ≤ length table
  least : (other : ℕ) → 2 ≤ other → other < address → is_used table other ≡ true

least_free : (table : AddressTable) → 2 ≤ length table → Least table (free_address table)
least_free table l = let t = after_two table l in subst (λ (z : AddressTable). Least z (free_address z)) (sym t.3) (record {
  unused = first_unused t.2;
  from_two = omega arith;
  within_it = let m = first_within t.2 in omega arith;
  least = λ other two below. later t.0 t.1 t.2 other two below;
})
  where
    later : (x y : Option ℕ) (rest : AddressTable) (other : ℕ) → 2 ≤ other → other < suc (suc (used_first rest)) → is_used (x ∷ y ∷ rest) other ≡ true
    later x y rest zero two below = absurd (omega arith)
    later x y rest (suc zero) two below = absurd (omega arith)
    later x y rest (suc (suc k)) two below = first_least rest k (omega arith)

pub free_is_free : (graph : ℕ → Option Stored) (table : AddressTable) → HoldsNodes (stored_in graph) table → 2 ≤ length table → IsLeastFree graph table (free_address table)
free_is_free graph table holds l =
    let f = least_free table l in
    let two = f.from_two in
    record {
      unused = f.unused;
      unreached = λ r. true≢false (sym ((holds.nodes (free_address table) (omega arith)).1 r) ∙ f.unused);
      from_two = f.from_two;
      within = f.within_it;
      least = f.least;
    }

pub new_entries : (table : AddressTable) (nodes start : ℕ) → 2 ≤ length table → is_used table 0 ≡ true → is_used table 1 ≡ true → used_in table ≡ 1 + nodes → IsWith table nodes start
new_entries table nodes start two set root many = go (nat_lt (free_address table) (length table)) refl
  where
    f : Least table (free_address table)
    f = least_free table two

    count : used table ≡ 1 + nodes
    count = sym (used-in table) ∙ many

    go : (b : Bool) → nat_lt (free_address table) (length table) ≡ b → IsWith table nodes start
    go true e =
        let below = ltb-true (free_address table) (length table) e in
        let less = used_less table (free_address table) below f.unused in
        let c = count in
        let more = set_more table (free_address table) start below f.unused in
        let long = length-set table (free_address table) (Some start) in
        let is : with_address (free_address table) start table ≡ slice_set table (free_address table) (Some start) = ap (λ b. if b then slice_set table (free_address table) (Some start) else table ++ Some start ∷ []) e in
        record {
          used = ap used_in is ∙ used-in (slice_set table (free_address table) (Some start)) ∙ more ∙ ap (λ n. n + 1) (sym (used-in table));
          each = λ other. with_used table (free_address table) start other (inl below);
          long = ap (λ (t : AddressTable). length t) is ∙ long ∙ (let m : length table ≡ max (length table) (1 + (nodes + 1)) = omega arith in m);
        }
    go false e =
        let past = ltb-false (free_address table) (length table) e in
        let at = f.within_it in
        let full = all_used table (λ k l. every k l) in
        let c = count in
        let long = length_push table (Some start) in
        let is : with_address (free_address table) start table ≡ table ++ Some start ∷ [] = ap (λ b. if b then slice_set table (free_address table) (Some start) else table ++ Some start ∷ []) e in
        record {
          used = ap used_in is ∙ used-in (table ++ Some start ∷ []) ∙ push_used table start ∙ ap (λ n. n + 1) (sym (used-in table));
          each = λ other. with_used table (free_address table) start other (inr (omega arith));
          long = ap (λ (t : AddressTable). length t) is ∙ (let m : length (table ++ Some start ∷ []) ≡ max (length table) (1 + (nodes + 1)) = omega arith in m);
        }
      where
        every : (k : ℕ) → k < length table → is_used table k ≡ true
        every zero l = set
        every (suc zero) l = root
        every (suc (suc k)) l = let at = ltb-false (free_address table) (length table) e in f.least (suc (suc k)) (omega arith) (omega arith)

pub gone_entries : (table : AddressTable) (address : ℕ) → is_used table address ≡ true → IsWithout table address
gone_entries table address e = record {
  used = ap (λ n. n + 1) (used-in (slice_set table address None)) ∙ set_less table address e ∙ sym (used-in table);
  long = length-set table address None;
  each = λ other. without_used table address other;
}
