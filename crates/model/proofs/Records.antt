-- The clients' records stay as they must be, and what is due by them.
use Rattle.std.proofs.Common.{◌≡◌, inl, inr, ℕ, zero, suc, ◌+◌, ◌-◌, ◌<◌, ◌≤◌, ◌==◌, ◌&&◌, ◌||◌, not, if◌then◌else◌, nat_lt, nat_le, Bool, true, false, List, [], ◌∷◌, ◌++◌, length, map, take, slice_get, Option, Some, None, refl, sym, ◌∙◌, ap, subst, arith, eq-eqb, ne_eqb, lt-ltb, le-ltb, le-leb}
use Rattle.std.specs.List.{list_any, IsDistinct, AllByRecursion}
use Rattle.std.proofs.lemmas.Bool.{true≢false, eqb-true, eqb-false, leb-false, leb-true, ltb-false}
use Rattle.std.proofs.lemmas.List.{length_push}
use Rattle.std.proofs.lemmas.Option.{none-some, same_Some, slice_get_past, slice_get_cases}
use Rattle.model.specs.Session.{State, Request, Reply, ClientRecord, Due, due, due_by, record_of, answered, reply_to, after_one, after, formatted}
use Rattle.model.specs.Session.Due.{Repeat, Stale, Gap, ClientsFull, New}
use Rattle.model.specs.Operation.{Operation, code_of, ends_at, moves_too_deep}
use Rattle.std.specs.FinMap.{contains_key, len}
use Rattle.limits.specs.declared.TheConstants.{DIRECTORY_NAMES, GREATEST_FILE, NODES}
use Rattle.model.specs.Operation.Operation.{Create, Replace, Append, MakeDir, Rename, Remove}
use Rattle.model.specs.Tree.{Tree, is_directory_at, names_at, parent_of, begins_with, paths_eq}
use Rattle.model.specs.Runs.{AllNew, AllFromClients}
use Rattle.model.specs.Records.{FallFrom, IsRecord, HasSessions, latest_of, replies_of}
use Rattle.model.specs.LawsSessions.{IsDueByNumber}
use Rattle.model.proofs.Sessions.{turn}
use Rattle.model.proofs.Kept.{new_number}

-- a code is at most 10
few : (b : Bool) (n rest : ℕ) → n ≤ 10 → rest ≤ 10 → (if b then n else rest) ≤ 10
few true n rest l m = l
few false n rest l m = m

pub code_at_most : (op : Operation) (tree : Tree) → code_of op tree ≤ 10
code_at_most (Create path bytes) tree = few (length path == 0) 7 _ (omega arith) (few (nat_lt 16 (length path)) 8 _ (omega arith) (few (not (is_directory_at tree (parent_of path))) 1 _ (omega arith) (few (contains_key tree path) 3 _ (omega arith) (few (nat_le DIRECTORY_NAMES (length (names_at tree (parent_of path)))) 9 _ (omega arith) (few (nat_le NODES (len tree)) 10 _ (omega arith) (omega arith))))))
code_at_most (MakeDir path) tree = few (length path == 0) 7 _ (omega arith) (few (nat_lt 16 (length path)) 8 _ (omega arith) (few (not (is_directory_at tree (parent_of path))) 1 _ (omega arith) (few (contains_key tree path) 3 _ (omega arith) (few (nat_le DIRECTORY_NAMES (length (names_at tree (parent_of path)))) 9 _ (omega arith) (few (nat_le NODES (len tree)) 10 _ (omega arith) (omega arith))))))
code_at_most (Replace path bytes) tree = few (length path == 0) 7 _ (omega arith) (few (not (contains_key tree path)) 2 _ (omega arith) (few (is_directory_at tree path) 4 _ (omega arith) (omega arith)))
code_at_most (Append path offset bytes) tree = few (length path == 0) 7 _ (omega arith) (few (not (contains_key tree path)) 2 _ (omega arith) (few (is_directory_at tree path) 4 _ (omega arith) (few (not (ends_at tree path offset)) 3 _ (omega arith) (few (nat_le GREATEST_FILE offset) 10 _ (omega arith) (omega arith)))))
code_at_most (Rename from to) tree = few (length from == 0 || length to == 0) 7 _ (omega arith) (few (not (contains_key tree from)) 2 _ (omega arith) (few (nat_lt (length from) (length to) && begins_with to from) 6 _ (omega arith) (few (not (is_directory_at tree (parent_of to))) 1 _ (omega arith) (few (contains_key tree to) 3 _ (omega arith) (few (moves_too_deep from to tree) 8 _ (omega arith) (few (nat_le DIRECTORY_NAMES (length (names_at tree (parent_of to))) && not (paths_eq (parent_of to) (parent_of from))) 9 _ (omega arith) (omega arith)))))))
code_at_most (Remove path) tree = few (length path == 0) 7 _ (omega arith) (few (not (contains_key tree path)) 2 _ (omega arith) (few (nat_lt 0 (length (names_at tree path))) 5 _ (omega arith) (omega arith)))

-- falling commit numbers
fall_more : (m n : ℕ) (replies : List Reply) → m ≤ n → FallFrom m replies → FallFrom n replies
fall_more m n [] l f = tt
fall_more m n (reply ∷ replies) l f = (f.0, (let below : reply.commit ≤ m = f.1 in omega arith), f.2)

fall_take : (k m : ℕ) (replies : List Reply) → FallFrom m replies → FallFrom m (take k replies)
fall_take zero m [] f = tt
fall_take zero m (reply ∷ replies) f = tt
fall_take (suc k) m [] f = tt
fall_take (suc k) m (reply ∷ replies) f = (f.0, f.1, fall_take k (reply.commit - 1) replies f.2)

module _ {X : Type 0} (P : X → Type 0) where
  all_take : (k : ℕ) (xs : List X) → AllByRecursion P xs → AllByRecursion P (take k xs)
  all_take zero [] a = tt
  all_take zero (x ∷ xs) a = tt
  all_take (suc k) [] a = tt
  all_take (suc k) (x ∷ xs) a = (a.0, all_take k xs a.1)

  all_push : (xs : List X) (x : X) → AllByRecursion P xs → P x → AllByRecursion P (xs ++ x ∷ [])
  all_push [] x a p = (p, tt)
  all_push (y ∷ xs) x a p = (a.0, all_push xs x a.1 p)

length_taken : {X : Type 0} (k : ℕ) (xs : List X) → (length (take k xs) ≤ k) × (length (take k xs) ≤ length xs)
length_taken zero [] = (omega arith, omega arith)
length_taken zero (x ∷ xs) = (omega arith, omega arith)
length_taken (suc k) [] = (omega arith, omega arith)
length_taken (suc k) (x ∷ xs) = let r = length_taken k xs in ((let a = r.0 in omega arith), (let b = r.1 in omega arith))

later : (m n : ℕ) (kept : ClientRecord) → m ≤ n → IsRecord m kept → IsRecord n kept
later m n kept l r = record { client = r.client; some = r.some; few = r.few; numbers = r.numbers; codes = r.codes; fall = fall_more m n kept.replies l r.fall }

later_all : (commits : ℕ) (rs : List ClientRecord) → AllByRecursion (IsRecord commits) rs → AllByRecursion (IsRecord (commits + 1)) rs
later_all commits [] all = tt
later_all commits (x ∷ rs) all = (later commits (commits + 1) x (omega arith) all.0, later_all commits rs all.1)

-- one more reply
answered_record : (number commits code : ℕ) (kept : ClientRecord) → number ≡ kept.latest + 1 → code ≤ 10 → IsRecord commits kept
    → IsRecord (commits + 1) (answered number (record { code = code; commit = commits + 1 }) kept)
answered_record number commits code kept next small r =
    let size = length_taken 3 kept.replies in
    let most : length (take 3 kept.replies) ≤ 3 = size.0 in
    let many : length (take 3 kept.replies) ≤ length kept.replies = size.1 in
    let numbers = r.numbers in
    record {
      client = r.client;
      some = omega arith;
      few = omega arith;
      numbers = omega arith;
      codes = (small, all_take (λ (reply : Reply). reply.code ≤ 10) 3 kept.replies r.codes);
      fall = (omega arith, omega arith, fall_more commits ((commits + 1) - 1) (take 3 kept.replies) (omega arith) (fall_take 3 commits kept.replies r.fall));
    }

new_record : (client number commits code : ℕ) → 0 < client → 0 < number → code ≤ 10
    → IsRecord (commits + 1) (record { client = client; latest = number; replies = record { code = code; commit = commits + 1 } ∷ [] })
new_record client number commits code some above small = record {
  client = some;
  some = omega arith;
  few = omega arith;
  numbers = omega arith;
  codes = (small, tt);
  fall = (omega arith, omega arith, tt);
}

module _ (client number commits code : ℕ) where
  abbrev reply : Reply
  reply = record { code = code; commit = commits + 1 }

  turned_clients : (rs : List ClientRecord) → map (λ (r : ClientRecord). r.client) (map (turn client number reply) rs) ≡ map (λ (r : ClientRecord). r.client) rs
  turned_clients [] = refl
  turned_clients (x ∷ rs) = go (x.client == client) (turned_clients rs)
    where
      go : (b : Bool) → map (λ (r : ClientRecord). r.client) (map (turn client number reply) rs) ≡ map (λ (r : ClientRecord). r.client) rs
          → (if b then answered number reply x else x).client ∷ map (λ (r : ClientRecord). r.client) (map (turn client number reply) rs) ≡ x.client ∷ map (λ (r : ClientRecord). r.client) rs
      go true rest = ap (λ cs. x.client ∷ cs) rest
      go false rest = ap (λ cs. x.client ∷ cs) rest

  turned_length : (rs : List ClientRecord) → length (map (turn client number reply) rs) ≡ length rs
  turned_length [] = refl
  turned_length (x ∷ rs) = ap suc (turned_length rs)

-- the record that is found, among distinct clients, is the client's only one
found_none : (client : ℕ) (rs : List ClientRecord) → record_of client rs ≡ None → list_any (λ r. r.client == client) rs ≡ false
found_none client [] e = refl
found_none client (x ∷ rs) e = go (x.client == client) refl (found_none client rs)
  where
    go : (b : Bool) → (x.client == client) ≡ b → (record_of client rs ≡ None → list_any (λ r. r.client == client) rs ≡ false) → list_any (λ r. r.client == client) (x ∷ rs) ≡ false
    go true t rest = absurd (none-some x (sym (simp t at e)))
    go false f rest = simp f (rest (simp f at e))

found_some : (client : ℕ) (rs : List ClientRecord) (kept : ClientRecord) → record_of client rs ≡ Some kept → list_any (λ r. r.client == client) rs ≡ true
found_some client [] kept e = absurd (none-some kept e)
found_some client (x ∷ rs) kept e = go (x.client == client) refl (found_some client rs kept)
  where
    go : (b : Bool) → (x.client == client) ≡ b → (record_of client rs ≡ Some kept → list_any (λ r. r.client == client) rs ≡ true) → list_any (λ r. r.client == client) (x ∷ rs) ≡ true
    go true t rest = simp t
    go false f rest = simp f (rest (simp f at e))

abbrev Apart : List ClientRecord → Type 0
Apart rs = IsDistinct ◌==◌ (map (λ (r : ClientRecord). r.client) rs)

apart_push : (client : ℕ) (rs : List ClientRecord) (new : ClientRecord) → new.client ≡ client → list_any (λ r. r.client == client) rs ≡ false → Apart rs → Apart (rs ++ new ∷ [])
unfolding IsDistinct
apart_push client [] new same none d = (tt, tt)
apart_push client (x ∷ rs) new same none d = go (x.client == client) refl (apart_push client rs new same)
  where
    all_more : (ys : List ClientRecord) → (x.client == client) ≡ false → AllByRecursion (λ y. (x.client == y) ≡ false) (map (λ (r : ClientRecord). r.client) ys) → AllByRecursion (λ y. (x.client == y) ≡ false) (map (λ (r : ClientRecord). r.client) (ys ++ new ∷ []))
    all_more [] f a = (subst (λ c. (x.client == c) ≡ false) (sym same) f, tt)
    all_more (y ∷ ys) f a = (a.0, all_more ys f a.1)

    go : (b : Bool) → (x.client == client) ≡ b → (list_any (λ r. r.client == client) rs ≡ false → Apart rs → Apart (rs ++ new ∷ [])) → Apart ((x ∷ rs) ++ new ∷ [])
    go true t rest = absurd (true≢false (simp t at none))
    go false f rest = (all_more rs f d.0, rest (simp f at none) d.1)

-- of distinct clients one record is the client's
only : (client : ℕ) (rs : List ClientRecord) (kept : ClientRecord) → Apart rs → record_of client rs ≡ Some kept → AllByRecursion (λ r. (r.client == client) ≡ true → r ≡ kept) rs
unfolding IsDistinct
only client [] kept d e = tt
only client (x ∷ rs) kept d e = go (x.client == client) refl (only client rs kept d.1)
  where
    none_of : (ys : List ClientRecord) → x.client ≡ client → AllByRecursion (λ y. (x.client == y) ≡ false) (map (λ (r : ClientRecord). r.client) ys) → AllByRecursion (λ r. (r.client == client) ≡ true → r ≡ kept) ys
    none_of [] s a = tt
    none_of (y ∷ ys) s a = ((λ t. absurd (eqb-false x.client y.client a.0 (s ∙ sym (eqb-true y.client client t)))), none_of ys s a.1)

    go : (b : Bool) → (x.client == client) ≡ b → (record_of client rs ≡ Some kept → AllByRecursion (λ r. (r.client == client) ≡ true → r ≡ kept) rs) → AllByRecursion (λ r. (r.client == client) ≡ true → r ≡ kept) (x ∷ rs)
    go true t rest = ((λ u. same_Some x kept (simp t at e)), none_of rs (eqb-true x.client client t) d.0)
    go false f rest = ((λ u. absurd (true≢false (sym u ∙ f))), rest (simp f at e))

-- of two lists of facts one follows from the others
all_both : (P Q R : ClientRecord → Type 0) (rs : List ClientRecord) → ((r : ClientRecord) → P r → Q r → R r) → AllByRecursion P rs → AllByRecursion Q rs → AllByRecursion R rs
all_both P Q R [] f a b = tt
all_both P Q R (x ∷ rs) f a b = (f x a.0 b.0, all_both P Q R rs f a.1 b.1)

-- the client's record or any other, after one more request
turned_all : (client number commits code : ℕ) (kept : ClientRecord) (rs : List ClientRecord) → number ≡ kept.latest + 1 → code ≤ 10
    → AllByRecursion (λ r. IsRecord commits r × ((r.client == client) ≡ true → r ≡ kept)) rs
    → AllByRecursion (IsRecord (commits + 1)) (map (turn client number (record { code = code; commit = commits + 1 })) rs)
turned_all client number commits code kept [] next small all = tt
turned_all client number commits code kept (x ∷ rs) next small all = (go (x.client == client) refl, turned_all client number commits code kept rs next small all.1)
  where
    go : (b : Bool) → (x.client == client) ≡ b → IsRecord (commits + 1) (if b then answered number (record { code = code; commit = commits + 1 }) x else x)
    go true e = answered_record number commits code x (next ∙ ap (λ (r : ClientRecord). r.latest + 1) (sym (all.0.1 e))) small all.0.0
    go false e = later commits (commits + 1) x (omega arith) all.0.0

-- a new request of a client with no record has number 1, and there is room for the record
new_first : (S : State) (client number : ℕ) → record_of client S.records ≡ None → due S client number ≡ New → (number ≡ 1) × (length S.records < 64)
new_first S client number e n =
    let same : due_by number (length S.records) (record_of client S.records) ≡ due_by number (length S.records) None = ap (λ (o : Option ClientRecord). due_by number (length S.records) o) e in
    go (number == 0) (nat_lt 1 number) (nat_le 64 (length S.records)) refl refl refl (sym same ∙ n)
  where
    one : (n : ℕ) → (n ≡ 0 → ⊥) → n ≤ 1 → n ≡ 1
    one n a b = omega arith

    go : (a b c : Bool) → (number == 0) ≡ a → nat_lt 1 number ≡ b → nat_le 64 (length S.records) ≡ c
        → (if a then Stale 0 else (if b then Gap 0 else (if c then ClientsFull else New))) ≡ New → (number ≡ 1) × (length S.records < 64)
    go true b c x y z m = cc
    go false true c x y z m = cc
    go false false true x y z m = cc
    go false false false x y z m =
        let above = eqb-false number 0 x in
        let below = ltb-false 1 number y in
        (one number above below, leb-false 64 (length S.records) z)

-- the state after a request, with these records
abbrev WithRecords : State → Request → List ClientRecord → Type 0
WithRecords S r rs = HasSessions (record { tree = (after_one S r).tree; records = rs; commits = S.commits + 1; next_identity = (after_one S r).next_identity; table_length = (after_one S r).table_length; moment = r.moment })

pub sessions_one : (S : State) (r : Request) → 0 < r.client → due S r.client r.number ≡ New → HasSessions S → HasSessions (after_one S r)
sessions_one S r some new has = go (record_of r.client S.records) refl
  where
    small : code_of r.operation S.tree ≤ 10
    small = code_at_most r.operation S.tree

    go : (o : Option ClientRecord) → record_of r.client S.records ≡ o → HasSessions (after_one S r)
    go (Some kept) e =
        let there = found_some r.client S.records kept e in
        let clients = turned_clients r.client r.number S.commits (code_of r.operation S.tree) S.records in
        let size = turned_length r.client r.number S.commits (code_of r.operation S.tree) S.records in
        let few = has.few in
        subst (WithRecords S r) (sym (ap (λ b. if b then map (turn r.client r.number (reply_to S r)) S.records else S.records ++ record { client = r.client; latest = r.number; replies = reply_to S r ∷ [] } ∷ []) there)) (record {
          distinct = subst (λ cs. IsDistinct ◌==◌ cs) (sym clients) has.distinct;
          few = omega arith;
          kept = turned_all r.client r.number S.commits (code_of r.operation S.tree) kept S.records (new_number S r.client r.number kept e new) small
              (all_both (IsRecord S.commits) (λ x. (x.client == r.client) ≡ true → x ≡ kept) _ S.records (λ x a b. (a, b)) has.kept (only r.client S.records kept has.distinct e));
        })
    go None e =
        let there = found_none r.client S.records e in
        let first = new_first S r.client r.number e new in
        let number : r.number ≡ 1 = first.0 in
        let room : length S.records < 64 = first.1 in
        let size = length_push S.records (record { client = r.client; latest = r.number; replies = reply_to S r ∷ [] }) in
        subst (WithRecords S r) (sym (ap (λ b. if b then map (turn r.client r.number (reply_to S r)) S.records else S.records ++ record { client = r.client; latest = r.number; replies = reply_to S r ∷ [] } ∷ []) there)) (record {
          distinct = apart_push r.client S.records (record { client = r.client; latest = r.number; replies = reply_to S r ∷ [] }) refl there has.distinct;
          few = omega arith;
          kept = all_push (IsRecord (S.commits + 1)) S.records (record { client = r.client; latest = r.number; replies = reply_to S r ∷ [] })
              (later_all S.commits S.records has.kept) (new_record r.client r.number S.commits (code_of r.operation S.tree) some (omega arith) small);
        })

pub sessions_after : (S : State) (C : List Request) → AllFromClients C → AllNew S C → HasSessions S → HasSessions (after S C)
sessions_after S [] from new has = has
sessions_after S (r ∷ C) from new has = sessions_after (after_one S r) C from.1 new.1 (sessions_one S r from.0 new.0 has)

pub sessions_fresh : (moment : ℕ) → HasSessions (formatted moment)
unfolding IsDistinct
sessions_fresh moment = record { distinct = tt; few = omega arith; kept = tt }

-- a record that is found is one of the list
found_all : (P : ClientRecord → Type 0) (client : ℕ) (rs : List ClientRecord) (kept : ClientRecord) → AllByRecursion P rs → record_of client rs ≡ Some kept → P kept
found_all P client [] kept all e = absurd (none-some kept e)
found_all P client (x ∷ rs) kept all e = go (x.client == client) refl (found_all P client rs kept all.1)
  where
    go : (b : Bool) → (x.client == client) ≡ b → (record_of client rs ≡ Some kept → P kept) → P kept
    go true t rest = subst P (same_Some x kept (simp t at e)) all.0
    go false f rest = rest (simp f at e)

leb_no : (a b : ℕ) → b < a → nat_le a b ≡ false
leb_no a b l = go (nat_le a b) refl
  where
    go : (t : Bool) → nat_le a b ≡ t → t ≡ false
    go true e = let le = leb-true a b e in absurd (omega arith)
    go false e = refl

module _ (number size : ℕ) where
  -- the cases of a client with a record
  module _ (kept : ClientRecord) (known : length kept.replies ≤ kept.latest) where
    repeat_by : kept.latest < number + length kept.replies → number ≤ kept.latest
        → (reply : Reply) × (slice_get kept.replies (kept.latest - number) ≡ Some reply) × (due_by number size (Some kept) ≡ Repeat reply)
    repeat_by low high =
        let old : nat_lt kept.latest number ≡ false = le-ltb kept.latest number high in
        elim (slice_get_cases kept.replies (kept.latest - number)).1 [
          | inl here ↦ (here.0, here.2, simp (old, here.2))
          | inr none ↦ let past = none.0 in absurd (omega arith)
        ]

    stale_by : number + length kept.replies ≤ kept.latest → due_by number size (Some kept) ≡ Stale kept.latest
    stale_by low =
        let old : nat_lt kept.latest number ≡ false = le-ltb kept.latest number (omega arith) in
        let none : slice_get kept.replies (kept.latest - number) ≡ None = slice_get_past kept.replies (kept.latest - number) (omega arith) in
        simp (old, none)

    gap_by : kept.latest + 1 < number → due_by number size (Some kept) ≡ Gap kept.latest
    gap_by high =
        let new : nat_lt kept.latest number ≡ true = lt-ltb kept.latest number (omega arith) in
        let not_next : (number == kept.latest + 1) ≡ false = ne_eqb number (kept.latest + 1) (λ e. absurd (omega arith)) in
        simp (new, not_next)

    next_by : number ≡ kept.latest + 1 → due_by number size (Some kept) ≡ New
    next_by e =
        let new : nat_lt kept.latest number ≡ true = lt-ltb kept.latest number (omega arith) in
        let next : (number == kept.latest + 1) ≡ true = eq-eqb number (kept.latest + 1) e in
        simp (new, next)

  -- and of one with none
  none_stale : number + 0 ≤ 0 → due_by number size None ≡ Stale 0
  none_stale l = let e : (number == 0) ≡ true = eq-eqb number 0 (omega arith) in simp e

  none_above : 1 < number → due_by number size None ≡ Gap 0
  none_above l =
      let e : (number == 0) ≡ false = ne_eqb number 0 (λ s. absurd (omega arith)) in
      let f : nat_lt 1 number ≡ true = lt-ltb 1 number l in
      simp (e, f)

  none_one : number ≡ 1 → due_by number size None ≡ (if nat_le 64 size then ClientsFull else New)
  none_one s =
      let e : (number == 0) ≡ false = ne_eqb number 0 (λ t. absurd (omega arith)) in
      let f : nat_lt 1 number ≡ false = le-ltb 1 number (omega arith) in
      simp (e, f)

pub due_is : (S : State) (client number : ℕ) → HasSessions S → IsDueByNumber S client number (latest_of (record_of client S.records)) (length (replies_of (record_of client S.records))) (replies_of (record_of client S.records))
due_is S client number has = go (record_of client S.records) refl
  where
    size : ℕ
    size = length S.records

    along : (o : Option ClientRecord) (d : Due) → record_of client S.records ≡ o → due_by number (length S.records) o ≡ d → due S client number ≡ d
    along o d e f = ap (λ (x : Option ClientRecord). due_by number (length S.records) x) e ∙ f

    go : (o : Option ClientRecord) → record_of client S.records ≡ o → IsDueByNumber S client number (latest_of o) (length (replies_of o)) (replies_of o)
    go None e = record {
      repeat = λ low high. absurd (omega arith);
      stale = λ l. along None (Stale 0) e (none_stale number (length S.records) l);
      gap = λ l. along None (Gap 0) e (none_above number (length S.records) l);
      full = λ s none l. along None ClientsFull e (none_one number (length S.records) s ∙ ap (λ b. if b then ClientsFull else New) (le-leb 64 (length S.records) l));
      new = λ s room.
          let free : nat_le 64 (length S.records) ≡ false = elim room [ inl known ↦ absurd (known e) | inr l ↦ leb_no 64 (length S.records) l ] in
          along None New e (none_one number (length S.records) s ∙ ap (λ b. if b then ClientsFull else New) free);
    }
    go (Some kept) e =
        let known = (found_all (IsRecord S.commits) client S.records kept has.kept e).numbers in
        record {
          repeat = λ low high. let r = repeat_by number (length S.records) kept known low high in (r.0, r.1, along (Some kept) (Repeat r.0) e r.2);
          stale = λ l. along (Some kept) (Stale kept.latest) e (stale_by number (length S.records) kept known l);
          gap = λ l. along (Some kept) (Gap kept.latest) e (gap_by number (length S.records) kept known l);
          full = λ s none l. absurd (none-some kept (sym none ∙ e));
          new = λ s room. along (Some kept) New e (next_by number (length S.records) kept known s);
        }
