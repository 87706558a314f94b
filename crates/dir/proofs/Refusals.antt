-- Why data at which reading stops is no directory.
use Rattle.std.proofs.Common.{◌≡◌, ℕ, zero, suc, ◌+◌, ◌-◌, ◌*◌, ◌^◌, ◌<◌, ◌≤◌, Bool, true, false, cond, Option, Some, None, List, [], ◌∷◌, ◌++◌, length, take, drop, map, replicate, refl, sym, ap, subst, ◌∙◌, append_assoc, arith, inr}
use Rattle.std.specs.Prelude.{nat_eq, is_some, slice_index}
use Rattle.ecma.specs.Numbers.{u32_at}
use Rattle.std.specs.Cmp.Lexicographic.{pointwise}
use Rattle.std.specs.List.{All, AllByRecursion, IsDistinct, concat}
use Rattle.std.specs.Map.{keys_of, lookup}
use Rattle.std.proofs.lemmas.Bool.{eqb-true, eq-eqb, and_from, and_parts}
use Rattle.std.proofs.lemmas.List.{append-nil, take_at, drop_at, take-append-drop, nil_from_length, length-map, map-append}
use Rattle.limits.specs.declared.TheConstants.{DIRECTORY_NAMES}
use Rattle.osta.specs.Compressed.{compressed, Named}
use Rattle.osta.specs.Name.{IsName}
use Rattle.osta.proofs.Names.{name_spelled}
use Rattle.osta.proofs.Texts.{one_text}
use Rattle.dir.specs.declared.entry.Entry.{Entry}
use Rattle.dir.specs.declared.fids.Fids.{Fids}
use Rattle.dir.specs.Directory.{of_parent, of_name, identifiers, IsDirectoryEntry, IsDirectory}
use Rattle.dir.specs.Identifier.{Identifier}
use Rattle.ecma.specs.Blocks.{block_count}
use Rattle.dir.specs.Layout.{laid, FitsInBlock}
use Rattle.dir.specs.Reads.{IsFirstNameShort}
use Rattle.dir.specs.Split.{FitsIdentifier}
use Rattle.dir.proofs.Directories.{IsRead, Continues, first_of_all, short_after}
use Rattle.dir.proofs.Entries.{name_Fits, parent_Fits}
use Rattle.dir.proofs.Placing.{laid-nil, length-laid, stands_within}

-- the identifier of an entry
abbrev pub of_entry : List ℕ × Entry → Identifier
of_entry e = of_name e.0 e.1

all_cons : {X : Type 0} (P : X → Type 0) (x : X) (xs : List X) → P x → All P xs → All P (x ∷ xs)
all_cons P x xs p ps zero d lt = p
all_cons P x xs p ps (suc k) d lt = ps k d (omega arith)

pub all_push : {X : Type 0} (P : X → Type 0) (xs : List X) (x : X) → All P xs → P x → All P (xs ++ x ∷ [])
all_push P [] x ps p = all_cons P x [] p ps
all_push P (y ∷ ys) x ps p = all_cons P y (ys ++ x ∷ []) (ps 0 y (omega arith)) (all_push P ys x (λ k d lt. ps (suc k) d (omega arith)) p)

entries_Fit : (es : List (List ℕ × Entry)) → All IsDirectoryEntry es → All FitsIdentifier (map of_entry es)
entries_Fit [] all = λ k d lt. absurd (omega arith)
entries_Fit (e ∷ es) all = all_cons FitsIdentifier (of_entry e) (map of_entry es) (name_Fits e.0 e.1 (all 0 e (omega arith))) (entries_Fit es (λ k d lt. all (suc k) d (omega arith)))

pub all_Fit : (parent : ℕ) (es : List (List ℕ × Entry)) → parent < 2 ^ 32 → All IsDirectoryEntry es → All FitsIdentifier (identifiers parent es)
all_Fit parent es low all = all_cons FitsIdentifier (of_parent parent) (map of_entry es) (parent_Fits parent low) (entries_Fit es all)

-- the entries of which one identifier is that of one
pub record Splitting (es : List (List ℕ × Entry)) (a : List Identifier) (m : Identifier) (ms : List Identifier) : Type 0 where
  pub front : List (List ℕ × Entry)
  pub item : List ℕ × Entry
  pub back : List (List ℕ × Entry)
  pub parts : es ≡ front ++ (item ∷ back)
  pub fronts : map of_entry front ≡ a
  pub items : of_entry item ≡ m
  pub backs : map of_entry back ≡ ms

pub split_entries : (es : List (List ℕ × Entry)) (a : List Identifier) (m : Identifier) (ms : List Identifier) → map of_entry es ≡ a ++ (m ∷ ms) → Splitting es a m ms
split_entries [] [] m ms e = absurd (cc)
split_entries [] (x ∷ a) m ms e = absurd (cc)
split_entries (p ∷ es) [] m ms e =
    let head : of_entry p ≡ m = cc in
    let tail : map of_entry es ≡ ms = cc in
    record { front = []; item = p; back = es; parts = refl; fronts = refl; items = head; backs = tail }
split_entries (p ∷ es) (x ∷ a) m ms e =
    let head : of_entry p ≡ x = cc in
    let tail : map of_entry es ≡ a ++ (m ∷ ms) = cc in
    let s = split_entries es a m ms tail in
    record {
      front = p ∷ s.front;
      item = s.item;
      back = s.back;
      parts = ap (λ (t : List (List ℕ × Entry)). p ∷ t) s.parts;
      fronts = ap (λ (t : List Identifier). of_entry p ∷ t) s.fronts ∙ ap (λ (y : Identifier). y ∷ a) head;
      items = s.items;
      backs = s.backs;
    }

-- what is left of entries of which some are done
after_done : (p parent : ℕ) (es entries : List (List ℕ × Entry)) (done more : List Identifier) → identifiers p es ≡ (identifiers parent entries ++ done) ++ more
    → map of_entry es ≡ map of_entry entries ++ (done ++ more)
after_done p parent es entries done more e =
    let regrouped : identifiers p es ≡ of_parent parent ∷ (map of_entry entries ++ (done ++ more)) =
    e ∙ append_assoc (identifiers parent entries) done more in
    cc

-- the bytes of a directory
pub directory_data : (p : ℕ) (es : List (List ℕ × Entry)) (first size : ℕ) (blocks : List (List ℕ)) → IsDirectory p es first size blocks
    → take size (concat blocks) ≡ laid first 0 (identifiers p es)
directory_data p es first size blocks d =
    ap (take size) d.bytes ∙ take_at (laid first 0 (identifiers p es)) (replicate (2048 * block_count size - size) 0) size (sym d.size_is)

pub directory_tail : (p : ℕ) (es : List (List ℕ × Entry)) (first size : ℕ) (blocks : List (List ℕ)) → IsDirectory p es first size blocks
    → drop size (concat blocks) ≡ replicate (2048 * block_count size - size) 0
directory_tail p es first size blocks d =
    ap (drop size) d.bytes ∙ drop_at (laid first 0 (identifiers p es)) (replicate (2048 * block_count size - size) 0) size (sym d.size_is)

-- data that is not yet read holds a name
pub name_refused : (whole : List ℕ) (first parent p : ℕ) (entries es : List (List ℕ × Entry)) (fids : Fids)
    → IsRead whole first (identifiers parent entries) fids → p < 2 ^ 32 → All IsDirectoryEntry es → whole ≡ laid first 0 (identifiers p es)
    → (length fids.«data».now ≡ 0 → ⊥)
    → ((text : List ℕ) (e : Entry) (rest : List Identifier) → IsDirectoryEntry (text, e) → IsFirstNameShort rest
    → fids.«data».now ≡ laid (first + fids.index) fids.at (of_name text e ∷ rest) → FitsInBlock fids.at (of_name text e ∷ rest) → ⊥) → ⊥
name_refused whole first parent p entries es fids r low all e some refused =
    let k = r.only (identifiers p es) (all_Fit p es low all) e in
    goes k k.more refl
  where
    goes : (k : Continues first (identifiers parent entries) fids (identifiers p es)) → (more : List Identifier) → k.more ≡ more → ⊥
    goes k [] q = some (ap length (k.there ∙ ap (laid (first + fids.index) fids.at) q ∙ laid-nil (first + fids.index) fids.at))
    goes k (m ∷ ms) q =
        let there = k.there ∙ ap (laid (first + fids.index) fids.at) q in
        let stood = subst (λ (t : List Identifier). FitsInBlock fids.at t) q k.stood in
        let split : identifiers p es ≡ identifiers parent entries ++ (m ∷ ms) = k.split ∙ ap (λ (t : List Identifier). identifiers parent entries ++ t) q in
        let names : map of_entry es ≡ map of_entry entries ++ (m ∷ ms) = cc in
        let s = split_entries es (map of_entry entries) m ms names in
        let fit : All FitsIdentifier (identifiers parent entries ++ (m ∷ ms)) = subst (λ (t : List Identifier). All FitsIdentifier t) split (all_Fit p es low all) in
        let item = first_of_all IsDirectoryEntry s.front s.item s.back (subst (λ (t : List (List ℕ × Entry)). All IsDirectoryEntry t) s.parts all) in
        refused s.item.0 s.item.1 ms item (short_after (identifiers parent entries) m ms fit)
        (there ∙ ap (λ (y : Identifier). laid (first + fids.index) fids.at (y ∷ ms)) (sym s.items))
        (subst (λ (y : Identifier). FitsInBlock fids.at (y ∷ ms)) (sym s.items) stood)

-- where all data is read, there are no further names
pub no_more : (whole : List ℕ) (first parent p : ℕ) (entries es : List (List ℕ × Entry)) (fids : Fids)
    → IsRead whole first (identifiers parent entries) fids → p < 2 ^ 32 → All IsDirectoryEntry es → whole ≡ laid first 0 (identifiers p es)
    → length fids.«data».now ≡ 0 → length es ≡ length entries
no_more whole first parent p entries es fids r low all e none =
    let k = r.only (identifiers p es) (all_Fit p es low all) e in
    goes k k.more refl
  where
    goes : (k : Continues first (identifiers parent entries) fids (identifiers p es)) → (more : List Identifier) → k.more ≡ more → length es ≡ length entries
    goes k [] q =
        let split : identifiers p es ≡ identifiers parent entries ++ [] = k.split ∙ ap (λ (t : List Identifier). identifiers parent entries ++ t) q in
        let same = ap length (split ∙ append-nil (identifiers parent entries)) in
        omega (arith, length-map es of_entry, length-map entries of_entry)
    goes k (m ∷ ms) q =
        let there = k.there ∙ ap (laid (first + fids.index) fids.at) q in
        let stood = subst (λ (t : List Identifier). FitsInBlock fids.at t) q k.stood in
        let split : identifiers p es ≡ identifiers parent entries ++ (m ∷ ms) = k.split ∙ ap (λ (t : List Identifier). identifiers parent entries ++ t) q in
        let fit : All FitsIdentifier (identifiers parent entries ++ (m ∷ ms)) = subst (λ (t : List Identifier). All FitsIdentifier t) split (all_Fit p es low all) in
        let short = (first_of_all FitsIdentifier (identifiers parent entries) m ms fit).name in
        let room = stands_within fids.at m ms short (omega (arith, fids.in_block)) stood in
        absurd (omega (arith, ap length there, length-laid (first + fids.index) fids.at m ms room))

-- ---- texts
texts_same : (a b : List ℕ) → pointwise nat_eq a b ≡ true → a ≡ b
texts_same [] [] h = refl
texts_same [] (y ∷ ys) h = absurd (cc)
texts_same (x ∷ xs) [] h = absurd (cc)
texts_same (x ∷ xs) (y ∷ ys) h =
    let both = and_parts (nat_eq x y) (pointwise nat_eq xs ys) h in
    let head : x ≡ y = eqb-true x y both.0 in
    let tail : xs ≡ ys = texts_same xs ys both.1 in
    cc

texts_refl : (a : List ℕ) → pointwise nat_eq a a ≡ true
texts_refl [] = refl
texts_refl (x ∷ xs) = and_from (nat_eq x x) (pointwise nat_eq xs xs) (eq-eqb x x refl) (texts_refl xs)

pub one_name : (a b : List ℕ) → IsName a → IsName b → compressed a ≡ compressed b → a ≡ b
one_name a b x y e = one_text a b (compressed a) (name_spelled a x) (subst (λ (t : List ℕ). Named b t) (sym e) (name_spelled b y))

-- a name that was read and is there among the entries before is there twice
pub twice_refused : (front entries : List (List ℕ × Entry)) (item : List ℕ × Entry) (back : List (List ℕ × Entry)) (text : List ℕ) (found : Entry)
    → map of_entry front ≡ map of_entry entries → All IsDirectoryEntry (front ++ (item ∷ back)) → All IsDirectoryEntry entries → item.0 ≡ text
    → lookup (pointwise nat_eq text) entries ≡ Some found → IsDistinct (pointwise nat_eq) (keys_of (front ++ (item ∷ back))) → ⊥
unfolding IsDistinct
twice_refused [] [] item back text found same all known is there apart = absurd (cc)
twice_refused [] (e ∷ es) item back text found same all known is there apart = absurd (cc)
twice_refused (x ∷ front) [] item back text found same all known is there apart = absurd (cc)
twice_refused (x ∷ front) (e ∷ es) item back text found same all known is there apart =
    let tail : map of_entry front ≡ map of_entry es = cc in
    let head : of_entry x ≡ of_entry e = cc in
    by (pointwise nat_eq text e.0) refl head
    (λ (later : lookup (pointwise nat_eq text) es ≡ Some found).
    twice_refused front es item back text found tail (λ k d lt. all (suc k) d (omega arith)) (λ k d lt. known (suc k) d (omega arith)) is later apart.1)
  where
    unlike_item : (fs : List (List ℕ × Entry)) (i : List ℕ × Entry) (bs : List (List ℕ × Entry)) (t : List ℕ)
        → AllByRecursion (λ y. pointwise nat_eq t y ≡ false) (keys_of (fs ++ (i ∷ bs))) → pointwise nat_eq t i.0 ≡ false
    unlike_item [] i bs t h = h.0
    unlike_item (f ∷ fs) i bs t h = unlike_item fs i bs t h.1

    by : (b : Bool) → pointwise nat_eq text e.0 ≡ b → of_entry x ≡ of_entry e → (lookup (pointwise nat_eq text) es ≡ Some found → ⊥) → ⊥
    by true q head refused =
        let name : compressed x.0 ≡ compressed e.0 = ap (λ (y : Identifier). y.name) head in
        let key : x.0 ≡ e.0 = one_name x.0 e.0 (all 0 x (omega arith)).name (known 0 e (omega arith)).name name in
        let text_is : text ≡ e.0 = texts_same text e.0 q in
        let here : x.0 ≡ item.0 = key ∙ sym text_is ∙ sym is in
        let unlike : pointwise nat_eq x.0 item.0 ≡ false = unlike_item front item back x.0 apart.0 in
        let alike : pointwise nat_eq x.0 item.0 ≡ true = ap (pointwise nat_eq x.0) (sym here) ∙ texts_refl x.0 in
        absurd (cc)
    by false q head refused = refused (sym (ap (λ (b : Bool). cond b (Some e.1) (lookup (pointwise nat_eq text) es)) q) ∙ there)

some_of : (o : Option Entry) → true ≡ is_some o → (x : Entry) × (o ≡ Some x)
some_of None e = absurd (cc)
some_of (Some x) e = (x, refl)

pub none_of : (o : Option Entry) → false ≡ is_some o → o ≡ None
none_of None e = refl
none_of (Some x) e = absurd (cc)

-- a name that was read a second time
pub twice : (whole : List ℕ) (first parent p : ℕ) (entries es : List (List ℕ × Entry)) (fids : Fids) (text : List ℕ) (e : Entry) (old : Option Entry)
    → IsRead whole first (identifiers parent entries ++ of_name text e ∷ []) fids → IsDirectoryEntry (text, e) → All IsDirectoryEntry entries
    → p < 2 ^ 32 → All IsDirectoryEntry es → IsDistinct (pointwise nat_eq) (keys_of es) → whole ≡ laid first 0 (identifiers p es)
    → old ≡ lookup (pointwise nat_eq text) entries → true ≡ is_some old → ⊥
twice whole first parent p entries es fids text e old r entry known low all apart there old-is some =
    let k = r.only (identifiers p es) (all_Fit p es low all) there in
    let names : map of_entry es ≡ map of_entry entries ++ (of_name text e ∷ k.more) = after_done p parent es entries (of_name text e ∷ []) k.more k.split in
    let s = split_entries es (map of_entry entries) (of_name text e) k.more names in
    let parts_all : All IsDirectoryEntry (s.front ++ (s.item ∷ s.back)) = subst (λ (t : List (List ℕ × Entry)). All IsDirectoryEntry t) s.parts all in
    let item = first_of_all IsDirectoryEntry s.front s.item s.back parts_all in
    let is : s.item.0 ≡ text = one_name s.item.0 text item.name entry.name (ap (λ (y : Identifier). y.name) s.items) in
    let found = some_of old some in
    twice_refused s.front entries s.item s.back text found.0 s.fronts parts_all known is (sym old-is ∙ found.1)
    (subst (λ (t : List (List ℕ × Entry)). IsDistinct (pointwise nat_eq) (keys_of t)) s.parts apart)

-- ---- what reading does to the entries
pub entries_pushed : (whole : List ℕ) (first parent : ℕ) (entries pushed : List (List ℕ × Entry)) (fids : Fids) (text : List ℕ) (e : Entry)
    → pushed ≡ entries ++ (text, e) ∷ [] → IsRead whole first (identifiers parent entries ++ of_name text e ∷ []) fids
    → IsRead whole first (identifiers parent pushed) fids
entries_pushed whole first parent entries pushed fids text e pushed-is r =
    let joined : identifiers parent pushed ≡ identifiers parent entries ++ of_name text e ∷ [] =
    ap (λ (t : List (List ℕ × Entry)). identifiers parent t) pushed-is
    ∙ ap (λ (t : List Identifier). of_parent parent ∷ t) (map-append of_entry entries ((text, e) ∷ [])) in
    subst (λ (t : List Identifier). IsRead whole first t fids) (sym joined) r

pub parent_low : (bytes : List ℕ) → ((i : ℕ) → slice_index bytes i < 256) → u32_at 24 bytes < 2 ^ 32
parent_low bytes all = omega (arith, all 24, all 25, all 26, all 27)

pub start_there : (first index at : ℕ) (xs : List Identifier) → index ≡ 0 → at ≡ 0 → laid first 0 xs ≡ laid (first + index) at xs
start_there first index at xs i a =
    ap (λ (n : ℕ). laid first n xs) (sym a) ∙ ap (λ (n : ℕ). laid n at xs) (omega arith)

pub short_names : (p : ℕ) (es : List (List ℕ × Entry)) → p < 2 ^ 32 → All IsDirectoryEntry es → IsFirstNameShort (map of_entry es)
short_names p es low all = short_after [] (of_parent p) (map of_entry es) (all_Fit p es low all)

-- what was read is a directory
pub directory_found : (first size parent : ℕ) (entries : List (List ℕ × Entry)) (blocks : List (List ℕ)) (fids : Fids)
    → IsRead (take size (concat blocks)) first (identifiers parent entries) fids → parent < 2 ^ 32 → All IsDirectoryEntry entries → length entries ≤ DIRECTORY_NAMES
    → IsDistinct (pointwise nat_eq) (keys_of entries) → length fids.«data».now ≡ 0 → length (take size (concat blocks)) ≡ size
    → length blocks ≡ block_count size → drop size (concat blocks) ≡ replicate (2048 * length blocks - size) 0
    → IsDirectory parent entries first size blocks
directory_found first size parent entries blocks fids r low all few apart none sized count tail =
    let end : fids.«data».now ≡ laid (first + fids.index) fids.at [] = nil_from_length fids.«data».now none ∙ sym (laid-nil (first + fids.index) fids.at) in
    let whole : take size (concat blocks) ≡ laid first 0 (identifiers parent entries) =
    r.sound [] (λ y t e. absurd (cc)) end (inr refl) ∙ ap (laid first 0) (append-nil (identifiers parent entries)) in
    record {
      parent_fits = low;
      few = few;
      named = all;
      distinct = apart;
      size_is = sym sized ∙ ap length whole;
      bytes =
          sym (take-append-drop size (concat blocks)) ∙ ap (λ (t : List ℕ). t ++ drop size (concat blocks)) whole
          ∙ ap (λ (t : List ℕ). laid first 0 (identifiers parent entries) ++ t) (tail ∙ ap (λ (n : ℕ). replicate (2048 * n - size) 0) count);
    }
