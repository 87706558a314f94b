-- Identifiers as bytes that are kept from one layout to the next.
use Rattle.std.proofs.Common.{◌≡◌, ℕ, suc, ◌+◌, ◌-◌, ◌<◌, ◌≤◌, List, [], ◌∷◌, ◌++◌, length, map, take, drop, get_or, Some, zero, refl, sym, ap, subst, ◌∙◌, arith, inl, inr}
use Rattle.std.specs.Prelude.{◌⊎◌, if◌then◌else◌, slice_get}
use Rattle.std.specs.List.{All, flat_map, remove, sum_by}
use Rattle.std.specs.Map.{values_of}
use Rattle.std.proofs.lemmas.Grind.{flat_map-append}
use Rattle.std.proofs.Math.Bridge.{le_prop}
use Rattle.std.proofs.Math.Logic.{∥∥₁_elim, ∥∥₁_map}
use Rattle.std.proofs.Props.{props}
use Rattle.std.proofs.lemmas.List.Elements.{All-append, All-drop, All-more, All-take}
use Rattle.std.proofs.lemmas.List.Sums.{count_by-le-length, sum_by-append}
use Rattle.std.proofs.lemmas.Map.Entries.{length-values_of}
use Rattle.std.proofs.lemmas.Str.{IsUtf8-had}
use Rattle.std.proofs.lemmas.List.{drop_all, drop_at, drop-map, map-append, take-append-drop, take-append-le, take-map, take-take, take_all, take_at, length-append, length-drop, length-take, length-map, get_or-take}
use Rattle.std.proofs.lemmas.Option.{slice_get_within, slice_get-get_or, get_or_from_slice_get}
use Rattle.osta.specs.Compressed.{compressed}
use Rattle.osta.proofs.Names.{name_few}
use Rattle.ecma.proofs.Writing.{flat_map_more}
use Rattle.dir.specs.declared.entry.Entry.{Entry}
use Rattle.dir.specs.declared.kept.Identifiers.{Identifiers}
use Rattle.dir.specs.Directory.{identifiers, of_name, is_directory, directory_count, IsDirectoryEntry}
use Rattle.dir.specs.Identifier.{Identifier, plain_size}
use Rattle.dir.specs.Fronts.{plain, named, AreLeft, IsEntryInRange, IsIdentifierPrefix}
use Rattle.dir.specs.Size.{End, end_of_data, next_end, data_end, name_sizes, plain_sizes}
use Rattle.dir.proofs.Filling.{drop_some}
use Rattle.dir.proofs.Sized.{end_more, full_more}
use Rattle.dir.proofs.Spelled.{length-identifier}

named_at : (entries : List (List ℕ × Entry)) (i : ℕ) (e : List ℕ × Entry) → slice_get entries i ≡ Some e → slice_get (named entries) i ≡ Some (of_name e.0 e.1)
named_at [] i e found = absurd (cc)
named_at (x ∷ xs) zero e found = let same : x ≡ e = cc in ap (λ (y : List ℕ × Entry). Some (of_name y.0 y.1)) same
named_at (x ∷ xs) (suc i) e found = named_at xs i e found

-- the bytes of one identifier more
named_more : (entries : List (List ℕ × Entry)) (i : ℕ) (e : List ℕ × Entry) (x : Identifier) → slice_get entries i ≡ Some e → x ≡ of_name e.0 e.1
    → flat_map plain (take (i + 1) (named entries)) ≡ flat_map plain (take i (named entries)) ++ plain x
named_more entries i e x found says =
    let within = slice_get_within entries i e found in
    let many = length-map entries (λ (y : List ℕ × Entry). of_name y.0 y.1) in
    let at : get_or (named entries) i x ≡ x = get_or_from_slice_get (named entries) i (of_name e.0 e.1) x (named_at entries i e found) ∙ sym says in
    flat_map_more plain (named entries) i x (omega arith) ∙ ap (λ (y : Identifier). flat_map plain (take i (named entries)) ++ plain y) at

pub size_more : (entries : List (List ℕ × Entry)) (i : ℕ) (e : List ℕ × Entry) (x : Identifier) → slice_get entries i ≡ Some e → x ≡ of_name e.0 e.1
    → length (flat_map plain (take (i + 1) (named entries))) ≡ length (flat_map plain (take i (named entries))) + plain_size (length x.name)
size_more entries i e x found says =
    omega (arith, ap length (named_more entries i e x found says), length-append (flat_map plain (take i (named entries))) (plain x), length-identifier 0 0 x)

-- what holds of a prefix of items holds of one more
pub all_more : {X : Type 0} (P : X → Type 0) (xs : List X) (i : ℕ) (x : X) → slice_get xs i ≡ Some x → P x → All P (take i xs) → All P (take (i + 1) xs)
all_more P xs i x found is all = All-more P xs i x (slice_get_within xs i x found) all (subst P (sym (get_or_from_slice_get xs i x x found)) is)

-- a prefix in two parts round one of its items
front_parts : {X : Type 0} (xs : List X) (i n : ℕ) (x : X) → slice_get xs i ≡ Some x → i < n → take n xs ≡ take i xs ++ (x ∷ drop (suc i) (take n xs))
front_parts [] i n x found less = absurd (cc)
front_parts (y ∷ xs) i zero x found less = absurd (omega arith)
front_parts (y ∷ xs) zero (suc n) x found less = let same : y ≡ x = cc in ap (λ z. z ∷ take n xs) same
front_parts (y ∷ xs) (suc i) (suc n) x found less = ap (λ zs. y ∷ zs) (front_parts xs i n x found (omega arith))

-- and where that item is taken away
front_rest : {X : Type 0} (xs : List X) (i m : ℕ) → i < suc m → suc m ≤ length xs → take m (remove xs i) ≡ take i xs ++ drop (suc i) (take (suc m) xs)
front_rest [] i m less few = absurd (omega arith)
front_rest (y ∷ xs) zero m less few = refl
front_rest (y ∷ xs) (suc i) zero less few = absurd (omega arith)
front_rest (y ∷ xs) (suc i) (suc m) less few = ap (λ zs. y ∷ zs) (front_rest xs i m (omega arith) (omega arith))

front_removed : {X : Type 0} (xs : List X) (i m n : ℕ) → m + 1 ≡ n → i < n → n ≤ length xs → take m (remove xs i) ≡ take i xs ++ drop (suc i) (take n xs)
front_removed xs i m n next less few =
    let same : suc m ≡ n = omega arith in
    front_rest xs i m (omega arith) (omega arith) ∙ ap (λ (k : ℕ). take i xs ++ drop (suc i) (take k xs)) same

-- the items that are left where one is taken away
pub without_before : {X : Type 0} (xs : List X) (i k : ℕ) (x : X) → k < i → slice_get xs k ≡ Some x → slice_get (remove xs i) k ≡ Some x
without_before [] i k x less found = absurd (cc)
without_before (y ∷ xs) zero k x less found = absurd (omega (arith, less))
without_before (y ∷ xs) (suc i) zero x less found = found
without_before (y ∷ xs) (suc i) (suc k) x less found = without_before xs i k x (omega (arith, less)) found

pub without_after : {X : Type 0} (xs : List X) (i k : ℕ) (x : X) → i ≤ k → slice_get xs (suc k) ≡ Some x → slice_get (remove xs i) k ≡ Some x
without_after [] i k x less found = absurd (cc)
without_after (y ∷ xs) zero k x less found = found
without_after (y ∷ xs) (suc i) zero x less found = absurd (omega (arith, less))
without_after (y ∷ xs) (suc i) (suc k) x less found = without_after xs i k x (omega (arith, less)) found

-- ---- directories among names

directories-append : (es fs : List (List ℕ × Entry)) → directory_count (es ++ fs) ≡ directory_count es + directory_count fs
directories-append es fs =
    let one = λ (e : Entry). if is_directory e.kind then 1 else 0 in
    ap (λ (xs : List Entry). sum_by one xs) (map-append (λ (e : List ℕ × Entry). e.1) es fs) ∙ sum_by-append one (values_of es) (values_of fs)

pub directories_more : (es : List (List ℕ × Entry)) (i : ℕ) (e : List ℕ × Entry) → slice_get es i ≡ Some e
    → directory_count (take (i + 1) es) ≡ directory_count (take i es) + (if is_directory e.1.kind then 1 else 0)
directories_more es i e found =
    let none : drop (suc i) (take (i + 1) es) ≡ [] = drop_all (suc i) (take (i + 1) es) (omega (arith, length-take (i + 1) es)) in
    let parts = front_parts es i (i + 1) e found (omega arith) ∙ ap (λ (xs : List (List ℕ × Entry)). take i es ++ (e ∷ xs)) none in
    omega (arith, ap directory_count parts, directories-append (take i es) (e ∷ []))

directories_without : (es : List (List ℕ × Entry)) (i m n : ℕ) (e : List ℕ × Entry) → slice_get es i ≡ Some e → m + 1 ≡ n → i < n → n ≤ length es
    → directory_count (take n es) ≡ directory_count (take m (remove es i)) + (if is_directory e.1.kind then 1 else 0)
directories_without es i m n e found next less few =
    let rest = drop (suc i) (take n es) in
    omega (
      arith,
      ap directory_count (front_parts es i n e found less),
      directories-append (take i es) (e ∷ rest),
      directories-append (e ∷ []) rest,
      ap directory_count (front_removed es i m n next less few),
      directories-append (take i es) rest,
    )

-- ---- prefixes

-- not more of them are of directories than there are
pub front_directories : (entries : List (List ℕ × Entry)) (ids : Identifiers) → IsIdentifierPrefix ids entries → ids.directories ≤ ids.count
front_directories entries ids front =
    omega (
      arith,
      front.directories,
      count_by-le-length (λ (e : Entry). is_directory e.kind) (values_of (take ids.count entries)),
      length-values_of (take ids.count entries),
      length-take ids.count entries,
    )

-- one identifier more is kept
pub front_more : (entries : List (List ℕ × Entry)) (ids new : Identifiers) (e : List ℕ × Entry) → IsIdentifierPrefix ids entries → slice_get entries ids.count ≡ Some e → IsDirectoryEntry e
    → new.bytes.items ≡ ids.bytes.items ++ plain (of_name e.0 e.1) → new.count ≡ ids.count + 1 → end_of_data new.size ≡ next_end (end_of_data ids.size) (length (compressed e.0))
    → new.directories ≡ ids.directories + (if is_directory e.1.kind then 1 else 0) → IsIdentifierPrefix new entries
front_more entries ids new e front found is bytes count size directories =
    let within = slice_get_within entries ids.count e found in
    let full = full_more (end_of_data ids.size) (name_sizes entries) ids.count (length (compressed e.0)) (name_few e.0 is.name) front.size front.full in
    record {
      few = omega arith;
      proper = subst (λ (n : ℕ). All IsEntryInRange (take n entries)) (sym count) (all_more IsEntryInRange entries ids.count e found ∣ is ∣₁ front.proper);
      bytes =
          bytes ∙ ap (λ (t : List ℕ). t ++ plain (of_name e.0 e.1)) front.bytes ∙ sym (named_more entries ids.count e (of_name e.0 e.1) found refl)
          ∙ ap (λ (n : ℕ). flat_map plain (take n (named entries))) (sym count);
      size =
          size ∙ ap (λ (n : End). next_end n (length (compressed e.0))) front.size ∙ sym (end_more entries ids.count e found)
          ∙ ap (λ (n : ℕ). data_end (take n (name_sizes entries))) (sym count);
      full = omega (arith, count, ap (λ (n : End). n.full) size, full);
      directories = omega (arith, directories, front.directories, directories_more entries ids.count e found, ap (λ (n : ℕ). directory_count (take n entries)) count);
    }

-- a prefix of names is one of others that begin with the same
front_same : (entries others : List (List ℕ × Entry)) (ids : Identifiers) → IsIdentifierPrefix ids entries → ids.count ≤ length others → take ids.count entries ≡ take ids.count others → IsIdentifierPrefix ids others
front_same entries others ids front few same =
    let n = ids.count in
    let id = λ (e : List ℕ × Entry). of_name e.0 e.1 in
    let size = λ (e : List ℕ × Entry). length (compressed e.0) in
    let names : take n (named entries) ≡ take n (named others) = take-map id n entries ∙ ap (map id) same ∙ sym (take-map id n others) in
    let sizes : take n (name_sizes entries) ≡ take n (name_sizes others) = take-map size n entries ∙ ap (map size) same ∙ sym (take-map size n others) in
    record {
      few = few;
      proper = subst (λ (es : List (List ℕ × Entry)). All IsEntryInRange es) same front.proper;
      bytes = front.bytes ∙ ap (flat_map plain) names;
      size = front.size ∙ ap data_end sizes;
      full = front.full;
      directories = front.directories ∙ ap directory_count same;
    }

-- a prefix stays one where a name after it is taken away
pub front_before : (entries : List (List ℕ × Entry)) (ids : Identifiers) (i : ℕ) → IsIdentifierPrefix ids entries → ids.count ≤ i → i < length entries → IsIdentifierPrefix ids (remove entries i)
front_before entries ids i front before within =
    let front_long = length-take i entries in
    let rest_long = length-drop (suc i) entries in
    let same = take-append-le ids.count (take i entries) (drop (suc i) entries) (omega arith) ∙ take-take ids.count i entries before in
    front_same entries (remove entries i) ids front (omega (arith, length-append (take i entries) (drop (suc i) entries))) (sym same)

-- its bytes before and after one of its names
front_split : (entries : List (List ℕ × Entry)) (ids : Identifiers) (k : ℕ) → IsIdentifierPrefix ids entries → k ≤ ids.count
    → ids.bytes.items ≡ flat_map plain (take k (named entries)) ++ flat_map plain (drop k (take ids.count (named entries)))
front_split entries ids k front low =
    let n = named entries in
    let t = take ids.count n in
    front.bytes ∙ ap (flat_map plain) (sym (take-append-drop k t) ∙ ap (λ (x : List Identifier). x ++ drop k t) (take-take k ids.count n low))
    ∙ flat_map-append plain (take k n) (drop k t)

pub front_within : (entries : List (List ℕ × Entry)) (ids : Identifiers) (i : ℕ) → IsIdentifierPrefix ids entries → i < ids.count
    → length (flat_map plain (take (i + 1) (named entries))) ≤ length ids.bytes.items
front_within entries ids i front kept =
    let n = named entries in
    omega (arith, ap length (front_split entries ids (i + 1) front (omega arith)), length-append (flat_map plain (take (i + 1) n)) (flat_map plain (drop (i + 1) (take ids.count n))))

-- the identifiers of the names where one is taken away
named_without : (entries : List (List ℕ × Entry)) (i : ℕ) → named (remove entries i) ≡ remove (named entries) i
named_without entries i =
    let f = λ (e : List ℕ × Entry). of_name e.0 e.1 in
    map-append f (take i entries) (drop (suc i) entries) ∙ ap (λ (t : List Identifier). t ++ map f (drop (suc i) entries)) (sym (take-map f i entries))
    ∙ ap (λ (t : List Identifier). take i (named entries) ++ t) (sym (drop-map f (suc i) entries))

-- and where one of it is, the bytes of whose identifier are taken away
pub front_without : (entries : List (List ℕ × Entry)) (ids new : Identifiers) (i start end : ℕ) (e : List ℕ × Entry) → IsIdentifierPrefix ids entries → i < ids.count → slice_get entries i ≡ Some e
    → start ≡ length (flat_map plain (take i (named entries))) → end ≡ length (flat_map plain (take (i + 1) (named entries)))
    → new.bytes.items ≡ take start ids.bytes.items ++ drop end ids.bytes.items → new.count + 1 ≡ ids.count
    → end_of_data new.size ≡ data_end (take new.count (name_sizes (remove entries i))) → (end_of_data new.size).full ≤ new.count - 1
    → new.directories + (if is_directory e.1.kind then 1 else 0) ≡ ids.directories → IsIdentifierPrefix new (remove entries i)
front_without entries ids new i start end e front kept found starts ends bytes count size full directories =
    let n = named entries in
    let t = take ids.count n in
    let many = length-map entries (λ (x : List ℕ × Entry). of_name x.0 x.1) in
    let next : i + 1 ≡ suc i = omega arith in
    let before : take start ids.bytes.items ≡ flat_map plain (take i n) =
    ap (take start) (front_split entries ids i front (omega arith)) ∙ take_at (flat_map plain (take i n)) (flat_map plain (drop i t)) start (sym starts) in
    let after : drop end ids.bytes.items ≡ flat_map plain (drop (suc i) t) =
    ap (drop end) (front_split entries ids (i + 1) front (omega arith)) ∙ drop_at (flat_map plain (take (i + 1) n)) (flat_map plain (drop (i + 1) t)) end (sym ends)
    ∙ ap (λ (m : ℕ). flat_map plain (drop m t)) next in
    let names = ap (take new.count) (named_without entries i) ∙ front_removed n i new.count ids.count count kept (omega (arith, front.few)) in
    let left = front_removed entries i new.count ids.count count kept front.few in
    record {
      few = omega (arith, front.few, length-append (take i entries) (drop (suc i) entries), length-take i entries, length-drop (suc i) entries);
      proper = subst (λ (es : List (List ℕ × Entry)). All IsEntryInRange es) (sym left) (All-append IsEntryInRange (take i entries) (drop (suc i) (take ids.count entries)) first (All-drop IsEntryInRange (suc i) (take ids.count entries) front.proper));
      bytes =
          bytes ∙ ap (λ (b : List ℕ). b ++ drop end ids.bytes.items) before ∙ ap (λ (b : List ℕ). flat_map plain (take i n) ++ b) after
          ∙ sym (flat_map-append plain (take i n) (drop (suc i) t)) ∙ ap (flat_map plain) (sym names);
      size = size;
      full = full;
      directories = omega (arith, directories, front.directories, directories_without entries i new.count ids.count e found count kept front.few);
    }
  where
    first : All IsEntryInRange (take i entries)
    first = subst (λ (es : List (List ℕ × Entry)). All IsEntryInRange es) (take-take i ids.count entries (omega arith)) (All-take IsEntryInRange i (take ids.count entries) front.proper)

-- one of a prefix's names is of a directory, where it is
pub front_directory : (entries : List (List ℕ × Entry)) (ids : Identifiers) (i : ℕ) (e : List ℕ × Entry) → IsIdentifierPrefix ids entries → i < ids.count → slice_get entries i ≡ Some e
    → (if is_directory e.1.kind then 1 else 0) ≤ ids.directories
front_directory entries ids i e front kept found = omega (arith, front.directories, directories_without entries i (ids.count - 1) ids.count e found (omega arith) kept front.few)

-- a prefix stays one where names come after the others
pub front_longer : (entries more : List (List ℕ × Entry)) (ids : Identifiers) → IsIdentifierPrefix ids entries → IsIdentifierPrefix ids (entries ++ more)
front_longer entries more ids front =
    front_same entries (entries ++ more) ids front (omega (arith, front.few, length-append entries more)) (sym (take-append-le ids.count entries more front.few))

-- ---- a prefix of all names

entry_had : (e : List ℕ × Entry) → IsEntryInRange e → IsDirectoryEntry e
entry_had e said = record {
  name = record {
    utf8 = IsUtf8-had e.0 (∥∥₁_map said (λ (is : IsDirectoryEntry e). is.name.utf8));
    faultless = ∥∥₁_elim said (hlevel props) (λ (is : IsDirectoryEntry e). is.name.faultless);
  };
  icb = ∥∥₁_elim said le_prop (λ (is : IsDirectoryEntry e). is.icb);
  unique = ∥∥₁_elim said le_prop (λ (is : IsDirectoryEntry e). is.unique);
}

pub front_proper : (entries : List (List ℕ × Entry)) (ids : Identifiers) → IsIdentifierPrefix ids entries → ids.count ≡ length entries → All IsDirectoryEntry entries
front_proper entries ids front all k d lt = entry_had _ (subst (λ (es : List (List ℕ × Entry)). All IsEntryInRange es) (take_all ids.count entries (omega arith)) front.proper k d lt)

pub front_short : (entries : List (List ℕ × Entry)) (ids : Identifiers) → IsIdentifierPrefix ids entries → All (λ (e : List ℕ × Entry). length (compressed e.0) ≤ 255) (take ids.count entries)
front_short entries ids front k d lt = name_few _ (entry_had _ (front.proper k d lt)).name

length-named : (entries : List (List ℕ × Entry)) → length (flat_map plain (named entries)) ≡ plain_sizes (name_sizes entries)
length-named [] = refl
length-named (e ∷ es) = omega (arith, length-append (plain (of_name e.0 e.1)) (flat_map plain (named es)), length-identifier 0 0 (of_name e.0 e.1), length-named es)

-- its bytes are those of unlengthened identifiers
pub front_size : (entries : List (List ℕ × Entry)) (ids : Identifiers) → IsIdentifierPrefix ids entries → ids.count ≡ length entries → length ids.bytes.items ≡ plain_sizes (name_sizes entries)
front_size entries ids front all =
    let many = length-map entries (λ (e : List ℕ × Entry). of_name e.0 e.1) in
    ap length front.bytes ∙ ap (λ (xs : List Identifier). length (flat_map plain xs)) (take_all ids.count (named entries) (omega arith)) ∙ length-named entries

-- ---- identifiers that are left to be laid

later_next : (next : ℕ) → next + 1 - 1 ≡ next
later_next next = omega arith

-- no identifier that is kept is passed by the parent's, and after those that are kept
pub left_unknown : (known next : ℕ) (entries : List (List ℕ × Entry)) (bytes : List ℕ) → (next ≡ 0) ⊎ (known < next) → AreLeft known next entries bytes → AreLeft known (next + 1) entries bytes
left_unknown known next entries bytes over left =
    let rest = take known (named entries) in
    let long = length-take known (named entries) in
    let same : drop (next - 1) rest ≡ drop next rest = elim over [
      | inl none ↦ ap (λ (n : ℕ). drop (n - 1) rest) none ∙ ap (λ (n : ℕ). drop n rest) (sym none)
      | inr past ↦ drop_all (next - 1) rest (omega arith) ∙ sym (drop_all next rest (omega arith))
    ] in
    left ∙ ap (flat_map plain) (same ∙ ap (λ (n : ℕ). drop n rest) (sym (later_next next)))

known_first : (known next parent : ℕ) (entries : List (List ℕ × Entry)) (x : Identifier) → 0 < next → next ≤ known → slice_get (identifiers parent entries) next ≡ Some x
    → drop (next - 1) (take known (named entries)) ≡ x ∷ drop next (take known (named entries))
known_first known zero parent entries x some few there = absurd (omega arith)
known_first known (suc n) parent entries x some few there =
    let inside : n < length (named entries) = slice_get_within (named entries) n x there in
    let long = length-take known (named entries) in
    let at : get_or (take known (named entries)) n x ≡ x = get_or-take known (named entries) n x (omega arith) ∙ get_or_from_slice_get (named entries) n x x there in
    let front : slice_get (take known (named entries)) n ≡ Some x = slice_get-get_or (take known (named entries)) n x (omega arith) ∙ ap Some at in
    let before : suc n - 1 ≡ n = omega arith in
    ap (λ (m : ℕ). drop m (take known (named entries))) before ∙ drop_some (take known (named entries)) n x front

-- what is left begins with the next identifier, where it is kept
pub left_known : (known next parent : ℕ) (entries : List (List ℕ × Entry)) (x : Identifier) (bytes : List ℕ) → 0 < next → next ≤ known → slice_get (identifiers parent entries) next ≡ Some x
    → AreLeft known next entries bytes → bytes ≡ plain x ++ flat_map plain (drop next (take known (named entries)))
left_known known next parent entries x bytes some few there left = left ∙ ap (flat_map plain) (known_first known next parent entries x some few there)

pub left_within : (x : Identifier) (rest bytes : List ℕ) (size : ℕ) → size ≡ plain_size (length x.name) → bytes ≡ plain x ++ rest → size ≤ length bytes
left_within x rest bytes size is left = omega (arith, ap length left, length-append (plain x) rest, length-identifier 0 0 x)

pub left_taken : (x : Identifier) (rest bytes : List ℕ) (size : ℕ) → size ≡ plain_size (length x.name) → bytes ≡ plain x ++ rest → take size bytes ≡ plain x
left_taken x rest bytes size is left = ap (take size) left ∙ take_at (plain x) rest size (omega (arith, length-identifier 0 0 x))

-- and goes on after it
pub left_after : (known next : ℕ) (entries : List (List ℕ × Entry)) (x : Identifier) (bytes : List ℕ) (size : ℕ) → size ≡ plain_size (length x.name)
    → bytes ≡ plain x ++ flat_map plain (drop next (take known (named entries))) → AreLeft known (next + 1) entries (drop size bytes)
left_after known next entries x bytes size is left =
    let rest = flat_map plain (drop next (take known (named entries))) in
    ap (drop size) left ∙ drop_at (plain x) rest size (omega (arith, length-identifier 0 0 x))
    ∙ ap (λ (n : ℕ). flat_map plain (drop n (take known (named entries)))) (sym (later_next next))
