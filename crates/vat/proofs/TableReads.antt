-- A table keeps the rules, and its bytes say what it says.
use Rattle.std.proofs.Common.{◌≡◌, ◌≢◌, ℕ, zero, suc, ◌+◌, ◌*◌, ◌^◌, ◌<◌, ◌≤◌, Bool, true, false, List, [], ◌∷◌, ◌++◌, length, take, drop, get_or, map, Option, Some, None, refl, sym, ap, subst, ◌∙◌, inl, inr, arith}
use Rattle.std.specs.Prelude.{IfSome, IsSome, IsNone, is_some, unwrap_or, ◌⊎◌, slice_get}
use Rattle.std.specs.List.{flat_map, AllByRecursion}
use Rattle.std.proofs.lemmas.List.{drop-drop, length-map, get_or-map, take_at, drop_at, length-append}
use Rattle.std.proofs.lemmas.List.Elements.{recursion_from_All}
use Rattle.std.proofs.lemmas.List.Sums.{count_by-le-length}
use Rattle.limits.specs.declared.TheConstants.{ADDRESSES}
use Rattle.ecma.specs.FirstFault.{AllHold}
use Rattle.ecma.specs.Numbers.{u16_at, u64_at}
use Rattle.ecma.proofs.Pieces.{concat_onto}
use Rattle.osta.specs.Dstring.{dstring}
use Rattle.vat.specs.declared.record.Record.{Record}
use Rattle.vat.specs.declared.table.Version.{Version}
use Rattle.vat.specs.declared.table.Version.TheVariants.{One, Two}
use Rattle.vat.specs.Version.{version_number, version_of, record_size}
use Rattle.vat.specs.Record.{record_bytes, IsKept}
use Rattle.vat.specs.Entry.{unused, entry_number, number_entry, entry_bytes, words}
use Rattle.vat.specs.Table.{Table, FitsTable, IsTable, IsTableAt, head_bytes, head_parts, middle_of, sessions_size}
use Rattle.vat.specs.Rules.{table_rules, version_at, count_at, commits_at, record_size_at, numbers_at, label_field, record_place, used_of, HasHeader, HasRecords, HasClients, HasEntries, HasCounts, DescribesTable, SaysRecords}
use Rattle.vat.proofs.Labels.{length-label, field_told, one_label}
use Rattle.vat.proofs.Areas.{length-pieces}
use Rattle.vat.proofs.Records.{records_sized, same_records}
use Rattle.vat.proofs.Entries.{entry_of-entry_number, entry_number-fits, entry_number-below, entries_again, words_again, number_there, used_numbers}
use Rattle.vat.proofs.Head.{ReadsHead, reads_head, length-head}
use Rattle.vat.proofs.TableLaws.{text_is, client_is}

use_small : (version : Version) (n : ℕ) → n ≤ 64 → 152 + sessions_size version n < 2 ^ 16
use_small One n le = omega arith
use_small Two n le = omega arith

number_small : (version : Version) → version_number version < 2 ^ 16
number_small One = omega arith
number_small Two = omega arith

version_again : (version : Version) → unwrap_or (version_of (version_number version)) One ≡ version
version_again One = refl
version_again Two = refl

version_there : (version : Version) → IsSome (version_of (version_number version))
version_there One = refl
version_there Two = refl

entries_sized : (es : List (Option ℕ)) → AllByRecursion (λ e. length (entry_bytes e) ≡ 4) es
entries_sized [] = tt
entries_sized (e ∷ es) = (refl, entries_sized es)

-- what a table that is not the first has before it
before : (previous : Option ℕ) (icb : ℕ) → is_some previous ≡ true → IfSome previous (λ p. p < icb) → entry_number previous < icb
before None icb some below = absurd cc
before (Some p) icb some below = below

nothing_before : (previous : Option ℕ) → IsNone previous → entry_number previous ≡ unused
nothing_before None none = refl
nothing_before (Some p) none = absurd cc

either : (b : Bool) → (b ≡ true) ⊎ (b ≡ false)
either true = inl refl
either false = inr refl

module _ (icb : ℕ) (t : Table) (bytes : List ℕ) (stands : IsTableAt icb t bytes) where
  fits : FitsTable t
  fits = stands.table.fits

  abbrev records : List ℕ
  records = flat_map (record_bytes t.version) t.records

  abbrev entries : List ℕ
  entries = flat_map entry_bytes t.entries

  kept : AllByRecursion (IsKept t.version t.commits) t.records
  kept = recursion_from_All (IsKept t.version t.commits) t.records fits.records

  sized : AllByRecursion (λ r. length (record_bytes t.version r) ≡ record_size t.version) t.records
  sized = records_sized t.version t.commits t.records kept

  below_unused : AllByRecursion (λ e. IfSome e (λ n. n < unused)) t.entries
  below_unused = recursion_from_All (λ e. IfSome e (λ n. n < unused)) t.entries fits.numbers

  records_long : length records ≡ record_size t.version * length t.records
  records_long = length-pieces (record_bytes t.version) (record_size t.version) t.records sized

  entries_long : length entries ≡ 4 * length t.entries
  entries_long = length-pieces entry_bytes 4 t.entries (entries_sized t.entries)

  few_nodes : 1 + (t.files + t.directories) ≤ ADDRESSES
  few_nodes = omega (arith, fits.used, fits.many, count_by-le-length is_some t.entries)

  pub head : ReadsHead (sessions_size t.version (length t.records)) (dstring 128 t.label) (entry_number t.previous) t.files t.directories (version_number t.version) (length t.records) t.next_unique t.commits (records ++ entries) bytes
  head =
      reads_head (sessions_size t.version (length t.records)) (dstring 128 t.label) (entry_number t.previous) t.files t.directories (version_number t.version) (length t.records) t.next_unique t.commits (records ++ entries) bytes
      (length-label t.label fits.label) (use_small t.version (length t.records) fits.clients) (entry_number-fits t.previous fits.previous) (omega (arith, few_nodes)) (omega (arith, few_nodes)) (number_small t.version) (omega (arith, fits.clients)) fits.next_unique_fits fits.commits
      (stands.table.whole ∙ concat_onto (head_parts (sessions_size t.version (length t.records)) (dstring 128 t.label) (middle_of t)) (records ++ entries))

  version : version_at bytes ≡ t.version
  version = ap (λ (n : ℕ). unwrap_or (version_of n) One) head.version_is ∙ version_again t.version

  size : record_size_at bytes ≡ record_size t.version
  size = ap record_size version

  product : record_size_at bytes * count_at bytes ≡ record_size t.version * length t.records
  product = ap (λ (n : ℕ). n * count_at bytes) size ∙ ap (λ (n : ℕ). record_size t.version * n) head.count_is

  place : u16_at 0 bytes ≡ 196 + record_size t.version * length t.records
  place = omega (arith, head.header)

  numbers : numbers_at bytes ≡ map entry_number t.entries
  numbers =
      ap words (ap (λ (n : ℕ). drop n bytes) place ∙ sym (drop-drop (record_size t.version * length t.records) 196 bytes)
      ∙ ap (drop (record_size t.version * length t.records)) head.after ∙ drop_at records entries (record_size t.version * length t.records) records_long)
      ∙ words_again t.entries below_unused

  numbers_long : length (numbers_at bytes) ≡ length t.entries
  numbers_long = ap length numbers ∙ length-map t.entries entry_number

  kept_there : AllByRecursion (IsKept (version_at bytes) (commits_at bytes)) t.records
  kept_there =
      subst (λ (v : Version). AllByRecursion (IsKept v (commits_at bytes)) t.records) (sym version)
      (subst (λ (n : ℕ). AllByRecursion (IsKept t.version n) t.records) (sym head.commits_are) kept)

  says_records : SaysRecords t.records bytes
  says_records = record {
    count = sym head.count_is;
    kept = kept_there;
    whole = ap (λ (v : Version). flat_map (record_bytes v) t.records) version
        ∙ sym (take_at records entries (record_size t.version * length t.records) records_long)
        ∙ ap (take (record_size t.version * length t.records)) (sym head.after)
        ∙ ap (λ (n : ℕ). take n (drop 196 bytes)) (sym product);
  }

  pub says : DescribesTable t bytes
  says = record {
    label = field_told t.label (label_field bytes) fits.label head.label_is;
    previous = sym (entry_of-entry_number t.previous fits.previous) ∙ ap number_entry (sym head.previous_is);
    files = sym head.files_are;
    directories = sym head.directories_are;
    version = sym version;
    next_unique = sym head.next_is;
    commits = sym head.commits_are;
    records = says_records;
    entries = sym (entries_again t.entries below_unused) ∙ ap (map number_entry) (sym numbers);
  }

  has_header : HasHeader icb bytes
  has_header = record {
    long = omega (arith, head.long);
    header = omega (arith, head.header, head.implementation_use);
    records = omega (arith, head.implementation_use, product);
    whole = omega (arith, place, head.long, length-append records entries, records_long);
    entries = omega (arith, place, head.long, length-append records entries, records_long, entries_long);
    reserved = head.reserved;
    first = λ none_yet. head.previous_is ∙ nothing_before t.previous (fits.first.1 (sym head.commits_are ∙ none_yet));
    previous = λ some. elim (either (is_some t.previous)) [
      | inl has ↦ omega (arith, head.previous_is, before t.previous icb has stands.previous)
      | inr none ↦ absurd (some (head.commits_are ∙ fits.first.0 none))
    ];
  }

  has_records : HasRecords bytes
  has_records = record {
    identifier = head.identifier;
    version = subst (λ (n : ℕ). IsSome (version_of n)) (sym head.version_is) (version_there t.version);
    clients = omega (arith, head.count_is, fits.clients);
    each = λ i lt.
        let low : i < length t.records = omega (arith, lt, head.count_is) in
        let d : Record = record { client = 0; latest = 0; replies = [] } in
        let text = text_is t bytes entries i d version sized head.after low in
        let is : IsKept (version_at bytes) (commits_at bytes) (get_or t.records i d) =
        subst (λ (v : Version). IsKept v (commits_at bytes) (get_or t.records i d)) (sym version)
        (subst (λ (n : ℕ). IsKept t.version n (get_or t.records i d)) (sym head.commits_are) (fits.records i d low)) in
        record { kept = get_or t.records i d; is_kept = is; whole = text ∙ ap (λ (v : Version). record_bytes v (get_or t.records i d)) (sym version) };
  }

  has_clients : HasClients bytes
  has_clients i j lt end same =
      let d : Record = record { client = 0; latest = 0; replies = [] } in
      let high : j < length t.records = omega (arith, end, head.count_is) in
      let low : i < length t.records = omega arith in
      let here : (k : ℕ) → k < length t.records → u64_at (record_place bytes k) bytes ≡ (get_or t.records k d).client =
      λ k there. client_is t bytes entries k d version sized head.after (fits.records k d there).client_fits there in
      fits.distinct i j d lt high (sym (here i low) ∙ same ∙ here j high)

  -- the file set and the root have numbers
  there : (i number : ℕ) → slice_get t.entries i ≡ Some (Some number) → get_or (numbers_at bytes) i 0 ≡ number
  there i number used = ap (λ (ns : List ℕ). get_or ns i 0) numbers ∙ number_there t.entries i number used

  number_at : (i : ℕ) → i < length t.entries → get_or (numbers_at bytes) i 0 ≡ entry_number (get_or t.entries i None)
  number_at i lt = ap (λ (ns : List ℕ). get_or ns i 0) numbers ∙ get_or-map entry_number t.entries i None 0 lt

  not_unused : (i number : ℕ) → i < length t.entries → slice_get t.entries i ≡ Some (Some number) → get_or (numbers_at bytes) i 0 ≢ unused
  not_unused i number lt used e =
      let is : get_or t.entries i None ≡ Some number = get_of t.entries i number used in
      let below = subst (λ (x : Option ℕ). IfSome x (λ n. n < unused)) is (fits.numbers i None lt) in
      omega (arith, below, e, there i number used)
    where
      get_of : (es : List (Option ℕ)) (i number : ℕ) → slice_get es i ≡ Some (Some number) → get_or es i None ≡ Some number
      get_of [] i number e = absurd cc
      get_of (x ∷ es) zero number e = cc
      get_of (x ∷ es) (suc i) number e = get_of es i number e

  has_entries : HasEntries icb bytes
  has_entries i lt =
      let low : i < length t.entries = omega (arith, lt, numbers_long) in
      elim (entry_number-below (get_or t.entries i None) icb (stands.entries i None low)) [
        | inl below ↦ inl (omega (arith, below, number_at i low))
        | inr none ↦
            let is : get_or (numbers_at bytes) i 0 ≡ unused = number_at i low ∙ none in
            inr (is, at_least_two i low is)
      ]
    where
      at_least_two : (i : ℕ) → i < length t.entries → get_or (numbers_at bytes) i 0 ≡ unused → 2 ≤ i
      at_least_two zero low is = absurd (not_unused 0 fits.file_set.0 low fits.file_set.1 is)
      at_least_two (suc zero) low is = absurd (not_unused 1 fits.root.0 low fits.root.1 is)
      at_least_two (suc (suc i)) low is = omega arith

  has_counts : HasCounts bytes
  has_counts = record {
    few = omega (arith, numbers_long, fits.few);
    many = omega (arith, numbers_long, fits.many);
    used = ap used_of numbers ∙ used_numbers t.entries below_unused ∙ omega (arith, fits.used, head.files_are, head.directories_are);
    next_unique = omega (arith, head.next_is, fits.next_unique);
  }

  pub rules_hold : AllHold (table_rules icb bytes)
  rules_hold = (has_header, (record { label = t.label; spelled = says.label }, (head.revisions, (has_records, (has_clients, (has_entries, (has_counts, tt)))))))

-- ---- one table

abbrev tabled : List ℕ → Option ℕ → ℕ → ℕ → Version → ℕ → ℕ → List Record → List (Option ℕ) → Table
tabled label previous files directories version next commits records entries =
    record { label = label; previous = previous; files = files; directories = directories; version = version; next_unique = next; commits = commits; records = records; entries = entries }

pub one_said : (t u : Table) (bytes : List ℕ) → commits_at bytes < 2 ^ 32 → DescribesTable t bytes → DescribesTable u bytes → t ≡ u
one_said t u bytes small a b =
    let same = same_records (version_at bytes) (commits_at bytes) t.records u.records small a.records.kept b.records.kept (a.records.count ∙ sym b.records.count) (a.records.whole ∙ sym b.records.whole) in
    ap (λ (x : List ℕ). tabled x t.previous t.files t.directories t.version t.next_unique t.commits t.records t.entries) (one_label t.label u.label (label_field bytes) a.label b.label)
    ∙ ap (λ (x : Option ℕ). tabled u.label x t.files t.directories t.version t.next_unique t.commits t.records t.entries) (a.previous ∙ sym b.previous)
    ∙ ap (λ (x : ℕ). tabled u.label u.previous x t.directories t.version t.next_unique t.commits t.records t.entries) (a.files ∙ sym b.files)
    ∙ ap (λ (x : ℕ). tabled u.label u.previous u.files x t.version t.next_unique t.commits t.records t.entries) (a.directories ∙ sym b.directories)
    ∙ ap (λ (x : Version). tabled u.label u.previous u.files u.directories x t.next_unique t.commits t.records t.entries) (a.version ∙ sym b.version)
    ∙ ap (λ (x : ℕ). tabled u.label u.previous u.files u.directories u.version x t.commits t.records t.entries) (a.next_unique ∙ sym b.next_unique)
    ∙ ap (λ (x : ℕ). tabled u.label u.previous u.files u.directories u.version u.next_unique x t.records t.entries) (a.commits ∙ sym b.commits)
    ∙ ap (λ (x : List Record). tabled u.label u.previous u.files u.directories u.version u.next_unique u.commits x t.entries) same
    ∙ ap (λ (x : List (Option ℕ)). tabled u.label u.previous u.files u.directories u.version u.next_unique u.commits u.records x) (a.entries ∙ sym b.entries)

pub one_table : (icb here : ℕ) (t u : Table) (bytes : List ℕ) → IsTableAt icb t bytes → IsTableAt here u bytes → t ≡ u
one_table icb here t u bytes a b =
    one_said t u bytes (omega (arith, (head icb t bytes a).commits_are, a.table.fits.commits)) (says icb t bytes a) (says here u bytes b)

-- ---- bounds

pub nodes_have_entries : (t : Table) → FitsTable t → (1 + (t.files + t.directories) ≤ length t.entries) × (length t.entries ≤ ADDRESSES)
nodes_have_entries t fits = (omega (arith, fits.used, count_by-le-length is_some t.entries), fits.many)

pub takes_so_many : (t : Table) (bytes : List ℕ) → IsTable t bytes → length bytes ≡ 196 + (record_size t.version * length t.records + 4 * length t.entries)
takes_so_many t bytes is =
    let rs = flat_map (record_bytes t.version) t.records in
    let es = flat_map entry_bytes t.entries in
    let front : length (head_bytes t) ≡ 196 =
    length-head (sessions_size t.version (length t.records)) (entry_number t.previous) t.files t.directories (version_number t.version) (length t.records) t.next_unique t.commits (dstring 128 t.label) (length-label t.label is.fits.label) in
    let kept = recursion_from_All (IsKept t.version t.commits) t.records is.fits.records in
    let records : length rs ≡ record_size t.version * length t.records = length-pieces (record_bytes t.version) (record_size t.version) t.records (records_sized t.version t.commits t.records kept) in
    let entries : length es ≡ 4 * length t.entries = length-pieces entry_bytes 4 t.entries (entries_sized t.entries) in
    ap length is.whole ∙ length-append (head_bytes t) (rs ++ es) ∙ omega (arith, front, length-append rs es, records, entries)

-- what is below an entry is below a later one
below_later : (e : Option ℕ) (icb later : ℕ) → icb ≤ later → IfSome e (λ n. n < icb) → IfSome e (λ n. n < later)
below_later None icb later le h = tt
below_later (Some n) icb later le h = omega arith

pub stands_later : (icb later : ℕ) (t : Table) (bytes : List ℕ) → icb ≤ later → IsTableAt icb t bytes → IsTableAt later t bytes
stands_later icb later t bytes le is = record {
  table = is.table;
  previous = below_later t.previous icb later le is.previous;
  entries = λ k d lt. below_later (get_or t.entries k d) icb later le (is.entries k d lt);
}
