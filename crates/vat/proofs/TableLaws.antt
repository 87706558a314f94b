-- Bytes that keep the rules are the table that they say.
use Rattle.std.proofs.Common.{◌≡◌, ◌≢◌, ℕ, ◌+◌, ◌-◌, ◌*◌, ◌%◌, ◌^◌, ◌<◌, ◌≤◌, Bool, true, false, cond, eqb, List, ◌++◌, length, take, drop, get_or, map, Option, Some, None, refl, sym, ap, subst, ◌∙◌, inl, inr, arith}
use Rattle.std.specs.Prelude.{IfSome, IsSome, IsNone, is_some, unwrap_or, ◌↔◌, All, AllPairs, count_by, slice_get}
use Rattle.std.specs.List.{concat, flat_map, AllByRecursion}
use Rattle.std.proofs.lemmas.Bool.{eqb-true, cases_eq}
use Rattle.std.proofs.lemmas.List.{take-append-drop, drop-drop, length-drop, length-take, length-map, get_or-map, get_or-drop}
use Rattle.std.proofs.lemmas.List.Elements.{All-from_recursion}
use Rattle.ecma.specs.Numbers.{u16_at, u32_at, u64_at}
use Rattle.ecma.proofs.Pieces.{concat_onto, IsBytes}
use Rattle.osta.specs.Dstring.{dstring}
use Rattle.vat.specs.declared.record.Record.{Record}
use Rattle.vat.specs.declared.table.Version.{Version}
use Rattle.vat.specs.declared.table.Version.TheVariants.{One, Two}
use Rattle.vat.specs.Version.{version_number, version_of, record_size}
use Rattle.vat.specs.Record.{record_bytes, IsKept}
use Rattle.vat.specs.Entry.{unused, entry_number, number_entry, entry_bytes}
use Rattle.vat.specs.Table.{Table, FitsTable, IsTableAt, table_bytes, head_parts, middle_parts, sessions_size}
use Rattle.vat.specs.Rules.{version_at, count_at, commits_at, record_size_at, numbers_at, label_field, record_place, record_text, HasHeader, HasRevisions, HasRecords, HasClients, AreNumbers, HasCounts, DescribesTable}
use Rattle.vat.proofs.Labels.{length-label, field_is}
use Rattle.vat.proofs.Areas.{piece_at}
use Rattle.vat.proofs.Words.{u64_at-drop, u64_at-take, u32_at-fits}
use Rattle.vat.proofs.Records.{records_sized, client_again}
use Rattle.vat.proofs.Entries.{entry_number-entry_of, bytes_again, entry_of-below, entry_of-used, entry_there, used_again}
use Rattle.vat.proofs.Head.{ReadsHead, head_again}

IsBytes-drop : (n : ℕ) (bytes : List ℕ) → IsBytes bytes → IsBytes (drop n bytes)
IsBytes-drop n bytes fits i = rw (get_or-drop n bytes i 0) (fits (n + i))

-- the number of a version that is known is the version's
numbered : (n : ℕ) (a b : Bool) → (a ≡ true → n ≡ 1) → (b ≡ true → n ≡ 2) → IsSome (cond a (Some One) (cond b (Some Two) None))
    → n ≡ version_number (unwrap_or (cond a (Some One) (cond b (Some Two) None)) One)
numbered n true b one two known = one refl
numbered n false true one two known = two refl
numbered n false false one two known = absurd cc

version_known : (n : ℕ) → IsSome (version_of n) → n ≡ version_number (unwrap_or (version_of n) One)
version_known n known = numbered n (eqb n 1) (eqb n 2) (eqb-true n 1) (eqb-true n 2) known

-- the bytes from numbers that are the table's
assembled : (t : Table) (size previous version count : ℕ) (bytes : List ℕ) → size ≡ sessions_size t.version (length t.records) → previous ≡ entry_number t.previous → version ≡ version_number t.version → count ≡ length t.records
    → bytes ≡ concat (head_parts size (dstring 128 t.label) (middle_parts previous t.files t.directories version count t.next_unique t.commits)) ++ (flat_map (record_bytes t.version) t.records ++ flat_map entry_bytes t.entries)
    → bytes ≡ table_bytes t
assembled t size previous version count bytes size-is previous-is version-is count-is all = rw (← size-is, ← previous-is, ← version-is, ← count-is) all

-- what is after the head
rest_is : (t : Table) (bytes : List ℕ) (size : ℕ) → IsBytes bytes → u16_at 0 bytes ≡ 196 + size → u16_at 0 bytes ≤ length bytes → (length bytes - u16_at 0 bytes) % 4 ≡ 0
    → flat_map (record_bytes t.version) t.records ≡ take size (drop 196 bytes) → t.entries ≡ map number_entry (numbers_at bytes)
    → drop 196 bytes ≡ flat_map (record_bytes t.version) t.records ++ flat_map entry_bytes t.entries
rest_is t bytes size fits header long fourth records entries =
    let place : 196 + size ≡ u16_at 0 bytes = omega arith in
    let area = drop (u16_at 0 bytes) bytes in
    let back : drop size (drop 196 bytes) ≡ flat_map entry_bytes t.entries =
    drop-drop size 196 bytes ∙ ap (λ (n : ℕ). drop n bytes) place
    ∙ sym (bytes_again area (IsBytes-drop (u16_at 0 bytes) bytes fits) (omega (arith, fourth, length-drop (u16_at 0 bytes) bytes)))
    ∙ ap (flat_map entry_bytes) (sym entries) in
    sym (take-append-drop size (drop 196 bytes)) ∙ ap (λ (x : List ℕ). x ++ drop size (drop 196 bytes)) (sym records) ∙ ap (λ (x : List ℕ). flat_map (record_bytes t.version) t.records ++ x) back

-- the bytes of a record, and the client before them
pub text_is : (t : Table) (bytes rest : List ℕ) (i : ℕ) (d : Record) → version_at bytes ≡ t.version → AllByRecursion (λ r. length (record_bytes t.version r) ≡ record_size t.version) t.records
    → drop 196 bytes ≡ flat_map (record_bytes t.version) t.records ++ rest → i < length t.records → record_text bytes i ≡ record_bytes t.version (get_or t.records i d)
text_is t bytes rest i d version sized after lt =
    let size : record_size_at bytes ≡ record_size t.version = ap record_size version in
    let place : drop (record_place bytes i) bytes ≡ drop (record_size t.version * i) (flat_map (record_bytes t.version) t.records ++ rest) =
    sym (drop-drop (record_size_at bytes * i) 196 bytes) ∙ ap (λ (n : ℕ). drop (n * i) (drop 196 bytes)) size ∙ ap (drop (record_size t.version * i)) after in
    ap (λ (n : ℕ). take n (drop (record_place bytes i) bytes)) size ∙ ap (take (record_size t.version)) place
    ∙ piece_at (record_bytes t.version) (record_size t.version) t.records rest i d sized lt

wide : (version : Version) → 8 ≤ record_size version
wide One = omega arith
wide Two = omega arith

pub client_is : (t : Table) (bytes rest : List ℕ) (i : ℕ) (d : Record) → version_at bytes ≡ t.version → AllByRecursion (λ r. length (record_bytes t.version r) ≡ record_size t.version) t.records
    → drop 196 bytes ≡ flat_map (record_bytes t.version) t.records ++ rest → (get_or t.records i d).client < 2 ^ 64 → i < length t.records → u64_at (record_place bytes i) bytes ≡ (get_or t.records i d).client
client_is t bytes rest i d version sized after fits lt =
    sym (u64_at-drop (record_place bytes i) bytes) ∙ sym (u64_at-take (record_size_at bytes) (drop (record_place bytes i) bytes) (wide (version_at bytes)))
    ∙ ap (u64_at 0) (text_is t bytes rest i d version sized after lt) ∙ client_again t.version (get_or t.records i d) fits

module _ (icb : ℕ) (t : Table) (bytes : List ℕ) (small : icb < 2 ^ 32) (fits : IsBytes bytes) (header : HasHeader icb bytes) (revisions : HasRevisions bytes) (kept : HasRecords bytes) (clients : HasClients bytes)
    (entries : AreNumbers icb (numbers_at bytes)) (counts : HasCounts bytes) (says : DescribesTable t bytes) where
  version_is : u16_at 184 bytes ≡ version_number t.version
  version_is = version_known (u16_at 184 bytes) kept.version ∙ sym (ap version_number says.version)

  size_is : u16_at 2 bytes ≡ sessions_size t.version (length t.records)
  size_is = rw (says.version, says.records.count) header.records

  previous_is : u32_at 132 bytes ≡ entry_number t.previous
  previous_is = sym (ap entry_number says.previous ∙ entry_number-entry_of (u32_at 132 bytes))

  records_are : flat_map (record_bytes t.version) t.records ≡ take (record_size_at bytes * count_at bytes) (drop 196 bytes)
  records_are = ap (λ (v : Version). flat_map (record_bytes v) t.records) says.version ∙ says.records.whole

  label_long : length (dstring 128 t.label) ≡ 128
  label_long = length-label t.label says.label.label

  label_is : label_field bytes ≡ dstring 128 t.label
  label_is = field_is t.label (label_field bytes) (omega (arith, length-take 128 (drop 4 bytes), length-drop 4 bytes, header.long)) says.label

  rest : drop 196 bytes ≡ flat_map (record_bytes t.version) t.records ++ flat_map entry_bytes t.entries
  rest = rest_is t bytes (record_size_at bytes * count_at bytes) fits (omega (arith, header.header, header.records)) header.whole header.entries records_are says.entries

  whole : bytes ≡ table_bytes t
  whole =
      let head : ReadsHead (u16_at 2 bytes) (dstring 128 t.label) (u32_at 132 bytes) t.files t.directories (u16_at 184 bytes) (count_at bytes) t.next_unique t.commits (drop 196 bytes) bytes = record {
        header = header.header;
        implementation_use = refl;
        label_is = label_is;
        previous_is = refl;
        files_are = sym says.files;
        directories_are = sym says.directories;
        revisions = revisions;
        reserved = header.reserved;
        identifier = kept.identifier;
        version_is = refl;
        count_is = refl;
        next_is = sym says.next_unique;
        commits_are = sym says.commits;
        after = refl;
        long = omega (arith, length-drop 196 bytes, header.long);
      } in
      let laid = head_again (u16_at 2 bytes) (dstring 128 t.label) (u32_at 132 bytes) t.files t.directories (u16_at 184 bytes) (count_at bytes) t.next_unique t.commits (drop 196 bytes) bytes fits label_long head in
      let all = laid ∙ sym (concat_onto (head_parts (u16_at 2 bytes) (dstring 128 t.label) (middle_parts (u32_at 132 bytes) t.files t.directories (u16_at 184 bytes) (count_at bytes) t.next_unique t.commits)) (drop 196 bytes)) in
      assembled t (u16_at 2 bytes) (u32_at 132 bytes) (u16_at 184 bytes) (count_at bytes) bytes size_is previous_is version_is (sym says.records.count)
      (all ∙ ap (λ (x : List ℕ). concat (head_parts (u16_at 2 bytes) (dstring 128 t.label) (middle_parts (u32_at 132 bytes) t.files t.directories (u16_at 184 bytes) (count_at bytes) t.next_unique t.commits)) ++ x) rest)

  kept_here : AllByRecursion (IsKept t.version t.commits) t.records
  kept_here =
      subst (λ (v : Version). AllByRecursion (IsKept v t.commits) t.records) (sym says.version)
      (subst (λ (n : ℕ). AllByRecursion (IsKept (version_at bytes) n) t.records) (sym says.commits) says.records.kept)

  kept_all : All (IsKept t.version t.commits) t.records
  kept_all = All-from_recursion (IsKept t.version t.commits) t.records kept_here

  clients_differ : AllPairs (λ a b. a.client ≢ b.client) t.records
  clients_differ i j d lt end same =
      let sized = records_sized t.version t.commits t.records kept_here in
      let here : (k : ℕ) → k < length t.records → u64_at (record_place bytes k) bytes ≡ (get_or t.records k d).client =
      λ k low. client_is t bytes (flat_map entry_bytes t.entries) k d (sym says.version) sized rest (kept_all k d low).client_fits low in
      let low : i < length t.records = omega arith in
      clients i j lt (omega (arith, end, says.records.count)) (here i low ∙ same ∙ sym (here j end))

  same_length : length t.entries ≡ length (numbers_at bytes)
  same_length = ap length says.entries ∙ length-map (numbers_at bytes) number_entry

  -- each number below a limit unless it is that of an unused entry
  all_below : (limit : ℕ) → ((i : ℕ) → i < length (numbers_at bytes) → get_or (numbers_at bytes) i 0 ≢ unused → get_or (numbers_at bytes) i 0 < limit) → All (λ e. IfSome e (λ n. n < limit)) t.entries
  all_below limit below k d lt =
      let low : k < length (numbers_at bytes) = omega (arith, lt, same_length) in
      let at : get_or t.entries k d ≡ number_entry (get_or (numbers_at bytes) k 0) = ap (λ (es : List (Option ℕ)). get_or es k d) says.entries ∙ get_or-map number_entry (numbers_at bytes) k 0 d low in
      subst (λ (e : Option ℕ). IfSome e (λ n. n < limit)) (sym at) (entry_of-below (get_or (numbers_at bytes) k 0) limit (below k low))

  below_icb : (i : ℕ) → i < length (numbers_at bytes) → get_or (numbers_at bytes) i 0 ≢ unused → get_or (numbers_at bytes) i 0 < icb
  below_icb i lt other = elim (entries i lt) [ inl below ↦ below | inr none ↦ absurd (other none.0) ]

  used_here : (i : ℕ) → i < 2 → (number : ℕ) × (slice_get t.entries i ≡ Some (Some number))
  used_here i lt =
      let low : i < length (numbers_at bytes) = omega (arith, lt, counts.few) in
      let other : get_or (numbers_at bytes) i 0 ≢ unused =
      λ e. elim (entries i low) [ inl below ↦ omega (arith, below, e) | inr none ↦ omega (arith, none) ] in
      (get_or (numbers_at bytes) i 0, ap (λ (es : List (Option ℕ)). slice_get es i) says.entries ∙ entry_there (numbers_at bytes) i low other)

  previous_below : (limit : ℕ) → (u32_at 132 bytes ≢ unused → u32_at 132 bytes < limit) → IfSome t.previous (λ p. p < limit)
  previous_below limit below = subst (λ (e : Option ℕ). IfSome e (λ p. p < limit)) (sym says.previous) (entry_of-below (u32_at 132 bytes) limit below)

  first_alone : IsNone t.previous ↔ (t.commits ≡ 0)
  first_alone = (
    λ none. elim (cases_eq (commits_at bytes) 0) [
      | inl none_yet ↦ says.commits ∙ none_yet
      | inr other ↦
          let below = header.previous other in
          let some : t.previous ≡ Some (u32_at 132 bytes) = says.previous ∙ entry_of-used (u32_at 132 bytes) (λ e. omega (arith, below, e)) in
          absurd (let yes = ap is_some some in cc)
    ],
    λ none_yet. ap is_some (says.previous ∙ ap number_entry (header.first (sym says.commits ∙ none_yet))),
  )

  pub fits_are : FitsTable t
  fits_are = record {
    label = says.label.label;
    first = first_alone;
    previous = previous_below unused (λ other. omega (arith, other, u32_at-fits 132 bytes fits));
    commits = omega (arith, says.commits, u32_at-fits 192 bytes fits);
    next_unique = omega (arith, says.next_unique, counts.next_unique);
    next_unique_fits = omega (arith, says.next_unique, u32_at-fits 188 bytes fits);
    clients = omega (arith, says.records.count, kept.clients);
    records = kept_all;
    distinct = clients_differ;
    few = omega (arith, same_length, counts.few);
    many = omega (arith, same_length, counts.many);
    numbers = all_below unused (λ i lt other. omega (arith, below_icb i lt other));
    file_set = used_here 0 (omega arith);
    root = used_here 1 (omega arith);
    used = ap (count_by is_some) says.entries ∙ used_again (numbers_at bytes) ∙ omega (arith, counts.used, says.files, says.directories);
  }

  pub is_table_at : IsTableAt icb t bytes
  is_table_at = record {
    table = record { fits = fits_are; whole = whole };
    previous = previous_below icb (λ other. elim (cases_eq (commits_at bytes) 0) [
      | inl none_yet ↦ absurd (other (header.first none_yet))
      | inr some ↦ header.previous some
    ]);
    entries = all_below icb below_icb;
  }
