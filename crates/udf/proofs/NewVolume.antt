-- What the encoders give is a format.
use Rattle.std.proofs.Common.{◌≡◌, ℕ, zero, suc, ◌+◌, ◌-◌, ◌<◌, ◌≤◌, List, [], ◌∷◌, ◌++◌, length, take, drop, replicate, Option, Some, refl, sym, ap, subst, ◌∙◌, arith, length-append, append-nil}
use Rattle.std.specs.Prelude.{All, IfSome}
use Rattle.std.proofs.lemmas.List.{drop-drop, drop_at, take_at, take-append-le, take_all}
use Rattle.std.proofs.lemmas.Option.{slice_get_within}
use Rattle.ecma.specs.Descriptor.{padded}
use Rattle.ecma.specs.Numbers.{u16_at}
use Rattle.model.specs.Graph.{as_stored}
use Rattle.model.specs.Graph.Body.{Entries}
use Rattle.durability.specs.Formats.{Block}
use Rattle.durability.specs.Formats.Kind.{Directory, Table}
use Rattle.durability.specs.Volume.{partition_start, extent, bytes_in_blocks, IsVatIcbAt, NoneImitates, IsStoredAt, HasTable}
use Rattle.durability.specs.Step.{IsFormat}
use Rattle.durability.proofs.Lists.{get_past}
use Rattle.durability.proofs.Mediums.{none_from, none-append}
use Rattle.vat.proofs.TableReads.{takes_so_many}
use Rattle.udf.specs.Udf.{IsBlock, udf, HoldsDirectory}
use Rattle.udf.specs.Words.{icb_fields}
use Rattle.udf.specs.Said.{said_fields, model_table}
use Rattle.udf.specs.NewVolume.{root_fields, first_table, new_table_fields, IsNewVolume, NewVolumesAreFormats}
use Rattle.udf.proofs.Formats.{entry_begins, distinct}
use Rattle.udf.proofs.Said.{entries_agree, tables_agree}

module _ (capacity volume : ℕ) (label : List ℕ) (moment : ℕ) (front : List Block) (set names root table mark : Block)
    (is : IsNewVolume volume label moment front set names root table mark) (fits : volume ≤ capacity) where
  abbrev afterwards : List Block
  afterwards = set ∷ names ∷ root ∷ table ∷ []

  abbrev blocks : List Block
  blocks = front ++ afterwards

  long : length blocks ≡ 261
  long = omega (arith, length-append front afterwards, is.front_is.count)

  -- the blocks from the file set on
  from_set : drop 257 blocks ≡ afterwards
  from_set = drop_at front afterwards 257 is.front_is.count

  from_block : (n : ℕ) → drop (257 + n) blocks ≡ drop n afterwards
  from_block n = sym (drop-drop n 257 blocks) ∙ ap (λ (bs : List Block). drop n bs) from_set

  -- ---- none of them imitates

  low_none : NoneImitates udf 0 front
  low_none = none_from udf 0 front (λ j block e t. omega (arith, t.0, slice_get_within front j block e, is.front_is.count))

  holds : HoldsDirectory 1 [] 1 40 (names ∷ [])
  holds = record { blocks_are = λ k d lt. one k d lt; low = omega arith; is = is.names_are }
    where
      one : All IsBlock (names ∷ [])
      one zero d lt = is.names_block
      one (suc k) d lt = absurd (omega arith)

  root_entry : udf.IsEntry (said_fields (root_fields moment)) root 1
  root_entry = (entries_agree (root_fields moment) root 1).0 is.root_is

  mark_entry : udf.IsEntry (said_fields (new_table_fields moment)) mark 4
  mark_entry = (entries_agree (new_table_fields moment) mark 4).0 is.mark_is

  apart : Directory ≡ Table → ⊥
  apart e = absurd (cc)

  table_begins : u16_at 0 table ≡ 196
  table_begins = ap (λ (b : Block). u16_at 0 b) (is.table_is ∙ ap padded is.bytes_are.whole) ∙ refl

  set_none : (at : ℕ) → IsVatIcbAt udf set at → ⊥
  set_none at (low, fields, kind, entry) = distinct.set label moment set is.set_is (at - partition_start) fields entry

  names_none : (at : ℕ) → IsVatIcbAt udf names at → ⊥
  names_none at (low, fields, kind, entry) = distinct.directory 1 1 40 [] (names ∷ []) holds names (0, omega arith, refl) (at - partition_start) fields entry

  root_none : (at : ℕ) → IsVatIcbAt udf root at → ⊥
  root_none at (low, fields, kind, entry) = apart (distinct.kind root 1 (at - partition_start) (said_fields (root_fields moment)) fields root_entry entry ∙ kind)

  table_none : (at : ℕ) → IsVatIcbAt udf table at → ⊥
  table_none at (low, fields, kind, entry) = omega (arith, table_begins, entry_begins (icb_fields fields) (at - partition_start) table entry)

  after_none : (at : ℕ) → NoneImitates udf at afterwards
  after_none at = (set_none at, (names_none (suc at), (root_none (suc (suc at)), (table_none (suc (suc (suc at))), tt))))

  -- ---- the table and the root are there

  count : length is.bytes ≡ 204
  count = takes_so_many (first_table label) is.bytes is.bytes_are

  table_bytes_are : bytes_in_blocks 204 (extent blocks 3 204) ≡ is.bytes
  table_bytes_are =
      let there : extent blocks 3 204 ≡ table ∷ [] = ap (λ (bs : List Block). take 1 bs) (from_block 3) in
      let one : bytes_in_blocks 204 (table ∷ []) ≡ take 204 (padded is.bytes) = ap (λ (bytes : List ℕ). take 204 bytes) (append-nil table ∙ is.table_is) in
      ap (bytes_in_blocks 204) there ∙ one ∙ take-append-le 204 is.bytes (replicate (2048 - length is.bytes) 0) (omega (arith, count)) ∙ take_all 204 is.bytes (omega (arith, count))

  entries_low : All (λ (e : Option ℕ). IfSome e (λ n. n < 4)) (Some 0 ∷ Some 2 ∷ [])
  entries_low zero d lt = let h : 0 < 4 = omega arith in h
  entries_low (suc zero) d lt = let h : 2 < 4 = omega arith in h
  entries_low (suc (suc k)) d lt = absurd (omega arith)

  table_there : udf.IsTable (model_table (first_table label)) 4 (bytes_in_blocks 204 (extent blocks 3 204))
  table_there =
      subst (λ (bytes : List ℕ). udf.IsTable (model_table (first_table label)) 4 bytes) (sym table_bytes_are)
      (tables_agree (first_table label) 4 is.bytes (record { table = is.bytes_are; previous = tt; entries = entries_low }))

  has : HasTable udf blocks 261 mark (model_table (first_table label)) moment
  has = record {
    fields = said_fields (new_table_fields moment);
    kind = refl;
    entry = mark_entry;
    moment_is = refl;
    first = 3;
    place = refl;
    within = omega (arith, long);
    is = table_there;
  }

  names_there : extent blocks 1 40 ≡ names ∷ []
  names_there = ap (λ (bs : List Block). take 1 bs) (from_block 1)

  root_there : IsStoredAt udf blocks (Some 0 ∷ Some 2 ∷ []) 1 (as_stored 0 moment (Entries 1 []))
  root_there = record {
    number = 2;
    used = refl;
    block = root;
    there = get_past front afterwards 259 2 (omega (arith, is.front_is.count));
    fields = said_fields (root_fields moment);
    entry = root_entry;
    moment = refl;
    identity = refl;
    links = refl;
    body = (refl, (omega (arith, long), subst (λ (bs : List Block). HoldsDirectory 1 [] 1 40 bs) (sym names_there) holds));
  }

  is_format : IsFormat udf capacity volume label moment blocks mark
  is_format = record {
    long = long;
    none = none-append udf 0 front afterwards low_none (after_none (0 + length front));
    front = subst (λ (bs : List Block). udf.IsFront label moment volume bs) (sym (take_at front afterwards 257 is.front_is.count)) is.front_is;
    fits = fits;
    table = model_table (first_table label);
    has = has;
    label_is = refl;
    commits = refl;
    next_identity = refl;
    records = refl;
    table_length = refl;
    files = refl;
    directories = refl;
    set_number = 0;
    set_used = refl;
    set_block = set;
    set_there = get_past front afterwards 257 0 (omega (arith, is.front_is.count));
    set_is = is.set_is;
    root = root_there;
  }

pub new_volumes_are_formats : NewVolumesAreFormats
new_volumes_are_formats capacity volume label moment front set names root table mark is fits = is_format capacity volume label moment front set names root table mark is fits
