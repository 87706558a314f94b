-- The blocks of a format: what each is made from, that each is the only one, and that all of them are a new volume.
use Rattle.std.proofs.Common.{◌≡◌, ℕ, zero, suc, ◌+◌, ◌<◌, ◌≤◌, List, [], ◌∷◌, ◌++◌, length, take, drop, get_or, Option, Some, None, IsSome, inl, inr, refl, sym, ap, subst, ◌∙◌, arith, append-nil, length-append, length-drop}
use Rattle.std.specs.Prelude.{All, IfSome}
use Rattle.std.specs.Option.{MatchOption}
use Rattle.std.specs.List.{IsDistinct}
use Rattle.std.proofs.Math.ListN.{get_or-append}
use Rattle.std.proofs.lemmas.Bool.{cases_lt}
use Rattle.std.proofs.lemmas.List.{same_lists, get_or_default, take-append-drop, length-take-le, get_or-take, get_or-drop, get_or-append-add}
use Rattle.std.proofs.lemmas.List.Elements.{All-nil}
use Rattle.limits.specs.declared.TheConstants.{GREATEST_CAPACITY, LEAST_CAPACITY}
use Rattle.ecma.specs.Descriptor.{padded}
use Rattle.osta.specs.Label.{IsLabel}
use Rattle.icb.specs.Entry.{IsEntry}
use Rattle.icb.specs.FileSet.{IsFileSet}
use Rattle.icb.proofs.Spellings.{one_block, one_set}
use Rattle.dir.specs.Directory.{IsDirectory, IsDirectoryEntry as IsName, identifiers}
use Rattle.ecma.specs.Blocks.{block_count}
use Rattle.dir.specs.Layout.{laid, blocked, identifier_blocks}
use Rattle.dir.proofs.Once.{laid_directory}
use Rattle.dir.proofs.Sizes.{data_sized}
use Rattle.vat.specs.Table.{FitsTable, IsTable, table_bytes}
use Rattle.volume.specs.Front.{IsFrontBlock, IsFront}
use Rattle.volume.proofs.FrontLaws.{one_front_block}
use Rattle.durability.specs.Formats.{Block}
use Rattle.udf.specs.Udf.{IsBlock}
use Rattle.udf.specs.NewVolume.{root_fields, first_table, new_table_fields}
use Rattle.formatting.specs.NewVolume.{Words, IsFirstTable, IsBlockAt, IsFormatOf, OneFormat}

-- ---- the names of the root

abbrev names_laid : List ℕ
names_laid = laid 1 0 (identifiers 1 [])

names_size : length names_laid ≡ 40
names_size = data_sized 1 1 [] (All-nil IsName)

one_laid : identifier_blocks 1 (identifiers 1 []) ≡ padded (take 2048 names_laid) ∷ []
one_laid = ap (λ n. blocked (block_count n) names_laid) names_size

-- the blocks that are left are not none
pub names_some : (next : Option Block) (left after : List Block) → left ≡ identifier_blocks 1 (identifiers 1 []) → MatchOption next (left ≡ []) (λ b. left ≡ b ∷ after) → IsSome next
names_some None left after e none = absurd (let no : 1 ≡ 0 = ap length (sym one_laid ∙ sym e ∙ none) in omega (arith, no))
names_some (Some b) left after e some = refl

-- and the first is the only one
pub names_one : (b : Block) (left after : List Block) → left ≡ identifier_blocks 1 (identifiers 1 []) → left ≡ b ∷ after → b ∷ [] ≡ identifier_blocks 1 (identifiers 1 [])
names_one b left after e some =
    let same : b ∷ after ≡ padded (take 2048 names_laid) ∷ [] = sym some ∙ e ∙ one_laid in
    ap (λ (x : Block). let one : List Block = x ∷ [] in one) (ap (λ (bs : List Block). get_or bs 0 []) same) ∙ sym one_laid

pub names_are : (b : Block) → b ∷ [] ≡ identifier_blocks 1 (identifiers 1 []) → IsDirectory 1 [] 1 40 (b ∷ [])
unfolding IsDistinct
names_are b e =
    subst (λ (bs : List Block). IsDirectory 1 [] 1 40 bs) (sym e)
    (subst (λ n. IsDirectory 1 [] 1 n (identifier_blocks 1 (identifiers 1 []))) names_size (laid_directory 1 1 [] (omega arith) (omega arith) (All-nil IsName) tt))

-- ---- the first table

entries_low : All (λ (e : Option ℕ). IfSome e (λ n. n < 0xFFFF_FFFF)) (Some 0 ∷ Some 2 ∷ [])
entries_low zero d lt = let h : 0 < 0xFFFF_FFFF = omega arith in h
entries_low (suc zero) d lt = let h : 2 < 0xFFFF_FFFF = omega arith in h
entries_low (suc (suc k)) d lt = absurd (omega arith)

pub first_fits : (label : List ℕ) → IsLabel label → FitsTable (first_table label)
first_fits label is = record {
  label = is;
  first = (λ h. refl, λ h. refl);
  previous = tt;
  commits = omega arith;
  next_unique = omega arith;
  next_unique_fits = omega arith;
  clients = omega arith;
  records = λ k d lt. absurd (omega arith);
  distinct = λ i j d lt le. absurd (omega arith);
  few = omega arith;
  many = omega arith;
  numbers = entries_low;
  file_set = (0, refl);
  root = (2, refl);
  used = refl;
}

pub first_is : (label bytes : List ℕ) → IsLabel label → bytes ≡ table_bytes (first_table label) → IsTable (first_table label) bytes
first_is label bytes is e = record { fits = first_fits label is; whole = e }

-- ---- a block of each kind at its address

module _ (words : Words) (at : ℕ) (block : Block) where
  pub front_at : at < 257 → IsFrontBlock words.label words.moment words.volume at block → IsBlockAt words at block
  front_at low is = record {
    front = λ h. is;
    set = λ e. absurd (omega (arith, e, low));
    names = λ e. absurd (omega (arith, e, low));
    root = λ e. absurd (omega (arith, e, low));
    table = λ e. absurd (omega (arith, e, low));
    mark = λ e. absurd (omega (arith, e, low));
  }

  pub set_at : at ≡ 257 → IsFileSet (record { label = words.label; moment = words.moment }) block → IsBlockAt words at block
  set_at there is = record {
    front = λ h. absurd (omega (arith, h, there));
    set = λ e. is;
    names = λ e. absurd (omega (arith, e, there));
    root = λ e. absurd (omega (arith, e, there));
    table = λ e. absurd (omega (arith, e, there));
    mark = λ e. absurd (omega (arith, e, there));
  }

  pub names_at : at ≡ 258 → IsDirectory 1 [] 1 40 (block ∷ []) → IsBlockAt words at block
  names_at there is = record {
    front = λ h. absurd (omega (arith, h, there));
    set = λ e. absurd (omega (arith, e, there));
    names = λ e. is;
    root = λ e. absurd (omega (arith, e, there));
    table = λ e. absurd (omega (arith, e, there));
    mark = λ e. absurd (omega (arith, e, there));
  }

  pub root_at : at ≡ 259 → IsEntry (root_fields words.moment) 1 block → IsBlockAt words at block
  root_at there is = record {
    front = λ h. absurd (omega (arith, h, there));
    set = λ e. absurd (omega (arith, e, there));
    names = λ e. absurd (omega (arith, e, there));
    root = λ e. is;
    table = λ e. absurd (omega (arith, e, there));
    mark = λ e. absurd (omega (arith, e, there));
  }

  pub table_at : at ≡ 260 → IsFirstTable words.label block → IsBlockAt words at block
  table_at there is = record {
    front = λ h. absurd (omega (arith, h, there));
    set = λ e. absurd (omega (arith, e, there));
    names = λ e. absurd (omega (arith, e, there));
    root = λ e. absurd (omega (arith, e, there));
    table = λ e. is;
    mark = λ e. absurd (omega (arith, e, there));
  }

  pub mark_at : at ≡ 261 → IsEntry (new_table_fields words.moment) 4 block → IsBlockAt words at block
  mark_at there is = record {
    front = λ h. absurd (omega (arith, h, there));
    set = λ e. absurd (omega (arith, e, there));
    names = λ e. absurd (omega (arith, e, there));
    root = λ e. absurd (omega (arith, e, there));
    table = λ e. absurd (omega (arith, e, there));
    mark = λ e. is;
  }

-- ---- it is the only one

one_names : (a b : Block) → IsDirectory 1 [] 1 40 (a ∷ []) → IsDirectory 1 [] 1 40 (b ∷ []) → a ≡ b
one_names a b x y =
    let plain : (c : Block) → c ++ [] ≡ c = λ c. append-nil c in
    sym (plain a) ∙ x.bytes ∙ sym y.bytes ∙ plain b

one_table : (label : List ℕ) (a b : Block) → IsFirstTable label a → IsFirstTable label b → a ≡ b
one_table label a b (p, x, e) (q, y, f) = e ∙ ap padded (x.whole ∙ sym y.whole) ∙ sym f

pub one_block_at : (words : Words) (at : ℕ) (a b : Block) → at < 262 → IsBlock a → IsBlock b → IsBlockAt words at a → IsBlockAt words at b → a ≡ b
one_block_at words at a b within a-is b-is x y = elim (cases_lt at 257) [
  | inl low ↦ one_front_block words.label words.moment words.volume at a b a-is.bytes b-is.bytes (x.front low) (y.front low)
  | inr high ↦ elim (cases_lt at 258) [
    | inl low ↦ let e : at ≡ 257 = omega arith in one_set (record { label = words.label; moment = words.moment }) a b a-is.bytes b-is.bytes (x.set e) (y.set e)
    | inr high ↦ elim (cases_lt at 259) [
      | inl low ↦ let e : at ≡ 258 = omega arith in one_names a b (x.names e) (y.names e)
      | inr high ↦ elim (cases_lt at 260) [
        | inl low ↦ let e : at ≡ 259 = omega arith in one_block (root_fields words.moment) 1 a b a-is.bytes b-is.bytes (x.root e) (y.root e)
        | inr high ↦ elim (cases_lt at 261) [
          | inl low ↦ let e : at ≡ 260 = omega arith in one_table words.label a b (x.table e) (y.table e)
          | inr high ↦ let e : at ≡ 261 = omega arith in one_block (new_table_fields words.moment) 4 a b a-is.bytes b-is.bytes (x.mark e) (y.mark e)
        ]
      ]
    ]
  ]
]

-- ---- all of them

-- a list of five
five : (bs : List Block) → length bs ≡ 5 → bs ≡ get_or bs 0 [] ∷ get_or bs 1 [] ∷ get_or bs 2 [] ∷ get_or bs 3 [] ∷ get_or bs 4 [] ∷ []
five [] e = absurd (omega (arith, e))
five (a ∷ []) e = absurd (omega (arith, e))
five (a ∷ b ∷ []) e = absurd (omega (arith, e))
five (a ∷ b ∷ c ∷ []) e = absurd (omega (arith, e))
five (a ∷ b ∷ c ∷ d ∷ []) e = absurd (omega (arith, e))
five (a ∷ b ∷ c ∷ d ∷ x ∷ []) e = refl
five (a ∷ b ∷ c ∷ d ∷ x ∷ y ∷ bs) e = absurd (omega (arith, e))

module _ (words : Words) (blocks : List Block) (low : LEAST_CAPACITY ≤ words.volume) (high : words.volume ≤ GREATEST_CAPACITY) (long : length blocks ≡ 262) (bytes : All IsBlock blocks) (each : (n : ℕ) → n < 262 → IsBlockAt words n (get_or blocks n [])) where
  whole_front : IsFront words.label words.moment words.volume (take 257 blocks)
  whole_front = record {
    low = low;
    high = high;
    count = length-take-le 257 blocks (omega (arith, long));
    each = λ n lt. subst (IsFrontBlock words.label words.moment words.volume n) (sym (get_or-take 257 blocks n [] lt)) ((each n (omega arith)).front lt);
  }

  whole_order : blocks ≡ take 257 blocks ++ get_or blocks 257 [] ∷ get_or blocks 258 [] ∷ get_or blocks 259 [] ∷ get_or blocks 260 [] ∷ get_or blocks 261 [] ∷ []
  whole_order =
      let last : (i : ℕ) → get_or (drop 257 blocks) i [] ≡ get_or blocks (257 + i) [] = λ i. get_or-drop 257 blocks i [] in
      sym (take-append-drop 257 blocks)
      ∙ ap (λ (bs : List Block). take 257 blocks ++ bs) (five (drop 257 blocks) (omega (arith, length-drop 257 blocks, long)) ∙ rw (last 0, last 1, last 2, last 3, last 4) refl)

  -- the 262 blocks are a format
  pub whole_format : IsFormatOf words blocks
  whole_format = record {
    bytes = bytes;
    front = take 257 blocks;
    set = get_or blocks 257 [];
    names = get_or blocks 258 [];
    root = get_or blocks 259 [];
    table = get_or blocks 260 [];
    mark = get_or blocks 261 [];
    is =
        let first = (each 260 (omega arith)).table refl in
        record {
          front_is = whole_front;
          set_is = (each 257 (omega arith)).set refl;
          names_block = bytes 258 [] (omega (arith, long));
          names_are = (each 258 (omega arith)).names refl;
          root_is = (each 259 (omega arith)).root refl;
          bytes = first.0;
          bytes_are = first.1;
          table_is = first.2;
          mark_is = (each 261 (omega arith)).mark refl;
        };
    order = whole_order;
  }

-- and each block of a format is the one at its address
module _ (words : Words) (blocks : List Block) (is : IsFormatOf words blocks) where
  abbrev afterwards : List Block
  afterwards = is.set ∷ is.names ∷ is.root ∷ is.table ∷ is.mark ∷ []

  pub format_long : length blocks ≡ 262
  format_long = ap length is.order ∙ length-append is.front afterwards ∙ omega (arith, is.is.front_is.count)

  past : (i : ℕ) → get_or blocks (257 + i) [] ≡ get_or afterwards i []
  past i =
      ap (λ (bs : List Block). get_or bs (257 + i) []) is.order
      ∙ ap (λ n. get_or (is.front ++ afterwards) (n + i) []) (sym is.is.front_is.count) ∙ get_or-append-add is.front afterwards i []

  at_past : (i : ℕ) (b : Block) → get_or afterwards i [] ≡ b → IsBlockAt words (257 + i) b → IsBlockAt words (257 + i) (get_or blocks (257 + i) [])
  at_past i b e is-at = subst (IsBlockAt words (257 + i)) (sym (past i ∙ e)) is-at

  moved : (n m : ℕ) → m ≡ n → IsBlockAt words m (get_or blocks m []) → IsBlockAt words n (get_or blocks n [])
  moved n m e h = subst (λ k. IsBlockAt words k (get_or blocks k [])) e h

  pub block_at : (n : ℕ) → n < 262 → IsBlockAt words n (get_or blocks n [])
  block_at n within = elim (cases_lt n 257) [
    | inl low ↦
        let there : get_or is.front n [] ≡ get_or blocks n [] = sym (ap (λ (bs : List Block). get_or bs n []) is.order ∙ get_or-append is.front afterwards [] n (omega (arith, is.is.front_is.count))) in
        front_at words n (get_or blocks n []) low (subst (IsFrontBlock words.label words.moment words.volume n) there (is.is.front_is.each n low))
    | inr high ↦ elim (cases_lt n 258) [
      | inl low ↦ moved n 257 (omega arith) (at_past 0 is.set refl (set_at words 257 is.set refl is.is.set_is))
      | inr high ↦ elim (cases_lt n 259) [
        | inl low ↦ moved n 258 (omega arith) (at_past 1 is.names refl (names_at words 258 is.names refl is.is.names_are))
        | inr high ↦ elim (cases_lt n 260) [
          | inl low ↦ moved n 259 (omega arith) (at_past 2 is.root refl (root_at words 259 is.root refl is.is.root_is))
          | inr high ↦ elim (cases_lt n 261) [
            | inl low ↦ moved n 260 (omega arith) (at_past 3 is.table refl (table_at words 260 is.table refl (is.is.bytes, is.is.bytes_are, is.is.table_is)))
            | inr high ↦ moved n 261 (omega arith) (at_past 4 is.mark refl (mark_at words 261 is.mark refl is.is.mark_is))
          ]
        ]
      ]
    ]
  ]

pub one_format : OneFormat
one_format words a b x y =
    same_lists a b (format_long words a x ∙ sym (format_long words b y)) (λ k d lt.
    let low : k < 262 = omega (arith, lt, format_long words a x) in
    let within : k < length b = omega (arith, low, format_long words b y) in
    get_or_default a k d [] lt
    ∙ one_block_at words k (get_or a k []) (get_or b k []) low (x.bytes k [] lt) (y.bytes k [] within) (block_at words a x k low) (block_at words b y k low)
    ∙ get_or_default b k [] d within)
