-- What a format leaves on a drive's journal.
use Rattle.std.proofs.Common.{◌≡◌, ◌≢◌, ◌⊎◌, ℕ, zero, suc, ◌+◌, ◌-◌, ◌<◌, ◌≤◌, Bool, true, false, IsTrue, List, [], ◌∷◌, ◌++◌, length, take, drop, get_or, Option, Some, None, inl, inr, refl, sym, ap, subst, ◌∙◌, arith, append_assoc, append-nil, length-append, length-drop, eq-eqb, ne_eqb}
use Rattle.std.specs.Prelude.{nat_eq, not, slice_get, unwrap_or}
use Rattle.std.specs.Cmp.Lexicographic.{pointwise, same_text, other_text}
use Rattle.std.proofs.Math.ListN.{get_or-append}
use Rattle.std.proofs.Math.Seq.{take-add, take-length}
use Rattle.std.proofs.lemmas.Bool.{cases_lt}
use Rattle.std.proofs.lemmas.List.{same_lists, take-append-drop, get_or_default, get_or-append-add, get_or-take, length-take, length-take-le, take-append-le, drop_at, take_at, take_all}
use Rattle.std.proofs.lemmas.List.Elements.{All-append, All-push}
use Rattle.limits.specs.declared.TheConstants.{GREATEST_CAPACITY, LEAST_CAPACITY}
use Rattle.drive.specs.Journal.{Event, written, next_of, last_at, later_or, table, held, AddsPrefix}
use Rattle.drive.proofs.Journals.{last-append, next_after_write}
use Rattle.drive.proofs.Fronts.{front_whole, front_within}
use Rattle.drive.proofs.Sending.{front_split, last_split}
use Rattle.drive.specs.Sending.{SendsAlone}
use Rattle.drive.specs.Writes.{joined, LastIsAlone, LastIsCut, WritesInTurn, IsLeft}
use Rattle.drive.specs.declared.Drive.{Ghosts}
use Rattle.volume.proofs.FrontLaws.{each_push}
use Rattle.recover.proofs.Held.{length-held}
use Rattle.model.specs.Session.{formatted}
use Rattle.durability.specs.Formats.{Block}
use Rattle.durability.specs.Volume.{IsVatIcbAt, RecoversTo}
use Rattle.durability.specs.Step.{IsFormat}
use Rattle.durability.proofs.Formatted.{format_stands}
use Rattle.durability.proofs.Mediums.{none_take_at}
use Rattle.udf.specs.Udf.{udf, IsBlock}
use Rattle.durability.proofs.Torn.{format_torn}
use Rattle.durability.proofs.Writes.{left_more}
use Rattle.durability.specs.Torn.{RecoversToNothing}
use Rattle.udf.proofs.Formats.{exact, bounded, distinct}
use Rattle.udf.proofs.NewVolume.{new_volumes_are_formats}
use Rattle.formatting.specs.NewVolume.{Words, IsBlockAt, IsFormatOf, IsFormatPrefix, IsFormatRead, AreBlocks, HoldsPrefixes, IsFormatted, IsFormatCutShort, FormatSurvivesPowerLoss}
use Rattle.formatting.proofs.NewVolumes.{whole_format, format_long, block_at, one_block_at}

-- ---- what a journal holds

get_or-table : (n i : ℕ) (f : ℕ → List ℕ) (d : List ℕ) → i < n → get_or (table n f) i d ≡ f i
get_or-table zero i f d lt = absurd (omega arith)
get_or-table (suc n) zero f d lt = refl
get_or-table (suc n) (suc i) f d lt = get_or-table n i (λ j. f (suc j)) d (omega arith)

get_or-held : (J : List Event) (at : ℕ) (d : List ℕ) → at < next_of J → get_or (held J) at d ≡ unwrap_or (last_at J at) []
get_or-held J at d lt = get_or-table (next_of J) at (λ a. unwrap_or (last_at J a) []) d lt

-- it holds these blocks, where each is the last at its address
pub held_is : (J : List Event) (bs : List Block) → length bs ≡ next_of J → ((n : ℕ) → n < length bs → last_at J n ≡ Some (get_or bs n [])) → held J ≡ bs
held_is J bs long there = same_lists (held J) bs (length-held J ∙ sym long) (λ k d lt.
    let low : k < length bs = omega (arith, lt, length-held J, long) in
    get_or-held J k d (omega (arith, low, long)) ∙ ap (λ (o : Option (List ℕ)). unwrap_or o []) (there k low) ∙ get_or_default bs k [] d low)

written_below : (at k : ℕ) (bs : List Block) → k < at → last_at (written at bs) k ≡ None
written_below at k [] lt = refl
written_below at k (b ∷ bs) lt = rw (written_below (suc at) k bs (omega arith), ne_eqb at k (let other : at ≢ k = λ e. omega (arith, e, lt) in other)) refl

written_there : (at i : ℕ) (bs : List Block) → i < length bs → last_at (written at bs) (at + i) ≡ Some (get_or bs i [])
written_there at i [] lt = absurd (omega arith)
written_there at zero (b ∷ bs) lt = rw (written_below (suc at) (at + 0) bs (omega arith), eq-eqb at (at + 0) (omega arith)) refl
written_there at (suc i) (b ∷ bs) lt =
    let rest : last_at (written (suc at) bs) (at + suc i) ≡ Some (get_or bs i []) = ap (λ n. last_at (written (suc at) bs) n) (let e : at + suc i ≡ suc at + i = omega arith in e) ∙ written_there (suc at) i bs (omega arith) in
    rw rest refl

next_more : (J : List Event) (bs : List Block) → next_of (J ++ written (next_of J) bs) ≡ next_of J + length bs
next_more J [] = ap next_of (append-nil J) ∙ omega arith
next_more J (b ∷ bs) = omega (arith, next_after_write J (next_of J) (b ∷ bs) (omega arith))

-- what is written from the next address on comes after what is held
pub held_more : (J : List Event) (bs : List Block) → held (J ++ written (next_of J) bs) ≡ held J ++ bs
held_more J bs =
    let K = J ++ written (next_of J) bs in
    let count : length (held K) ≡ next_of J + length bs = length-held K ∙ next_more J bs in
    same_lists (held K) (held J ++ bs) (omega (arith, count, length-append (held J) bs, length-held J)) (λ k d lt.
    let within : k < next_of K = omega (arith, lt, length-held K) in
    get_or-held K k d within ∙ ap (λ (o : Option (List ℕ)). unwrap_or o []) (last-append J (written (next_of J) bs) k) ∙ elim (cases_lt k (next_of J)) [
      | inl low ↦
          ap (λ (o : Option (List ℕ)). unwrap_or (later_or o (last_at J k)) []) (written_below (next_of J) k bs low)
          ∙ sym (get_or-append (held J) bs d k (omega (arith, low, length-held J)) ∙ get_or-held J k d low)
      | inr high ↦
          let i : k ≡ next_of J + (k - next_of J) = omega arith in
          let j : k ≡ length (held J) + (k - next_of J) = omega (arith, i, length-held J) in
          let few : k - next_of J < length bs = omega (arith, lt, count, high) in
          ap (λ (o : Option (List ℕ)). unwrap_or (later_or o (last_at J k)) []) (ap (λ n. last_at (written (next_of J) bs) n) i ∙ written_there (next_of J) (k - next_of J) bs few)
          ∙ get_or_default bs (k - next_of J) [] d few
          ∙ sym (ap (λ n. get_or (held J ++ bs) n d) j ∙ get_or-append-add (held J) bs (k - next_of J) d)
    ])

-- ---- what was there before

-- what a comparison of two blocks reported
pub blocks_differ : (a b : Block) (told : Bool) → told ≡ not (pointwise nat_eq a b) → told ≡ true → a ≢ b
blocks_differ a b told e other = other_text a b (flipped (pointwise nat_eq a b) (sym e ∙ other))
  where
    flipped : (t : Bool) → not t ≡ true → false ≡ t
    flipped true h = h
    flipped false h = refl

pub blocks_same : (a b : Block) (told : Bool) → told ≡ not (pointwise nat_eq a b) → told ≡ false → a ≡ b
blocks_same a b told e same = same_text a b (flipped (pointwise nat_eq a b) (sym e ∙ same))
  where
    flipped : (t : Bool) → not t ≡ false → true ≡ t
    flipped true h = refl
    flipped false h = h

-- one block more was read
pub seen_more : (words : Words) (J : List Event) (before afterwards : Bool) (n : ℕ) (block made : Block) → (IsTrue afterwards → IsTrue before) → IsFormatRead words J before n
    → IsBlock made → IsBlockAt words n made → block ≡ made → (IsTrue afterwards → last_at J n ≡ Some block) → IsFormatRead words J afterwards (n + 1)
seen_more words J before afterwards n block made honest seen bytes is same read = record {
  blocks = seen.blocks ++ block ∷ [];
  long = length-append seen.blocks (block ∷ []) ∙ omega (arith, seen.long);
  bytes = All-push IsBlock seen.blocks block seen.bytes (subst IsBlock (sym same) bytes);
  each = each_push (λ k b. IsBlockAt words k b) seen.blocks block n seen.long seen.each (subst (IsBlockAt words n) (sym same) is);
  there = λ h. each_push (λ k b. last_at J k ≡ Some b) seen.blocks block n seen.long (seen.there (honest h)) (read h);
}

-- what holds more is no prefix of a format
pub too_many : (words : Words) (J : List Event) → 262 < next_of J → IsFormatPrefix words (held J) → ⊥
too_many words J many begun =
    omega (arith, many, length-held J, ap length begun.front, length-take begun.count begun.whole, format_long words begun.whole begun.is)

-- nor is what holds another block
pub other_block : (words : Words) (J : List Event) (n : ℕ) (block made : Block) → n < next_of J → n < 262 → last_at J n ≡ Some block → IsBlock made → IsBlockAt words n made → (block ≡ made → ⊥) → IsFormatPrefix words (held J) → ⊥
other_block words J n block made low within read bytes is other begun =
    let few : n < begun.count = omega (arith, low, length-held J, ap length begun.front, length-take begun.count begun.whole) in
    let there : get_or begun.whole n [] ≡ block =
    sym (ap (λ (bs : List Block). get_or bs n []) begun.front ∙ get_or-take begun.count begun.whole n [] few) ∙ get_or-held J n [] low ∙ ap (λ (o : Option (List ℕ)). unwrap_or o []) read in
    let known : IsBlock block = subst IsBlock there (begun.is.bytes n [] (omega (arith, within, format_long words begun.whole begun.is))) in
    other (one_block_at words n block made within known bytes (subst (IsBlockAt words n) there (block_at words begun.whole begun.is n within)) is)

-- ---- what is left to write

-- one block more was made
pub blocks_more : (words : Words) (from to : ℕ) (blocks : List Block) (made : Block) → AreBlocks words from to blocks → IsBlock made → IsBlockAt words to made → AreBlocks words from (to + 1) (blocks ++ made ∷ [])
blocks_more words from to blocks made are bytes is = record {
  long = omega (arith, length-append blocks (made ∷ []), are.long);
  bytes = All-push IsBlock blocks made are.bytes bytes;
  each = λ n lt. each_push (λ k b. IsBlockAt words (from + k) b) blocks made (length blocks) refl are.each (subst (λ k. IsBlockAt words k made) (sym are.long) is) n (omega (arith, lt, length-append blocks (made ∷ [])));
}

-- ---- what a write leaves

module _ (capacity : ℕ) (words : Words) (blocks : List Block) (before afterwards : List Event) (is : IsFormatOf words blocks) (fits : words.volume ≤ capacity)
    (short : next_of before ≤ 262) (adds : AddsPrefix before (next_of before) (drop (next_of before) blocks) afterwards) (began : held before ≡ take (next_of before) blocks) where
  abbrev first : List Block
  first = is.front ++ is.set ∷ is.names ∷ is.root ∷ is.table ∷ []

  format_is : IsFormat udf capacity words.volume words.label words.moment first is.mark
  format_is = new_volumes_are_formats capacity words.volume words.label words.moment is.front is.set is.names is.root is.table is.mark is.is fits

  order : first ++ is.mark ∷ [] ≡ blocks
  order = append_assoc is.front (is.set ∷ is.names ∷ is.root ∷ is.table ∷ []) (is.mark ∷ []) ∙ sym is.order

  each_front : (k : ℕ) → length before ≤ k → (j : ℕ) × (j ≤ 262) × (held (take k afterwards) ≡ take j blocks) × (next_of (take k afterwards) ≡ j)
  each_front k le =
      let front = front_within before afterwards (next_of before) k (drop (next_of before) blocks) adds le in
      let m = front.0 in
      let j = next_of before + m in
      let few : j ≤ 262 = omega (arith, short, front.1, length-drop (next_of before) blocks, format_long words blocks is) in
      let there : held (take k afterwards) ≡ take j blocks =
      ap held front.2 ∙ held_more before (take m (drop (next_of before) blocks)) ∙ ap (λ (bs : List Block). bs ++ take m (drop (next_of before) blocks)) began ∙ sym (take-add (next_of before) m blocks) in
      (j, few, there, sym (length-held (take k afterwards)) ∙ ap length there ∙ length-take-le j blocks (omega (arith, few, format_long words blocks is)))

  pub holds_fronts : HoldsPrefixes capacity words blocks before afterwards
  holds_fronts = record {
    began = began;
    each = λ k le. let front = each_front k le in front.2 ∙ ap (λ n. take n blocks) (sym front.3);
    nothing = λ k other_capacity other_volume state le few stands.
        let front = each_front k le in
        let there : held (take k afterwards) ≡ take front.0 first =
        front.2 ∙ ap (λ (bs : List Block). take front.0 bs) (sym order) ∙ take-append-le front.0 first (is.mark ∷ []) (omega (arith, few, front.3, format_is.long)) in
        let at : stands.at ≡ 0 + stands.at = omega arith in
        none_take_at udf 0 front.0 first format_is.none stands.at stands.block (ap (λ (M : List Block). slice_get M stands.at) (sym there) ∙ stands.last.there)
        (subst (λ n. IsVatIcbAt udf stands.block n) at stands.last.is);
    new = λ k le all.
        let front = each_front k le in
        let there : held (take k afterwards) ≡ first ++ is.mark ∷ [] = front.2 ∙ take_all front.0 blocks (omega (arith, all, front.3, format_long words blocks is)) ∙ sym order in
        subst (λ (bs : List Block). RecoversTo udf capacity words.volume bs (formatted words.moment)) (sym there) (format_stands udf capacity words.volume words.label words.moment first is.mark format_is exact);
  }

-- nothing was written
pub nothing_written : (capacity : ℕ) (words : Words) (before : List Event) (writes : List (List Block)) (afterwards : List Event) (later : List (List Block)) (honest : Bool) → afterwards ≡ before → later ≡ writes
    → FormatSurvivesPowerLoss capacity words before writes afterwards later honest
nothing_written capacity words before writes afterwards later honest journal same = record { added = []; writes_are = same ∙ sym (append-nil writes); in_turn = inl (journal ∙ sym (append-nil before)); torn = inl refl }

-- whether a write failed or none did
whole_or_cut : {failed : Bool} (at : ℕ) (J J' : List Event) (added : List (List Block)) → WritesInTurn at failed J added J' → (J' ≡ J ++ written at (joined added)) ⊎ LastIsCut at J added J'
whole_or_cut {failed = true} at J J' added turn = inr (turn.cut refl)
whole_or_cut {failed = false} at J J' added turn = inl (turn.all refl)

-- blocks are none, or end in one
pub none_or_last : (bs : List Block) → (bs ≡ []) ⊎ ((front : List Block) × (last : Block) × (bs ≡ front ++ last ∷ []))
none_or_last [] = inl refl
none_or_last (b ∷ bs) = inr (go b bs)
  where
    go : (b : Block) (bs : List Block) → (front : List Block) × (last : Block) × (b ∷ bs ≡ front ++ last ∷ [])
    go b [] = ([], b, refl)
    go b (c ∷ bs) = let rest = go c bs in (b ∷ rest.0, rest.1, ap (λ (cs : List Block). b ∷ cs) rest.2)

-- a journal that was read, and goes on with the blocks that were not there
module _ (capacity : ℕ) (words : Words) (low : LEAST_CAPACITY ≤ words.volume) (high : words.volume ≤ GREATEST_CAPACITY) (fits : words.volume ≤ capacity)
    (before between afterwards : List Event) (then now : Bool) (next : ℕ) (blocks : List Block) (between-is : between ≡ before) (next-is : next ≡ next_of before) (short : next ≤ 262)
    (seen : IsFormatRead words before then next) (are : AreBlocks words next 262 blocks) (honest : IsTrue now → IsTrue then) where
  abbrev all : List Block
  all = seen.blocks ++ blocks

  all_long : length all ≡ 262
  all_long = omega (arith, length-append seen.blocks blocks, seen.long, are.long)

  all_each : (n : ℕ) → n < 262 → IsBlockAt words n (get_or all n [])
  all_each n within = elim (cases_lt n next) [
    | inl lt ↦ subst (IsBlockAt words n) (sym (get_or-append seen.blocks blocks [] n (omega (arith, lt, seen.long)))) (seen.each n lt)
    | inr ge ↦
        let there : n ≡ length seen.blocks + (n - next) = omega (arith, ge, seen.long) in
        let same : get_or all n [] ≡ get_or blocks (n - next) [] = ap (λ k. get_or all k []) there ∙ get_or-append-add seen.blocks blocks (n - next) [] in
        let place : next + (n - next) ≡ n = omega arith in
        subst (IsBlockAt words n) (sym same) (subst (λ k. IsBlockAt words k (get_or blocks (n - next) [])) place (are.each (n - next) (omega (arith, within, are.long, ge))))
  ]

  all_are : IsFormatOf words all
  all_are = whole_format words all low high all_long (All-append IsBlock seen.blocks blocks seen.bytes are.bytes) all_each

  left : drop (next_of before) all ≡ blocks
  left = drop_at seen.blocks blocks (next_of before) (seen.long ∙ next-is)

  there_before : IsTrue now → held before ≡ take (next_of before) all
  there_before h =
      held_is before seen.blocks (seen.long ∙ next-is) (λ n lt. seen.there (honest h) n (omega (arith, lt, seen.long)))
      ∙ sym (take_at seen.blocks blocks (next_of before) (seen.long ∙ next-is))

  front_of : AddsPrefix between next blocks afterwards → AddsPrefix before (next_of before) (drop (next_of before) all) afterwards
  front_of (m, le, e) = (m, subst (λ (bs : List Block). m ≤ length bs) (sym left) le, e ∙ rw (between-is, next-is, left) refl)

  pub cut_is : AddsPrefix between next blocks afterwards → IsFormatCutShort capacity words before afterwards now
  cut_is adds = record {
    blocks = all;
    is = all_are;
    short = omega (arith, short, next-is);
    journal = front_of adds;
    fronts = λ h. holds_fronts capacity words all before afterwards all_are fits (omega (arith, short, next-is)) (front_of adds) (there_before h);
  }

  pub formatted_is : afterwards ≡ between ++ written next blocks → IsFormatted capacity words before afterwards now
  formatted_is e =
      let adds : AddsPrefix between next blocks afterwards = subst (AddsPrefix between next blocks) (sym e) (front_whole between next blocks) in
      let journal : afterwards ≡ before ++ written (next_of before) (drop (next_of before) all) = e ∙ rw (between-is, next-is, left) refl in
      let holds : IsTrue now → held afterwards ≡ all = λ h.
      ap held journal ∙ held_more before (drop (next_of before) all) ∙ ap (λ (bs : List Block). bs ++ drop (next_of before) all) (there_before h) ∙ take-append-drop (next_of before) all in
      let fronts : IsTrue now → HoldsPrefixes capacity words all before afterwards = λ h.
      holds_fronts capacity words all before afterwards all_are fits (omega (arith, short, next-is)) (front_of adds) (there_before h) in
      let whole : take (length afterwards) afterwards ≡ afterwards = take-length afterwards in
      record {
        blocks = all;
        is = all_are;
        short = omega (arith, short, next-is);
        journal = journal;
        fronts = fronts;
        holds = holds;
        stands = λ h. subst (λ (K : List Event). RecoversTo udf capacity words.volume (held K) (formatted words.moment)) whole
            ((fronts h).new (length afterwards) (omega (arith, ap length journal, length-append before (written (next_of before) (drop (next_of before) all))))
            (ap next_of whole ∙ sym (length-held afterwards) ∙ ap length (holds h) ∙ all_long));
      }

  -- whatever a power loss leaves of the blocks that were not there, the last of them in a write of its own
  module _ (front : List Block) (last : Block) (ends : blocks ≡ front ++ last ∷ []) (added others : List (List Block)) (alone : LastIsAlone front last (added ++ others)) (honestly : IsTrue now) where
    abbrev first_all : List Block
    first_all = all_are.front ++ all_are.set ∷ all_are.names ∷ all_are.root ∷ all_are.table ∷ []

    ends_all : first_all ++ all_are.mark ∷ [] ≡ (seen.blocks ++ front) ++ last ∷ []
    ends_all =
        append_assoc all_are.front (all_are.set ∷ all_are.names ∷ all_are.root ∷ all_are.table ∷ []) (all_are.mark ∷ []) ∙ sym all_are.order
        ∙ ap (λ (bs : List Block). seen.blocks ++ bs) ends ∙ sym (append_assoc seen.blocks front (last ∷ []))

    first_is : seen.blocks ++ front ≡ first_all
    first_is = sym (front_split (first_all ++ all_are.mark ∷ []) (seen.blocks ++ front) last _ refl ends_all) ∙ front_split (first_all ++ all_are.mark ∷ []) first_all all_are.mark _ refl refl

    last_is : last ∷ [] ≡ all_are.mark ∷ []
    last_is = sym (last_split (first_all ++ all_are.mark ∷ []) (seen.blocks ++ front) last _ refl ends_all) ∙ last_split (first_all ++ all_are.mark ∷ []) first_all all_are.mark _ refl refl

    all_alone : LastIsAlone first_all all_are.mark (seen.blocks ∷ (added ++ others))
    all_alone = record {
      before = seen.blocks ∷ alone.before;
      order = ap (λ (bs : List Block). seen.blocks ++ bs) alone.order ∙ first_is;
      writes_are = ap (λ (ws : List (List Block)). seen.blocks ∷ ws) (alone.writes_are ∙ ap (λ (write : List Block). alone.before ++ write ∷ []) last_is);
    }

    nothing_before : RecoversToNothing udf (held before)
    nothing_before other_capacity other_volume state stands =
        let none : AddsPrefix before (next_of before) (drop (next_of before) all) before = (0, omega arith, sym (append-nil before)) in
        let whole : take (length before) before ≡ before = take-length before in
        (holds_fronts capacity words all before before all_are fits (omega (arith, short, next-is)) none (there_before honestly)).nothing (length before) other_capacity other_volume state (omega arith)
        (subst (λ (K : List Event). next_of K < 262) (sym whole) (omega (arith, next-is, are.long, ap length ends, length-append front (last ∷ []))))
        (subst (λ (K : List Event). RecoversTo udf other_capacity other_volume (held K) state) (sym whole) stands)

    torn_is : (left : List Block) → IsLeft added left
        → RecoversToNothing udf (held (before ++ written (next_of before) left)) ⊎ RecoversTo udf capacity words.volume (held (before ++ written (next_of before) left)) (formatted words.moment)
    torn_is left cut =
        let sofar : held before ≡ seen.blocks = held_is before seen.blocks (seen.long ∙ next-is) (λ n lt. seen.there (honest honestly) n (omega (arith, lt, seen.long))) in
        let there : seen.blocks ++ left ≡ held (before ++ written (next_of before) left) = ap (λ (bs : List Block). bs ++ left) (sym sofar) ∙ sym (held_more before left) in
        let are_format = new_volumes_are_formats capacity words.volume words.label words.moment all_are.front all_are.set all_are.names all_are.root all_are.table all_are.mark all_are.is fits in
        elim (format_torn udf distinct exact bounded capacity words.volume words.label words.moment first_all all_are.mark are_format (seen.blocks ∷ (added ++ others)) (seen.blocks ++ left) all_alone
        (inr (left, refl, left_more added others left cut))) [
          | inl none ↦ inl (subst (λ (M : List Block). RecoversToNothing udf M) there none)
          | inr whole ↦ inr (subst (λ (M : List Block). RecoversTo udf capacity words.volume M (formatted words.moment)) there whole.1)
        ]

  pub withstands_is : {D : Type 0} {drive : Ghosts D} {failed : Bool} {d e : D} (writes : List (List Block)) → drive.journal d ≡ before → drive.writes d ≡ writes → (blocks ≡ [] → e ≡ d)
      → ((front : List Block) (last : Block) → blocks ≡ front ++ last ∷ [] → SendsAlone drive next front last failed d e) → FormatSurvivesPowerLoss capacity words before writes (drive.journal e) (drive.writes e) now
  withstands_is {drive = drive} {failed = failed} {d = d} {e = e} writes same kept none alone = elim (none_or_last blocks) [
    | inl empty ↦ nothing_written capacity words before writes (drive.journal e) (drive.writes e) now (ap (λ x. drive.journal x) (none empty) ∙ same) (ap (λ x. drive.writes x) (none empty) ∙ kept)
    | inr some ↦
        let sends = alone some.0 some.1 some.2 in
        record {
          added = sends.added;
          writes_are = sends.writes ∙ ap (λ (ws : List (List Block)). ws ++ sends.added) kept;
          in_turn = whole_or_cut (next_of before) before (drive.journal e) sends.added
              (subst (λ (n : ℕ). WritesInTurn n failed before sends.added (drive.journal e)) next-is (subst (λ (L : List Event). WritesInTurn next failed L sends.added (drive.journal e)) same sends.in_turn));
          torn = inr (λ honestly. (nothing_before some.0 some.1 some.2 sends.added sends.others sends.alone honestly, torn_is some.0 some.1 some.2 sends.added sends.others sends.alone honestly));
        }
  ]

-- words that are the same one by one
pub same_words : (words : Words) (volume volume' : ℕ) (label label' : List ℕ) (moment moment' : ℕ) → words ≡ record { volume = volume; label = label; moment = moment }
    → volume ≡ volume' → label ≡ label' → moment ≡ moment' → words ≡ record { volume = volume'; label = label'; moment = moment' }
same_words words volume volume' label label' moment moment' e v l m = e ∙ rw (v, l, m) refl
