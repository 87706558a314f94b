-- A directory that is laid block by block.
use Rattle.std.proofs.Common.{◌≡◌, ℕ, suc, ◌+◌, ◌-◌, ◌<◌, ◌≤◌, List, [], ◌∷◌, ◌++◌, length, take, drop, get_or, replicate, map, Some, None, true, false, zero, not, refl, subst, sym, ap, ◌∙◌, append_assoc, arith, inl, inr}
use Rattle.std.specs.Prelude.{Bool, ◌⊎◌, IfSome, Option, slice_get, if◌then◌else◌}
use Rattle.std.specs.Option.{ForSome, is_some, option_map}
use Rattle.std.proofs.lemmas.Bool.{cases_lt}
use Rattle.std.proofs.lemmas.List.{append-nil, take-append-drop, take_at, drop_at, take_all, get_or_append_left, get_or-take, length-append, length-replicate, length-take, length-map}
use Rattle.ecma.specs.Descriptor.{padded}
use denote.Bor.{Bor}
use Rattle.dir.specs.declared.entry.Dir.{Dir}
use Rattle.dir.specs.declared.entry.Entry.{Entry}
use Rattle.dir.specs.declared.item.Item.{Item}
use Rattle.dir.specs.declared.laying.Lay.{Lay}
use Rattle.dir.specs.Identifier.{Identifier, plain_size, identifier}
use Rattle.dir.specs.Directory.{identifiers, identifiers_of, of_name}
use Rattle.ecma.specs.Blocks.{block_count}
use Rattle.dir.specs.Layout.{fits, stays, laid, onward, blocked, identifier_blocks, FitsInBlock, identifier_end}
use Rattle.dir.specs.Item.{said}
use Rattle.dir.specs.Laying.{identifiers_left, left_of, IsFilled, IsFilledTo}
use Rattle.ecma.specs.Numbers.{u16_at}
use Rattle.dir.proofs.Spelled.{length-identifier, tag-identifier}
use Rattle.dir.proofs.Placing.{plain_bounds, laid-put, laid-nil, onward-nil, onward-full, onward-within, stands_within, stands_next}

pub drop_some : {X : Type 0} (xs : List X) (n : ℕ) (y : X) → slice_get xs n ≡ Some y → drop n xs ≡ y ∷ drop (suc n) xs
drop_some [] n y e = absurd (cc)
drop_some (x ∷ xs) zero y e = let same : x ≡ y = cc in ap (λ v. v ∷ xs) same
drop_some (x ∷ xs) (suc n) y e = drop_some xs n y e

pub drop_none : {X : Type 0} (xs : List X) (n : ℕ) → slice_get xs n ≡ None → drop n xs ≡ []
drop_none [] zero e = refl
drop_none [] (suc n) e = refl
drop_none (x ∷ xs) zero e = absurd (cc)
drop_none (x ∷ xs) (suc n) e = drop_none xs n e

pub some_within : {X : Type 0} (xs : List X) (n : ℕ) (y : X) → slice_get xs n ≡ Some y → n < length xs
some_within [] n y e = absurd (cc)
some_within (x ∷ xs) zero y e = omega arith
some_within (x ∷ xs) (suc n) y e = let less = some_within xs n y e in omega arith

pub none_past : {X : Type 0} (xs : List X) (n : ℕ) → slice_get xs n ≡ None → length xs ≤ n
none_past [] n e = omega arith
none_past (x ∷ xs) zero e = absurd (cc)
none_past (x ∷ xs) (suc n) e = let less = none_past xs n e in omega arith

pub stays-some : (xs : List Identifier) (n left : ℕ) (y : Identifier) → slice_get xs n ≡ Some y → stays (drop n xs) left ≡ fits (plain_size (length y.name)) left
stays-some xs n left y e = ap (λ (t : List Identifier). stays t left) (drop_some xs n y e)

pub stays-none : (xs : List Identifier) (n left : ℕ) → slice_get xs n ≡ None → stays (drop n xs) left ≡ true
stays-none xs n left e = ap (λ (t : List Identifier). stays t left) (drop_none xs n e)

pub length-identifiers : (parent : ℕ) (entries : List (List ℕ × Entry)) → length (identifiers parent entries) ≡ length entries + 1
length-identifiers parent entries = omega (arith, length-map entries (λ (e : List ℕ × Entry). of_name e.0 e.1))

-- no identifiers take no blocks
pub no_blocks : (number : ℕ) → identifier_blocks number [] ≡ []
no_blocks number = ap (λ (t : List ℕ). blocked (block_count (length t)) t) (laid-nil number 0)

full_block : (block bytes : List ℕ) → length block ≡ 2048 → blocked (block_count (length (block ++ bytes))) (block ++ bytes) ≡ block ∷ blocked (block_count (length bytes)) bytes
full_block block bytes len =
    let count : block_count (length (block ++ bytes)) ≡ suc (block_count (length bytes)) = omega (arith, length-append block bytes) in
    let head : take 2048 (block ++ bytes) ≡ block = take_at block bytes 2048 len in
    let tail : drop 2048 (block ++ bytes) ≡ bytes = drop_at block bytes 2048 len in
    let whole : padded block ≡ block = ap (λ (n : ℕ). block ++ replicate (2048 - n) 0) len ∙ append-nil block in
    ap (λ (n : ℕ). blocked n (block ++ bytes)) count
    ∙ ap (λ (b : List ℕ). padded b ∷ blocked (block_count (length bytes)) (drop 2048 (block ++ bytes))) head
    ∙ ap (λ (t : List ℕ). padded block ∷ blocked (block_count (length bytes)) t) tail
    ∙ ap (λ (b : List ℕ). b ∷ blocked (block_count (length bytes)) bytes) whole

last_block : (at : ℕ) (block : List ℕ) → length block ≡ 2048 → 0 < at → at ≤ 2048 → drop at block ≡ replicate (2048 - at) 0
    → blocked (block_count (length (take at block))) (take at block) ≡ block ∷ []
last_block at block len some few zeros =
    let size : length (take at block) ≡ at = omega (arith, length-take at block) in
    let count : block_count (length (take at block)) ≡ suc 0 = omega arith in
    let all : take 2048 (take at block) ≡ take at block = take_all 2048 (take at block) (omega arith) in
    let whole : padded (take at block) ≡ block =
    ap (λ (n : ℕ). take at block ++ replicate (2048 - n) 0) size ∙ ap (λ (z : List ℕ). take at block ++ z) (sym zeros) ∙ take-append-drop at block in
    ap (λ (n : ℕ). blocked n (take at block)) count ∙ ap (λ (b : List ℕ). padded b ∷ []) all ∙ ap (λ (b : List ℕ). b ∷ []) whole

-- a block that is full, or the last, is the first of the blocks
pub laid_block : (number at : ℕ) (xs rest : List Identifier) (block : List ℕ) → laid number 0 xs ≡ take at block ++ onward number at rest
    → drop at block ≡ replicate (2048 - at) 0 → length block ≡ 2048 → at ≤ 2048 → 0 < at → (at ≡ 2048) ⊎ (rest ≡ [])
    → identifier_blocks number xs ≡ block ∷ identifier_blocks (number + 1) rest
laid_block number at xs rest block e zeros len few some over =
    elim over [
      | inl full ↦
          let front : take at block ≡ block = take_all at block (omega arith) in
          let whole : laid number 0 xs ≡ block ++ laid (number + 1) 0 rest =
          e ∙ ap (λ (t : List ℕ). t ++ onward number at rest) front ∙ ap (λ (t : List ℕ). block ++ t) (onward-full number at rest full) in
          ap (λ (t : List ℕ). blocked (block_count (length t)) t) whole ∙ full_block block (laid (number + 1) 0 rest) len
      | inr none ↦
          let whole : laid number 0 xs ≡ take at block =
          e ∙ ap (λ (t : List ℕ). take at block ++ t) (ap (onward number at) none ∙ onward-nil number at) ∙ append-nil (take at block) in
          ap (λ (t : List ℕ). blocked (block_count (length t)) t) whole ∙ last_block at block len some few zeros
          ∙ ap (λ (t : List (List ℕ)). block ∷ t) (sym (ap (identifier_blocks (number + 1)) none ∙ no_blocks (number + 1)))
    ]

-- so is one of which the rest is cleared
pub cleared_block : (number at : ℕ) (xs rest : List Identifier) (block cleared : List ℕ) → cleared ≡ take at block ++ replicate (2048 - at) 0
    → laid number 0 xs ≡ take at block ++ onward number at rest → length block ≡ 2048 → at ≤ 2048 → 0 < at → (at ≡ 2048) ⊎ (rest ≡ [])
    → identifier_blocks number xs ≡ cleared ∷ identifier_blocks (number + 1) rest
cleared_block number at xs rest block cleared is e len few some over =
    let size : length (take at block) ≡ at = omega (arith, length-take at block) in
    let zeros : length (replicate {A = ℕ} (2048 - at) 0) ≡ 2048 - at = length-replicate (2048 - at) 0 in
    let front : take at cleared ≡ take at block = ap (take at) is ∙ take_at (take at block) (replicate (2048 - at) 0) at size in
    let back : drop at cleared ≡ replicate (2048 - at) 0 = ap (drop at) is ∙ drop_at (take at block) (replicate (2048 - at) 0) at size in
    laid_block number at xs rest cleared (e ∙ ap (λ (t : List ℕ). t ++ onward number at rest) (sym front)) back
    (omega (arith, ap length is, length-append (take at block) (replicate (2048 - at) 0))) few some over

-- and its tag stays
pub cleared_tag : (at : ℕ) (block cleared : List ℕ) → cleared ≡ take at block ++ replicate (2048 - at) 0 → length block ≡ 2048 → at ≤ 2048 → 38 ≤ at
    → u16_at 0 block ≡ 257 → u16_at 0 cleared ≡ 257
cleared_tag at block cleared is len few long told =
    let size : length (take at block) ≡ at = omega (arith, length-take at block) in
    let front_byte : (k : ℕ) → k < at → get_or cleared k 0 ≡ get_or block k 0 =
    λ (k : ℕ) (lt : k < at).
    ap (λ (t : List ℕ). get_or t k 0) is ∙ get_or_append_left (take at block) (replicate (2048 - at) 0) 0 k (omega arith) ∙ get_or-take at block k 0 lt in
    omega (arith, told, front_byte 0 (omega arith), front_byte 1 (omega arith))

-- an identifier that is there is within the others
pub said_within : (o : Option Item) (xs : List Identifier) (n : ℕ) → option_map said o ≡ slice_get xs n → is_some o ≡ true → n < length xs
said_within None xs n e is = absurd (cc)
said_within (Some i) xs n e is = some_within xs n (said i) (sym e)

-- and none is after the last
pub said_past : (o : Option Item) (xs : List Identifier) (n : ℕ) → option_map said o ≡ slice_get xs n → is_some o ≡ false → slice_get xs n ≡ None
said_past None xs n e is = sym e
said_past (Some i) xs n e is = absurd (cc)

-- the identifier of a name is after the parent's
pub identifier_at : (parent : ℕ) (entries : List (List ℕ × Entry)) (index : ℕ) (text : List ℕ) (e : Entry) → Some (text, e) ≡ slice_get entries index
    → slice_get (identifiers parent entries) (index + 1) ≡ Some (of_name text e)
identifier_at parent entries index text e there =
    let step : index + 1 ≡ suc index = omega arith in
    ap (slice_get (identifiers parent entries)) step ∙ mapped entries index there
  where
    mapped : (es : List (List ℕ × Entry)) (k : ℕ) → Some (text, e) ≡ slice_get es k
        → slice_get (map (λ (p : List ℕ × Entry). of_name p.0 p.1) es) k ≡ Some (of_name text e)
    mapped [] k q = absurd (cc)
    mapped (p ∷ es) zero q = let same : (text, e) ≡ p = cc in ap (λ (r : List ℕ × Entry). Some (of_name r.0 r.1)) (sym same)
    mapped (p ∷ es) (suc k) q = mapped es k q

-- no more is put into a block that is filled up to there: it is full, or none is left
pub record IsOver (start here : Lay) (at : ℕ) (block : List ℕ) : Type 0 where
  pub filled : IsFilled start here at block
  pub over : (at ≡ 2048) ⊎ (slice_get (identifiers_of here.dir.now) here.next ≡ None)

-- at least one was put then
pub begun : (start here : Lay) (at : ℕ) (block : List ℕ) → IsOver start here at block → is_some start.item ≡ true → 0 < at
begun start here at block over some =
    let f = over.filled in
    let ids = identifiers_of start.dir.now in
    elim over.over [
      | inl full ↦ omega arith
      | inr none ↦
          let same : slice_get ids here.next ≡ None = ap (λ (d : Bor Dir). slice_get (identifiers_of d.now) here.next) (sym f.dir_is) ∙ none in
          let first = said_within start.item ids start.next start.said some in
          let past = none_past ids here.next same in
          elim (cases_lt 0 at) [ inl less ↦ less | inr none_put ↦ let there = f.before (omega arith) in absurd (omega arith) ]
    ]

-- where an identifier that was put ends
pub put_end : (at end after : ℕ) (x : Identifier) (rest : List Identifier) (full : Bool) → end ≡ at + plain_size (length x.name)
    → full ≡ not (stays rest (2048 - end)) → after ≡ (if full then 2048 else end) → after ≡ identifier_end at x rest
put_end at end after x rest full end-is full-is after-is =
    after-is ∙ ap (λ (b : Bool). if b then 2048 else end) (full-is ∙ ap (λ (n : ℕ). not (stays rest (2048 - n))) end-is)
    ∙ turned (stays rest (2048 - (at + plain_size (length x.name))))
  where
    turned : (b : Bool) → (if not b then 2048 else end) ≡ (if b then at + plain_size (length x.name) else 2048)
    turned true = end-is
    turned false = refl

-- what is in a block up to a place is all that its filling is of
pub filled_front : (start : Lay) (dir : Bor Dir) (next number at : ℕ) (block written : List ℕ) → IsFilledTo start dir next number at block
    → take at written ≡ take at block → length written ≡ 2048 → IsFilledTo start dir next number at written
filled_front start dir next number at block written f same len =
    let byte : (k : ℕ) → k < at → get_or written k 0 ≡ get_or block k 0 =
    λ (k : ℕ) (lt : k < at). sym (get_or-take at written k 0 lt) ∙ ap (λ (t : List ℕ). get_or t k 0) same ∙ get_or-take at block k 0 lt in
    record {
      within = f.within;
      dir_is = f.dir_is;
      number_is = f.number_is;
      before = f.before;
      further = f.further;
      long = f.long;
      tagged = λ (some : 0 < at).
          let long = f.long some in
          omega (arith, f.tagged some, byte 0 (omega arith), byte 1 (omega arith));
      filled = f.filled ∙ ap (λ (t : List ℕ). t ++ onward start.number at (left_of dir.now next)) (sym same);
      stood = f.stood;
      size = len;
    }

-- one identifier more is put
pub filled_more : (start : Lay) (dir : Bor Dir) (before next number at end : ℕ) (block written : List ℕ) (x : Identifier) → IsFilledTo start dir before number at block → at < 2048
    → slice_get (identifiers_of dir.now) before ≡ Some x → length x.name ≤ 255 → next ≡ before + 1
    → end ≡ identifier_end at x (left_of dir.now next) → end ≤ 2048 → at + plain_size (length x.name) ≤ end
    → written ≡ take at block ++ (identifier number x (end - (at + plain_size (length x.name))) ++ drop end block)
    → length written ≡ 2048 → IsFilledTo start dir next number end written
filled_more start dir before next number at end block written x f inside there short next_more end-is few onwards put len =
    let ids = identifiers_of dir.now in
    let rest = left_of dir.now next in
    let more = end - (at + plain_size (length x.name)) in
    let one = identifier number x more in
    let bounds = plain_bounds (length x.name) in
    let next_is : next ≡ suc before = omega arith in
    let same : rest ≡ drop (suc before) ids = ap (λ (n : ℕ). drop n ids) next_is in
    let left : left_of dir.now before ≡ x ∷ rest = drop_some ids before x there ∙ ap (λ (t : List Identifier). x ∷ t) (sym same) in
    let stood : FitsInBlock at (x ∷ rest) = subst (λ (t : List Identifier). FitsInBlock at t) left (f.stood inside) in
    let room = stands_within at x rest short (omega arith) stood in
    let sized : length block ≡ 2048 = f.size in
    let at_size : length (take at block) ≡ at = omega (arith, length-take at block) in
    let one_size : length one ≡ plain_size (length x.name) + more = length-identifier number more x in
    let front : take end written ≡ take at block ++ one =
    ap (take end) (put ∙ sym (append_assoc (take at block) one (drop end block)))
    ∙ take_at (take at block ++ one) (drop end block) end (omega (arith, length-append (take at block) one)) in
    let further : start.next < next =
    elim (cases_lt 0 at) [ inl some ↦ let less = f.further some in omega arith | inr none ↦ let start_is = f.before (omega arith) in omega arith ] in
    let front_byte : (k : ℕ) → k < at → get_or written k 0 ≡ get_or block k 0 =
    λ (k : ℕ) (lt : k < at).
    ap (λ (t : List ℕ). get_or t k 0) put ∙ get_or_append_left (take at block) (one ++ drop end block) 0 k (omega arith) ∙ get_or-take at block k 0 lt in
    let tagged : u16_at 0 written ≡ 257 = elim (cases_lt 0 at) [
      | inl some ↦
          let enough = f.long some in
          let told = f.tagged some in
          omega (arith, told, front_byte 0 (omega arith), front_byte 1 (omega arith))
      | inr none ↦
          let start_is : at ≡ 0 = omega arith in
          ap (u16_at 0) (put ∙ ap (λ (n : ℕ). take n block ++ (one ++ drop end block)) start_is) ∙ tag-identifier number more x (drop end block)
    ] in
    let end_more : identifier_end at x rest - (at + plain_size (length x.name)) ≡ more = omega arith in
    record {
      within = few;
      dir_is = f.dir_is;
      number_is = f.number_is;
      before = λ (e : end ≡ 0). absurd (omega arith);
      further = λ (lt : 0 < end). further;
      long = λ (lt : 0 < end). omega arith;
      tagged = λ (lt : 0 < end). tagged;
      filled =
          f.filled ∙ ap (λ (t : List ℕ). take at block ++ t) (ap (onward start.number at) left ∙ onward-within start.number at (x ∷ rest) inside
          ∙ laid-put start.number at x rest room
          ∙ ap (λ (m : ℕ). identifier start.number x m ++ onward start.number (identifier_end at x rest) rest) end_more
          ∙ ap (λ (n : ℕ). identifier n x more ++ onward start.number (identifier_end at x rest) rest) (sym f.number_is)
          ∙ ap (λ (n : ℕ). one ++ onward start.number n rest) (sym end-is))
          ∙ sym (append_assoc (take at block) one (onward start.number end rest)) ∙ ap (λ (t : List ℕ). t ++ onward start.number end rest) (sym front);
      stood = λ (lt : end < 2048). subst (λ (n : ℕ). FitsInBlock n rest) (sym end-is) (stands_next at x rest (omega arith));
      size = len;
    }

-- the same of a directory that is laid
pub filled_put : (start here new : Lay) (at end : ℕ) (block written : List ℕ) (x : Identifier) → IsFilled start here at block → at < 2048
    → slice_get (identifiers_of here.dir.now) here.next ≡ Some x → length x.name ≤ 255
    → new.dir ≡ here.dir → new.next ≡ here.next + 1 → new.number ≡ here.number
    → end ≡ identifier_end at x (identifiers_left new) → end ≤ 2048 → at + plain_size (length x.name) ≤ end
    → written ≡ take at block ++ (identifier here.number x (end - (at + plain_size (length x.name))) ++ drop end block)
    → length written ≡ 2048 → IsFilled start new end written
filled_put start here new at end block written x f inside there short dir next number end-is few onwards put len =
    let filled = filled_more start here.dir here.next new.next here.number at end block written x f inside there short next
    (end-is ∙ ap (λ (d : Bor Dir). identifier_end at x (left_of d.now new.next)) dir) few onwards put len in
    subst (λ (d : Bor Dir). IsFilledTo start d new.next new.number end written) (sym dir)
    (subst (λ (n : ℕ). IsFilledTo start here.dir new.next n end written) (sym number) filled)

-- what is said of a name that is found
pub short_said : (found : Option Item) → IfSome found (λ item. length item.name.now ≤ 255) → ForSome found (λ item. length item.name.now ≤ 255)
short_said found short v is = subst (λ (o : Option Item). IfSome o (λ item. length item.name.now ≤ 255)) is short
