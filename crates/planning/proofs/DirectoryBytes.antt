-- A directory that is laid is made of bytes.
use Rattle.std.proofs.Common.{◌≡◌, ℕ, zero, suc, ◌+◌, ◌-◌, ◌/◌, ◌%◌, ◌<◌, ◌≤◌, min, Bool, true, false, List, [], ◌∷◌, ◌++◌, length, take, drop, replicate, map, refl, sym, subst, arith, length-append}
use Rattle.std.specs.Prelude.{if◌then◌else◌, nat_lt, sum, All}
use Rattle.std.specs.Int.{w16, w32, to_le_bytes, byte_at, bytes_low_first}
use Rattle.std.specs.List.{concat, flat_map, list_all}
use Rattle.std.proofs.lemmas.Bool.{ltb-true, and_parts}
use Rattle.std.proofs.lemmas.List.{length-take, length-replicate}
use Rattle.ecma.specs.Crc.{crc_of}
use Rattle.ecma.specs.Descriptor.{padded}
use Rattle.ecma.specs.EntityId.{developer}
use Rattle.ecma.specs.Tag.{tag_cells}
use Rattle.osta.specs.Compressed.{is_narrow, has_spelling, two_bytes, compressed_unicode, compressed}
use Rattle.osta.specs.Name.{IsName}
use Rattle.std.specs.Str.{chars}
use Rattle.limits.specs.declared.TheConstants.{BLOCK_BYTES}
use Rattle.osta.proofs.Names.{name_few, name_spelled}
use Rattle.dir.specs.declared.entry.Entry.{Entry}
use Rattle.dir.specs.declared.entry.Kind.{Kind}
use Rattle.dir.specs.declared.entry.Kind.TheVariants.{File, Directory}
use Rattle.dir.specs.Directory.{of_parent, of_name, characteristics_of, identifiers, IsDirectoryEntry}
use Rattle.dir.specs.Identifier.{Identifier, plain_size, use_of, head_of, body_of, identifier}
use Rattle.ecma.specs.Blocks.{block_count}
use Rattle.dir.specs.Layout.{stays, laid, blocked, identifier_blocks}
use Rattle.dir.specs.Split.{AreBytes}
use Rattle.dir.proofs.Placing.{laid-stays, laid-leaves, laid-nil}
use Rattle.udf.specs.Udf.{IsBlock}

-- ---- lists of bytes

none : AreBytes []
none i = let h : 0 < 256 = omega arith in h

one_more : (b : ℕ) (bs : List ℕ) → b < 256 → AreBytes bs → AreBytes (b ∷ bs)
one_more b bs small all zero = small
one_more b bs small all (suc i) = all i

both : (xs ys : List ℕ) → AreBytes xs → AreBytes ys → AreBytes (xs ++ ys)
both [] ys f g = g
both (x ∷ xs) ys f g = one_more x (xs ++ ys) (f 0) (both xs ys (λ i. f (suc i)) g)

noughts : (n : ℕ) → AreBytes (replicate n 0)
noughts zero = none
noughts (suc n) = one_more 0 (replicate n 0) (let h : 0 < 256 = omega arith in h) (noughts n)

front : (n : ℕ) (xs : List ℕ) → AreBytes xs → AreBytes (take n xs)
front zero xs f = none
front (suc n) [] f = none
front (suc n) (x ∷ xs) f = one_more x (take n xs) (f 0) (front n xs (λ i. f (suc i)))

back : (n : ℕ) (xs : List ℕ) → AreBytes xs → AreBytes (drop n xs)
back zero xs f = f
back (suc n) [] f = none
back (suc n) (x ∷ xs) f = back n xs (λ i. f (suc i))

checked : (xs : List ℕ) → list_all (λ b. nat_lt b 256) xs ≡ true → AreBytes xs
checked [] e = none
checked (x ∷ xs) e =
    let parts = and_parts (nat_lt x 256) (list_all (λ b. nat_lt b 256) xs) e in
    one_more x xs (ltb-true x 256 parts.0) (checked xs parts.1)

low_byte : (i n : ℕ) → byte_at i n < 256
low_byte zero n = omega arith
low_byte (suc i) n = omega arith

low_first : (i k n : ℕ) → AreBytes (bytes_low_first i k n)
low_first i zero n = none
low_first i (suc k) n = one_more (byte_at i n) (bytes_low_first (suc i) k n) (low_byte i n) (low_first (suc i) k n)

two : (n : ℕ) → AreBytes (to_le_bytes w16 n)
two n = low_first 0 2 n

four : (n : ℕ) → AreBytes (to_le_bytes w32 n)
four n = low_first 0 4 n

-- ---- names as they are spelled

narrow : (cs : List ℕ) → list_all is_narrow cs ≡ true → AreBytes cs
narrow cs e = checked cs e

wide : (cs : List ℕ) → list_all has_spelling cs ≡ true → AreBytes (flat_map two_bytes cs)
wide [] e = none
wide (c ∷ cs) e =
    let parts = and_parts (has_spelling c) (list_all has_spelling cs) e in
    let small : c < 0x1_0000 = ltb-true c 0x1_0000 (and_parts _ _ parts.0).0 in
    one_more (c / 256) (c % 256 ∷ flat_map two_bytes cs) (omega arith) (one_more (c % 256) (flat_map two_bytes cs) (omega arith) (wide cs parts.1))

spelled_bytes : (cs : List ℕ) → list_all has_spelling cs ≡ true → AreBytes (compressed_unicode cs)
spelled_bytes [] e = none
spelled_bytes (c ∷ cs) e = by (list_all is_narrow (c ∷ cs)) refl
  where
    by : (b : Bool) → list_all is_narrow (c ∷ cs) ≡ b → AreBytes (if b then 8 ∷ c ∷ cs else 16 ∷ flat_map two_bytes (c ∷ cs))
    by true n = one_more 8 (c ∷ cs) (omega arith) (narrow (c ∷ cs) n)
    by false n = one_more 16 (flat_map two_bytes (c ∷ cs)) (omega arith) (wide (c ∷ cs) e)

name_bytes : (text : List ℕ) → IsName text → AreBytes (compressed text)
name_bytes text name = spelled_bytes (chars text) (name_spelled text name).spellable

-- ---- identifiers

-- what an identifier says has bytes
record HasBytes (x : Identifier) : Type 0 where
  pub name : AreBytes x.name
  pub few : length x.name ≤ 255
  pub kind : x.characteristics < 256

tag : (id crc size loc : ℕ) → AreBytes (tag_cells id crc size loc)
tag id crc size loc =
    let front = to_le_bytes w16 id ++ to_le_bytes w16 3 in
    let back = (0 ∷ []) ++ to_le_bytes w16 1 ++ to_le_bytes w16 crc ++ to_le_bytes w16 size ++ to_le_bytes w32 loc in
    let rest = to_le_bytes w16 1 ++ to_le_bytes w16 crc ++ to_le_bytes w16 size ++ to_le_bytes w32 loc in
    let check : (sum front + sum back) % 256 < 256 = omega arith in
    both front ((sum front + sum back) % 256 ∷ back) (both (to_le_bytes w16 id) (to_le_bytes w16 3) (two id) (two 3))
    (one_more ((sum front + sum back) % 256) back check
    (one_more 0 rest (omega arith)
    (both (to_le_bytes w16 1) (to_le_bytes w16 crc ++ to_le_bytes w16 size ++ to_le_bytes w32 loc) (two 1)
    (both (to_le_bytes w16 crc) (to_le_bytes w16 size ++ to_le_bytes w32 loc) (two crc)
    (both (to_le_bytes w16 size) (to_le_bytes w32 loc) (two size) (four loc))))))

-- lists of bytes, joined
abbrev EachBytes : List (List ℕ) → Type 0
EachBytes [] = Unit {0}
EachBytes (xs ∷ more) = AreBytes xs × EachBytes more

joined : (all : List (List ℕ)) → EachBytes all → AreBytes (concat all)
joined [] each = none
joined (xs ∷ more) each = both xs (concat more) each.0 (joined more each.1)

head : (kind len icb unique more : ℕ) → kind < 256 → len < 256 → AreBytes (head_of kind len icb unique more)
head kind len icb unique more low few =
    joined (to_le_bytes w16 1 ∷ (kind ∷ len ∷ []) ∷ to_le_bytes w32 BLOCK_BYTES ∷ to_le_bytes w32 icb ∷ to_le_bytes w16 1 ∷ to_le_bytes w16 0 ∷ to_le_bytes w32 unique ∷ to_le_bytes w16 more ∷ [])
    (two 1, (one_more kind (len ∷ []) low (one_more len [] few none), (four BLOCK_BYTES, (four icb, (two 1, (two 0, (four unique, (two more, tt))))))))

lengthened : (more : ℕ) → AreBytes (use_of more)
lengthened more = both (take (min more 32) developer) (replicate (more - 32) 0) (front (min more 32) developer (checked developer refl)) (noughts (more - 32))

body : (x : Identifier) (more : ℕ) → HasBytes x → AreBytes (body_of x more)
body x more has =
    let padding = plain_size (length x.name) - (38 + length x.name) in
    let small : length x.name < 256 = omega (arith, has.few) in
    both (head_of x.characteristics (length x.name) x.icb x.unique more) (use_of more ++ (x.name ++ replicate padding 0)) (head x.characteristics (length x.name) x.icb x.unique more has.kind small)
    (both (use_of more) (x.name ++ replicate padding 0) (lengthened more) (both x.name (replicate padding 0) has.name (noughts padding)))

one : (number : ℕ) (x : Identifier) (more : ℕ) → HasBytes x → AreBytes (identifier number x more)
unfolding identifier
one number x more has =
    let text = body_of x more in
    both (tag_cells 257 (crc_of text) (length text) number) text (tag 257 (crc_of text) (length text) number) (body x more has)

-- each of them does
abbrev EachHas : List Identifier → Type 0
EachHas [] = Unit {0}
EachHas (x ∷ xs) = HasBytes x × EachHas xs

laid_bytes : (xs : List Identifier) (number at : ℕ) → EachHas xs → AreBytes (laid number at xs)
laid_bytes [] number at has = subst AreBytes (sym (laid-nil number at)) none
laid_bytes (x ∷ rest) number at has =
    by (stays rest (BLOCK_BYTES - (at + plain_size (length x.name)))) refl (laid_bytes rest number (at + plain_size (length x.name)) has.1) (laid_bytes rest (number + 1) 0 has.1)
  where
    by : (b : Bool) → stays rest (BLOCK_BYTES - (at + plain_size (length x.name))) ≡ b → AreBytes (laid number (at + plain_size (length x.name)) rest) → AreBytes (laid (number + 1) 0 rest)
        → AreBytes (laid number at (x ∷ rest))
    by true e after next =
        let end = at + plain_size (length x.name) in
        subst AreBytes (sym (laid-stays number at x rest e)) (both (identifier number x 0) (laid number end rest) (one number x 0 has.0) after)
    by false e after next =
        let left = BLOCK_BYTES - (at + plain_size (length x.name)) in
        subst AreBytes (sym (laid-leaves number at x rest e)) (both (identifier number x left) (laid (number + 1) 0 rest) (one number x left has.0) next)

-- ---- blocks

block : (bytes : List ℕ) → AreBytes bytes → IsBlock (padded (take BLOCK_BYTES bytes))
block bytes all =
    let text = take BLOCK_BYTES bytes in
    record {
      size = omega (arith, length-append text (replicate (BLOCK_BYTES - length text) 0), length-replicate {A = ℕ} (BLOCK_BYTES - length text) 0, length-take BLOCK_BYTES bytes);
      bytes = both text (replicate (BLOCK_BYTES - length text) 0) (front BLOCK_BYTES bytes all) (noughts (BLOCK_BYTES - length text));
    }

blocked_bytes : (count : ℕ) (bytes : List ℕ) → AreBytes bytes → All IsBlock (blocked count bytes)
blocked_bytes zero bytes all k d lt = absurd (omega arith)
blocked_bytes (suc count) bytes all zero d lt = block bytes all
blocked_bytes (suc count) bytes all (suc k) d lt = blocked_bytes count (drop BLOCK_BYTES bytes) (back BLOCK_BYTES bytes all) k d (omega (arith, lt))

kind_small : (k : Kind) → characteristics_of k < 256
kind_small File = omega arith
kind_small Directory = omega arith

names_have : (es : List (List ℕ × Entry)) → All IsDirectoryEntry es → EachHas (map (λ (e : List ℕ × Entry). of_name e.0 e.1) es)
names_have [] all = tt
names_have (e ∷ es) all =
    let first = all 0 e (omega arith) in
    (record { name = name_bytes e.0 first.name; few = name_few e.0 first.name; kind = kind_small e.1.kind }, names_have es (λ k d lt. all (suc k) d (omega (arith, lt))))

-- the blocks of a directory
pub directory_bytes : (parent first : ℕ) (entries : List (List ℕ × Entry)) → All IsDirectoryEntry entries → All IsBlock (identifier_blocks first (identifiers parent entries))
directory_bytes parent first entries named =
    let bytes = laid first 0 (identifiers parent entries) in
    let above : HasBytes (of_parent parent) = record { name = none; few = omega arith; kind = omega arith } in
    blocked_bytes (block_count (length bytes)) bytes (laid_bytes (identifiers parent entries) first 0 (above, names_have entries named))
