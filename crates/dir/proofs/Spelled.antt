-- One identifier: its size, its parts, and the bytes that are one.
use Rattle.std.proofs.Common.{◌≡◌, ℕ, ◌+◌, ◌-◌, ◌%◌, ◌^◌, ◌<◌, ◌≤◌, min, sum, List, ◌++◌, length, take, drop, replicate, refl, sym, ap, ◌∙◌, append_assoc, arith}
use Rattle.std.proofs.lemmas.List.{append-nil, drop-drop, drop_all, drop_at, length-append, length-drop, length-replicate, length-take, take_at}
use Rattle.ecma.specs.Tag.{Sealed}
use Rattle.ecma.proofs.Pieces.{IsBytes}
use Rattle.ecma.specs.EntityId.{developer}
use Rattle.dir.specs.Identifier.{Identifier, plain_size, use_of, head_of, body_of, identifier}
use borrow.Rule.Slice.PartMut.{put_mid}
use Rattle.std.specs.Prelude.{slice_index, slice_set}
use Rattle.std.specs.Int.{w32, to_le_bytes}
use Rattle.ecma.specs.Numbers.{u16_at, u32_at}
use Rattle.dir.specs.Split.{name_size, use_size}
use Rattle.ecma.proofs.Seals.{sealed_is}

pub length-use_of : (more : ℕ) → length (use_of more) ≡ more
length-use_of more =
    omega (arith, length-append (take (min more 32) developer) (replicate (more - 32) 0), length-take (min more 32) developer, length-replicate {A = ℕ} (more - 32) 0)

pub length-body_of : (x : Identifier) (more : ℕ) → length (body_of x more) + 16 ≡ plain_size (length x.name) + more
length-body_of x more =
    let pad : List ℕ = replicate (plain_size (length x.name) - (38 + length x.name)) 0 in
    omega (
      arith,
      length-append (use_of more) (x.name ++ pad),
      length-append x.name pad,
      length-use_of more,
      length-replicate {A = ℕ} (plain_size (length x.name) - (38 + length x.name)) 0,
    )

-- what one more piece makes of what is written so far and the rest of what was there
put_piece : (front piece into before : List ℕ) (at n : ℕ) → at ≡ length front → n ≡ length piece → into ≡ front ++ drop at before
    → put_mid at n into piece ≡ (front ++ piece) ++ drop (at + n) before
put_piece front piece into before at n at-is n-is so_far =
    let head : take at into ≡ front = ap (take at) so_far ∙ take_at front (drop at before) at (sym at-is) in
    let tail : drop at into ≡ drop at before = ap (drop at) so_far ∙ drop_at front (drop at before) at (sym at-is) in
    let rest : drop n (drop at before) ≡ drop (at + n) before = drop-drop n at before in
    rw (head, tail, rest) (sym (append_assoc front piece (drop (at + n) before)))

-- three pieces one after another, over the beginning of the bytes
put_three : (second third fourth : ℕ) (into a b c : List ℕ) → second ≡ length a → third ≡ second + length b → fourth ≡ third + length c
    → put_mid third (fourth - third) (put_mid second (third - second) (a ++ drop second into) b) c ≡ ((a ++ b) ++ c) ++ drop fourth into
put_three second third fourth into a b c second-is third-is fourth-is =
    let two : put_mid second (third - second) (a ++ drop second into) b ≡ (a ++ b) ++ drop third into =
    put_piece a b (a ++ drop second into) into second (third - second) second-is (omega arith) refl
    ∙ ap (λ (n : ℕ). (a ++ b) ++ drop n into) (omega arith) in
    put_piece (a ++ b) c (put_mid second (third - second) (a ++ drop second into) b) into third (fourth - third) (omega (arith, length-append a b)) (omega arith) two
    ∙ ap (λ (n : ℕ). ((a ++ b) ++ c) ++ drop n into) (omega arith)

-- and a fourth, over all of them
put_last : (at : ℕ) (three into front d : List ℕ) → at ≡ length front → length into ≡ at + length d → three ≡ front ++ drop at into
    → put_mid at (length three - at) three d ≡ front ++ d
put_last at three into front d at-is long three-is =
    let same : length three ≡ length into = ap length three-is ∙ omega (arith, length-append front (drop at into), length-drop at into) in
    put_piece front d three into at (length three - at) at-is (omega arith) three-is
    ∙ ap (λ (rest : List ℕ). (front ++ d) ++ rest) (drop_all (at + (length three - at)) into (omega arith)) ∙ append-nil (front ++ d)

-- a body as it is written
pub body_put : (x : Identifier) (more use_end name_end : ℕ) (into head extra name pad : List ℕ) → length into + 16 ≡ plain_size (length x.name) + more
    → use_end ≡ 22 + more → name_end ≡ use_end + length x.name
    → head ≡ head_of x.characteristics (length x.name) x.icb x.unique more
    → extra ≡ use_of (length (take (use_end - 22) (drop 22 (head ++ drop 22 into))))
    → name ≡ x.name
    → let three = put_mid use_end (name_end - use_end) (put_mid 22 (use_end - 22) (head ++ drop 22 into) extra) name in
    pad ≡ replicate (length (take (length three - name_end) (drop name_end three))) 0
    → put_mid name_end (length three - name_end) three pad ≡ body_of x more
body_put x more use_end name_end into head extra name pad room use_end-is name_end-is head-is extra-is name-is pad-is =
    let three = put_mid use_end (name_end - use_end) (put_mid 22 (use_end - 22) (head ++ drop 22 into) extra) name in
    let head-long : length head ≡ 22 = ap length head-is in
    let extra-long : length (take (use_end - 22) (drop 22 (head ++ drop 22 into))) ≡ more =
    omega (arith, length-take (use_end - 22) (drop 22 (head ++ drop 22 into)), length-drop 22 (head ++ drop 22 into), length-append head (drop 22 into), length-drop 22 into) in
    let extra-said : extra ≡ use_of more = extra-is ∙ ap use_of extra-long in
    let name-long : length name ≡ length x.name = ap length name-is in
    let three-is : three ≡ ((head ++ extra) ++ name) ++ drop name_end into =
    put_three 22 use_end name_end into head extra name (sym head-long) (omega (arith, ap length extra-said, length-use_of more)) (omega arith) in
    let front-long : length ((head ++ extra) ++ name) ≡ name_end =
    omega (arith, length-append (head ++ extra) name, length-append head extra, ap length extra-said, length-use_of more) in
    let three-long : length three ≡ length into = ap length three-is ∙ omega (arith, length-append ((head ++ extra) ++ name) (drop name_end into), length-drop name_end into) in
    let pad-long : length (take (length three - name_end) (drop name_end three)) ≡ plain_size (length x.name) - (38 + length x.name) =
    omega (arith, length-take (length three - name_end) (drop name_end three), length-drop name_end three) in
    let pad-said : pad ≡ replicate (plain_size (length x.name) - (38 + length x.name)) 0 = pad-is ∙ ap (λ (n : ℕ). replicate n 0) pad-long in
    let whole : put_mid name_end (length three - name_end) three pad ≡ ((head ++ extra) ++ name) ++ pad =
    put_last name_end three into ((head ++ extra) ++ name) pad (sym front-long)
    (omega (arith, ap length pad-said, length-replicate {A = ℕ} (plain_size (length x.name) - (38 + length x.name)) 0)) three-is in
    whole ∙ append_assoc (head ++ extra) name pad ∙ append_assoc head extra (name ++ pad)
    ∙ ap (λ (h : List ℕ). h ++ (extra ++ (name ++ pad))) head-is
    ∙ ap (λ (e : List ℕ). head_of x.characteristics (length x.name) x.icb x.unique more ++ (e ++ (name ++ pad))) extra-said
    ∙ ap (λ (n : List ℕ). head_of x.characteristics (length x.name) x.icb x.unique more ++ (use_of more ++ (n ++ pad))) name-is
    ∙ ap (λ (p : List ℕ). head_of x.characteristics (length x.name) x.icb x.unique more ++ (use_of more ++ (x.name ++ p))) pad-said

-- what is after the tag, when it was written there
pub after_tag : (into body : List ℕ) → 16 ≤ length into → length body ≡ length into - 16 → drop 16 (put_mid 16 (length into - 16) into body) ≡ body
after_tag into body long len =
    drop_at (take 16 into) (body ++ drop (length into - 16) (drop 16 into)) 16 (omega (arith, length-take 16 into))
    ∙ ap (λ (x : List ℕ). body ++ x) (drop_all (length into - 16) (drop 16 into) (omega (arith, length-drop 16 into)))
    ∙ append-nil body

pub identifier_is : (number more : ℕ) (x : Identifier) (bytes body : List ℕ) → IsBytes bytes → Sealed 257 number bytes
    → drop 16 bytes ≡ body → body ≡ body_of x more → bytes ≡ identifier number x more
unfolding identifier
identifier_is number more x bytes body all s after same = sealed_is 257 number bytes (body_of x more) all s (after ∙ same)

pub length-identifier : (number more : ℕ) (x : Identifier) → length (identifier number x more) ≡ plain_size (length x.name) + more
unfolding identifier
length-identifier number more x = omega (arith, length-body_of x more)

-- what is in the bytes of an identifier, whatever comes after it
pub name_size-identifier : (number more : ℕ) (x : Identifier) (rest : List ℕ) → name_size (identifier number x more ++ rest) ≡ length x.name
unfolding identifier
name_size-identifier number more x rest = refl

pub use_size-identifier : (number more : ℕ) (x : Identifier) (rest : List ℕ) → more < 2 ^ 16 → use_size (identifier number x more ++ rest) ≡ more
unfolding identifier
use_size-identifier number more x rest fits = omega arith

pub kind-identifier : (number more : ℕ) (x : Identifier) (rest : List ℕ) → slice_index (identifier number x more ++ rest) 18 ≡ x.characteristics
unfolding identifier
kind-identifier number more x rest = refl

pub icb-identifier : (number more : ℕ) (x : Identifier) (rest : List ℕ) → x.icb < 2 ^ 32 → u32_at 24 (identifier number x more ++ rest) ≡ x.icb
unfolding identifier
icb-identifier number more x rest fits = omega arith

pub unique-identifier : (number more : ℕ) (x : Identifier) (rest : List ℕ) → x.unique < 2 ^ 32 → u32_at 32 (identifier number x more ++ rest) ≡ x.unique
unfolding identifier
unique-identifier number more x rest fits = omega arith

-- the fields between tag and implementation use
pub head-identifier : (number more : ℕ) (x : Identifier) (rest : List ℕ)
    → take 22 (drop 16 (identifier number x more ++ rest)) ≡ head_of x.characteristics (length x.name) x.icb x.unique more
unfolding identifier
head-identifier number more x rest = refl

-- the implementation use, the name and the padding
pub tail-identifier : (number more : ℕ) (x : Identifier) (rest : List ℕ)
    → drop 38 (identifier number x more ++ rest) ≡ use_of more ++ (x.name ++ (replicate (plain_size (length x.name) - (38 + length x.name)) 0 ++ rest))
unfolding identifier
tail-identifier number more x rest =
    let pad : List ℕ = replicate (plain_size (length x.name) - (38 + length x.name)) 0 in
    append_assoc (use_of more) (x.name ++ pad) rest ∙ ap (λ (t : List ℕ). use_of more ++ t) (append_assoc x.name pad rest)

pub tag-identifier : (number more : ℕ) (x : Identifier) (rest : List ℕ) → u16_at 0 (identifier number x more ++ rest) ≡ 257
unfolding identifier
tag-identifier number more x rest = refl

-- an identifier of block 0 with another number in its tag
pub moved-identifier : (number total : ℕ) (x : Identifier) → total ≡ slice_index (identifier 0 x 0) 4 + sum (to_le_bytes w32 number)
    → put_mid 12 4 (slice_set (identifier 0 x 0) 4 (total % 256)) (to_le_bytes w32 number) ≡ identifier number x 0
unfolding identifier
moved-identifier number total x is =
    let checksum : total % 256 ≡ slice_index (identifier number x 0) 4 = omega arith in
    ap (λ (n : ℕ). slice_set (identifier number x 0) 4 n) checksum
