-- Where the label and the moment of a file set are in its fields, and that a block says one file set.
use Rattle.std.proofs.Common.{◌≡◌, ℕ, ◌-◌, List, [], ◌∷◌, ◌++◌, length, take, drop, replicate, refl, sym, ap, subst, ◌∙◌, Some, None, Result, Ok, Err, IfOk, IfErr, arith}
use Rattle.std.specs.Prelude.{codes}
use Rattle.std.specs.Int.{w16, w32, to_le_bytes}
use Rattle.std.specs.List.{concat}
use Rattle.std.proofs.lemmas.List.{append-nil, drop-drop, drop_at, length-append, length-drop, take_at, take-append-drop}
use Rattle.ecma.specs.Charspec.{cs0}
use Rattle.ecma.specs.Descriptor.{IsDescriptor}
use Rattle.ecma.specs.FirstFault.{AllHold, IsFirst}
use Rattle.ecma.specs.Tag.{Sealed}
use Rattle.ecma.specs.Timestamp.{IsMoment}
use Rattle.ecma.proofs.Descriptors.{laid_out, whole_descriptor}
use Rattle.ecma.proofs.Faults.{no_fault}
use Rattle.ecma.proofs.Pieces.{onto, concat_onto}
use Rattle.ecma.proofs.Timestamps.{one_moment, one_spelling}
use Rattle.osta.specs.Dstring.{dstring}
use Rattle.osta.specs.Label.{IsLabelDstring}
use Rattle.icb.specs.declared.fault.IcbFault.{IcbFault}
use Rattle.icb.specs.declared.set.FileSet.{FileSet}
use Rattle.icb.specs.FileSet.{HasFileSetFields, IsFileSet, set_parts, set_rules}
use Rattle.icb.proofs.Labels.{is_label_dstring, length-label, one_label}

-- the fields after the short field of the label, after the long one, and after the timestamp
abbrev pub last_parts : List (List ℕ)
last_parts =
    replicate 64 0 ∷ to_le_bytes w32 2048 ∷ to_le_bytes w32 1 ∷ to_le_bytes w16 1 ∷ replicate 6 0
    ∷ (0 ∷ codes "*OSTA UDF Compliant") ∷ replicate 4 0 ∷ to_le_bytes w16 0x0201 ∷ replicate 6 0 ∷ replicate 64 0 ∷ []

abbrev pub later_parts : List ℕ → List (List ℕ)
later_parts narrow = cs0 ∷ narrow ∷ last_parts

abbrev pub parts_after : List ℕ → List ℕ → List (List ℕ)
parts_after wide narrow =
    to_le_bytes w16 3 ∷ to_le_bytes w16 3 ∷ to_le_bytes w32 1 ∷ to_le_bytes w32 1 ∷ to_le_bytes w32 0 ∷ to_le_bytes w32 0
    ∷ cs0 ∷ wide ∷ later_parts narrow

-- the fields have 496 bytes
set_length : (stamp wide narrow : List ℕ) → length stamp ≡ 12 → length wide ≡ 128 → length narrow ≡ 32 → length (concat (stamp ∷ parts_after wide narrow)) ≡ 496
set_length stamp wide narrow a b c =
    omega (arith, a, b, c, length-append stamp (concat (parts_after wide narrow)), length-append wide (concat (later_parts narrow)), length-append narrow (concat last_parts))

-- the timestamp and the short field of the label
set_places : (stamp wide narrow rest all : List ℕ) → length stamp ≡ 12 → length wide ≡ 128 → length narrow ≡ 32
    → all ≡ onto (stamp ∷ parts_after wide narrow) rest → (take 12 all ≡ stamp) × (take 32 (drop 288 all) ≡ narrow)
set_places stamp wide narrow rest all a b c e =
    let after = onto (parts_after wide narrow) rest in
    let later = onto (later_parts narrow) rest in
    let first : drop 12 all ≡ after = ap (drop 12) e ∙ drop_at stamp after 12 a in
    let second : drop 96 all ≡ wide ++ later = sym (drop-drop 84 12 all) ∙ ap (drop 84) first in
    let third : drop 224 all ≡ later = sym (drop-drop 128 96 all) ∙ ap (drop 128) second ∙ drop_at wide later 128 b in
    let fourth : drop 288 all ≡ narrow ++ onto last_parts rest = sym (drop-drop 64 224 all) ∙ ap (drop 64) third in
    (ap (take 12) e ∙ take_at stamp after 12 a, ap (take 32) fourth ∙ take_at narrow (onto last_parts rest) 32 c)

stamp_length : (m : ℕ) (stamp : List ℕ) → IsMoment m stamp → length stamp ≡ 12
stamp_length m stamp moment = ap length moment.spelled

-- the label and the moment that the fields say are at their places in the block
pub fields_tell : (set : FileSet) (block : List ℕ) (has : HasFileSetFields set (take 496 (drop 16 block)))
    → (take 12 (drop 16 block) ≡ has.stamp) × (take 32 (drop 304 block) ≡ dstring 32 set.label)
fields_tell set block has =
    let wide = dstring 128 set.label in
    let narrow = dstring 32 set.label in
    let parts = has.stamp ∷ parts_after wide narrow in
    let rest = drop 496 (drop 16 block) in
    let all : drop 16 block ≡ onto parts rest =
    sym (take-append-drop 496 (drop 16 block)) ∙ ap (λ (x : List ℕ). x ++ rest) has.spelled ∙ concat_onto parts rest in
    let places = set_places has.stamp wide narrow rest (drop 16 block) (stamp_length set.moment has.stamp has.moment) (length-label 128 set.label has.label (omega arith)) (length-label 32 set.label has.label (omega arith)) all in
    (places.0, ap (take 32) (sym (drop-drop 288 16 block)) ∙ places.1)

fields_length : (set : FileSet) (fields : List ℕ) → HasFileSetFields set fields → length fields ≡ 496
fields_length set fields has =
    ap length has.spelled
    ∙ set_length has.stamp (dstring 128 set.label) (dstring 32 set.label) (stamp_length set.moment has.stamp has.moment) (length-label 128 set.label has.label (omega arith)) (length-label 32 set.label has.label (omega arith))

-- the fields of a descriptor are after its tag
pub fields_stand : (set : FileSet) (block : List ℕ) (is : IsFileSet set block) → take 496 (drop 16 block) ≡ is.fields
fields_stand set block is =
    let len = fields_length set is.fields is.has in
    let parts = is.fields ∷ [] in
    let one : concat parts ≡ is.fields = append-nil is.fields in
    let body = laid_out 256 0 parts block (subst (λ (x : List ℕ). IsDescriptor 256 0 x block) (sym one) is.whole) in
    ap (take 496) body.1 ∙ take_at is.fields body.0 496 len

-- the fields of one file set are the same
pub same_spelled : (d e : FileSet) (a b : List ℕ) → d.label ≡ e.label → d.moment ≡ e.moment → HasFileSetFields d a → HasFileSetFields e b → a ≡ b
same_spelled d e a b label moment x y =
    let stamp : x.stamp ≡ y.stamp = one_spelling e.moment x.stamp y.stamp (subst (λ (m : ℕ). IsMoment m x.stamp) moment x.moment) y.moment in
    x.spelled ∙ ap (λ (l : List ℕ). concat (set_parts l x.stamp)) label ∙ ap (λ (s : List ℕ). concat (set_parts e.label s)) stamp ∙ sym y.spelled

-- the block keeps the rules
pub set_keeps : (set : FileSet) (block : List ℕ) → IsFileSet set block → AllHold (set_rules block) × HasFileSetFields set (take 496 (drop 16 block))
set_keeps set block is =
    let d = is.whole in
    let has : HasFileSetFields set (take 496 (drop 16 block)) = subst (HasFileSetFields set) (sym (fields_stand set block is)) is.has in
    let size : length d.descriptor ≡ 512 = omega (arith, fields_length set is.fields is.has, ap length d.fields, length-drop 16 d.descriptor, d.sealed.long) in
    let zeros : List ℕ = replicate (2048 - length d.descriptor) 0 in
    let front : take 512 block ≡ d.descriptor = ap (take 512) d.whole ∙ take_at d.descriptor zeros 512 size in
    let back : drop 512 block ≡ replicate 1536 0 = ap (drop 512) d.whole ∙ drop_at d.descriptor zeros 512 size ∙ ap (λ (n : ℕ). replicate (2048 - n) 0) size in
    ((subst (λ (x : List ℕ). Sealed 256 0 x) (sym front) d.sealed, ((set, has), (back, tt))), has)

-- a block that keeps the rules is the descriptor of what its fields say
pub is_set : (set : FileSet) (block : List ℕ) → length block ≡ 2048 → AllHold (set_rules block) → HasFileSetFields set (take 496 (drop 16 block)) → IsFileSet set block
is_set set block room rules has =
    let body : drop 16 block ≡ take 496 (drop 16 block) ++ replicate 1536 0 =
    sym (take-append-drop 496 (drop 16 block)) ∙ ap (λ (x : List ℕ). take 496 (drop 16 block) ++ x) (drop-drop 496 16 block ∙ rules.1.1.0) in
    record {
      fields = take 496 (drop 16 block);
      has = has;
      whole = whole_descriptor 256 0 512 (take 496 (drop 16 block)) block room (omega arith) (omega arith) rules.0 rules.1.1.0 body;
    }

same_set : (d e : FileSet) → d.label ≡ e.label → d.moment ≡ e.moment → d ≡ e
same_set d e label moment =
    let made : FileSet = record { label = e.label; moment = e.moment } in
    let from : d ≡ made = rw (← label, ← moment) refl in
    from

-- fields of two long texts that are those of one label
pub written_set : (label stamp wide narrow block : List ℕ) → wide ≡ dstring 128 label → narrow ≡ dstring 32 label
    → IsDescriptor 256 0 (concat (stamp ∷ parts_after wide narrow)) block → IsDescriptor 256 0 (concat (set_parts label stamp)) block
written_set label stamp wide narrow block w n d =
    subst (λ (x : List ℕ). IsDescriptor 256 0 (concat (stamp ∷ parts_after (dstring 128 label) x)) block) n
    (subst (λ (x : List ℕ). IsDescriptor 256 0 (concat (stamp ∷ parts_after x narrow)) block) w d)

-- what reading the label's field and the timestamp's says of a file set that the fields say
pub label_stands : (set : FileSet) (block : List ℕ) → HasFileSetFields set (take 496 (drop 16 block)) → IsLabelDstring set.label (take 32 (drop 304 block))
label_stands set block has = is_label_dstring set.label (take 32 (drop 304 block)) has.label (fields_tell set block has).1

pub moment_stands : (set : FileSet) (block stamp : List ℕ) → stamp ≡ take 12 (drop 16 block) → HasFileSetFields set (take 496 (drop 16 block)) → IsMoment set.moment stamp
moment_stands set block stamp e has = subst (λ (x : List ℕ). IsMoment set.moment x) (sym ((fields_tell set block has).0) ∙ sym e) has.moment

pub one_fields : (d e : FileSet) (block : List ℕ) → HasFileSetFields d (take 496 (drop 16 block)) → HasFileSetFields e (take 496 (drop 16 block)) → d ≡ e
one_fields d e block x y =
    let label = one_label d.label e.label x.label y.label (sym (fields_tell d block x).1 ∙ (fields_tell e block y).1) in
    let moment = one_moment d.moment e.moment (take 12 (drop 16 block)) (moment_stands d block (take 12 (drop 16 block)) refl x) (moment_stands e block (take 12 (drop 16 block)) refl y) in
    same_set d e label moment

-- what the tests of a block answer is exact
pub only_set : (block : List ℕ) (r : Result FileSet IcbFault) → IfErr r (IsFirst (set_rules block)) → IfOk r (λ set. HasFileSetFields set (take 496 (drop 16 block)))
    → (set : FileSet) → IsFileSet set block → r ≡ Ok set
only_set block (Ok d) fault says set is = ap (λ (x : FileSet). Ok x) (one_fields d set block says (set_keeps set block is).1)
only_set block (Err f) fault says set is = absurd (no_fault (set_rules block) f fault (set_keeps set block is).0)

pub found_set : (block : List ℕ) (r : Result FileSet IcbFault) → length block ≡ 2048 → IfOk r (λ set. AllHold (set_rules block)) → IfOk r (λ set. HasFileSetFields set (take 496 (drop 16 block)))
    → IfOk r (λ set. IsFileSet set block)
found_set block (Ok set) room rules says = is_set set block room rules says
found_set block (Err f) room rules says = tt

pub no_some : {A : Type 0} (x : A) → None ≡ Some x → ⊥
no_some x e = absurd cc

pub some_same : {A : Type 0} (x y : A) → Some x ≡ Some y → x ≡ y
some_same x y e = cc
