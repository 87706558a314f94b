-- What a volume header has at the places that are read, and that blocks describe one volume header.
use Rattle.std.proofs.Common.{◌≡◌, ℕ, ◌+◌, ◌-◌, ◌≤◌, List, [], ◌∷◌, ◌++◌, length, take, drop, get_or, replicate, Option, Some, None, IfNone, IfSome, refl, sym, ap, subst, ◌∙◌, inl, arith}
use Rattle.std.specs.Int.{w16, w32, to_le_bytes}
use Rattle.std.specs.List.{concat}
use Rattle.std.proofs.lemmas.List.{drop-drop, drop_at, get_or-drop, length-append, length-drop, take_at}
use Rattle.ecma.specs.Charspec.{cs0}
use Rattle.ecma.specs.Descriptor.{IsDescriptor}
use Rattle.ecma.specs.EntityId.{developer}
use Rattle.ecma.specs.Numbers.{u32_at}
use Rattle.ecma.specs.Tag.{Sealed}
use Rattle.ecma.specs.Timestamp.{IsMoment}
use Rattle.ecma.proofs.Descriptors.{laid_out}
use Rattle.ecma.proofs.Pieces.{onto, IsBytes}
use Rattle.ecma.proofs.Timestamps.{one_moment}
use Rattle.osta.specs.Dstring.{dstring, Dstring}
use Rattle.osta.specs.Label.{IsLabelDstring}
use Rattle.osta.proofs.Fields.{text_from_Dstring}
use Rattle.osta.proofs.Names.{label_Dstring}
use Rattle.volume.specs.declared.front.Front.{Front}
use Rattle.volume.specs.Descriptors.{digits, partition_fields}
use Rattle.volume.specs.Front.{IsFront, IsFrontBlock}
use Rattle.volume.specs.Reading.{DiffersAt, DiffersFirst, DescriptorsTell, primary_label_field, stamp_field}
use Rattle.volume.proofs.Digits.{length-label, length-set}
use Rattle.volume.proofs.FrontLaws.{one_front_block}

-- the descriptor is the beginning of its block that is as long
sealed_front : (id loc size : ℕ) (body block : List ℕ) → IsDescriptor id loc body block → length body + 16 ≡ size → Sealed id loc (take size block)
sealed_front id loc size body block d len =
    let whole : length d.descriptor ≡ size = omega (arith, len, ap length d.fields, length-drop 16 d.descriptor, d.sealed.long) in
    let front : take size block ≡ d.descriptor = ap (take size) d.whole ∙ take_at d.descriptor (replicate (2048 - length d.descriptor) 0) size whole in
    subst (λ (x : List ℕ). Sealed id loc x) (sym front) d.sealed

-- the fields of the primary volume descriptor after its timestamp, after its volume set, and after its volume identifier
abbrev pub last_parts : List (List ℕ)
last_parts = developer ∷ replicate 92 0 ∷ []

abbrev pub late_parts : List ℕ → List (List ℕ)
late_parts stamp = cs0 ∷ cs0 ∷ replicate 48 0 ∷ stamp ∷ last_parts

abbrev pub later_parts : List ℕ → List ℕ → List (List ℕ)
later_parts set stamp =
    to_le_bytes w16 1 ∷ to_le_bytes w16 1 ∷ to_le_bytes w16 2 ∷ to_le_bytes w16 3 ∷ to_le_bytes w32 1 ∷ to_le_bytes w32 1 ∷ set ∷ late_parts stamp

abbrev pub primary_parts : List ℕ → List ℕ → List ℕ → List (List ℕ)
primary_parts volume set stamp = to_le_bytes w32 1 ∷ to_le_bytes w32 0 ∷ volume ∷ later_parts set stamp

primary_length : (volume set stamp : List ℕ) → length volume ≡ 32 → length set ≡ 128 → length stamp ≡ 12 → length (concat (primary_parts volume set stamp)) + 16 ≡ 512
primary_length volume set stamp a b c =
    omega (arith, a, b, c, length-append volume (concat (later_parts set stamp)), length-append set (concat (late_parts stamp)), length-append stamp (concat last_parts))

primary_places : (volume set stamp rest block : List ℕ) → length volume ≡ 32 → length set ≡ 128 → length stamp ≡ 12 → drop 16 block ≡ onto (primary_parts volume set stamp) rest
    → (primary_label_field block ≡ volume) × (stamp_field block ≡ stamp)
primary_places volume set stamp rest block a b c body =
    let later = onto (later_parts set stamp) rest in
    let late = onto (late_parts stamp) rest in
    let last = onto last_parts rest in
    let p24 : drop 24 block ≡ volume ++ later = sym (drop-drop 8 16 block) ∙ ap (drop 8) body in
    let p56 : drop 56 block ≡ later = sym (drop-drop 32 24 block) ∙ ap (drop 32) p24 ∙ drop_at volume later 32 a in
    let p72 : drop 72 block ≡ set ++ late = sym (drop-drop 16 56 block) ∙ ap (drop 16) p56 in
    let p200 : drop 200 block ≡ late = sym (drop-drop 128 72 block) ∙ ap (drop 128) p72 ∙ drop_at set late 128 b in
    let p376 : drop 376 block ≡ stamp ++ last = sym (drop-drop 176 200 block) ∙ ap (drop 176) p200 in
    (ap (take 32) p24 ∙ take_at volume later 32 a, ap (take 12) p376 ∙ take_at stamp last 12 c)

-- what block 32 says
pub record TellsPrimary (label : List ℕ) (moment : ℕ) (block : List ℕ) : Type 0 where
  pub tag : Sealed 1 32 (take 512 block)
  pub label_is : IsLabelDstring label (primary_label_field block)
  pub moment_is : IsMoment moment (stamp_field block)

pub primary_tells : (label : List ℕ) (moment capacity : ℕ) (block : List ℕ) → IsFrontBlock label moment capacity 32 block → TellsPrimary label moment block
primary_tells label moment capacity block is =
    let volume = dstring 32 label in
    let set = dstring 128 (digits moment ++ label) in
    let d : IsDescriptor 1 32 (concat (primary_parts volume set is.stamp)) block = is.holds in
    let body = laid_out 1 32 (primary_parts volume set is.stamp) block d in
    let a : length volume ≡ 32 = length-label 32 label is.label_is (omega arith) in
    let b : length set ≡ 128 = length-set moment label is.label_is in
    let c : length is.stamp ≡ 12 = ap length is.moment_is.spelled in
    let places = primary_places volume set is.stamp body.0 block a b c body.1 in
    let size : length (primary_label_field block) ≡ 32 = ap length places.0 ∙ a in
    let field : Dstring label 32 (primary_label_field block) = subst (λ (x : List ℕ). Dstring label 32 x) (sym places.0) (label_Dstring label 32 is.label_is (omega arith)) in
    record {
      tag = sealed_front 1 32 512 (concat (primary_parts volume set is.stamp)) block d (primary_length volume set is.stamp a b c);
      label_is = record { label = is.label_is; field = subst (λ (n : ℕ). Dstring label n (primary_label_field block)) (sym size) field; size = inl size };
      moment_is = subst (λ (x : List ℕ). IsMoment moment x) (sym places.1) is.moment_is;
    }

-- what block 34 says
pub partition_tells : (label : List ℕ) (moment capacity : ℕ) (block : List ℕ) → capacity ≤ 450_000 → IsFrontBlock label moment capacity 34 block
    → Sealed 5 34 (take 512 block) × (u32_at 192 block ≡ capacity - 257)
partition_tells label moment capacity block high is =
    let fields = partition_fields capacity in
    let d : IsDescriptor 5 34 fields block = is.holds in
    let body = laid_out 5 34 (fields ∷ []) block d in
    let all = fields ++ body.0 in
    let cell : (k : ℕ) → get_or block (16 + k) 0 ≡ get_or all k 0 = λ k. sym (get_or-drop 16 block k 0) ∙ ap (λ (x : List ℕ). get_or x k 0) body.1 in
    (sealed_front 5 34 512 fields block d refl, omega (arith, high, cell 176, cell 177, cell 178, cell 179))

-- the volume header that blocks are is what two of them say
pub front_tells : (f : Front) (blocks : List (List ℕ)) → IsFront f.label f.moment f.capacity blocks → DescriptorsTell f (get_or blocks 32 []) (get_or blocks 34 [])
front_tells f blocks is =
    let p = primary_tells f.label f.moment f.capacity (get_or blocks 32 []) (is.each 32 (omega arith)) in
    let q = partition_tells f.label f.moment f.capacity (get_or blocks 34 []) is.high (is.each 34 (omega arith)) in
    record {
      rules = (p.tag, ((f.label, p.label_is), ((f.moment, p.moment_is), (q.0, ((omega (arith, q.1, is.low), omega (arith, q.1, is.high)), tt)))));
      label = p.label_is;
      moment = p.moment_is;
      capacity = omega (arith, q.1, is.low);
    }

same_front : (d e : Front) → d.label ≡ e.label → d.moment ≡ e.moment → d.capacity ≡ e.capacity → d ≡ e
same_front d e label moment capacity =
    let made : Front = record { label = e.label; moment = e.moment; capacity = e.capacity } in
    let from : d ≡ made = rw (← label, ← moment, ← capacity) refl in
    from

-- two blocks describe one volume header
pub one_told : (d e : Front) (primary partition : List ℕ) → DescriptorsTell d primary partition → DescriptorsTell e primary partition → d ≡ e
one_told d e primary partition x y =
    let field = primary_label_field primary in
    let label = sym (text_from_Dstring d.label field (length field) x.label.field) ∙ text_from_Dstring e.label field (length field) y.label.field in
    same_front d e label (one_moment d.moment e.moment (stamp_field primary) x.moment y.moment) (x.capacity ∙ sym y.capacity)

pub some_none : {A : Type 0} (x : A) → Some x ≡ None → ⊥
some_none x e = absurd cc

-- what the comparison with the expected block reports
pub compared_none : (P : List ℕ → Type 0) (o : Option ℕ) (block expected : List ℕ) → IfNone o (block ≡ expected) → P expected → IfNone o (P block)
compared_none P None block expected same is = subst P (sym same) is
compared_none P (Some at) block expected same is = tt

-- the bytes of both blocks
abbrev pub AreBytes : List ℕ → List ℕ → Type 0
AreBytes block expected = IsBytes block × IsBytes expected

pub compared_some : (f : Front) (n : ℕ) (o : Option ℕ) (block expected : List ℕ) → IfSome o (DiffersFirst block expected) → IfSome o (λ at. AreBytes block expected)
    → IsFrontBlock f.label f.moment f.capacity n expected → IfSome o (DiffersAt f n block)
compared_some f n None block expected first bytes is = tt
compared_some f n (Some at) block expected first bytes is = record { expected = expected; is = is; bytes = bytes.1; first = first }

pub compared_only : (f : Front) (n : ℕ) (o : Option ℕ) (block expected : List ℕ) → IfSome o (DiffersFirst block expected) → IfSome o (λ at. AreBytes block expected)
    → IsFrontBlock f.label f.moment f.capacity n expected → IsFrontBlock f.label f.moment f.capacity n block → o ≡ None
compared_only f n None block expected first bytes made is = refl
compared_only f n (Some at) block expected first bytes made is =
    absurd (first.other (ap (λ (x : List ℕ). get_or x at 0) (one_front_block f.label f.moment f.capacity n block expected bytes.0 bytes.1 is made)))
