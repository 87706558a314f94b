-- How bytes splits into identifiers.
use Rattle.std.proofs.Common.{◌≡◌, ℕ, ◌+◌, ◌-◌, ◌≤◌, min, List, [], ◌∷◌, ◌++◌, length, take, drop, replicate, refl, sym, ap, ◌∙◌, arith}
use Rattle.std.proofs.lemmas.List.{drop-take, take-take, get_or-take, take_all, take_at, drop_at, take-append-drop, length-take, length-drop}
use Rattle.dir.specs.declared.fids.Fid.{Fid}
use Rattle.dir.specs.Identifier.{rounded, use_of}
use Rattle.ecma.specs.EntityId.{developer}
use Rattle.std.specs.Prelude.{Bool, IsTrue, ◌↔◌}
use Rattle.std.specs.Str.{bytes_eq}
use Rattle.std.proofs.lemmas.Slice.Eq.{bytes_eq-Decides}
use Rattle.dir.specs.Split.{ShowsSlices, IsSplit, IsWholeIdentifier, IsUse, name_size, use_size, size_of}

-- a part of a prefix is that part of the whole
pub part_of_front : (bytes : List ℕ) (at count size : ℕ) → at + count ≤ size → take count (drop at (take size bytes)) ≡ take count (drop at bytes)
part_of_front bytes at count size room =
    let split : size ≡ at + (size - at) = omega arith in
    ap (λ (n : ℕ). take count (drop at (take n bytes))) split ∙ ap (take count) (drop-take at (size - at) bytes)
    ∙ take-take count (size - at) (drop at bytes) (omega arith)

pub shows_front : (fid : Fid) (bytes front : List ℕ) (used name size : ℕ) → used ≡ use_size bytes → name ≡ name_size bytes
    → size ≡ rounded (38 + used + name) → front ≡ take size bytes
    → fid.bytes.now ≡ front → fid.icb.now ≡ take 16 (drop 20 front) → fid.implementation_use.now ≡ take used (drop 38 front)
    → fid.name.now ≡ take name (drop (38 + used) front) → ShowsSlices fid bytes
shows_front fid bytes front used name size use-is name-is size-is front-is shown icb shows named =
    let whole : size ≡ size_of bytes = size-is ∙ ap rounded (omega arith) in
    record {
      bytes_are = shown ∙ front-is ∙ ap (λ (n : ℕ). take n bytes) whole;
      icb = icb ∙ ap (λ (f : List ℕ). take 16 (drop 20 f)) front-is ∙ part_of_front bytes 20 16 size (omega arith);
      implementation_use =
          shows ∙ ap (λ (f : List ℕ). take used (drop 38 f)) front-is ∙ part_of_front bytes 38 used size (omega arith)
          ∙ ap (λ (n : ℕ). take n (drop 38 bytes)) use-is;
      name =
          named ∙ ap (λ (f : List ℕ). take name (drop (38 + used) f)) front-is ∙ part_of_front bytes (38 + used) name size (omega arith)
          ∙ ap (λ (n : ℕ). take n (drop (38 + used) bytes)) name-is ∙ ap (λ (n : ℕ). take (name_size bytes) (drop (38 + n) bytes)) use-is;
    }

-- the lengths are in the prefix too
pub name_size-front : (n : ℕ) (bytes : List ℕ) → 38 ≤ n → name_size (take n bytes) ≡ name_size bytes
name_size-front n bytes long = get_or-take n bytes 19 0 (omega arith)

pub use_size-front : (n : ℕ) (bytes : List ℕ) → 38 ≤ n → use_size (take n bytes) ≡ use_size bytes
use_size-front n bytes long = omega (arith, get_or-take n bytes 36 0 (omega arith), get_or-take n bytes 37 0 (omega arith))

-- the slices of the identifier at the beginning are those of its own bytes
pub whole_front : (at : ℕ) (fid : Fid) (bytes : List ℕ) → IsSplit at bytes → ShowsSlices fid bytes → IsWholeIdentifier fid
whole_front at fid bytes split shown =
    let n = size_of bytes in
    let all = split.whole in
    let long = split.long in
    let front : fid.bytes.now ≡ take n bytes = shown.bytes_are in
    let len : length fid.bytes.now ≡ n = omega (arith, ap length front, length-take n bytes) in
    let name : name_size fid.bytes.now ≡ name_size bytes = ap name_size front ∙ name_size-front n bytes (omega arith) in
    let used : use_size fid.bytes.now ≡ use_size bytes = ap use_size front ∙ use_size-front n bytes (omega arith) in
    let size : size_of fid.bytes.now ≡ n = omega arith in
    record {
      long = omega arith;
      shown = record {
        bytes_are = sym (take_all (size_of fid.bytes.now) fid.bytes.now (omega arith));
        icb = shown.icb ∙ sym (ap (λ (t : List ℕ). take 16 (drop 20 t)) front ∙ part_of_front bytes 20 16 n (omega arith));
        implementation_use =
            shown.implementation_use
            ∙ sym (ap (λ (m : ℕ). take m (drop 38 fid.bytes.now)) used ∙ ap (λ (t : List ℕ). take (use_size bytes) (drop 38 t)) front
            ∙ part_of_front bytes 38 (use_size bytes) n (omega arith));
        name =
            shown.name
            ∙ sym (ap (λ (m : ℕ). take m (drop (38 + use_size fid.bytes.now) fid.bytes.now)) name
            ∙ ap (λ (m : ℕ). take (name_size bytes) (drop (38 + m) fid.bytes.now)) used
            ∙ ap (λ (t : List ℕ). take (name_size bytes) (drop (38 + use_size bytes) t)) front
            ∙ part_of_front bytes (38 + use_size bytes) (name_size bytes) n (omega arith));
      };
      size = size ∙ sym len;
    }

-- how long the parts of a whole identifier are
pub length-use : (fid : Fid) → IsWholeIdentifier fid → length fid.implementation_use.now ≡ use_size fid.bytes.now
length-use fid whole =
    let size = whole.size in
    omega (arith, ap length whole.shown.implementation_use, length-take (use_size fid.bytes.now) (drop 38 fid.bytes.now), length-drop 38 fid.bytes.now)

pub length-name : (fid : Fid) → IsWholeIdentifier fid → length fid.name.now ≡ name_size fid.bytes.now
length-name fid whole =
    let size = whole.size in
    let at = 38 + use_size fid.bytes.now in
    omega (arith, ap length whole.shown.name, length-take (name_size fid.bytes.now) (drop at fid.bytes.now), length-drop at fid.bytes.now)

-- an implementation use by its two parts
pub use_from_parts : (used : List ℕ) → take (min (length used) 32) used ≡ take (min (length used) 32) developer
    → drop (min (length used) 32) used ≡ replicate (length used - 32) 0 → used ≡ use_of (length used)
use_from_parts used front after =
    let m = min (length used) 32 in
    sym (take-append-drop m used) ∙ ap (λ (t : List ℕ). t ++ drop m used) front ∙ ap (λ (t : List ℕ). take m developer ++ t) after

pub parts_from_use : (used : List ℕ) → used ≡ use_of (length used)
    → (take (min (length used) 32) used ≡ take (min (length used) 32) developer) × (drop (min (length used) 32) used ≡ replicate (length used - 32) 0)
parts_from_use used e =
    let m = min (length used) 32 in
    let z : List ℕ = replicate (length used - 32) 0 in
    let len : length (take m developer) ≡ m = omega (arith, length-take m developer) in
    (ap (take m) e ∙ take_at (take m developer) z m len, ap (drop m) e ∙ drop_at (take m developer) z m len)

-- the test of an implementation use
pub use_tested : (used id after : List ℕ) (m : ℕ) (r : Bool) → m ≡ min (length used) 32 → id ≡ take m used → after ≡ drop m used
    → after ≡ replicate (length after) 0 → r ≡ bytes_eq id (take m developer) → IsTrue r ↔ (used ≡ use_of (length used))
use_tested used id after m r m-is id-is after-is zeros tested =
    let decides = bytes_eq-Decides id (take m developer) in
    let front : id ≡ take (min (length used) 32) used = id-is ∙ ap (λ (n : ℕ). take n used) m-is in
    let known : take m developer ≡ take (min (length used) 32) developer = ap (λ (n : ℕ). take n developer) m-is in
    let tail : after ≡ drop (min (length used) 32) used = after-is ∙ ap (λ (n : ℕ). drop n used) m-is in
    let len : length after ≡ length used - 32 = omega (arith, ap length tail, length-drop (min (length used) 32) used) in
    let rest : drop (min (length used) 32) used ≡ replicate (length used - 32) 0 = sym tail ∙ zeros ∙ ap (λ (n : ℕ). replicate n 0) len in (
      λ so. use_from_parts used (sym front ∙ decides.0 (sym tested ∙ so) ∙ known) rest,
      λ e. tested ∙ decides.1 (front ∙ (parts_from_use used e).0 ∙ sym known),
    )

-- a whole identifier's implementation use, in its bytes or as a slice
pub use_shown : (fid : Fid) → IsWholeIdentifier fid → (fid.implementation_use.now ≡ use_of (length fid.implementation_use.now)) ↔ IsUse fid.bytes.now
use_shown fid whole =
    let n = length-use fid whole in
    let shown = whole.shown.implementation_use in
    (λ e. sym shown ∙ e ∙ ap use_of n, λ e. shown ∙ e ∙ ap use_of (sym n))

-- none is one that lengthens by nothing
empty_use : (used : List ℕ) → length used ≡ 0 → used ≡ use_of (length used)
empty_use [] none = refl
empty_use (byte ∷ used) none = absurd (omega arith)

pub no_use : (fid : Fid) → IsWholeIdentifier fid → length fid.implementation_use.now ≡ 0 → IsUse fid.bytes.now
no_use fid whole none = (use_shown fid whole).0 (empty_use fid.implementation_use.now none)
