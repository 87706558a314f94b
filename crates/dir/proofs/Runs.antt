-- Kept identifiers are put into a block one after another.
use Rattle.std.proofs.Common.{◌≡◌, ℕ, suc, ◌+◌, ◌-◌, ◌<◌, ◌≤◌, min, List, ◌++◌, length, take, drop, get_or, true, Some, refl, subst, sym, ap, append_assoc, ◌∙◌, arith, inl, inr}
use Rattle.std.specs.Prelude.{Bool, slice_get, if◌then◌else◌}
use Rattle.std.proofs.lemmas.Bool.{cases_lt}
use Rattle.std.proofs.lemmas.List.{drop-drop, drop-take, drop_at, get_or-take, length-append, length-drop, length-take, take-take, take_all, take_at}
use Rattle.std.proofs.lemmas.Option.{get_or_from_slice_get, slice_get_cases}
use Rattle.osta.specs.Compressed.{compressed}
use Rattle.dir.specs.declared.entry.Entry.{Entry}
use Rattle.dir.specs.declared.laying.Lay.{Lay}
use Rattle.dir.specs.Identifier.{Identifier, identifier, plain_size}
use Rattle.dir.specs.Directory.{identifiers, identifiers_of, of_name}
use Rattle.dir.specs.Fronts.{plain, AreKnown, AreLeft}
use Rattle.dir.specs.Laying.{identifiers_left, left_of, IsFilled, IsFilledTo}
use Rattle.dir.specs.Layout.{identifier_end, fits, stays, FitsInBlock}
use Rattle.dir.specs.Split.{name_size}
use Rattle.dir.proofs.Filling.{drop_some, filled_front, filled_more, identifier_at, stays-some}
use Rattle.dir.proofs.Fronts.{left_after, left_known, left_taken, left_within}
use Rattle.dir.proofs.Placing.{fits_cases, plain_bounds, stands_within}
use Rattle.dir.proofs.Spelled.{length-identifier, name_size-identifier}

-- what is put of the identifiers that are kept, and what is left of them: their bytes are after the place already
pub record IsRun (old : Lay) (start : ℕ) (before : List ℕ) (at next : ℕ) (kept block : List ℕ) : Type 0 where
  pub within : at < 2048
  pub further : start ≤ at
  pub some : 0 < next
  pub onward : old.next ≤ next
  pub few : next ≤ old.known
  pub left : AreLeft old.known next old.dir.now.entries.entries kept
  pub copied : take (length (take (2048 - at) kept)) (drop at block) ≡ take (2048 - at) kept
  pub stood : FitsInBlock at (left_of old.dir.now next)
  pub size : length block ≡ 2048
  pub filled : (from : Lay) → IsFilled from old start before → IsFilledTo from old.dir next old.number at block

-- bytes begin with an identifier that is there among others
pub record IsHead (ids : List Identifier) (index : ℕ) (bytes : List ℕ) : Type 0 where
  pub x : Identifier
  pub rest : List ℕ
  pub there : slice_get ids index ≡ Some x
  pub short : length x.name ≤ 255
  pub is : bytes ≡ plain x ++ rest
  pub name : name_size bytes ≡ length x.name
  pub long : plain_size (length x.name) ≤ length bytes

-- those of kept ones begin with the next of them
pub head_of : (known parent next : ℕ) (entries : List (List ℕ × Entry)) (bytes : List ℕ) → AreKnown known entries → 0 < next → next ≤ known → AreLeft known next entries bytes
    → IsHead (identifiers parent entries) next bytes
head_of known parent next entries bytes are some few left = elim (slice_get_cases entries (next - 1)).1 [
  | inl found ↦
      let e = found.0 in
      let here : slice_get entries (next - 1) ≡ Some e = found.2 in
      let same : next - 1 + 1 ≡ next = omega arith in
      let within : next - 1 < length (take known entries) = omega (arith, length-take known entries, are.few) in
      let entry : get_or (take known entries) (next - 1) e ≡ e =
      get_or-take known entries (next - 1) e (omega arith) ∙ get_or_from_slice_get entries (next - 1) e e here in
      let short : length (compressed e.0) ≤ 255 = subst (λ (d : List ℕ × Entry). length (compressed d.0) ≤ 255) entry (are.short (next - 1) e within) in
      let x = of_name e.0 e.1 in
      let there : slice_get (identifiers parent entries) next ≡ Some x =
      subst (λ (n : ℕ). slice_get (identifiers parent entries) n ≡ Some x) same (identifier_at parent entries (next - 1) e.0 e.1 (sym here)) in
      let is = left_known known next parent entries x bytes some few there left in
      record {
        x = x;
        rest = _;
        there = there;
        short = short;
        is = is;
        name = ap name_size is ∙ name_size-identifier 0 0 x _;
        long = left_within x _ bytes (plain_size (length x.name)) refl is;
      }
  | inr none ↦ let past = none.0 in absurd (omega (arith, are.few))
]

-- it may be put where the run has come to
pub head_room : (old : Lay) (start : ℕ) (before : List ℕ) (at next : ℕ) (kept block : List ℕ) → IsRun old start before at next kept block
    → (head : IsHead (identifiers_of old.dir.now) next kept) → at + plain_size (length head.x.name) ≤ 2048
head_room old start before at next kept block run head =
    let ids = identifiers_of old.dir.now in
    stands_within at head.x (drop (suc next) ids) head.short (omega (arith, run.within))
    (subst (λ (t : List Identifier). FitsInBlock at t) (drop_some ids next head.x head.there) run.stood)

-- and the one after it begins what is kept after it
pub head_after : (old : Lay) (start : ℕ) (before : List ℕ) (at next : ℕ) (kept block : List ℕ) → IsRun old start before at next kept block → next < old.known
    → IsHead (identifiers_of old.dir.now) (next + 1) (drop (plain_size (name_size kept)) kept)
head_after old start before at next kept block run more =
    let dir = old.dir.now in
    let entries = dir.entries.entries in
    let head = head_of old.known dir.parent next entries kept old.known_are run.some run.few run.left in
    let size : plain_size (name_size kept) ≡ plain_size (length head.x.name) = ap plain_size head.name in
    let left = left_after old.known next entries head.x kept (plain_size (name_size kept)) size
    (left_known old.known next dir.parent entries head.x kept run.some run.few head.there run.left) in
    head_of old.known dir.parent (next + 1) entries (drop (plain_size (name_size kept)) kept) old.known_are (omega arith) (omega arith) left

-- as much is copied as there is, and as there is room
copied_front : (kept place : List ℕ) → take (length (take (length place) kept)) (take (min (length kept) (length place)) kept ++ drop (min (length kept) (length place)) place) ≡ take (length place) kept
copied_front kept place =
    let count = min (length kept) (length place) in
    let size : length (take count kept) ≡ count = omega (arith, length-take count kept) in
    let all : length (take (length place) kept) ≡ count = omega (arith, length-take (length place) kept) in
    take_at (take count kept) (drop count place) (length (take (length place) kept)) (omega arith)
    ∙ elim (cases_lt (length place) (length kept)) [
      | inl less ↦ ap (λ (n : ℕ). take n kept) (omega arith)
      | inr past ↦ take_all count kept (omega arith) ∙ sym (take_all (length place) kept (omega arith))
    ]

-- a run begins where the bytes are copied
pub run_begun : (old : Lay) (start : ℕ) (before into written : List ℕ) → start < 2048 → FitsInBlock start (identifiers_left old) → 0 < old.next → old.next ≤ old.known → length before ≡ 2048
    → into ≡ take (min (length old.kept.now) (length (drop start before))) old.kept.now ++ drop (min (length old.kept.now) (length (drop start before))) (drop start before)
    → written ≡ take start before ++ into → IsRun old start before start old.next old.kept.now written
run_begun old start before into written inside stood some few len copied put =
    let kept = old.kept.now in
    let place = drop start before in
    let room : length place ≡ 2048 - start = omega (arith, length-drop start before) in
    let front : length (take start before) ≡ start = omega (arith, length-take start before) in
    let count = min (length kept) (length place) in
    let after : drop start written ≡ into = ap (drop start) put ∙ drop_at (take start before) into start front in
    let filling : length into ≡ 2048 - start =
    omega (arith, ap length copied, length-append (take count kept) (drop count place), length-take count kept, length-drop count place) in
    let sized : length written ≡ 2048 = omega (arith, ap length put, length-append (take start before) into) in
    record {
      within = inside;
      further = omega arith;
      some = some;
      onward = omega arith;
      few = few;
      left = old.left;
      copied =
          ap (take (length (take (2048 - start) kept))) (after ∙ copied)
          ∙ subst (λ (n : ℕ). take (length (take n kept)) (take count kept ++ drop count place) ≡ take n kept) room (copied_front kept place);
      stood = stood;
      size = sized;
      filled = λ (from : Lay) (f : IsFilled from old start before).
          filled_front from old.dir old.next old.number start before written f (ap (take start) put ∙ take_at (take start before) into start front) sized;
    }

-- what is copied stays so after it
copied_after : (room size : ℕ) (kept at_place : List ℕ) → size ≤ room → size ≤ length kept
    → take (length (take room kept)) at_place ≡ take room kept
    → take (length (take (room - size) (drop size kept))) (drop size at_place) ≡ take (room - size) (drop size kept)
copied_after room size kept at_place fits_room fits_kept copied =
    let m = length (take (room - size) (drop size kept)) in
    let whole : size + m ≡ length (take room kept) = omega (arith, length-take (room - size) (drop size kept), length-drop size kept, length-take room kept) in
    let rest : size + (room - size) ≡ room = omega arith in
    sym (drop-take size m at_place) ∙ ap (λ (n : ℕ). drop size (take n at_place)) whole ∙ ap (drop size) copied
    ∙ ap (λ (n : ℕ). drop size (take n kept)) (sym rest) ∙ drop-take size (room - size) kept

-- the bytes of the next one are there
copied_first : (room size : ℕ) (kept at_place : List ℕ) → size ≤ room → size ≤ length kept
    → take (length (take room kept)) at_place ≡ take room kept → take size at_place ≡ take size kept
copied_first room size kept at_place fits_room fits_kept copied =
    sym (take-take size (length (take room kept)) at_place (omega (arith, length-take room kept))) ∙ ap (take size) copied ∙ take-take size room kept fits_room

-- one more is put, where the one after it is kept too and stays
pub run_more : (old : Lay) (start : ℕ) (before : List ℕ) (at next end : ℕ) (kept after block moved written : List ℕ) → IsRun old start before at next kept block → next < old.known
    → after ≡ drop (plain_size (name_size kept)) kept → end ≡ at + plain_size (name_size kept)
    → fits (plain_size (name_size after)) (2048 - end) ≡ true
    → ((x : Identifier) → take (end - at) (drop at block) ≡ identifier 0 x 0 → moved ≡ identifier old.number x 0)
    → written ≡ take at block ++ (moved ++ drop end block) → IsRun old start before end (next + 1) after written
run_more old start before at next end kept after block moved written run more after-is end-is stay relocates put =
    let dir = old.dir.now in
    let entries = dir.entries.entries in
    let ids = identifiers_of dir in
    let head = head_of old.known dir.parent next entries kept old.known_are run.some run.few run.left in
    let x = head.x in
    let size = plain_size (length x.name) in
    let size_is : plain_size (name_size kept) ≡ size = ap plain_size head.name in
    let room = head_room old start before at next kept block run head in
    let at_end : end ≡ at + size = end-is ∙ ap (λ (n : ℕ). at + n) size_is in
    let left : AreLeft old.known (next + 1) entries after =
    subst (AreLeft old.known (next + 1) entries) (sym (after-is ∙ ap (λ (n : ℕ). drop n kept) size_is))
    (left_after old.known next entries x kept size refl (left_known old.known next dir.parent entries x kept run.some run.few head.there run.left)) in
    let second = head_of old.known dir.parent (next + 1) entries after old.known_are (omega arith) (omega arith) left in
    let y = second.x in
    let fitting : fits (plain_size (length y.name)) (2048 - end) ≡ true = ap (λ (n : ℕ). fits (plain_size n) (2048 - end)) (sym second.name) ∙ stay in
    let stays_there : stays (left_of dir (next + 1)) (2048 - end) ≡ true = stays-some ids (next + 1) (2048 - end) y second.there ∙ fitting in
    let bounds = plain_bounds (length y.name) in
    let within : end < 2048 = elim (fits_cases (plain_size (length y.name)) (2048 - end) fitting) [ inl same ↦ omega arith | inr less ↦ omega arith ] in
    let place = drop at block in
    let sized : length block ≡ 2048 = run.size in
    let here : take (end - at) place ≡ plain x =
    ap (λ (n : ℕ). take n place) (omega arith) ∙ copied_first (2048 - at) size kept place (omega arith) head.long run.copied
    ∙ left_taken x head.rest kept size refl head.is in
    let moved_is : moved ≡ identifier old.number x 0 = relocates x here in
    let one_size : length moved ≡ size = omega (arith, ap length moved_is, length-identifier old.number 0 x) in
    let at_size : length (take at block) ≡ at = omega (arith, length-take at block) in
    let len : length written ≡ 2048 =
    omega (arith, ap length put, length-append (take at block) (moved ++ drop end block), length-append moved (drop end block), length-drop end block) in
    let after_it : drop end written ≡ drop size place =
    ap (drop end) (put ∙ sym (append_assoc (take at block) moved (drop end block)))
    ∙ drop_at (take at block ++ moved) (drop end block) end (omega (arith, length-append (take at block) moved))
    ∙ ap (λ (n : ℕ). drop n block) at_end ∙ sym (drop-drop size at block) in
    let left_room : 2048 - at - size ≡ 2048 - end = omega arith in
    let end_there : end ≡ identifier_end at x (left_of dir (next + 1)) =
    at_end ∙ sym (ap (λ (b : Bool). if b then at + size else 2048) (ap (λ (n : ℕ). stays (left_of dir (next + 1)) (2048 - n)) (sym at_end) ∙ stays_there)) in
    let none : end - (at + size) ≡ 0 = omega arith in
    let put_is : written ≡ take at block ++ (identifier old.number x (end - (at + size)) ++ drop end block) =
    put ∙ ap (λ (t : List ℕ). take at block ++ (t ++ drop end block)) (moved_is ∙ ap (identifier old.number x) (sym none)) in
    record {
      within = within;
      further = omega (arith, run.further);
      some = omega arith;
      onward = omega (arith, run.onward);
      few = omega arith;
      left = left;
      copied =
          ap (take (length (take (2048 - end) after))) after_it
          ∙ subst (λ (b : List ℕ). take (length (take (2048 - end) b)) (drop size place) ≡ take (2048 - end) b) (sym (after-is ∙ ap (λ (n : ℕ). drop n kept) size_is))
          (subst (λ (n : ℕ). take (length (take n (drop size kept))) (drop size place) ≡ take n (drop size kept)) left_room
          (copied_after (2048 - at) size kept place (omega arith) head.long run.copied));
      stood = inr stays_there;
      size = len;
      filled = λ (from : Lay) (f : IsFilled from old start before).
          filled_more from old.dir next (next + 1) old.number at end block written x (run.filled from f) run.within head.there head.short refl end_there (omega arith) (omega arith) put_is len;
    }
