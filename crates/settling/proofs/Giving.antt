-- Laws of the blocks of a drive in memory, and of what is given of them.
use Rattle.std.proofs.Common.{◌≡◌, ℕ, zero, suc, ◌+◌, ◌≤◌, ◌<◌, List, [], ◌∷◌, ◌++◌, length, take, drop, get_or, Bool, true, false, if◌then◌else◌, Some, Result, Ok, Err, refl, sym, ◌∙◌, ap, subst, arith, append_assoc, add-one, length-append}
use Rattle.std.specs.Prelude.{All, OnErr, OnOk, is_err}
use Rattle.std.proofs.lemmas.List.{append-nil}
use Rattle.std.proofs.lemmas.List.Elements.{filter-append}
use Rattle.drive.specs.Gathering.{CountsWaited}
use Rattle.drive.specs.Reads.{one_if}
use Rattle.drive.specs.Journal.{Event, written, next_of, last_at, AreWhole}
use Rattle.drive.specs.Writes.{unwritten}
use Rattle.drive.proofs.Journals.{written-append, take-written, length-written, written_more}
use Rattle.drive.proofs.Once.{once-written, next_once, in_order_of, last-in_order}
use Rattle.drive.proofs.Whole.{whole-append, whole-written, whole-take}
use Rattle.settling.specs.Calls.{GivesFront}
use Rattle.settling.specs.Phases.{is_mark, blank_at, blanked, marked, two_phases}

-- the next address is the number of blocks
pub next_counts : (bs : List (List ℕ)) → next_of (written 0 bs) ≡ length bs
next_counts bs = next_once (written 0 bs) (once-written 0 bs) ∙ length-written 0 bs

-- blocks at the end
pub written_on : (bs cs : List (List ℕ)) (at : ℕ) → at ≡ length bs → written 0 (bs ++ cs) ≡ written 0 bs ++ written at cs
written_on bs cs at e = written-append 0 bs cs ∙ ap (λ n. written 0 bs ++ written n cs) (let same : 0 + length bs ≡ at = omega (arith, e) in same)

-- the first blocks
pub written_front : (n : ℕ) (bs : List (List ℕ)) → take n (written 0 bs) ≡ written 0 (take n bs)
written_front n bs = take-written n 0 bs

drop_from : (n at : ℕ) (bs : List (List ℕ)) → n ≤ length bs → drop n (written at bs) ≡ written (at + n) (drop n bs)
drop_from zero at bs h = ap (λ m. written m bs) (let same : at ≡ at + 0 = omega arith in same)
drop_from (suc n) at [] h = absurd (omega arith)
drop_from (suc n) at (b ∷ bs) h = drop_from n (suc at) bs (omega (arith, h)) ∙ ap (λ m. written m (drop n bs)) (let same : suc at + n ≡ at + suc n = omega arith in same)

-- the blocks from an address on
pub written_rest : (n : ℕ) (bs : List (List ℕ)) → n ≤ length bs → drop n (written 0 bs) ≡ written n (drop n bs)
written_rest n bs h = drop_from n 0 bs h ∙ ap (λ m. written m (drop n bs)) (let same : 0 + n ≡ n = omega arith in same)

blanked-append : (marks : List ℕ) (J K : List Event) → blanked marks (J ++ K) ≡ blanked marks J ++ blanked marks K
blanked-append marks [] K = refl
blanked-append marks (e ∷ J) K = ap (λ (L : List Event). blank_at marks e ∷ L) (blanked-append marks J K)

-- a block more, with zeros at a mark
pub blanked_more : (marks : List ℕ) (at i : ℕ) (bs : List (List ℕ)) (given more : List Event) → i < length bs → given ≡ blanked marks (written at (take i bs)) → more ≡ given ++ blank_at marks (at + i, get_or bs i []) ∷ [] → more ≡ blanked marks (written at (take (i + 1) bs))
blanked_more marks at i bs given more h g m =
    m ∙ ap (λ (L : List Event). L ++ blank_at marks (at + i, get_or bs i []) ∷ []) g
    ∙ sym (blanked-append marks (written at (take i bs)) ((at + i, get_or bs i []) ∷ []))
    ∙ ap (λ (L : List Event). blanked marks L) (sym (written_more at i bs [] h) ∙ ap (λ n. written at (take n bs)) (sym (add-one i)))

-- a block more, if it is a mark
pub marked_more : (marks : List ℕ) (at i : ℕ) (bs : List (List ℕ)) (given more : List Event) → i < length bs → given ≡ marked marks (written at (take i bs)) → more ≡ given ++ marked marks ((at + i, get_or bs i []) ∷ []) → more ≡ marked marks (written at (take (i + 1) bs))
marked_more marks at i bs given more h g m =
    m ∙ ap (λ (L : List Event). L ++ marked marks ((at + i, get_or bs i []) ∷ [])) g
    ∙ sym (filter-append (λ (e : Event). is_mark marks e.0) (written at (take i bs)) ((at + i, get_or bs i []) ∷ []))
    ∙ ap (λ (L : List Event). marked marks L) (sym (written_more at i bs [] h) ∙ ap (λ n. written at (take n bs)) (sym (add-one i)))

-- what lies at an address
pub found_at : (bs : List (List ℕ)) (at : ℕ) → at < length bs → last_at (written 0 bs) at ≡ Some (get_or bs at [])
found_at bs at h =
    last-in_order (written 0 bs) at (0, []) (in_order_of (written 0 bs) (once-written 0 bs)) (omega (arith, h, length-written 0 bs)) ∙ ap Some (block_of 0 bs at h)
  where
    block_of : (from : ℕ) (cs : List (List ℕ)) (i : ℕ) → i < length cs → (get_or (written from cs) i (0, [])).1 ≡ get_or cs i []
    block_of from [] i lt = absurd (omega arith)
    block_of from (c ∷ cs) zero lt = refl
    block_of from (c ∷ cs) (suc i) lt = block_of (suc from) cs i (omega (arith, lt))

-- more whole blocks
pub whole_on : (bs cs : List (List ℕ)) → AreWhole (written 0 bs) → All (λ (b : List ℕ). length b ≡ 2048) cs → AreWhole (written 0 (bs ++ cs))
whole_on bs cs all more = subst AreWhole (sym (written_on bs cs (length bs) refl)) (whole-append (written 0 bs) (written (length bs) cs) all (whole-written (length bs) cs more))

-- the first blocks are whole
pub whole_front : (n : ℕ) (bs : List (List ℕ)) → AreWhole (written 0 bs) → AreWhole (written 0 (take n bs))
whole_front n bs all = subst AreWhole (written_front n bs) (whole-take n (written 0 bs) all)

-- no phase was given
pub gives_none : (phases old : List (List Event)) → GivesFront phases old old
gives_none phases old = record { given = []; rest = phases; order = refl; all = sym (append-nil old) }

-- all were given
pub gives_all : (phases old new : List (List Event)) → new ≡ old ++ phases → GivesFront phases old new
gives_all phases old new e = record { given = phases; rest = []; order = append-nil phases; all = e }

-- of two phases, the first, or none of them
pub gives_first : (first second : List Event) (old new : List (List Event)) → GivesFront (first ∷ []) old new → GivesFront (first ∷ second ∷ []) old new
gives_first first second old new h = record {
  given = h.given;
  rest = h.rest ++ second ∷ [];
  order = sym (append_assoc h.given h.rest (second ∷ [])) ∙ ap (λ (L : List (List Event)). L ++ second ∷ []) h.order;
  all = h.all;
}

-- the first of two phases, and perhaps the second
pub gives_second : (first second : List Event) (old mid new : List (List Event)) → mid ≡ old ++ first ∷ [] → GivesFront (second ∷ []) mid new → GivesFront (first ∷ second ∷ []) old new
gives_second first second old mid new e h = record {
  given = first ∷ h.given;
  rest = h.rest;
  order = ap (λ (L : List (List Event)). first ∷ L) h.order;
  all = h.all ∙ ap (λ (L : List (List Event)). L ++ h.given) e ∙ append_assoc old (first ∷ []) h.given;
}

-- both
pub gives_both : (first second : List Event) (old mid new : List (List Event)) → mid ≡ old ++ first ∷ [] → new ≡ mid ++ second ∷ [] → new ≡ old ++ first ∷ second ∷ []
gives_both first second old mid new e h = h ∙ ap (λ (L : List (List Event)). L ++ second ∷ []) e ∙ append_assoc old (first ∷ []) (second ∷ [])

-- what holds of an `Err` may be shown of any
pub on_err : {T E : Type 0} (r : Result T E) (X : Type 0) → X → OnErr r X
on_err (Ok v) X x = tt
on_err (Err e) X x = x

-- a mark is given as zeros
pub blank_here : (marks : List ℕ) (at : ℕ) (block : List ℕ) → is_mark marks at ≡ true → ◌≡◌ {A = Event} (at, unwritten) (blank_at marks (at, block))
blank_here marks at block is = ap (λ (b : Bool). let e : Event = (at, if b then unwritten else block) in e) (sym is)

-- what is given of the blocks that wait
pub phases_are : (from : ℕ) (marks : List ℕ) (bs waiting : List (List ℕ)) (first second : List Event) → from ≤ length bs → waiting ≡ drop from bs → first ≡ blanked marks (written from waiting) → second ≡ marked marks (written from waiting)
    → two_phases from marks (written 0 bs) ≡ first ∷ second ∷ []
phases_are from marks bs waiting first second le is one two =
    let rest : drop from (written 0 bs) ≡ written from waiting = written_rest from bs le ∙ ap (λ (cs : List (List ℕ)). written from cs) (sym is) in
    ap (λ (J : List Event). blanked marks J ∷ marked marks J ∷ []) rest ∙ ap (λ (J : List Event). J ∷ marked marks (written from waiting) ∷ []) (sym one) ∙ ap (λ (J : List Event). first ∷ J ∷ []) (sym two)

-- where a call is due the drive has the address
pub below_count : (at : ℕ) (bs : List (List ℕ)) → at < next_of (written 0 bs) → at < length bs
below_count at bs h = omega (arith, h, next_counts bs)

-- an element, whatever stands for one past the end
pub same_at : (bs : List (List ℕ)) (i : ℕ) (c d : List ℕ) → i < length bs → get_or bs i c ≡ get_or bs i d
same_at [] i c d h = absurd (omega (arith, h))
same_at (b ∷ bs) zero c d h = refl
same_at (b ∷ bs) (suc i) c d h = same_at bs i c d (omega (arith, h))

-- where a result is no error, what holds of an `Ok` holds
pub ok_of : {T E : Type 0} (r : Result T E) (X : Type 0) → is_err r ≡ false → OnOk r X → X
ok_of (Ok v) X is x = x
ok_of (Err e) X is x = let bad : ◌≡◌ {A = Bool} true false = is in absurd (cc)

-- a write more is counted, if it waits
pub counts_write : (gathers : Bool) (n m : ℕ) (ws vs : List (List (List ℕ))) (w : List (List ℕ)) → m ≡ n + one_if gathers → vs ≡ ws ++ w ∷ [] → CountsWaited gathers n m (length ws) (length vs)
counts_write true n m ws vs w more is = omega (arith, more, ap (λ (l : List (List (List ℕ))). length l) is, length-append ws (w ∷ []))
counts_write false n m ws vs w more is = omega (arith, more)
