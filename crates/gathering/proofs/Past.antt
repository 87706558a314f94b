-- What the tables of a group lead back to, whichever of its marks are there.
use Rattle.std.proofs.Common.{◌≡◌, inl, inr, ℕ, zero, suc, ◌+◌, ◌-◌, ◌<◌, List, [], ◌∷◌, ◌++◌, length, take, drop, slice_get, Some, refl, sym, ◌∙◌, ap, subst, arith, append_assoc}
use Rattle.std.proofs.lemmas.List.{take-append-drop, take-append-le, length-take-le}
use Rattle.std.proofs.lemmas.Option.{same_Some, slice_get_within}
use Rattle.drive.specs.Writes.{unwritten}
use Rattle.model.specs.Session.{State, Request, after_one}
use Rattle.durability.specs.Formats.{Block, Table_, Formats, AreExact, AreBounded, AreDistinct}
use Rattle.durability.specs.Volume.{Medium, partition_start, IsVatIcbAt, NoneImitates, RecoversTo, LastTable, RecoveredBefore, RecoveredTo}
use Rattle.durability.specs.Step.{CarriesOut, Moves}
use Rattle.durability.specs.Plan.{IsPlanned}
use Rattle.durability.proofs.Commits.{moves_whole}
use Rattle.durability.proofs.History.{past_now}
use Rattle.durability.proofs.Lists.{get-drop}
use Rattle.durability.proofs.Mediums.{Before, none_from, none-append, within, past_both}
use Rattle.durability.proofs.One.{stands_one}
use Rattle.gathering.proofs.Phases.{zeros_none}
use Rattle.gathering.proofs.Beside.{beside_size, beside_get}
use Rattle.gathering.proofs.Reached.{carries}
use Rattle.gathering.proofs.After.{Follows, stands_other, table_other}

there_is : (xs : List Block) (i : ℕ) → i < length xs → (b : Block) × (slice_get xs i ≡ Some b)
there_is [] i h = absurd (omega arith)
there_is (x ∷ xs) zero h = (x, refl)
there_is (x ∷ xs) (suc i) h = there_is xs i (omega (arith, h))

module _ (formats : Formats) (exact : AreExact formats) (bounded : AreBounded formats) (distinct : AreDistinct formats) (capacity volume : ℕ) where
  -- what was recovered on the second medium was recovered on the first
  abbrev pub HasPast : Medium → Medium → Type 0
  HasPast M N = (k : ℕ) (T : State) → RecoveredTo formats capacity volume N k T → RecoveredTo formats capacity volume M k T

  module _ (M N : Medium) (S : State) (both : Follows formats capacity volume M N S) (stands : RecoversTo formats capacity volume M S) (r : Request) (blocks : List Block) (mark : Block)
      (p : IsPlanned formats capacity volume M S stands r blocks mark) (past : HasPast M N) where
    abbrev out : CarriesOut formats capacity volume M S stands r blocks mark
    out = carries formats exact bounded distinct capacity volume M S stands r blocks mark p

    moves : Moves formats capacity volume M S (M ++ (blocks ++ mark ∷ [])) (after_one S r)
    moves = subst (λ (X : Medium). Moves formats capacity volume M S X (after_one S r)) (append_assoc M blocks (mark ∷ [])) (moves_whole formats capacity volume exact M blocks mark S r stands out)

    size : length N ≡ length M
    size = beside_size formats 0 M N both.beside

    -- without the mark
    pub past_without : HasPast (M ++ (blocks ++ mark ∷ [])) (N ++ (blocks ++ unwritten ∷ []))
    past_without k T was =
        let none : NoneImitates formats (length N) (blocks ++ unwritten ∷ []) = subst (λ n. NoneImitates formats n (blocks ++ unwritten ∷ [])) (sym size)
        (none-append formats (length M) blocks (unwritten ∷ []) out.none (zeros_none formats exact bounded distinct capacity volume (length M + length blocks), tt)) in
        moves.past k T (past k T ((past_both formats capacity volume T N (blocks ++ unwritten ∷ []) none k).1 was))

    -- the blocks after the last table's entry are the same on both
    none_after : NoneImitates formats (length (take (stands.at + 1) N)) (drop (stands.at + 1) N)
    none_after = none_from formats (length (take (stands.at + 1) N)) (drop (stands.at + 1) N) clear
      where
        here : length (take (stands.at + 1) N) ≡ stands.at + 1
        here = length-take-le (stands.at + 1) N (omega (arith, size, within formats M stands.at stands.block stands.last))

        clear : (j : ℕ) (b : Block) → slice_get (drop (stands.at + 1) N) j ≡ Some b → IsVatIcbAt formats b (length (take (stands.at + 1) N) + j) → ⊥
        clear j b e is =
            let i = stands.at + 1 + j in
            let on : slice_get N i ≡ Some b = sym (get-drop (stands.at + 1) N j) ∙ e in
            let (c, old) = there_is M i (omega (arith, size, slice_get_within N i b on)) in
            elim (beside_get formats 0 i M N c both.beside old) [
              | inl same ↦ stands.last.no_later i b (omega arith) (old ∙ sym same ∙ on) (subst (λ n. IsVatIcbAt formats b n) (let k : length (take (stands.at + 1) N) + j ≡ i = omega (arith, here) in k) is)
              | inr vat ↦ stands.last.no_later i c (omega arith) old (subst (λ n. IsVatIcbAt formats c n) (let k : 0 + i ≡ i = omega arith in k) vat)
            ]

    last_is : (t : LastTable formats (N ++ (blocks ++ mark ∷ []))) → t.table ≡ out.table
    last_is t = table_other formats exact bounded distinct capacity volume M N S both stands r blocks mark p t

    back : (k steps : ℕ) (T : State) (last : LastTable formats (N ++ (blocks ++ mark ∷ []))) → k + steps ≡ last.table.commits → RecoveredBefore formats steps capacity volume (N ++ (blocks ++ mark ∷ [])) T
        → RecoveredTo formats capacity volume (M ++ (blocks ++ mark ∷ [])) k T
    back k zero T last count stood =
        let same = stands_one formats exact capacity volume capacity volume (N ++ (blocks ++ mark ∷ [])) T (after_one S r) stood
        (stands_other formats exact bounded distinct capacity volume M N S both stands r blocks mark p) in
        let commits : (after_one S r).commits ≡ k = omega (arith, count, ap (λ (t : Table_). t.commits) (last_is last), out.commits) in
        subst (λ (U : State). RecoveredTo formats capacity volume (M ++ (blocks ++ mark ∷ [])) k U) (sym same)
        (subst (λ n. RecoveredTo formats capacity volume (M ++ (blocks ++ mark ∷ [])) n (after_one S r)) commits (past_now formats capacity volume (M ++ (blocks ++ mark ∷ [])) (after_one S r) moves.ends))
    back k (suc steps) T last count (newer, previous, is_previous, before, at, commits, stood) =
        let whole = N ++ (blocks ++ mark ∷ []) in
        let inside = within formats M stands.at stands.block stands.last in
        let is : previous ≡ stands.at - partition_start = same_Some previous (stands.at - partition_start) (sym is_previous ∙ ap (λ (t : Table_). t.previous) (last_is newer) ∙ out.previous) in
        let reach : previous + 258 ≡ stands.at + 1 = omega (arith, is, stands.last.is.0) in
        let cut : take (previous + 258) whole ≡ take (stands.at + 1) N = ap (λ n. take n whole) reach ∙ take-append-le (stands.at + 1) N (blocks ++ mark ∷ []) (omega (arith, inside, size)) in
        let (old, old_at, old_commits, old_stood) = subst (Before formats steps capacity volume T (previous + partition_start) newer.table.commits) cut (before, at, commits, stood) in
        let number : k + steps ≡ old.table.commits = omega (arith, count, old_commits, ap (λ (t : Table_). t.commits) (last_is last), ap (λ (t : Table_). t.commits) (last_is newer)) in
        let on = (past_both formats capacity volume T (take (stands.at + 1) N) (drop (stands.at + 1) N) none_after k).0 (old, steps, number, old_stood) in
        moves.past k T (past k T (subst (λ (X : Medium). RecoveredTo formats capacity volume X k T) (take-append-drop (stands.at + 1) N) on))

    -- with it
    pub past_with : HasPast (M ++ (blocks ++ mark ∷ [])) (N ++ (blocks ++ mark ∷ []))
    past_with k T (last, steps, count, stood) = back k steps T last count stood
