-- What is recovered goes back to the blocks up to its table entry.
use Rattle.std.proofs.Common.{◌≡◌, ℕ, zero, suc, ◌+◌, ◌-◌, ◌≤◌, ◌<◌, ◌++◌, length, take, drop, slice_get, sym, ◌∙◌, ap, subst, subst₂, arith}
use Rattle.std.proofs.lemmas.Option.{same_Some}
use Rattle.std.proofs.lemmas.List.{take-append-le, take-take, take-append-drop, length-take-le}
use Rattle.model.specs.Session.{State}
use Rattle.durability.specs.Formats.{Block, Table_, Formats, AreExact}
use Rattle.durability.specs.Volume.{Medium, partition_start, NoneImitates, IsLast, HasTable, RecoversTo, LastTable, RecoveredBefore, RecoveredTo}
use Rattle.durability.proofs.Lists.{get-drop}
use Rattle.durability.proofs.Mediums.{none_from, within, last_less}
use Rattle.durability.proofs.One.{last_one, table_one, stands_one}

module _ (formats : Formats) where
  -- two accounts of the last table agree
  pub last_table_one : AreExact formats → (B : Medium) (a b : LastTable formats B) → a.table ≡ b.table
  last_table_one exact B a b =
      let at = last_one formats B a.at b.at a.block b.block a.last b.last in
      let block : a.block ≡ b.block = same_Some a.block b.block (sym a.last.there ∙ ap (λ n. slice_get B n) at ∙ b.last.there) in
      (table_one formats exact (take a.at B) a.at a.block a.table b.table a.moment b.moment a.has
      (subst₂ (λ (n : ℕ) (x : Block). HasTable formats (take n B) n x b.table b.moment) (sym at) (sym block) b.has)).0

  module _ (capacity volume : ℕ) (B : Medium) (S : State) (stands : RecoversTo formats capacity volume B S) where
    abbrev pub standing_table : LastTable formats B
    standing_table = record { at = stands.at; block = stands.block; last = stands.last; table = stands.tells.table; moment = S.moment; has = stands.tells.has }

    -- the blocks up to the table entry
    abbrev pub cut : Medium
    cut = take (stands.at + 1) B

    inside : stands.at < length B
    inside = within formats B stands.at stands.block stands.last

    size : length cut ≡ stands.at + 1
    size = length-take-le (stands.at + 1) B (omega (arith, inside))

    pub none_after : NoneImitates formats (length cut) (drop (stands.at + 1) B)
    none_after = none_from formats (length cut) (drop (stands.at + 1) B)
        (λ j b e t. stands.last.no_later (length cut + j) b (omega (arith, size)) (ap (λ n. slice_get B n) (let k : length cut + j ≡ (stands.at + 1) + j = omega (arith, size) in k) ∙ sym (get-drop (stands.at + 1) B j) ∙ e) t)

    abbrev pub before : LastTable formats cut
    before = record {
      at = stands.at;
      block = stands.block;
      last = last_less formats cut (drop (stands.at + 1) B) none_after stands.at stands.block (subst (λ (M : Medium). IsLast formats M stands.at stands.block) (sym (take-append-drop (stands.at + 1) B)) stands.last);
      table = stands.tells.table;
      moment = S.moment;
      has = subst (λ (M : Medium). HasTable formats M stands.at stands.block stands.tells.table S.moment) (sym (take-take stands.at (stands.at + 1) B (omega arith))) stands.tells.has;
    }

    pub cut_same : (more whole : Medium) → whole ≡ B ++ more → take ((stands.at - partition_start) + 258) whole ≡ cut
    cut_same more whole e =
        let n : (stands.at - partition_start) + 258 ≡ stands.at + 1 = omega (arith, stands.last.is.0) in
        ap (λ k. take k whole) n ∙ ap (λ (M : Medium). take (stands.at + 1) M) e ∙ take-append-le (stands.at + 1) B more (omega (arith, inside))

  pub commits_of : AreExact formats → (capacity volume : ℕ) (B : Medium) (S : State) (stands : RecoversTo formats capacity volume B S) (old : LastTable formats B) → old.table.commits ≡ S.commits
  commits_of exact capacity volume B S stands old =
      ap (λ (t : Table_). t.commits) (last_table_one exact B old (record { at = stands.at; block = stands.block; last = stands.last; table = stands.tells.table; moment = S.moment; has = stands.tells.has })) ∙ stands.tells.commits

  -- the recovered state is the one after all commits
  pub past_now : (capacity volume : ℕ) (B : Medium) (S : State) → RecoversTo formats capacity volume B S → RecoveredTo formats capacity volume B S.commits S
  past_now capacity volume B S stands = (standing_table capacity volume B S stands, 0, omega (arith, stands.tells.commits), stands)

  module _ (exact : AreExact formats) where
    -- at most one state was recovered so many steps back
    stood_one : (capacity volume capacity' volume' : ℕ) (S T : State) (steps : ℕ) (B : Medium) → RecoveredBefore formats steps capacity volume B S → RecoveredBefore formats steps capacity' volume' B T → S ≡ T
    stood_one capacity volume capacity' volume' S T zero B s t = stands_one formats exact capacity volume capacity' volume' B S T s t
    stood_one capacity volume capacity' volume' S T (suc steps) B (last, previous, is, below, at, commits, s) (last', previous', is', below', at', commits', t) =
        let same : previous ≡ previous' = same_Some previous previous' (sym is ∙ ap (λ (u : Table_). u.previous) (last_table_one exact B last last') ∙ is') in
        stood_one capacity volume capacity' volume' S T steps (take (previous + 258) B) s (subst (λ n. RecoveredBefore formats steps capacity' volume' (take (n + 258) B) T) (sym same) t)

    -- nor after a number of commits
    pub past_one : (capacity volume capacity' volume' : ℕ) (B : Medium) (k : ℕ) (S T : State) → RecoveredTo formats capacity volume B k S → RecoveredTo formats capacity' volume' B k T → S ≡ T
    past_one capacity volume capacity' volume' B k S T (last, steps, count, s) (last', steps', count', t) =
        let table : last.table.commits ≡ last'.table.commits = ap (λ (u : Table_). u.commits) (last_table_one exact B last last') in
        let same : steps ≡ steps' = omega arith in
        stood_one capacity volume capacity' volume' S T steps B s (subst (λ n. RecoveredBefore formats n capacity' volume' B T) (sym same) t)

    -- and there is none above the count
    pub past_within : (capacity volume : ℕ) (B : Medium) (k : ℕ) (S T : State) → RecoveredTo formats capacity volume B k S → RecoversTo formats capacity volume B T → k ≤ T.commits
    past_within capacity volume B k S T (last, steps, count, s) stands = omega (arith, commits_of exact capacity volume B T stands last)
