-- All commits of a chain, and the past states after each.
use Rattle.std.proofs.Common.{◌≡◌, ℕ, zero, suc, ◌+◌, ◌-◌, ◌<◌, ◌≤◌, inl, inr, List, [], ◌∷◌, length, Option, Some, None, IsNone, refl, sym, ap, subst, ◌∙◌, arith, slice_index_or}
use Rattle.std.proofs.lemmas.Option.{none-some, same_Some}
use Rattle.limits.specs.declared.TheConstants.{PARTITION_START}
use Rattle.drive.specs.Journal.{Event, held}
use Rattle.durability.specs.Formats.{Table_}
use Rattle.durability.specs.Volume.{Medium, RecoveredBefore}
use Rattle.model.specs.Session as model
use Rattle.udf.specs.Udf.{udf}
use Rattle.vat.specs.Table.{Table}
use Rattle.recover.specs.declared.fault.StoreFault.{StoreFault}
use Rattle.recover.specs.declared.fault.StoreFault.TheVariants.{Device, Memory, Damaged}
use Rattle.recover.specs.declared.state.State.{State}
use Rattle.recover.specs.State.{IsShown, DescribesNoState}
use Rattle.recover.specs.Tables.{HasTableAt, IsAtRefused, IsLinkRefused}
use Rattle.recover.proofs.Told.{is_read, one_read}
use Rattle.store.specs.declared.history.Commit.{Commit}
use Rattle.store.specs.History.{AreShown, HasUntold, IsChain, IsHistory, IsHistoryRefused, report_of}
use Rattle.store.specs.Past.{AllRecovered}
use Rattle.store.proofs.Chains.{EndsAt, goes_back, shown_stood, step_back, step_on, stood_told}
use Rattle.store.proofs.Chains as chains
use Rattle.store.proofs.Histories.{one_before}
use Rattle.store.proofs.Pasts.{IsNewest, commits_here, ends_here, past_of, steps_past, table_here, volume_told}
use Rattle.store.proofs.Ways.{link_refused}

module _ (M : Medium) where
  -- ---- what is left of a list that is the history

  abbrev pub Goes : Table → Type 0
  Goes t = (rest : List Commit) × IsChain M t.previous t.commits rest

  pub left_first : (at : ℕ) (t : Table) → HasTableAt M at t → (all : List Commit) → IsHistory M at all → Goes t
  left_first at t has all (u, there, earlier, is, chain) =
      (earlier, subst (λ (x : Table_). IsChain M x.previous x.commits earlier) (one_read M at u t there has) chain)

  pub left_next : (number : ℕ) (t u : Table) → t.previous ≡ Some number → HasTableAt M (number + PARTITION_START) u → Goes t → Goes u
  left_next number t u link has (rest, left) = by rest left
    where
      by : (all : List Commit) → IsChain M t.previous t.commits all → Goes u
      by [] (none, count) = absurd (none-some number (sym none ∙ link))
      by (c ∷ earlier) (n, is, v, there, fewer, says, chain) =
          let same : n ≡ number = same_Some n number (sym is ∙ link) in
          let one = one_read M (number + PARTITION_START) v u (subst (λ (k : ℕ). HasTableAt M (k + PARTITION_START) v) same there) has in
          (earlier, subst (λ (x : Table_). IsChain M x.previous x.commits earlier) one chain)

  none_left : (number : ℕ) (t : Table) → t.previous ≡ Some number → (b c : ℕ) → IsLinkRefused M (number + PARTITION_START) t.commits (Damaged b c) → Goes t → ⊥
  none_left number t link b c refused (rest, left) = by rest left
    where
      by : (all : List Commit) → IsChain M t.previous t.commits all → ⊥
      by [] (none, count) = none-some number (sym none ∙ link)
      by (d ∷ earlier) (n, is, v, there, fewer, says, chain) =
          let same : n ≡ number = same_Some n number (sym is ∙ link) in
          link_refused M (number + PARTITION_START) t.commits b c refused v (subst (λ (k : ℕ). HasTableAt M (k + PARTITION_START) v) same there) fewer

  pub history_first : (at : ℕ) (fault : StoreFault) → IsAtRefused M at fault → IsHistoryRefused M at fault
  history_first at Device r = tt
  history_first at Memory r = tt
  history_first at (Damaged b c) r = λ commits (t, has, earlier, is, chain). is_read M at t has b c r
  history_first at _ r = elim r [ inl entry ↦ absurd entry | inr table ↦ absurd table.3 ]

  pub history_link : (at number : ℕ) (t : Table) → t.previous ≡ Some number → ((all : List Commit) → IsHistory M at all → Goes t) → (fault : StoreFault) → IsLinkRefused M (number + PARTITION_START) t.commits fault
      → IsHistoryRefused M at fault
  history_link at number t link goes Device r = tt
  history_link at number t link goes Memory r = tt
  history_link at number t link goes (Damaged b c) r = λ all is. none_left number t link b c r (goes all is)
  history_link at number t link goes _ r =
      elim r [ inl none ↦ elim none [ inl entry ↦ absurd entry | inr table ↦ absurd table.3 ] | inr other ↦ (let is = other.0 in cc) ]

  -- ---- how many there are

  chain_length : (link : Option ℕ) (commits : ℕ) (earlier : List Commit) → IsChain M link commits earlier → length earlier ≡ commits
  chain_length link commits [] (none, count) = sym count
  chain_length link commits (c ∷ earlier) (n, is, v, there, fewer, says, chain) = let one = chain_length v.previous v.commits earlier chain in omega (arith, one, fewer)

  pub history_length : (at : ℕ) (t : Table) (all : List Commit) → HasTableAt M at t → IsHistory M at all → length all ≡ t.commits + 1
  history_length at t all has (u, there, earlier, is, chain) =
      let one = chain_length u.previous u.commits earlier chain in
      let same = ap (λ (x : Table_). x.commits) (one_read M at u t there has) in
      omega (arith, one, same, ap (λ (cs : List Commit). length cs) is)

  module _ (capacity volume : ℕ) (sized : (a : ℕ) (state : State) → PARTITION_START ≤ a → IsShown capacity M a state → state.capacity ≡ volume) where
    -- ---- the states that were shown were recovered

    stood_in_chain : (at : ℕ) (t : Table) (earlier : List Commit) → HasTableAt M at t → IsChain M t.previous t.commits earlier → AreShown capacity M earlier → (i : ℕ) → i < length earlier
        → (S : model.State) × chains.StoodAt capacity volume M at (suc i) S
    stood_in_chain at t [] has chain shown i less = absurd (omega (arith, less))
    stood_in_chain at t (c ∷ earlier) has (n, is, v, there, fewer, says, chain) shown zero less =
        let here = shown 0 c (omega arith) in
        let at_is : IsShown capacity M (n + PARTITION_START) here.0 = subst (λ (d : Commit). IsShown capacity M d.vat_icb_address here.0) says here.1 in
        let low : PARTITION_START ≤ n + PARTITION_START = omega arith in
        (at_is.said, step_back capacity volume M at (n + PARTITION_START) 0 at_is.said (one_before M at n t v has is there fewer) (shown_stood capacity volume M (n + PARTITION_START) here.0 low at_is (sized (n + PARTITION_START) here.0 low at_is)))
    stood_in_chain at t (c ∷ earlier) has (n, is, v, there, fewer, says, chain) shown (suc i) less =
        let on = stood_in_chain (n + PARTITION_START) v earlier there chain (λ k d lt. shown (suc k) d (omega (arith, lt))) i (omega (arith, less)) in
        (on.0, step_back capacity volume M at (n + PARTITION_START) (suc i) on.0 (one_before M at n t v has is there fewer) on.1)

    pub stood_in : (at : ℕ) (all : List Commit) → PARTITION_START ≤ at → IsHistory M at all → AreShown capacity M all → (i : ℕ) → i < length all → (S : model.State) × chains.StoodAt capacity volume M at i S
    stood_in at all low (t, has, earlier, is, chain) shown i less =
        go i (subst (λ (cs : List Commit). AreShown capacity M cs) is shown) (subst (λ (cs : List Commit). i < length cs) is less)
      where
        go : (j : ℕ) → AreShown capacity M (report_of at t ∷ earlier) → j < length (report_of at t ∷ earlier) → (S : model.State) × chains.StoodAt capacity volume M at j S
        go zero s l = let here = s 0 (report_of at t) (omega arith) in (here.1.said, shown_stood capacity volume M at here.0 low here.1 (sized at here.0 low here.1))
        go (suc j) s l = stood_in_chain at t earlier has chain (λ k d lt. s (suc k) d (omega (arith, lt))) j (omega (arith, l))

  module _ (capacity volume : ℕ) where
    -- ---- none was recovered where none is described

    not_in_chain : (at : ℕ) (t : Table) (earlier : List Commit) → HasTableAt M at t → IsChain M t.previous t.commits earlier → (i : ℕ) → i < length earlier → (S : model.State) (N : Medium) → EndsAt M at N
        → RecoveredBefore udf (suc i) capacity volume N S → ((d : Commit) → DescribesNoState capacity M (slice_index_or earlier i d).vat_icb_address) → ⊥
    not_in_chain at t [] has chain i less S N ends stood untold = absurd (omega (arith, less))
    not_in_chain at t (c ∷ earlier) has (n, is, v, there, fewer, says, chain) zero less S N ends stood untold =
        let on = step_on capacity volume M at (n + PARTITION_START) 0 S N ends (one_before M at n t v has is there fewer) stood in
        let told = stood_told capacity volume M (n + PARTITION_START) v S on.0 there on.1 on.2 in
        subst (λ (d : Commit). DescribesNoState capacity M d.vat_icb_address) says (untold c) volume on.2.block S told.0 told.1
    not_in_chain at t (c ∷ earlier) has (n, is, v, there, fewer, says, chain) (suc i) less S N ends stood untold =
        let on = step_on capacity volume M at (n + PARTITION_START) (suc i) S N ends (one_before M at n t v has is there fewer) stood in
        not_in_chain (n + PARTITION_START) v earlier there chain i (omega (arith, less)) S on.0 on.1 on.2 untold

    pub not_in : (at : ℕ) (all : List Commit) → IsHistory M at all → (i : ℕ) → i < length all → (S : model.State) (N : Medium) → EndsAt M at N → RecoveredBefore udf i capacity volume N S
        → ((d : Commit) → DescribesNoState capacity M (slice_index_or all i d).vat_icb_address) → ⊥
    not_in at all (t, has, earlier, is, chain) i less S N ends stood untold =
        go i (subst (λ (cs : List Commit). i < length cs) is less) stood (subst (λ (cs : List Commit). (d : Commit) → DescribesNoState capacity M (slice_index_or cs i d).vat_icb_address) is untold)
      where
        go : (j : ℕ) → j < length (report_of at t ∷ earlier) → RecoveredBefore udf j capacity volume N S → ((d : Commit) → DescribesNoState capacity M (slice_index_or (report_of at t ∷ earlier) j d).vat_icb_address) → ⊥
        go zero l s u = let told = stood_told capacity volume M at t S N has ends s in u (report_of at t) volume s.block S told.0 told.1
        go (suc j) l s u = not_in_chain at t earlier has chain j (omega (arith, l)) S N ends s u

    -- ---- where the first state was recovered there is a history

    none_of : (link : Option ℕ) → IsNone link → link ≡ None
    none_of None h = refl
    none_of (Some n) h = cc

    chain_of : (steps at : ℕ) (t : Table) (S : model.State) (N : Medium) → HasTableAt M at t → t.commits ≡ steps → EndsAt M at N → RecoveredBefore udf steps capacity volume N S → Goes t
    chain_of zero at t S N has count ends stood = ([], (none_of t.previous (has.is.table.fits.first.1 count), count))
    chain_of (suc steps) at t S N has count ends stood =
        let on = goes_back capacity volume M at steps S N ends t has stood in
        let (s, here, n, is, place, u, before, fewer) = on.1 in
        let same = one_read M at s t here has in
        let there : HasTableAt M (n + PARTITION_START) u = subst (λ (k : ℕ). HasTableAt M k u) place before in
        let less : u.commits + 1 ≡ t.commits = fewer ∙ ap (λ (x : Table_). x.commits) same in
        let link : t.previous ≡ Some n = sym (ap (λ (x : Table_). x.previous) same) ∙ is in
        let rest = chain_of steps on.0 u S on.2 before (omega (arith, less, count)) on.3 on.4 in
        (report_of (n + PARTITION_START) u ∷ rest.0, (n, link, u, there, less, refl, rest.1))

module _ (capacity volume : ℕ) (J : List Event) (T : model.State) (top : ℕ) (newest : IsNewest capacity volume (held J) T top) where
  pub history_known : (all : List Commit) → IsHistory (held J) top all → length all ≡ T.commits + 1
  history_known all is =
      let here = table_here capacity volume J T top newest in
      let one = history_length (held J) top here.0 all here.1 is in
      omega (arith, one, commits_here capacity volume J T top newest)

  pub whole : (all : List Commit) → PARTITION_START ≤ top → IsHistory (held J) top all → AreShown capacity (held J) all → AllRecovered capacity volume (held J) T.commits
  whole all low is shown k le =
      let i : T.commits - k < length all = omega (arith, history_known all is) in
      let stood = stood_in (held J) capacity volume (volume_told capacity volume J T top newest) top all low is shown (T.commits - k) i in
      (stood.0, past_of capacity volume J T top newest k (T.commits - k) stood.0 (omega (arith, le)) (stood.1 (held J) (ends_here capacity volume J T top newest)))

  -- where none is described of one of them, none was recovered after it
  pub unshown : (all : List Commit) → IsHistory (held J) top all → HasUntold capacity (held J) all → AllRecovered capacity volume (held J) T.commits → ⊥
  unshown all is r stood =
      let few : r.0 ≤ T.commits = omega (arith, r.1, history_known all is) in
      let past = stood (T.commits - r.0) (omega arith) in
      let steps : past.1.1 ≡ r.0 = omega (arith, few, steps_past capacity volume J T top newest (T.commits - r.0) past.0 past.1) in
      not_in (held J) capacity volume top all is r.0 r.1 past.0 (held J) (ends_here capacity volume J T top newest) (subst (λ (n : ℕ). RecoveredBefore udf n capacity volume (held J) past.0) steps past.1.3) r.2

  -- a state was recovered after each commit only where a list is all of them
  pub history_stood : AllRecovered capacity volume (held J) T.commits → (all : List Commit) × IsHistory (held J) top all
  history_stood stood =
      let here = table_here capacity volume J T top newest in
      let past = stood 0 (omega arith) in
      let count : here.0.commits ≡ past.1.1 = omega (arith, commits_here capacity volume J T top newest, steps_past capacity volume J T top newest 0 past.0 past.1) in
      let rest = chain_of (held J) capacity volume past.1.1 top here.0 past.0 (held J) here.1 count (ends_here capacity volume J T top newest) past.1.3 in
      (report_of top here.0 ∷ rest.0, (here.0, here.1, rest.0, refl, rest.1))
