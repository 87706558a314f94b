-- Nodes that were walked: which paths lead to them, and that no path, address or identity comes twice.
use Rattle.std.proofs.Common.{◌≡◌, ◌⊎◌, inl, inr, ℕ, suc, ◌≤◌, ◌==◌, Bool, true, false, if◌then◌else◌, [], ◌∷◌, map, length, drop, Contains, refl, sym, ap, ◌∙◌, subst, arith, nat_eq}
use Rattle.std.specs.List.{IsDistinct}
use Rattle.std.specs.Str.{bytes_eq}
use Rattle.std.proofs.lemmas.Bool.{true≢false}
use Rattle.std.proofs.lemmas.Map.Views.{exact_unsigned_eq}
use Rattle.std.specs.Cmp.{nat_eq_equiv}
use Rattle.model.specs.Tree.{Name, Path}
use Rattle.model.specs.Graph.{Graph, Stored, Entry, IsFunctional, PathLeads, entries_of, is_directory}
use Rattle.model.proofs.Lists.{contains_here, contains_there, contains_cons, not_in_nil, all_contains, bytes_eq-itself}
use Rattle.recover.specs.Forest.{Forest, IsSeen, IsWalked, IsAssigned, AreAssigned, At, Numbers, InsertsNumber, Adds, entries_named, height}
use Rattle.recover.specs.Forest.Forest.{End, Seen}

pub head_same : (a b : Name) (p q : Path) → a ∷ p ≡ b ∷ q → a ≡ b
head_same a b p q e = ap (λ (r : Path). first r a) e
  where
    first : Path → Name → Name
    first [] d = d
    first (x ∷ r) d = x

pub tail_same : (a b : Name) (p q : Path) → a ∷ p ≡ b ∷ q → p ≡ q
tail_same a b p q e = ap (drop 1) e

cons_nil : (a : Name) (p : Path) → [] ≡ a ∷ p → ⊥
cons_nil a p e = let l : 0 ≡ suc (length p) = ap length e in absurd (omega arith)

-- no path is empty
pub at_nil : (f : Forest) (a : ℕ) (s : Stored) → At f [] a s → ⊥
at_nil End a s at = at
at_nil (Seen name here node below rest) a s (inl (e, i, x)) = cons_nil name [] e
at_nil (Seen name here node below rest) a s (inr (inl (p, e, x))) = cons_nil name p e
at_nil (Seen name here node below rest) a s (inr (inr at)) = at_nil rest a s at

-- a path begins with the name of one of the nodes
pub at_first : (f : Forest) (name : Name) (p : Path) (a : ℕ) (s : Stored) → At f (name ∷ p) a s → Contains (map (λ (e : Entry). e.name) (entries_named f)) name
at_first End name p a s at = absurd at
at_first (Seen n here node below rest) name p a s (inl (e, i, x)) = subst (λ m. Contains (map (λ (e : Entry). e.name) (entries_named (Seen n here node below rest))) m) (sym (head_same name n p [] e)) (contains_here n _)
at_first (Seen n here node below rest) name p a s (inr (inl (q, e, x))) = subst (λ m. Contains (map (λ (e : Entry). e.name) (entries_named (Seen n here node below rest))) m) (sym (head_same name n p q e)) (contains_here n _)
at_first (Seen n here node below rest) name p a s (inr (inr at)) = contains_there n _ name (at_first rest name p a s at)

pub at_short : (f : Forest) (p : Path) (a : ℕ) (s : Stored) → At f p a s → length p ≤ height f
at_short End p a s at = absurd at
at_short (Seen n here node below rest) p a s (inl (e, i, x)) = let l : length p ≡ 1 = ap length e in omega arith
at_short (Seen n here node below rest) p a s (inr (inl (q, e, at))) = let l : length p ≡ suc (length q) = ap length e in let r = at_short below q a s at in omega arith
at_short (Seen n here node below rest) p a s (inr (inr at)) = let r = at_short rest p a s at in omega arith

pub at_drawn : (next : ℕ) (f : Forest) (p : Path) (a : ℕ) (s : Stored) → AreAssigned next f → At f p a s → IsAssigned next a s.identity
at_drawn next End p a s d at = absurd at
at_drawn next (Seen n here node below rest) p a s d (inl (e, same, is)) = subst (λ i. IsAssigned next i s.identity) (sym same) (subst (λ (t : Stored). IsAssigned next here t.identity) (sym is) d.0)
at_drawn next (Seen n here node below rest) p a s d (inr (inl (q, e, at))) = at_drawn next below q a s d.1 at
at_drawn next (Seen n here node below rest) p a s d (inr (inr at)) = at_drawn next rest p a s d.2 at

module _ (graph : Graph) where
  pub at_seen : (f : Forest) (above : ℕ) (p : Path) (a : ℕ) (s : Stored) → IsWalked graph above f → At f p a s → (up : ℕ) × IsSeen graph up a s
  at_seen End above p a s w at = absurd at
  at_seen (Seen n here node below rest) above p a s w (inl (e, same, is)) = (above, subst (λ i. IsSeen graph above i s) (sym same) (subst (λ t. IsSeen graph above here t) (sym is) w.0))
  at_seen (Seen n here node below rest) above p a s w (inr (inl (q, e, at))) = at_seen below here q a s w.2 at
  at_seen (Seen n here node below rest) above p a s w (inr (inr at)) = at_seen rest above p a s w.3 at

  -- what an entry of a walked directory leads to
  abbrev pub Child : ℕ → Entry → Type 0
  Child above e = (s : Stored) × IsSeen graph above e.address s × (e.is_directory ≡ is_directory s) × (e.identity ≡ s.identity)

  top : (f : Forest) (above : ℕ) (e : Entry) → IsWalked graph above f → Contains (entries_named f) e → Child above e
  top End above e w c = absurd (not_in_nil e c)
  top (Seen n here node below rest) above e w c =
      elim (contains_cons _ (entries_named rest) e c) [
        | inl same ↦ subst (Child above) same (node, w.0, refl, refl)
        | inr later ↦ top rest above e w.3 later
      ]

  pub at_child : (f : Forest) (above : ℕ) (p : Path) (a : ℕ) (s : Stored) (e : Entry) → IsWalked graph above f → At f p a s → Contains (entries_of s) e → Child a e
  at_child End above p a s e w at c = absurd at
  at_child (Seen n here node below rest) above p a s e w (inl (x, same, is)) c =
      subst (λ i. Child i e) (sym same) (top below here e w.2 (subst (λ es. Contains es e) (sym w.1) (subst (λ (t : Stored). Contains (entries_of t) e) is c)))
  at_child (Seen n here node below rest) above p a s e w (inr (inl (q, x, at))) c = at_child below here q a s e w.2 at c
  at_child (Seen n here node below rest) above p a s e w (inr (inr at)) c = at_child rest above p a s e w.3 at c

  -- the nodes of a directory have distinct names
  pub at_one : (f : Forest) (above : ℕ) (p : Path) (a b : ℕ) (s t : Stored) → IsWalked graph above f → IsDistinct bytes_eq (map (λ (e : Entry). e.name) (entries_named f)) → At f p a s → At f p b t → (a ≡ b) × (s ≡ t)
  unfolding IsDistinct
  at_one End above p a b s t w d x y = absurd x
  at_one (Seen n here node below rest) above p a b s t w d x y =
      go (λ q. at_one below here q a b s t w.2 (subst (λ es. IsDistinct bytes_eq (map (λ (e : Entry). e.name) es)) (sym w.1) w.0.distinct))
      (at_one rest above p a b s t w.3 d.1) x y
    where
      apart : (q : Path) (c : ℕ) (u : Stored) → p ≡ n ∷ q → At rest p c u → ⊥
      apart q c u e r =
          let none = all_contains (λ m. bytes_eq n m ≡ false) (map (λ (e : Entry). e.name) (entries_named rest)) n d.0 (at_first rest n q c u (subst (λ r. At rest r c u) e r)) in
          true≢false (sym (bytes_eq-itself n) ∙ none)

      go : ((q : Path) → At below q a s → At below q b t → (a ≡ b) × (s ≡ t)) → (At rest p a s → At rest p b t → (a ≡ b) × (s ≡ t)) → At (Seen n here node below rest) p a s → At (Seen n here node below rest) p b t → (a ≡ b) × (s ≡ t)
      go under later (inl (e, i, x)) (inl (e', j, y)) = (i ∙ sym j, x ∙ sym y)
      go under later (inl (e, i, x)) (inr (inl (q, e', y))) = absurd (at_nil below b t (subst (λ r. At below r b t) (sym (tail_same n n [] q (sym e ∙ e'))) y))
      go under later (inl (e, i, x)) (inr (inr y)) = absurd (apart [] b t e y)
      go under later (inr (inl (q, e, x))) (inl (e', j, y)) = absurd (at_nil below a s (subst (λ r. At below r a s) (sym (tail_same n n [] q (sym e' ∙ e))) x))
      go under later (inr (inl (q, e, x))) (inr (inl (q', e', y))) = under q x (subst (λ r. At below r b t) (tail_same n n q' q (sym e' ∙ e)) y)
      go under later (inr (inl (q, e, x))) (inr (inr y)) = absurd (apart q b t e y)
      go under later (inr (inr x)) (inl (e', j, y)) = absurd (apart [] a s e' x)
      go under later (inr (inr x)) (inr (inl (q, e, y))) = absurd (apart q a s e x)
      go under later (inr (inr x)) (inr (inr y)) = later x y

  -- from a node of the forest a path leads to a node below it
  pub leads_down : IsFunctional graph → (f : Forest) (above : ℕ) (e : Entry) (p : Path) (a : ℕ) → IsWalked graph above f → Contains (entries_named f) e → PathLeads graph e.address p a
      → (s : Stored) × At f (e.name ∷ p) a s
  leads_down one End above e p a w c l = absurd (not_in_nil e c)
  leads_down one (Seen n here node below rest) above e p a w c l =
      elim (contains_cons _ (entries_named rest) e c) [
        | inl same ↦ subst (λ (x : Entry). (s : Stored) × At (Seen n here node below rest) (x.name ∷ p) a s) same (first p (subst (λ (x : Entry). PathLeads graph x.address p a) (sym same) l) (λ d q. leads_down one below here d q a w.2))
        | inr later ↦ let r = leads_down one rest above e p a w.3 later l in (r.0, inr (inr r.1))
      ]
    where
      first : (p : Path) → PathLeads graph here p a → ((d : Entry) (q : Path) → Contains (entries_named below) d → PathLeads graph d.address q a → (s : Stored) × At below (d.name ∷ q) a s)
          → (s : Stored) × At (Seen n here node below rest) (n ∷ p) a s
      first [] l deeper = (node, inl (refl, sym l, refl))
      first (m ∷ q) (next, (s, g, d, c, name, to), l) deeper =
          let same : s ≡ node = one here s node g w.0.there in
          let inside : Contains (entries_named below) d = subst (λ es. Contains es d) (sym w.1) (subst (λ (t : Stored). Contains (entries_of t) d) same c) in
          let r = deeper d q inside (subst (λ i. PathLeads graph i q a) (sym to) l) in
          (r.0, inr (inl (m ∷ q, refl, subst (λ x. At below (x ∷ q) a r.0) name r.1)))

  -- and each node of the forest is reached so
  pub leads_up : (f : Forest) (above : ℕ) (p : Path) (a : ℕ) (s : Stored) → IsWalked graph above f → At f p a s
      → (e : Entry) × (q : Path) × Contains (entries_named f) e × (p ≡ e.name ∷ q) × PathLeads graph e.address q a
  leads_up End above p a s w at = absurd at
  leads_up (Seen n here node below rest) above p a s w (inl (e, same, is)) = (_, [], contains_here _ (entries_named rest), e, sym same)
  leads_up (Seen n here node below rest) above p a s w (inr (inl (q, e, at))) =
      let (d, r, c, is, l) = leads_up below here q a s w.2 at in
      (_, q, contains_here _ (entries_named rest), e, subst (λ x. PathLeads graph here x a) (sym is) (d.address, (node, w.0.there, d, subst (λ es. Contains es d) w.1 c, refl, refl), l))
  leads_up (Seen n here node below rest) above p a s w (inr (inr at)) =
      let (d, r, c, is, l) = leads_up rest above p a s w.3 at in
      (d, r, contains_there _ (entries_named rest) d c, is, l)

-- ---- numbers that are added

n_case : (x n : ℕ) → ((nat_eq x n ≡ true) × (x ≡ n)) ⊎ (nat_eq x n ≡ false)
n_case x n = go (nat_eq x n) refl
  where
    go : (b : Bool) → nat_eq x n ≡ b → ((nat_eq x n ≡ true) × (x ≡ n)) ⊎ (nat_eq x n ≡ false)
    go true e = inl (e, exact_unsigned_eq x n e)
    go false e = inr e

put_kept : (p q : Numbers) (n x : ℕ) → InsertsNumber p n q → p x ≡ true → q x ≡ true
put_kept p q n x h t = h.1 x ∙ go (x == n)
  where
    go : (b : Bool) → (if b then true else p x) ≡ true
    go true = refl
    go false = t

put_only : (p q : Numbers) (n x : ℕ) → InsertsNumber p n q → q x ≡ true → (p x ≡ true) ⊎ (x ≡ n)
put_only p q n x h t = go (n_case x n)
  where
    go : ((nat_eq x n ≡ true) × (x ≡ n)) ⊎ (nat_eq x n ≡ false) → (p x ≡ true) ⊎ (x ≡ n)
    go (inl e) = inr e.1
    go (inr f) = inl (sym (h.1 x ∙ ap (λ (b : Bool). if b then true else p x) f) ∙ t)

put_has : (p q : Numbers) (n : ℕ) → InsertsNumber p n q → q n ≡ true
put_has p q n h = h.1 n ∙ ap (λ (b : Bool). if b then true else p n) (nat_eq_equiv.refl n)

module _ (key : ℕ → Stored → ℕ) where
  pub adds_kept : (p q : Numbers) (f : Forest) (x : ℕ) → Adds key p f q → p x ≡ true → q x ≡ true
  adds_kept p q End x h t = h x ∙ t
  adds_kept p q (Seen n a s b r) x (here, put, under, low, later) t =
      adds_kept under q r x later (adds_kept here under b x low (put_kept p here (key a s) x put t))

  -- a node with this number
  abbrev pub Brings : Forest → ℕ → Type 0
  Brings f x = (path : Path) × (a : ℕ) × (s : Stored) × At f path a s × (key a s ≡ x)

  -- a number that was not there before is that of a node
  pub adds_only : (p q : Numbers) (f : Forest) (x : ℕ) → Adds key p f q → q x ≡ true → (p x ≡ true) ⊎ Brings f x
  adds_only p q End x h t = inl (sym (h x) ∙ t)
  adds_only p q (Seen n i u b r) x (here, put, under, low, later) t = go (adds_only here under b x low) (adds_only under q r x later t)
    where
      first : (p x ≡ true) ⊎ (x ≡ key i u) → (p x ≡ true) ⊎ Brings (Seen n i u b r) x
      first (inl old) = inl old
      first (inr same) = inr (n ∷ [], i, u, inl (refl, refl, refl), sym same)

      lower : (here x ≡ true) ⊎ Brings b x → (p x ≡ true) ⊎ Brings (Seen n i u b r) x
      lower (inl h) = first (put_only p here (key i u) x put h)
      lower (inr (path, a, s, at, same)) = inr (n ∷ path, a, s, inr (inl (path, refl, at)), same)

      go : (under x ≡ true → (here x ≡ true) ⊎ Brings b x) → (under x ≡ true) ⊎ Brings r x → (p x ≡ true) ⊎ Brings (Seen n i u b r) x
      go deeper (inl h) = lower (deeper h)
      go deeper (inr (path, a, s, at, same)) = inr (path, a, s, inr (inr at), same)

  pub adds_has : (p q : Numbers) (f : Forest) (path : Path) (a : ℕ) (s : Stored) → Adds key p f q → At f path a s → q (key a s) ≡ true
  adds_has p q End path a s h at = absurd at
  adds_has p q (Seen n i t b r) path a s (here, put, under, low, later) (inl (e, same, is)) =
      subst (λ k. q k ≡ true) (λ j. key (sym same j) (sym is j)) (adds_kept under q r (key i t) later (adds_kept here under b (key i t) low (put_has p here (key i t) put)))
  adds_has p q (Seen n i t b r) path a s (here, put, under, low, later) (inr (inl (rest, e, at))) = adds_kept under q r (key a s) later (adds_has here under b rest a s low at)
  adds_has p q (Seen n i t b r) path a s (here, put, under, low, later) (inr (inr at)) = adds_has under q r path a s later at

  pub adds_fresh : (p q : Numbers) (f : Forest) (path : Path) (a : ℕ) (s : Stored) → Adds key p f q → At f path a s → p (key a s) ≡ true → ⊥
  adds_fresh p q End path a s h at t = absurd at
  adds_fresh p q (Seen n i u b r) path a s (here, put, under, low, later) (inl (e, same, is)) t =
      true≢false (sym t ∙ subst (λ k. p k ≡ false) (λ j. key (sym same j) (sym is j)) put.0)
  adds_fresh p q (Seen n i u b r) path a s (here, put, under, low, later) (inr (inl (rest, e, at))) t = adds_fresh here under b rest a s low at (put_kept p here (key i u) (key a s) put t)
  adds_fresh p q (Seen n i u b r) path a s (here, put, under, low, later) (inr (inr at)) t =
      adds_fresh under q r path a s later at (adds_kept here under b (key a s) low (put_kept p here (key i u) (key a s) put t))

  -- so one path alone leads to a node with this number
  pub adds_one : (p q : Numbers) (f : Forest) (x y : Path) (a c : ℕ) (s t : Stored) → Adds key p f q → At f x a s → At f y c t → key a s ≡ key c t → x ≡ y
  adds_one p q End x y a c s t h at over e = absurd at
  adds_one p q (Seen n i u b r) x y a c s t (here, put, under, low, later) at over e =
      go (λ o o' x' y'. adds_one here under b o o' a c s t low x' y' e) (λ x' y'. adds_one under q r x y a c s t later x' y' e) at over
    where
      head : (o : ℕ) (v : Stored) → o ≡ i → v ≡ u → here (key o v) ≡ true
      head o v same is = subst (λ k. here k ≡ true) (λ j. key (sym same j) (sym is j)) (put_has p here (key i u) put)

      go : ((o o' : Path) → At b o a s → At b o' c t → o ≡ o') → (At r x a s → At r y c t → x ≡ y) → At (Seen n i u b r) x a s → At (Seen n i u b r) y c t → x ≡ y
      go lower last (inl (l, same, is)) (inl (m, j, z)) = l ∙ sym m
      go lower last (inl (l, same, is)) (inr (inl (o, m, y'))) = absurd (adds_fresh here under b o c t low y' (subst (λ k. here k ≡ true) e (head a s same is)))
      go lower last (inl (l, same, is)) (inr (inr y')) = absurd (adds_fresh under q r y c t later y' (subst (λ k. under k ≡ true) e (adds_kept here under b (key a s) low (head a s same is))))
      go lower last (inr (inl (o, m, x'))) (inl (l, same, is)) = absurd (adds_fresh here under b o a s low x' (subst (λ k. here k ≡ true) (sym e) (head c t same is)))
      go lower last (inr (inl (o, m, x'))) (inr (inl (o', m', y'))) = m ∙ ap (λ z. n ∷ z) (lower o o' x' y') ∙ sym m'
      go lower last (inr (inl (o, m, x'))) (inr (inr y')) = absurd (adds_fresh under q r y c t later y' (subst (λ k. under k ≡ true) e (adds_has here under b o a s low x')))
      go lower last (inr (inr x')) (inl (l, same, is)) = absurd (adds_fresh under q r x a s later x' (subst (λ k. under k ≡ true) (sym e) (adds_kept here under b (key c t) low (head c t same is))))
      go lower last (inr (inr x')) (inr (inl (o', m', y'))) = absurd (adds_fresh under q r x a s later x' (subst (λ k. under k ≡ true) (sym e) (adds_has here under b o' c t low y')))
      go lower last (inr (inr x')) (inr (inr y')) = last x' y'
