-- A medium recovers to at most one state.
use Rattle.std.proofs.Common.{◌≡◌, ◌⊎◌, inl, inr, ℕ, ◌-◌, ◌≤◌, ◌<◌, length, slice_get, take, sym, ◌∙◌, ap, subst, subst₂, arith}
use Rattle.std.proofs.lemmas.Option.{same_Some}
use Rattle.model.specs.Session.{State}
use Rattle.model.specs.Graph.{MakesTree}
use Rattle.model.proofs.Made.{one_tree}
use Rattle.durability.specs.Formats.{Block, NodePlace, NodeFields, Table_, Formats, AreExact}
use Rattle.durability.specs.Formats.NodePlace.{Nowhere, Extent, Extents, Inside}
use Rattle.durability.specs.Volume.{Medium, partition_start, extent, bytes_in_blocks, graph_of, IsLast, HasTable, Describes, RecoversTo}
use Rattle.durability.proofs.Lists.{side}

first_of : NodePlace → ℕ
first_of Nowhere = 0
first_of (Inside bytes) = 0
first_of (Extents descriptors) = 0
first_of (Extent first) = first

same_Extent : (m n : ℕ) → Extent m ≡ Extent n → m ≡ n
unfolding first_of
same_Extent m n e = ap first_of e

module _ (formats : Formats) where
  -- there is one last table entry
  pub last_one : (B : Medium) (m n : ℕ) (b c : Block) → IsLast formats B m b → IsLast formats B n c → m ≡ n
  last_one B m n b c k l = go (side m n) (side n m)
    where
      go : (m < n) ⊎ (n ≤ m) → (n < m) ⊎ (m ≤ n) → m ≡ n
      go (inl h) y = absurd (k.no_later n c h l.there l.is)
      go (inr h) (inl g) = absurd (l.no_later m b g k.there k.is)
      go (inr h) (inr g) = omega arith

  module _ (exact : AreExact formats) where
    fields_one : (M : Medium) (at : ℕ) (block : Block) (t u : Table_) (v w : ℕ) (a : HasTable formats M at block t v) (b : HasTable formats M at block u w) → a.fields ≡ b.fields
    fields_one M at block t u v w a b = exact.entry block (at - partition_start) a.fields b.fields a.entry b.entry

    -- a table entry has one table, of one moment
    pub table_one : (M : Medium) (at : ℕ) (block : Block) (t u : Table_) (v w : ℕ) → HasTable formats M at block t v → HasTable formats M at block u w → (t ≡ u) × (v ≡ w)
    table_one M at block t u v w a b =
        let fields = fields_one M at block t u v w a b in
        let size : a.fields.size ≡ b.fields.size = ap (λ (f : NodeFields). f.size) fields in
        let first : a.first ≡ b.first = same_Extent a.first b.first (sym a.place ∙ ap (λ (f : NodeFields). f.place) fields ∙ b.place) in (
          exact.table (at - partition_start) (bytes_in_blocks a.fields.size (extent M a.first a.fields.size)) t u a.is
              (subst₂ (λ m n. formats.IsTable u (at - partition_start) (bytes_in_blocks n (extent M m n))) (sym first) (sym size) b.is),
          sym a.moment_is ∙ ap (λ (f : NodeFields). f.moment) fields ∙ b.moment_is,
        )

    -- a table entry says one state, whatever drive and volume it is read in
    tells_one : (capacity volume capacity' volume' : ℕ) (M : Medium) (at : ℕ) (block : Block) (S T : State) → Describes formats capacity volume M at block S → Describes formats capacity' volume' M at block T → S ≡ T
    tells_one capacity volume capacity' volume' M at block S T s t =
        let both = table_one M at block s.table t.table S.moment T.moment s.has t.has in
        let table = both.0 in
        let moment = both.1 in
        let tree : S.tree ≡ T.tree = one_tree (graph_of formats M s.table.entries) S.tree T.tree s.makes
        (subst (λ (u : Table_). MakesTree (graph_of formats M u.entries) T.tree) (sym table) t.makes) in
        let records : S.records ≡ T.records = sym s.records ∙ ap (λ (u : Table_). u.records) table ∙ t.records in
        let commits : S.commits ≡ T.commits = sym s.commits ∙ ap (λ (u : Table_). u.commits) table ∙ t.commits in
        let next_identity : S.next_identity ≡ T.next_identity = sym s.next_identity ∙ ap (λ (u : Table_). u.next_identity) table ∙ t.next_identity in
        let table_length : S.table_length ≡ T.table_length = sym s.table_length ∙ ap (λ (u : Table_). length u.entries) table ∙ t.table_length in
        λ i. record { tree = tree i; records = records i; commits = commits i; next_identity = next_identity i; table_length = table_length i; moment = moment i }

    pub stands_one : (capacity volume capacity' volume' : ℕ) (B : Medium) (S T : State) → RecoversTo formats capacity volume B S → RecoversTo formats capacity' volume' B T → S ≡ T
    stands_one capacity volume capacity' volume' B S T s t =
        let at = last_one B s.at t.at s.block t.block s.last t.last in
        let block : s.block ≡ t.block = same_Some s.block t.block (sym s.last.there ∙ ap (λ n. slice_get B n) at ∙ t.last.there) in
        tells_one capacity volume capacity' volume' (take s.at B) s.at s.block S T s.tells
        (subst₂ (λ (n : ℕ) (b : Block). Describes formats capacity' volume' (take n B) n b T) (sym at) (sym block) t.tells)
