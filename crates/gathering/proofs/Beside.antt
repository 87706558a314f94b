-- Two media that differ only where the first has VAT ICBs: what an entry of a file or of a directory says is on both.
use Rattle.std.proofs.Common.{◌≡◌, ◌⊎◌, inl, inr, ℕ, zero, suc, ◌+◌, ◌-◌, ◌≤◌, ◌<◌, Bool, true, false, List, [], ◌∷◌, ◌++◌, length, take, drop, slice_get, Contains, Option, Some, refl, sym, ◌∙◌, ap, subst, arith}
use Rattle.std.proofs.lemmas.Bool.{true≢false}
use Rattle.std.proofs.lemmas.Option.{none-some, same_Some}
use Rattle.model.specs.Graph.{Stored, Body, Entry}
use Rattle.model.specs.Graph.Body.{Bytes, Entries}
use Rattle.model.proofs.Lists.{contains_here, contains_there}
use Rattle.durability.specs.Formats.{Block, Kind, NodePlace, NodeFields, Formats, AreExact, AreDistinct}
use Rattle.durability.specs.Formats.Kind.{Directory, File, Table}
use Rattle.durability.specs.Formats.NodePlace.{Nowhere, Extent, Extents, Inside}
use Rattle.durability.specs.Plan.{firsts_of}
use Rattle.durability.specs.Volume.{Medium, partition_start, blocks_for, descriptor_blocks, extent, HoldsDirectory, HoldsFile, HoldsBody, IsStoredAt, IsVatIcbAt}
use Rattle.durability.proofs.Lists.{get-take, get-drop}

contained : (xs : List Block) (k : ℕ) (block : Block) → slice_get xs k ≡ Some block → Contains xs block
contained [] k block e = absurd (none-some block e)
contained (x ∷ xs) zero block e = subst (λ (y : Block). Contains (x ∷ xs) y) (same_Some x block e) (contains_here x xs)
contained (x ∷ xs) (suc k) block e = contains_there x xs block (contained xs k block e)

-- parts of two lists that have the same there
pub part_same : (s c : ℕ) (xs ys : List Block) → length ys ≡ length xs → ((i : ℕ) (b : Block) → s ≤ i → i < s + c → slice_get xs i ≡ Some b → slice_get ys i ≡ Some b) → take c (drop s ys) ≡ take c (drop s xs)
part_same zero zero xs ys size same = refl
part_same zero (suc c) [] [] size same = refl
part_same zero (suc c) [] (y ∷ ys) size same = absurd (omega (arith, size))
part_same zero (suc c) (x ∷ xs) [] size same = absurd (omega (arith, size))
part_same zero (suc c) (x ∷ xs) (y ∷ ys) size same =
    let here : y ≡ x = same_Some y x (same 0 x (omega arith) (omega arith) refl) in
    let rest = part_same zero c xs ys (omega (arith, size)) (λ i b low high e. same (suc i) b (omega arith) (omega (arith, high)) e) in
    λ j. here j ∷ rest j
part_same (suc s) c [] [] size same = refl
part_same (suc s) c [] (y ∷ ys) size same = absurd (omega (arith, size))
part_same (suc s) c (x ∷ xs) [] size same = absurd (omega (arith, size))
part_same (suc s) c (x ∷ xs) (y ∷ ys) size same = part_same s c xs ys (omega (arith, size)) (λ i b low high e. same (suc i) b (omega (arith, low)) (omega (arith, high)) e)

is_table : Kind → Bool
is_table Directory = false
is_table File = false
is_table Table = true

module _ (formats : Formats) where
  -- from this address on
  abbrev pub AreBeside : ℕ → Medium → Medium → Type 0
  AreBeside at [] [] = Unit {0}
  AreBeside at [] (c ∷ N) = ⊥
  AreBeside at (b ∷ M) [] = ⊥
  AreBeside at (b ∷ M) (c ∷ N) = ((c ≡ b) ⊎ IsVatIcbAt formats b at) × AreBeside (suc at) M N

  pub beside_itself : (at : ℕ) (M : Medium) → AreBeside at M M
  beside_itself at [] = tt
  beside_itself at (b ∷ M) = (inl refl, beside_itself (suc at) M)

  pub beside_size : (at : ℕ) (M N : Medium) → AreBeside at M N → length N ≡ length M
  beside_size at [] [] all = refl
  beside_size at [] (c ∷ N) all = absurd all
  beside_size at (b ∷ M) [] all = absurd all
  beside_size at (b ∷ M) (c ∷ N) all = ap suc (beside_size (suc at) M N all.1)

  pub beside_append : (at : ℕ) (M N xs ys : Medium) → AreBeside at M N → AreBeside (at + length M) xs ys → AreBeside at (M ++ xs) (N ++ ys)
  beside_append at [] [] xs ys all more = subst (λ n. AreBeside n xs ys) (let e : at + 0 ≡ at = omega arith in e) more
  beside_append at [] (c ∷ N) xs ys all more = absurd all
  beside_append at (b ∷ M) [] xs ys all more = absurd all
  beside_append at (b ∷ M) (c ∷ N) xs ys all more = (all.0, beside_append (suc at) M N xs ys all.1 (subst (λ n. AreBeside n xs ys) (let e : at + suc (length M) ≡ suc at + length M = omega arith in e) more))

  pub beside_take : (k at : ℕ) (M N : Medium) → AreBeside at M N → AreBeside at (take k M) (take k N)
  beside_take zero at M N all = tt
  beside_take (suc k) at [] [] all = tt
  beside_take (suc k) at [] (c ∷ N) all = absurd all
  beside_take (suc k) at (b ∷ M) [] all = absurd all
  beside_take (suc k) at (b ∷ M) (c ∷ N) all = (all.0, beside_take k (suc at) M N all.1)

  pub beside_get : (at i : ℕ) (M N : Medium) (b : Block) → AreBeside at M N → slice_get M i ≡ Some b → (slice_get N i ≡ Some b) ⊎ IsVatIcbAt formats b (at + i)
  beside_get at i [] N b all e = absurd (none-some b e)
  beside_get at i (x ∷ M) [] b all e = absurd all
  beside_get at zero (x ∷ M) (y ∷ N) b all e = elim all.0 [
    | inl same ↦ inl (ap (λ (z : Block). Some z) same ∙ e)
    | inr is ↦ inr (subst (λ n. IsVatIcbAt formats b n) (let k : at ≡ at + 0 = omega arith in k) (subst (λ (z : Block). IsVatIcbAt formats z at) (same_Some x b e) is))
  ]
  beside_get at (suc i) (x ∷ M) (y ∷ N) b all e = elim (beside_get (suc at) i M N b all.1 e) [
    | inl same ↦ inl same
    | inr is ↦ inr (subst (λ n. IsVatIcbAt formats b n) (let k : suc at + i ≡ at + suc i = omega arith in k) is)
  ]

  -- what is no VAT ICB there
  pub stays_there : (M N : Medium) (i : ℕ) (b : Block) → AreBeside 0 M N → slice_get M i ≡ Some b → (IsVatIcbAt formats b i → ⊥) → slice_get N i ≡ Some b
  stays_there M N i b all e none = elim (beside_get 0 i M N b all e) [
    | inl same ↦ same
    | inr is ↦ absurd (none (subst (λ n. IsVatIcbAt formats b n) (let k : 0 + i ≡ i = omega arith in k) is))
  ]

  module _ (distinct : AreDistinct formats) where
    no_table : (kind : Kind) → kind ≡ Table → (kind ≡ File) ⊎ (kind ≡ Directory) → ⊥
    unfolding is_table
    no_table kind table (inl file) = true≢false (sym (ap is_table table) ∙ ap is_table file)
    no_table kind table (inr directory) = true≢false (sym (ap is_table table) ∙ ap is_table directory)

    -- the block of an entry of a file or of a directory
    pub plain_none : (fields : NodeFields) (block : Block) (location at : ℕ) → (fields.kind ≡ File) ⊎ (fields.kind ≡ Directory) → formats.IsEntry fields block location → IsVatIcbAt formats block at → ⊥
    plain_none fields block location at kind entry (low, other, table, is) =
        no_table fields.kind (distinct.kind block location (at - partition_start) fields other entry is ∙ table) kind

    body_kind : (M : Medium) (fields : NodeFields) (body : Body) → HoldsBody formats M fields body → (fields.kind ≡ File) ⊎ (fields.kind ≡ Directory)
    body_kind M fields (Bytes bytes) holds = inl holds.0
    body_kind M fields (Entries parent entries) holds = inr holds.0

    module _ (M N : Medium) (all : AreBeside 0 M N) where
      pub entry_stays : (table : List (Option ℕ)) (address : ℕ) (s : Stored) (st : IsStoredAt formats M table address s) → slice_get N (st.number + partition_start) ≡ Some st.block
      entry_stays table address s st =
          stays_there M N (st.number + partition_start) st.block all st.there (plain_none st.fields st.block address (st.number + partition_start) (body_kind M st.fields s.body st.body) st.entry)

      pub directory_stays : (size : ℕ) (place : NodePlace) (parent : ℕ) (entries : List Entry) → HoldsDirectory formats M size place parent entries → HoldsDirectory formats N size place parent entries
      directory_stays size Nowhere parent entries holds = holds
      directory_stays size (Inside inside) parent entries holds = holds
      directory_stays size (Extents descriptors) parent entries holds = holds
      directory_stays size (Extent first) parent entries holds =
          let from = first + partition_start in
          let same : extent N first size ≡ extent M first size = part_same from (blocks_for size) M N (beside_size 0 M N all) (λ i b low high e.
          stays_there M N i b all e (λ (far, fields, table, is). distinct.directory parent first size entries (extent M first size) holds.1 b
          (contained (extent M first size) (i - from) b (get-take (blocks_for size) (drop from M) (i - from) (omega (arith, low, high)) ∙ get-drop from M (i - from) ∙ ap (λ n. slice_get M n) (let k : from + (i - from) ≡ i = omega (arith, low) in k) ∙ e))
          (i - partition_start) fields is)) in
          (omega (arith, holds.0, beside_size 0 M N all), subst (λ (bs : List Block). formats.IsDirectory parent entries first size bs) (sym same) holds.1)

      -- so do descriptor blocks, and the extents to which they lead
      pub firsts_stay : (size : ℕ) (place : NodePlace) (bytes : List ℕ) → HoldsFile formats M size place bytes → firsts_of formats N size place ≡ firsts_of formats M size place
      firsts_stay size Nowhere bytes holds = refl
      firsts_stay size (Inside inside) bytes holds = refl
      firsts_stay size (Extent first) bytes holds = refl
      firsts_stay size (Extents descriptors) bytes (listed, within, is) =
          let from = formats.next descriptors + partition_start in
          let count = descriptor_blocks size in
          ap (λ (bs : List Block). formats.firsts descriptors bs) (part_same from count M N (beside_size 0 M N all) (λ i b low high e.
          stays_there M N i b all e (λ (far, fields, table, is). distinct.descriptors size (formats.next descriptors) (take count (drop from M)) listed.are b
          (contained (take count (drop from M)) (i - from) b (get-take count (drop from M) (i - from) (omega (arith, low, high)) ∙ get-drop from M (i - from) ∙ ap (λ n. slice_get M n) (let k : from + (i - from) ≡ i = omega (arith, low) in k) ∙ e))
          (i - partition_start) fields is)))

    -- what the same entry leads to on both
    pub same_body : AreExact formats → (M N : Medium) → AreBeside 0 M N → (table : List (Option ℕ)) (address : ℕ) (s : Stored) (st : IsStoredAt formats M table address s) → IsStoredAt formats N table address s → HoldsBody formats N st.fields s.body
    same_body exact M N all table address s st other =
        let number : other.number ≡ st.number = same_Some other.number st.number (same_Some (Some other.number) (Some st.number) (sym other.used ∙ st.used)) in
        let block : other.block ≡ st.block = same_Some other.block st.block (sym other.there ∙ ap (λ n. slice_get N (n + partition_start)) number ∙ entry_stays M N all table address s st) in
        let fields : other.fields ≡ st.fields = exact.entry st.block address other.fields st.fields (subst (λ (x : Block). formats.IsEntry other.fields x address) block other.entry) st.entry in
        subst (λ (f : NodeFields). HoldsBody formats N f s.body) fields other.body
