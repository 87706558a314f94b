-- Why the entry of a node was not taken, and why the names of a directory were not.
use Rattle.std.proofs.Common.{◌≡◌, ◌⊎◌, inl, inr, ℕ, ◌+◌, ◌<◌, ◌≤◌, false, take, List, Option, Some, refl, sym, ap, ◌∙◌, subst}
use Rattle.std.specs.Prelude.{⊤, IfSome, count_by, slice_get, All}
use Rattle.std.proofs.lemmas.Option.{same_Some}
use Rattle.limits.specs.declared.TheConstants.{PARTITION_BLOCKS}
use Rattle.dir.specs.declared.entry.Entry.{Entry as DirEntry}
use Rattle.dir.specs.declared.entry.Kind.TheVariants.{File}
use Rattle.dir.specs.Directory.{IsDirectory}
use Rattle.icb.specs.Entry.{Fields, IsEntry, Place}
use Rattle.icb.specs.Entry.Place.{Nowhere, Extent as IcbExtent, Extents, Inside}
use Rattle.icb.proofs.VatIcbs.{one_entry}
use Rattle.model.specs.Graph.{Entry}
use Rattle.udf.specs.Said.{said_entries}
use Rattle.udf.specs.Udf.{IsBlock}
use Rattle.udf.proofs.Formats.{exact}
use Rattle.udf.proofs.Said.{directories_agree}
use Rattle.model.proofs.Lists.{get-take}
use Rattle.recover.specs.declared.directory.Extent.{Extent}
use Rattle.recover.specs.declared.fault.StoreFault.{StoreFault}
use Rattle.recover.specs.declared.fault.StoreFault.TheVariants.{Device, Damaged}
use Rattle.recover.specs.declared.kept.EntryPlace.{EntryPlace}
use Rattle.recover.specs.declared.walk.Named.{Named}
use Rattle.recover.specs.declared.walk.Walk.{Walk}
use Rattle.recover.specs.Forest.{IsAssigned}
use Rattle.recover.specs.ReadCache.{IsAmongDescriptors, IsUnplaced, IsUnsaid}
use Rattle.recover.specs.Nodes.{data_of, links_of}
use Rattle.recover.specs.Refused.{HasNoBody, HaveNoNames, IsBodyRefused}
use Rattle.recover.specs.Walk.{HasDescriptors, LiesBelow, extent_in, icb_kind, uniques_in}
use Rattle.recover.proofs.Walks.{links_said}

-- ---- an entry

module _ (M : List (List ℕ)) (before : Walk) (entry_at : ℕ) (node : Named) (block : List ℕ) (there : slice_get M entry_at ≡ Some block) where
  -- what the node would say of itself
  abbrev Suits : Fields → Type 0
  Suits f =
      (f.kind ≡ icb_kind node.kind) × (f.unique ≡ node.unique) × (node.kind ≡ File → f.links ≡ 1) × IfSome (extent_in M f.size f.place) (LiesBelow before.at)
      × IsAssigned before.next_unique node.address node.unique × (uniques_in before node.unique ≡ false)

  -- the block is no entry for this address that suits
  pub no_entry : ((f : Fields) → IsEntry f node.address block → Suits f → ⊥) → HasNoBody M before entry_at node
  no_entry none body has below drawn fresh =
      let same = same_Some has.block block (sym has.there ∙ there) in
      none has.fields (subst (IsEntry has.fields node.address) same has.is)
      (has.kind, has.unique, has.file, subst (λ (o : Option Extent). IfSome o (LiesBelow before.at)) has.extent below, drawn, fresh)

  -- the entry that it is does not suit
  pub other_entry : (fields : Fields) → IsEntry fields node.address block → (Suits fields → ⊥) → HasNoBody M before entry_at node
  other_entry fields is never = no_entry (λ f other suits. never (subst Suits (one_entry f fields node.address node.address block other is).0 suits))

-- ---- why none was read

-- why the descriptor blocks of such a place were not
abbrev pub IsUnplacedAt : List (List ℕ) → ℕ → ℕ → ℕ → Place → StoreFault → Type 0
IsUnplacedAt M below entry_at size place Device = ⊤
IsUnplacedAt M below entry_at size place (Damaged at cause) = ((at ≡ entry_at) ⊎ IsAmongDescriptors at size place) × (HasDescriptors (take below M) size place → ⊥)
IsUnplacedAt M below entry_at size place _ = ⊥

unplaced_at : (M : List (List ℕ)) (below entry_at size : ℕ) (place : Place) (fault : StoreFault) → IsUnplaced M below entry_at size place fault → IsUnplacedAt M below entry_at size place fault
unplaced_at M below entry_at size Nowhere fault r = absurd r
unplaced_at M below entry_at size (IcbExtent first) fault r = absurd r
unplaced_at M below entry_at size (Inside bytes) fault r = absurd r
unplaced_at M below entry_at size (Extents descriptors) Device r = tt
unplaced_at M below entry_at size (Extents descriptors) (Damaged at cause) r = r
unplaced_at M below entry_at size (Extents descriptors) _ r = absurd r

module _ (M : List (List ℕ)) (below : ℕ) (place : EntryPlace) (block : List ℕ) (there : slice_get M place.at ≡ Some block) where
  -- the block is no entry
  pub no_entry_said : ((fields : Fields) → IsEntry fields place.address block → ⊥) → (cause : ℕ) → IsUnsaid M below place (Damaged place.at cause)
  no_entry_said none cause = (inl refl, λ other fields other_there is listed. none fields (subst (IsEntry fields place.address) (same_Some other block (sym other_there ∙ there)) is))

  -- the entry that it is has no descriptor blocks there
  unsaid : (fields : Fields) → IsEntry fields place.address block → (fault : StoreFault) → IsUnplacedAt M below place.at fields.size fields.place fault → IsUnsaid M below place fault
  unsaid fields is Device r = tt
  unsaid fields is (Damaged at cause) r = (
    elim r.0 [ inl entry ↦ inl entry | inr among ↦ inr (block, fields, there, is, among) ],
    λ other said other_there other_is listed.
        let same = (one_entry said fields place.address place.address block (subst (IsEntry said place.address) (same_Some other block (sym other_there ∙ there)) other_is) is).0 in
        r.1 (subst (λ (f : Fields). HasDescriptors (take below M) f.size f.place) same listed),
  )
  unsaid fields is _ r = absurd r

-- as it was read
pub unplaced : (N M : List (List ℕ)) → N ≡ M → (below : ℕ) (place : EntryPlace) (block : List ℕ) → slice_get M place.at ≡ Some block → (fields : Fields) → IsEntry fields place.address block
    → (fault : StoreFault) → IsUnplaced N below place.at fields.size fields.place fault → IsUnsaid M below place fault
unplaced N M same below place block there fields is fault r =
    unsaid M below place block there fields is fault
    (unplaced_at M below place.at fields.size fields.place fault (subst (λ (K : List (List ℕ)). IsUnplaced K below place.at fields.size fields.place fault) same r))

-- none was read there
pub unread : (H : List (List ℕ)) (before : Walk) (entry_at : ℕ) (node : Named) → entry_at < before.at → (fault : StoreFault) → IsUnsaid H before.at (record { at = entry_at; address = node.address }) fault
    → IsBodyRefused (take before.at H) before entry_at node fault
unread H before entry_at node below Device r = tt
unread H before entry_at node below (Damaged at cause) r = λ body has lies drawn fresh. r.1 has.block has.fields (sym (get-take before.at H entry_at below) ∙ has.there) has.is has.listed
unread H before entry_at node below _ r = absurd r

-- ---- names

-- the directory that the blocks hold has another one above it, or other links
pub other_names : (M : List (List ℕ)) (x : Extent) (parent : ℕ) (es : List (List ℕ × DirEntry)) (blocks : List (List ℕ)) → x.first ≤ PARTITION_BLOCKS → blocks ≡ data_of M x → All IsBlock blocks
    → IsDirectory parent es x.first x.size blocks → (above count : ℕ) → (parent ≡ above → count ≡ links_of es → ⊥) → HaveNoNames M above count x
other_names M x parent es blocks low same are is above count never fs are' is' links =
    let holds = (directories_agree parent x.first x.size es blocks are low).0 is in
    let held = (directories_agree above x.first x.size fs blocks are low).0 (subst (λ bs. IsDirectory above fs x.first x.size bs) (sym same) is') in
    let one = exact.directory x.first x.size blocks parent above (said_entries es) (said_entries fs) holds held in
    never one.0 (links ∙ ap (λ n. 1 + n) (links_said fs ∙ ap (count_by (λ (e : Entry). e.is_directory)) (sym one.1) ∙ sym (links_said es)))
