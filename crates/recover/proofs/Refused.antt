-- Where a walk is refused no tree has the node: what the medium stores at the end of its path would have been taken.
use Rattle.std.proofs.Common.{◌≡◌, ℕ, ◌+◌, ◌<◌, ◌≤◌, Bool, true, false, List, [], ◌∷◌, length, take, length-take, ◌++◌, Option, Some, None, refl, sym, ap, ◌∙◌, subst, arith}
use Rattle.std.specs.Prelude.{IfSome, count_by, slice_get, All}
use Rattle.std.specs.Int.{div_ceil}
use Rattle.std.specs.FinMap.{get}
use Rattle.std.proofs.lemmas.Bool.{false≢true, true≢false}
use Rattle.std.proofs.lemmas.Option.{same_Some, slice_get_within}
use Rattle.limits.specs.declared.TheConstants.{BLOCK_BYTES, PARTITION_START}
use Rattle.dir.specs.declared.entry.Entry.{Entry as DirEntry}
use Rattle.dir.specs.declared.entry.Kind.{Kind}
use Rattle.dir.specs.declared.entry.Kind.TheVariants.{File, Directory}
use Rattle.dir.specs.Directory.{is_directory, IsDirectory}
use Rattle.drive.specs.Journal.{Event, held}
use Rattle.icb.specs.Entry.{Fields as IcbFields, IsEntry}
use Rattle.icb.proofs.VatIcbs.{one_entry}
use Rattle.model.specs.Graph.{Body, Entry, Graph, HasParent, IsUnder, MakesTree, content_in, links_in}
use Rattle.model.specs.Graph.Body.{Bytes, Entries}
use Rattle.model.specs.Identities.{HasIdentities}
use Rattle.model.specs.Tree.{IsTree, Node, Path, Tree, found_directory, found_identity, has_names}
use Rattle.durability.specs.Formats.{NodeFields, NodePlace}
use Rattle.durability.specs.Formats.NodePlace.{Nowhere, Extent as MediumExtent, Extents, Inside}
use Rattle.durability.specs.Volume.{HoldsBody, HoldsDirectory, HoldsFile, IsStoredAt, extent, firsts_at, graph_of}
use Rattle.udf.specs.Said.{said_entries, said_entry, names_directory}
use Rattle.udf.specs.Udf.{IsBlock, udf}
use Rattle.udf.specs.Words.{directory_entries, directory_entry, icb_fields, icb_kind_of, name_kind, icb_place}
use Rattle.recover.specs.declared.directory.Extent.{Extent}
use Rattle.recover.specs.declared.fault.StoreFault.{StoreFault}
use Rattle.recover.specs.declared.fault.StoreFault.TheVariants.{Damaged, Device, Memory}
use Rattle.recover.specs.declared.walk.Body.{Body as ReadBody}
use Rattle.recover.specs.declared.walk.Named.{Named}
use Rattle.recover.specs.declared.walk.Walk.{Walk}
use Rattle.recover.specs.Forest.{IsAssigned}
use Rattle.recover.specs.Nodes.{data_of, links_of}
use Rattle.recover.specs.Refused.{Expects, IsBodyRefused, IsNamesRefused, IsReachRefused, IsVisitRefused}
use Rattle.recover.specs.IdSet.{marked}
use Rattle.recover.specs.Walk.{Begun, HasDescriptors, HasFileEntry, LeadsTo, LiesBelow, blocks_extent, extent_in, icb_kind, nodes_of, reached_in, uniques_in}
use Rattle.recover.proofs.LastExtent.{extents_below}
use Rattle.recover.proofs.Expected.{child_expects, drawn, not_deep, not_reached, not_seen}
use Rattle.recover.proofs.Nodes.{extent_below}
use Rattle.recover.proofs.Placed.{blocks_below}
use Rattle.recover.proofs.Walks.{links_said, part_below}

-- ---- what the entry of a node says

kind_held : (M : List (List ℕ)) (fields : NodeFields) (body : Body) (kind : Kind) → HoldsBody udf M fields body → has_names (content_in body) ≡ is_directory kind → icb_kind_of fields.kind ≡ icb_kind kind
kind_held M fields (Bytes bytes) File h d = ap icb_kind_of h.0
kind_held M fields (Bytes bytes) Directory h d = absurd (false≢true d)
kind_held M fields (Entries parent entries) File h d = absurd (true≢false d)
kind_held M fields (Entries parent entries) Directory h d = ap icb_kind_of h.0

file_links : (body : Body) (kind : Kind) → has_names (content_in body) ≡ is_directory kind → kind ≡ File → links_in body ≡ 1
file_links (Bytes bytes) kind d file = refl
file_links (Entries parent entries) kind d file = absurd (true≢false (d ∙ ap is_directory file))

module _ (M : List (List ℕ)) (at : ℕ) (long : length M ≤ at) where
  file_within : (size : ℕ) (place : NodePlace) (bytes : List ℕ) → HoldsFile udf M size place bytes → IfSome (extent_in M size (icb_place place)) (λ (e : Extent). e.first + PARTITION_START + div_ceil e.size BLOCK_BYTES ≤ at)
  file_within size Nowhere bytes h = tt
  file_within size (MediumExtent first) bytes h = (let w = h.0 in omega (arith, w, long))
  file_within size (Extents descriptors) bytes h =
      extents_below at M long (blocks_extent size descriptors) size (firsts_at udf M size descriptors) (blocks_below at M long size descriptors h.0) h.1
  file_within size (Inside inside) bytes h = tt

  directory_within : (size : ℕ) (place : NodePlace) (parent : ℕ) (entries : List Entry) → HoldsDirectory udf M size place parent entries
      → IfSome (extent_in M size (icb_place place)) (λ (e : Extent). e.first + PARTITION_START + div_ceil e.size BLOCK_BYTES ≤ at)
  directory_within size Nowhere parent entries h = tt
  directory_within size (MediumExtent first) parent entries h = (let w = h.0 in omega (arith, w, long))
  directory_within size (Extents descriptors) parent entries h = absurd h
  directory_within size (Inside inside) parent entries h = tt

  body_within : (fields : NodeFields) (body : Body) → HoldsBody udf M fields body → IfSome (extent_in M fields.size (icb_place fields.place)) (λ (e : Extent). e.first + PARTITION_START + div_ceil e.size BLOCK_BYTES ≤ at)
  body_within fields (Bytes bytes) h = file_within fields.size fields.place bytes h.1
  body_within fields (Entries parent entries) h = directory_within fields.size fields.place parent entries h.1

-- its descriptor blocks are on the medium
file_listed : (M : List (List ℕ)) (size : ℕ) (place : NodePlace) (bytes : List ℕ) → HoldsFile udf M size place bytes → HasDescriptors M size (icb_place place)
file_listed M size Nowhere bytes h = tt
file_listed M size (MediumExtent first) bytes h = tt
file_listed M size (Extents descriptors) bytes h = h.0
file_listed M size (Inside inside) bytes h = tt

directory_listed : (M : List (List ℕ)) (size : ℕ) (place : NodePlace) (parent : ℕ) (entries : List Entry) → HoldsDirectory udf M size place parent entries → HasDescriptors M size (icb_place place)
directory_listed M size Nowhere parent entries h = tt
directory_listed M size (MediumExtent first) parent entries h = tt
directory_listed M size (Extents descriptors) parent entries h = absurd h
directory_listed M size (Inside inside) parent entries h = tt

body_listed : (M : List (List ℕ)) (fields : NodeFields) (body : Body) → HoldsBody udf M fields body → HasDescriptors M fields.size (icb_place fields.place)
body_listed M fields (Bytes bytes) h = file_listed M fields.size fields.place bytes h.1
body_listed M fields (Entries parent entries) h = directory_listed M fields.size fields.place parent entries h.1

-- the blocks of a directory hold it
directory_at : (M : List (List ℕ)) (size : ℕ) (place : NodePlace) (parent : ℕ) (entries : List Entry) (e : Extent) → extent_in M size (icb_place place) ≡ Some e → HoldsDirectory udf M size place parent entries
    → All IsBlock (extent M e.first e.size) × IsDirectory parent (directory_entries entries) e.first e.size (extent M e.first e.size)
directory_at M size Nowhere parent entries e some h = absurd h
directory_at M size (Inside inside) parent entries e some h = absurd h
directory_at M size (Extents descriptors) parent entries e some h = absurd h
directory_at M size (MediumExtent first) parent entries e some h =
    subst (λ (x : Extent). All IsBlock (extent M x.first x.size) × IsDirectory parent (directory_entries entries) x.first x.size (extent M x.first x.size)) (same_Some (record { first = first; size = size }) e some) (h.1.blocks_are, h.1.is)

-- ---- the words of the medium and back

kind_said : (b : Bool) → names_directory (name_kind b) ≡ b
kind_said true = refl
kind_said false = refl

entry_said : (e : Entry) → said_entry (directory_entry e) ≡ e
entry_said e =
    let of : Bool → Entry = λ b. record { name = e.name; is_directory = b; address = e.address; identity = e.identity } in
    ap of (kind_said e.is_directory)

entries_said : (es : List Entry) → said_entries (directory_entries es) ≡ es
entries_said [] = refl
entries_said (e ∷ es) = λ i. entry_said e i ∷ entries_said es i

links_are : (es : List Entry) → links_of (directory_entries es) ≡ 1 + count_by (λ (e : Entry). e.is_directory) es
links_are es = ap (λ n. 1 + n) (links_said (directory_entries es) ∙ ap (count_by (λ (e : Entry). e.is_directory)) (entries_said es))

-- ---- a node that a tree has

module _ (M : List (List ℕ)) (before : Walk) (long : length M ≤ before.at) (node : Named) (tree : Tree) (path : Path) (is : IsTree tree) (makes : MakesTree (graph_of udf M before.entries.now) tree)
    (identities : HasIdentities tree before.next_unique) (e : Expects (graph_of udf M before.entries.now) tree before node path) where
  abbrev there : IsStoredAt udf M before.entries.now node.address e.stored
  there = e.there

  abbrev fields : IcbFields
  fields = icb_fields there.fields

  is_entry : IsEntry fields node.address there.block
  is_entry = there.entry

  one_lead : (entry_at : ℕ) → LeadsTo before.entries.now node.address entry_at → entry_at ≡ there.number + PARTITION_START
  one_lead entry_at leads =
      let number : leads.number ≡ there.number = same_Some leads.number there.number (same_Some (Some leads.number) (Some there.number) (sym leads.used ∙ there.used)) in
      leads.is ∙ ap (λ n. n + PARTITION_START) number

  links_hold : e.stored.links ≡ links_in e.stored.body
  links_hold = makes.links path node.address e.stored e.reach e.there

  abbrev body_of : ReadBody
  body_of = record { links = e.stored.links; extent = extent_in M fields.size fields.place }

  has_descriptors : HasDescriptors M fields.size fields.place
  has_descriptors = body_listed M there.fields e.stored.body there.body

  abbrev has_entry : (entry_at : ℕ) → LeadsTo before.entries.now node.address entry_at → HasFileEntry M entry_at node body_of
  has_entry entry_at leads = record {
    block = there.block;
    there = subst (λ n. slice_get M n ≡ Some there.block) (sym (one_lead entry_at leads)) there.there;
    fields = fields;
    is = is_entry;
    kind = kind_held M there.fields e.stored.body node.kind there.body e.kind;
    unique = there.identity ∙ e.identity;
    links = there.links;
    file = λ file. there.links ∙ links_hold ∙ file_links e.stored.body node.kind e.kind file;
    listed = has_descriptors;
    extent = refl;
  }

  lies_below : IfSome body_of.extent (LiesBelow before.at)
  lies_below = extent_below M fields.kind fields.size before.at fields.place is_entry.fits.place has_descriptors (body_within M before.at long there.fields e.stored.body there.body)

  -- ---- so it is not refused

  pub is_reached : ((entry_at : ℕ) → LeadsTo before.entries.now node.address entry_at → entry_at < before.at → ⊥) → ⊥
  is_reached none =
      let within = slice_get_within M (there.number + PARTITION_START) there.block there.there in
      none (there.number + PARTITION_START) (record { number = there.number; used = there.used; is = refl }) (omega (arith, within, long))

  module _ (entry_at : ℕ) (leads : LeadsTo before.entries.now node.address entry_at) where
    pub is_taken : ((body : ReadBody) → HasFileEntry M entry_at node body → IfSome body.extent (LiesBelow before.at) → ⊥) → ⊥
    is_taken none = none body_of (has_entry entry_at leads) lies_below

    module _ (body : ReadBody) (has : HasFileEntry M entry_at node body) where
      one_fields : has.fields ≡ fields
      one_fields =
          let taken = has_entry entry_at leads in
          let block : has.block ≡ there.block = same_Some has.block there.block (sym has.there ∙ taken.there) in
          (one_entry has.fields fields node.address node.address there.block (subst (IsEntry has.fields node.address) block has.is) is_entry).0

      one_extent : body.extent ≡ extent_in M fields.size fields.place
      one_extent = has.extent ∙ ap (λ (f : IcbFields). extent_in M f.size f.place) one_fields

      one_links : body.links ≡ links_in e.stored.body
      one_links = sym has.links ∙ ap (λ (f : IcbFields). f.links) one_fields ∙ there.links ∙ links_hold

      pub has_names_there : node.kind ≡ Directory → (x : Extent) → body.extent ≡ Some x
          → ((entries : List (List ℕ × DirEntry)) → All IsBlock (extent M x.first x.size) → IsDirectory node.above entries x.first x.size (extent M x.first x.size) → body.links ≡ links_of entries → ⊥) → ⊥
      has_names_there kind x some none = go e.stored.body refl
        where
          go : (b : Body) → e.stored.body ≡ b → ⊥
          go (Bytes bytes) same = false≢true (ap (λ b. has_names (content_in b)) (sym same) ∙ e.kind ∙ ap is_directory kind)
          go (Entries parent entries) same =
              let directory = directory_at M there.fields.size there.fields.place parent entries x (sym one_extent ∙ some) (subst (HoldsBody udf M there.fields) same there.body).1 in
              let above : parent ≡ node.above = subst (λ b. IsUnder b node.above) same (e.parent (e.kind ∙ ap is_directory kind)) in
              none (directory_entries entries) directory.0 (subst (λ p. IsDirectory p (directory_entries entries) x.first x.size (extent M x.first x.size)) above directory.1)
              (one_links ∙ ap links_in same ∙ sym (links_are entries))

-- ---- refusals

module _ (M : List (List ℕ)) (before : Walk) (long : length M ≤ before.at) (node : Named) where
  pub reach_refused : (fault : StoreFault) → IsReachRefused before node fault → IsVisitRefused (graph_of udf M before.entries.now) before node fault
  reach_refused Memory r = tt
  reach_refused (Damaged block cause) r = λ tree path is makes identities e.
      is_reached M before long node tree path is makes identities e (λ entry_at leads below.
      r entry_at leads below (not_reached (graph_of udf M before.entries.now) tree is makes before node path e) (not_deep (graph_of udf M before.entries.now) tree is makes before node path e))
  reach_refused _ r = absurd r

  pub body_refused : (entry_at : ℕ) → LeadsTo before.entries.now node.address entry_at → (now : Walk) → now.at ≡ before.at → now.next_unique ≡ before.next_unique → now.uniques ≡ before.uniques
      → (fault : StoreFault) → IsBodyRefused M now entry_at node fault → IsVisitRefused (graph_of udf M before.entries.now) before node fault
  body_refused entry_at leads now at next uniques Device r = tt
  body_refused entry_at leads now at next uniques Memory r = tt
  body_refused entry_at leads now at next uniques (Damaged block cause) r = λ tree path is makes identities e.
      is_taken M before long node tree path is makes identities e entry_at leads (λ body has below.
      r body has (subst (λ n. IfSome body.extent (LiesBelow n)) (sym at) below)
      (subst (λ n. IsAssigned n node.address node.unique) (sym next) (drawn (graph_of udf M before.entries.now) tree is makes before node path e identities))
      (ap (λ u. marked u node.unique) uniques ∙ not_seen (graph_of udf M before.entries.now) tree is makes before node path e identities))
  body_refused entry_at leads now at next uniques _ r = absurd r

-- blocks that hold no such directory
pub names_refused : (H : List (List ℕ)) (before : Walk) (node : Named) (entry_at : ℕ) → LeadsTo before.entries.now node.address entry_at → (body : ReadBody) → HasFileEntry (take before.at H) entry_at node body → node.kind ≡ Directory
    → (x : Extent) → body.extent ≡ Some x → LiesBelow before.at x → (fault : StoreFault) → IsNamesRefused H node.above body.links x fault → IsVisitRefused (graph_of udf (take before.at H) before.entries.now) before node fault
names_refused H before node entry_at leads body has kind x some below Device r = tt
names_refused H before node entry_at leads body has kind x some below Memory r = tt
names_refused H before node entry_at leads body has kind x some below (Damaged block cause) r = λ tree path is makes identities e.
    let long : length (take before.at H) ≤ before.at = (let l = length-take before.at H in omega (arith, l)) in
    let same : extent (take before.at H) x.first x.size ≡ data_of H x = part_below (x.first + PARTITION_START) (div_ceil x.size BLOCK_BYTES) before.at H (let b = below.below in omega (arith, b)) in
    has_names_there (take before.at H) before long node tree path is makes identities e entry_at leads body has kind x some (λ entries are directory links.
    r entries (subst (All IsBlock) same are) (subst (λ blocks. IsDirectory node.above entries x.first x.size blocks) same directory) links)
names_refused H before node entry_at leads body has kind x some below _ r = absurd r

-- a node of the directory that is refused
pub child_refused : (graph : Graph) (before now : Walk) (node child : Named) (entries : List (List ℕ × DirEntry)) (i : ℕ) (name : List ℕ) (entry : DirEntry)
    → slice_get entries i ≡ Some (name, entry) → child.kind ≡ entry.kind → child.address ≡ entry.virtual_address → child.unique ≡ entry.unique → child.above ≡ node.address → child.depth ≡ node.depth + 1
    → now.next_unique ≡ before.next_unique → Begun graph before now node entries i → (fault : StoreFault) → IsVisitRefused graph now child fault → IsVisitRefused graph before node fault
child_refused graph before now node child entries i name entry at_i kind address unique above depth next b Device r = tt
child_refused graph before now node child entries i name entry at_i kind address unique above depth next b Memory r = tt
child_refused graph before now node child entries i name entry at_i kind address unique above depth next b (Damaged block cause) r = λ tree path is makes identities e.
    r tree (path ++ name ∷ []) is makes (subst (HasIdentities tree) (sym next) identities)
    (child_expects graph tree is makes before node path e now entries i b name entry at_i child (ap is_directory kind) address unique above depth)
child_refused graph before now node child entries i name entry at_i kind address unique above depth next b _ r = absurd r

-- what was refused from a state with the same table on the same medium
pub refused_same : (J K : List Event) (w v before : Walk) (node : Named) (fault : StoreFault) → J ≡ K → w.at ≡ v.at → w.entries.now ≡ v.entries.now → IsVisitRefused (nodes_of J w) before node fault → IsVisitRefused (nodes_of K v) before node fault
refused_same J K w v before node fault journal at entries h =
    subst (λ (es : List (Option ℕ)). IsVisitRefused (graph_of udf (take v.at (held K)) es) before node fault) entries
    (subst (λ (n : ℕ). IsVisitRefused (graph_of udf (take n (held K)) w.entries.now) before node fault) at
    (subst (λ (L : List Event). IsVisitRefused (graph_of udf (take w.at (held L)) w.entries.now) before node fault) journal h))

-- the root, of which nothing was seen
pub root_expects : (graph : Graph) (tree : Tree) (is : IsTree tree) → MakesTree graph tree → (before : Walk) → HasIdentities tree before.next_unique → (node : Named) → ((x : ℕ) → reached_in before x ≡ false)
    → ((x : ℕ) → uniques_in before x ≡ false) → node.kind ≡ Directory → node.address ≡ 1 → node.unique ≡ 0 → node.above ≡ 1 → node.depth ≡ 0 → Expects graph tree before node []
root_expects graph tree is makes before identities node none_reached none_unique kind address unique above depth = go (get tree []) refl is.root
  where
    go : (o : Option Node) → get tree [] ≡ o → found_directory (get tree []) ≡ true → Expects graph tree before node []
    go None at d = absurd (false≢true (sym (ap found_directory at) ∙ d))
    go (Some n) at d =
        let (a, r, s, g, same) = (makes.reached [] n).0 at in
        let here : graph 1 s = subst (λ x. graph x s) (sym r) g in
        record {
          reach = sym address;
          depth = sym depth;
          stored = s;
          there = subst (λ x. graph x s) (sym address) here;
          kind = ap (λ (m : Node). has_names m.content) (sym same) ∙ sym (ap found_directory at) ∙ d ∙ sym (ap is_directory kind);
          identity = ap (λ (m : Node). m.identity) (sym same) ∙ sym (ap found_identity at) ∙ identities.root ∙ sym unique;
          parent = λ _. subst (HasParent s) (sym above) (makes.root s here);
          reached = λ x t. absurd (false≢true (sym (none_reached x) ∙ t));
          uniques = λ x t. absurd (false≢true (sym (none_unique x) ∙ t));
        }
