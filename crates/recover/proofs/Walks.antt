-- A walk from node to node: what it has seen with one node more.
use Rattle.std.proofs.Common.{◌≡◌, ℕ, zero, suc, ◌+◌, ◌≤◌, ◌==◌, Bool, true, false, cond, if◌then◌else◌, List, [], ◌∷◌, ◌++◌, map, length, take, drop, Option, Some, refl, sym, ap, ◌∙◌, subst, arith}
use Rattle.std.specs.Prelude.{max, slice_get, IfSome, count_by, All}
use Rattle.std.specs.Int.{div_ceil}
use Rattle.std.specs.List.{IsDistinct}
use Rattle.std.specs.Map.{keys_of, values_of}
use Rattle.std.specs.Str.{bytes_eq}
use Rattle.std.proofs.lemmas.Bool.{false≢true}
use Rattle.std.proofs.lemmas.List.{map-append, take_all, take_more}
use Rattle.std.proofs.lemmas.List.Sums.{sum_by-cons}
use Rattle.std.proofs.lemmas.Option.{get_or_from_slice_get, none-some, same_Some, slice_get_within}
use Rattle.limits.specs.declared.TheConstants.{BLOCK_BYTES, PARTITION_START}
use Rattle.drive.specs.Journal.{Event, held}
use Rattle.icb.specs.declared.entry.Kind.{Kind as IcbKind}
use Rattle.icb.specs.declared.entry.Kind.TheVariants as icb_kinds
use Rattle.icb.specs.Entry.{FitsPlace, Place}
use Rattle.icb.specs.Entry.Place.{Nowhere, Extent as IcbExtent, Extents, Inside}
use Rattle.dir.specs.declared.entry.Dir.{Dir}
use Rattle.dir.specs.declared.entry.Entry.{Entry as DirEntry}
use Rattle.dir.specs.declared.entry.Kind.{Kind}
use Rattle.dir.specs.declared.entry.Kind.TheVariants.{File, Directory}
use Rattle.dir.specs.Directory.{is_directory, IsDirectory}
use Rattle.model.specs.Tree.{Name}
use Rattle.model.specs.Graph.{Graph, Stored, Entry, entries_of, is_directory as stored_is_directory}
use Rattle.model.specs.Graph.Body.{Bytes, Entries}
use Rattle.durability.specs.Formats.Kind.{File as MediumFile, Directory as MediumDirectory}
use Rattle.durability.specs.Volume.{HoldsFile, HoldsDirectory, bytes_in_blocks, bytes_in_extents, extent, firsts_at, graph_of}
use Rattle.udf.specs.Said.{said_entries, said_entry, said_fields, said_kind, said_place, names_directory}
use Rattle.udf.specs.Udf.{IsBlock, udf}
use Rattle.udf.proofs.Said.{entries_agree, directories_agree}
use Rattle.recover.specs.declared.directory.Extent.{Extent}
use Rattle.recover.specs.declared.walk.Body.{Body}
use Rattle.recover.specs.declared.walk.Named.{Named}
use Rattle.recover.specs.declared.walk.Walk.{Walk}
use Rattle.recover.specs.Forest.{Forest, IsSeen, IsWalked, IsAssigned, AreAssigned, Adds, InsertsNumber, Numbers, by_address, by_identity, entries_named, height, files_in, directories_in}
use Rattle.recover.specs.Forest.Forest.{End, Seen}
use Rattle.recover.specs.Nodes.{data_of}
use Rattle.recover.proofs.LastExtent.{ends_below, extents_within}
use Rattle.recover.proofs.Listed.{firsts_number}
use Rattle.recover.specs.Walk.{Begun, CountsWalk, HasDescriptors, HasFileEntry, HasListing, LeadsTo, LiesBelow, Tallied, Visits, blocks_extent, extent_in, icb_kind, nodes_of, reached_in, uniques_in}

-- ---- parts of a medium

take_within : {X : Type 0} (c n : ℕ) (xs : List X) → c ≤ n → take c (take n xs) ≡ take c xs
take_within zero n xs h = refl
take_within (suc c) zero xs h = absurd (omega arith)
take_within (suc c) (suc n) [] h = refl
take_within (suc c) (suc n) (x ∷ xs) h = ap (λ ys. x ∷ ys) (take_within c n xs (omega arith))

-- a part that lies below an address
pub part_below : {X : Type 0} (s c n : ℕ) (xs : List X) → s + c ≤ n → take c (drop s (take n xs)) ≡ take c (drop s xs)
part_below zero c n xs h = take_within c n xs (omega arith)
part_below (suc s) c zero xs h = absurd (omega arith)
part_below (suc s) c (suc n) [] h = refl
part_below (suc s) c (suc n) (x ∷ xs) h = part_below s c n xs (omega arith)

-- ---- nodes beside each other

pub beside : Forest → Forest → Forest
beside End g = g
beside (Seen n a s b r) g = Seen n a s b (beside r g)

height-beside : (f g : Forest) → height (beside f g) ≡ max (height f) (height g)
unfolding beside
height-beside End g = omega arith
height-beside (Seen n a s b r) g = let e = height-beside r g in omega (arith, e)

files-beside : (f g : Forest) → files_in (beside f g) ≡ files_in f + files_in g
unfolding beside
files-beside End g = omega arith
files-beside (Seen n a s b r) g = let e = files-beside r g in omega (arith, e)

directories-beside : (f g : Forest) → directories_in (beside f g) ≡ directories_in f + directories_in g
unfolding beside
directories-beside End g = omega arith
directories-beside (Seen n a s b r) g = let e = directories-beside r g in omega (arith, e)

named-beside : (f g : Forest) → entries_named (beside f g) ≡ entries_named f ++ entries_named g
unfolding beside
named-beside End g = refl
named-beside (Seen n a s b r) g = ap (λ (es : List Entry). record { name = n; is_directory = stored_is_directory s; address = a; identity = s.identity } ∷ es) (named-beside r g)

drawn_beside : (next : ℕ) (f g : Forest) → AreAssigned next f → AreAssigned next g → AreAssigned next (beside f g)
unfolding beside
drawn_beside next End g d e = e
drawn_beside next (Seen n a s b r) g d e = (d.0, d.1, drawn_beside next r g d.2 e)

walked_beside : (graph : Graph) (above : ℕ) (f g : Forest) → IsWalked graph above f → IsWalked graph above g → IsWalked graph above (beside f g)
unfolding beside
walked_beside graph above End g w v = v
walked_beside graph above (Seen n a s b r) g w v = (w.0, w.1, w.2, walked_beside graph above r g w.3 v)

module _ (key : ℕ → Stored → ℕ) where
  pub adds_from : (p q r : Numbers) (f : Forest) → ((x : ℕ) → p x ≡ q x) → Adds key q f r → Adds key p f r
  adds_from p q r End same h = λ x. h x ∙ sym (same x)
  adds_from p q r (Seen n a s b t) same (here, put, under, low, later) = (
    here,
    (same (key a s) ∙ put.0, λ x. put.1 x ∙ ap (λ (v : Bool). if x == key a s then true else v) (sym (same x))),
    under,
    low,
    later,
  )

  adds_beside : (p q r : Numbers) (f g : Forest) → Adds key p f q → Adds key q g r → Adds key p (beside f g) r
  unfolding beside
  adds_beside p q r End g h k = adds_from p q r g (λ x. sym (h x)) k
  adds_beside p q r (Seen n a s b t) g (here, put, under, low, later) k = (here, put, under, low, adds_beside under q r t g later k)

  adds_child : (p q r : Numbers) (a i : ℕ) (s t : Stored) (n : Name) (f b : Forest) → Adds key p (Seen [] a s f End) q → Adds key q (Seen [] i t b End) r
      → Adds key p (Seen [] a s (beside f (Seen n i t b End)) End) r
  adds_child p q r a i s t n f b (here, put, under, low, last) k =
      (here, put, r, adds_beside here under r f (Seen n i t b End) low (adds_from under q r (Seen n i t b End) (λ x. sym (last x)) k), λ x. refl)

tallied_same : (a b m n : ℕ) → Tallied a m b → m ≡ n → Tallied a n b
tallied_same a b m n t e = (t.0, (λ lt. let r = t.1 lt in omega (arith, r, e)), let r = t.2 in omega (arith, r, e))

tallied_more : (a b c m n k : ℕ) → Tallied a m b → Tallied b n c → k ≡ m + n → Tallied a k c
tallied_more a b c m n k t u e = (
  (let x = t.0 in let y = u.0 in omega (arith, x, y)),
  (λ lt. let y = u.0 in let v = u.1 lt in let w = t.1 (omega (arith, y, lt)) in omega (arith, v, w, e)),
  (let x = t.2 in let y = u.2 in omega (arith, x, y, e)),
)

-- a node, before those below it
pub begin_counts : (before after : Walk) (node : Named) (s : Stored) (reached uniques : Numbers) → node.depth ≤ 16 → IsAssigned before.next_unique node.address s.identity
    → InsertsNumber (reached_in before) node.address reached → ((x : ℕ) → reached_in after x ≡ reached x) → InsertsNumber (uniques_in before) s.identity uniques → ((x : ℕ) → uniques_in after x ≡ uniques x)
    → Tallied before.files (if stored_is_directory s then 0 else 1) after.files → Tallied before.directories (if stored_is_directory s then 1 else 0) after.directories
    → CountsWalk before after node.depth (Seen [] node.address s End End)
begin_counts before after node s reached uniques deep drawn put_reached same_reached put_uniques same_uniques files directories = record {
  shallow = (let e : node.depth + height (Seen [] node.address s End End) ≤ 17 = omega (arith, deep) in e);
  drawn = (drawn, tt, tt);
  reached = (reached, put_reached, reached, λ x. refl, same_reached);
  uniques = (uniques, put_uniques, uniques, λ x. refl, same_uniques);
  files = tallied_same before.files after.files _ _ files (omega arith);
  directories = tallied_same before.directories after.directories _ _ directories (omega arith);
}

-- one node more below it
more_counts : (before now after : Walk) (depth a i : ℕ) (s t : Stored) (n : Name) (f b : Forest) → now.next_unique ≡ before.next_unique
    → CountsWalk before now depth (Seen [] a s f End) → CountsWalk now after (depth + 1) (Seen [] i t b End) → CountsWalk before after depth (Seen [] a s (beside f (Seen n i t b End)) End)
more_counts before now after depth a i s t n f b next c d =
    let tall = height-beside f (Seen n i t b End) in
    let many = files-beside f (Seen n i t b End) in
    let lots = directories-beside f (Seen n i t b End) in
    let c_shallow = c.shallow in
    let d_shallow = d.shallow in
    record {
      shallow = omega (arith, tall, c_shallow, d_shallow);
      drawn = (c.drawn.0, drawn_beside before.next_unique f (Seen n i t b End) c.drawn.1 (subst (λ (k : ℕ). AreAssigned k (Seen n i t b End)) next d.drawn), tt);
      reached = adds_child by_address (reached_in before) (reached_in now) (reached_in after) a i s t n f b c.reached d.reached;
      uniques = adds_child by_identity (uniques_in before) (uniques_in now) (uniques_in after) a i s t n f b c.uniques d.uniques;
      files = tallied_more before.files now.files after.files _ _ _ c.files d.files (omega (arith, many));
      directories = tallied_more before.directories now.directories after.directories _ _ _ c.directories d.directories (omega (arith, lots));
    }

-- ---- what the entry of a node says

file_bytes : List (List ℕ) → ℕ → Place → List ℕ
file_bytes M size Nowhere = []
file_bytes M size (IcbExtent first) = bytes_in_blocks size (extent M first size)
file_bytes M size (Extents descriptors) = bytes_in_extents M size (firsts_at udf M size descriptors)
file_bytes M size (Inside bytes) = bytes

module _ (M : List (List ℕ)) (at : ℕ) (long : at ≤ length M) where
  holds_file : (kind : IcbKind) (size : ℕ) (place : Place) → FitsPlace kind size place → HasDescriptors M size place → IfSome (extent_in M size place) (LiesBelow at)
      → HoldsFile udf M size (said_place place) (file_bytes M size place)
  unfolding file_bytes
  holds_file kind size Nowhere fits listed below = refl
  holds_file kind size (IcbExtent first) fits listed below = (let b = below.below in omega (arith, b, long), refl)
  holds_file kind size (Extents descriptors) fits listed below = (
    listed,
    extents_within at M long (blocks_extent size descriptors) size (firsts_at udf M size descriptors) (firsts_number size descriptors fits.2 fits.3 M listed)
        (ends_below at (extent_in M size (Extents descriptors)) below),
    refl,
  )
  holds_file kind size (Inside bytes) fits listed below = refl

  holds_directory : (size : ℕ) (place : Place) (e : Extent) (parent : ℕ) (entries : List Entry) → FitsPlace icb_kinds.Directory size place → extent_in M size place ≡ Some e → LiesBelow at e
      → udf.IsDirectory parent entries e.first e.size (extent M e.first e.size) → HoldsDirectory udf M size (said_place place) parent entries
  holds_directory size Nowhere e parent entries fits some below is = absurd (none-some e some)
  holds_directory size (Inside bytes) e parent entries fits some below is = absurd (none-some e some)
  holds_directory size (Extents descriptors) e parent entries fits some below is = absurd (let file = fits.0 in cc)
  holds_directory size (IcbExtent first) e parent entries fits some below is =
      let same : record { first = first; size = size } ≡ e = same_Some _ e some in
      let b = below.below in
      subst (λ (x : Extent). HoldsDirectory udf M x.size (said_place (IcbExtent x.first)) parent entries) (sym same) (omega (arith, b, long), is)

module _ (M : List (List ℕ)) (table : List (Option ℕ)) (node : Named) (body : Body) (entry_at : ℕ) (leads : LeadsTo table node.address entry_at) (entry : HasFileEntry M entry_at node body) where
  there_at : slice_get M (leads.number + PARTITION_START) ≡ Some entry.block
  there_at = subst (λ i. slice_get M i ≡ Some entry.block) leads.is entry.there

  -- a file
  pub file_seen : (at : ℕ) → at ≤ length M → node.kind ≡ File → IfSome body.extent (LiesBelow at)
      → (s : Stored) × IsSeen (graph_of udf M table) node.above node.address s × (stored_is_directory s ≡ false) × (s.identity ≡ node.unique) × (entries_of s ≡ [])
  unfolding IsDistinct
  file_seen at long file below =
      let f = entry.fields in
      let bytes = file_bytes M f.size f.place in
      let holds = holds_file M at long f.kind f.size f.place entry.is.fits.place entry.listed (subst (λ (o : Option Extent). IfSome o (LiesBelow at)) entry.extent below) in
      let kind : said_kind f.kind ≡ MediumFile = ap said_kind (entry.kind ∙ ap icb_kind file) in (
        record { identity = f.unique; moment = f.moment; links = f.links; body = Bytes bytes },
        record {
          there = record {
            number = leads.number;
            used = leads.used;
            block = entry.block;
            there = there_at;
            fields = said_fields f;
            entry = (entries_agree f entry.block node.address).0 entry.is;
            moment = refl;
            identity = refl;
            links = refl;
            body = (kind, holds);
          };
          links = entry.file file;
          parent = λ d. absurd (false≢true d);
          distinct = tt;
        },
        refl,
        entry.unique,
        refl,
      )

pub kinds_same : (k : Kind) → is_directory k ≡ names_directory k
kinds_same File = refl
kinds_same Directory = refl

pub links_said : (es : List (List ℕ × DirEntry)) → count_by (λ (entry : DirEntry). is_directory entry.kind) (values_of es) ≡ count_by (λ (e : Entry). e.is_directory) (said_entries es)
links_said [] = refl
links_said (e ∷ es) =
    let one = sum_by-cons (λ (x : DirEntry). cond (is_directory x.kind) 1 0) e.1 (values_of es) in
    let two = sum_by-cons (λ (x : Entry). cond x.is_directory 1 0) (said_entry e) (said_entries es) in
    let same : ◌≡◌ {A = ℕ} (cond (is_directory e.1.kind) 1 0) (cond (names_directory e.1.kind) 1 0) = ap (λ b. cond b 1 0) (kinds_same e.1.kind) in
    let rest = links_said es in
    omega (arith, one, two, same, rest)

pub names_said : (es : List (List ℕ × DirEntry)) → map (λ (e : Entry). e.name) (said_entries es) ≡ keys_of es
names_said [] = refl
names_said (e ∷ es) = ap (λ ks. e.0 ∷ ks) (names_said es)

module _ (H : List (List ℕ)) (table : List (Option ℕ)) (node : Named) (body : Body) (entry_at at : ℕ) (leads : LeadsTo table node.address entry_at) (entry : HasFileEntry (take at H) entry_at node body) where
  -- a directory
  pub directory_seen : at ≤ length (take at H) → node.kind ≡ Directory → (e : Extent) → body.extent ≡ Some e → LiesBelow at e → (directory : Dir) → HasListing H node.above body.links e directory
      → (s : Stored) × IsSeen (graph_of udf (take at H) table) node.above node.address s × (stored_is_directory s ≡ true) × (s.identity ≡ node.unique) × (entries_of s ≡ said_entries directory.entries.entries)
  directory_seen long kind e some below directory names =
      let f = entry.fields in
      let es = directory.entries.entries in
      let same : data_of H e ≡ extent (take at H) e.first e.size = sym (part_below (e.first + PARTITION_START) (div_ceil e.size BLOCK_BYTES) at H (let b = below.below in omega (arith, b))) in
      let are = subst (All IsBlock) same names.are in
      let is = subst (λ blocks. IsDirectory directory.parent es e.first e.size blocks) same names.is in
      let said = (directories_agree directory.parent e.first e.size es (extent (take at H) e.first e.size) are below.first).0 is in
      let fits = subst (λ (k : IcbKind). FitsPlace k f.size f.place) (entry.kind ∙ ap icb_kind kind) entry.is.fits.place in
      let holds = holds_directory (take at H) at long f.size f.place e directory.parent (said_entries es) fits (sym entry.extent ∙ some) below said in
      let kind_is : said_kind f.kind ≡ MediumDirectory = ap said_kind (entry.kind ∙ ap icb_kind kind) in
      let count = links_said es in (
        record { identity = f.unique; moment = f.moment; links = f.links; body = Entries directory.parent (said_entries es) },
        record {
          there = record {
            number = leads.number;
            used = leads.used;
            block = entry.block;
            there = there_at (take at H) table node body entry_at leads entry;
            fields = said_fields f;
            entry = (entries_agree f entry.block node.address).0 entry.is;
            moment = refl;
            identity = refl;
            links = refl;
            body = (kind_is, holds);
          };
          links = entry.links ∙ names.links ∙ ap (λ n. 1 + n) count;
          parent = λ d. names.parent;
          distinct = subst (IsDistinct bytes_eq) (sym (names_said es)) names.is.distinct;
        },
        refl,
        entry.unique,
        refl,
      )

-- ---- a directory's nodes, one after another

-- one more
pub begun_more : (graph : Graph) (before now after : Walk) (node child : Named) (entries : List (List ℕ × DirEntry)) (i : ℕ) (name : List ℕ) (entry : DirEntry)
    → slice_get entries i ≡ Some (name, entry) → child.kind ≡ entry.kind → child.address ≡ entry.virtual_address → child.unique ≡ entry.unique → child.above ≡ node.address → child.depth ≡ node.depth + 1
    → now.next_unique ≡ before.next_unique → Begun graph before now node entries i → Visits graph now after child → Begun graph before after node entries (i + 1)
begun_more graph before now after node child entries i name entry there kind address unique above depth next b v =
    let tree = Seen name child.address v.stored v.below End in
    record {
      stored = b.stored;
      seen = b.seen;
      entries_are = b.entries_are;
      is = b.is;
      identity = b.identity;
      below = beside b.below tree;
      walked = walked_beside graph node.address b.below tree b.walked (subst (λ a. IsWalked graph a (Seen [] child.address v.stored v.below End)) above v.walked);
      names =
          let said : record { name = name; is_directory = stored_is_directory v.stored; address = child.address; identity = v.stored.identity } ≡ said_entry (name, entry) =
          λ j. record { name = name; is_directory = (v.kind ∙ ap is_directory kind ∙ kinds_same entry.kind) j; address = address j; identity = (v.identity ∙ unique) j } in
          let more : take (i + 1) entries ≡ take i entries ++ (name, entry) ∷ [] =
          take_more entries i (name, entry) (slice_get_within entries i (name, entry) there) ∙ ap (λ x. take i entries ++ x ∷ []) (get_or_from_slice_get entries i (name, entry) (name, entry) there) in
          named-beside b.below tree ∙ (λ j. b.names j ++ said j ∷ []) ∙ sym (map-append said_entry (take i entries) ((name, entry) ∷ [])) ∙ ap said_entries (sym more);
      counts =
          more_counts before now after node.depth node.address child.address b.stored v.stored name b.below v.below next b.counts
          (subst (λ d. CountsWalk now after d (Seen [] child.address v.stored v.below End)) depth v.counts);
    }

-- all of them
pub begun_all : (graph : Graph) (before now : Walk) (node : Named) (entries : List (List ℕ × DirEntry)) (i : ℕ) → length entries ≤ i → node.kind ≡ Directory
    → Begun graph before now node entries i → Visits graph before now node
begun_all graph before now node entries i long kind b = record {
  stored = b.stored;
  below = b.below;
  kind = b.is ∙ sym (ap is_directory kind);
  identity = b.identity;
  walked = (b.seen, b.names ∙ ap said_entries (take_all i entries long) ∙ sym b.entries_are, b.walked, tt);
  counts = b.counts;
}

-- none of them yet
pub begun_none : (graph : Graph) (before now : Walk) (node : Named) (entries : List (List ℕ × DirEntry)) (reached uniques : Numbers)
    → ((s : Stored) × IsSeen graph node.above node.address s × (stored_is_directory s ≡ true) × (s.identity ≡ node.unique) × (entries_of s ≡ said_entries entries))
    → node.depth ≤ 16 → IsAssigned before.next_unique node.address node.unique
    → InsertsNumber (reached_in before) node.address reached → ((x : ℕ) → reached_in now x ≡ reached x) → InsertsNumber (uniques_in before) node.unique uniques → ((x : ℕ) → uniques_in now x ≡ uniques x)
    → Tallied before.files 0 now.files → Tallied before.directories 1 now.directories → Begun graph before now node entries 0
begun_none graph before now node entries reached uniques (s, seen, is, identity, names) deep drawn put_reached same_reached put_uniques same_uniques files directories = record {
  stored = s;
  seen = seen;
  entries_are = names;
  is = is;
  identity = identity;
  below = End;
  walked = tt;
  names = refl;
  counts =
      let none : ◌≡◌ {A = ℕ} (if stored_is_directory s then 0 else 1) 0 = ap (λ b. if b then 0 else 1) is in
      let one : ◌≡◌ {A = ℕ} (if stored_is_directory s then 1 else 0) 1 = ap (λ b. if b then 1 else 0) is in
      begin_counts before now node s reached uniques deep (subst (IsAssigned before.next_unique node.address) (sym identity) drawn) put_reached same_reached
      (subst (λ n. InsertsNumber (uniques_in before) n uniques) (sym identity) put_uniques) same_uniques (tallied_same _ _ _ _ files (sym none)) (tallied_same _ _ _ _ directories (sym one));
}

-- a file
pub file_visits : (graph : Graph) (before now : Walk) (node : Named) (reached uniques : Numbers)
    → ((s : Stored) × IsSeen graph node.above node.address s × (stored_is_directory s ≡ false) × (s.identity ≡ node.unique) × (entries_of s ≡ [])) → node.kind ≡ File
    → node.depth ≤ 16 → IsAssigned before.next_unique node.address node.unique
    → InsertsNumber (reached_in before) node.address reached → ((x : ℕ) → reached_in now x ≡ reached x) → InsertsNumber (uniques_in before) node.unique uniques → ((x : ℕ) → uniques_in now x ≡ uniques x)
    → Tallied before.files 1 now.files → Tallied before.directories 0 now.directories → Visits graph before now node
file_visits graph before now node reached uniques (s, seen, is, identity, names) kind deep drawn put_reached same_reached put_uniques same_uniques files directories = record {
  stored = s;
  below = End;
  kind = is ∙ sym (ap is_directory kind);
  identity = identity;
  walked = (seen, sym names, tt, tt);
  counts =
      let none : ◌≡◌ {A = ℕ} (if stored_is_directory s then 1 else 0) 0 = ap (λ b. if b then 1 else 0) is in
      let one : ◌≡◌ {A = ℕ} (if stored_is_directory s then 0 else 1) 1 = ap (λ b. if b then 0 else 1) is in
      begin_counts before now node s reached uniques deep (subst (IsAssigned before.next_unique node.address) (sym identity) drawn) put_reached same_reached
      (subst (λ n. InsertsNumber (uniques_in before) n uniques) (sym identity) put_uniques) same_uniques (tallied_same _ _ _ _ files (sym one)) (tallied_same _ _ _ _ directories (sym none));
}

-- what was seen from a state with the same table on the same medium
pub visits_same : (J K : List Event) (w v before after : Walk) (node : Named) → J ≡ K → w.at ≡ v.at → w.entries.now ≡ v.entries.now → Visits (nodes_of J w) before after node → Visits (nodes_of K v) before after node
visits_same J K w v before after node journal at entries h =
    subst (λ (es : List (Option ℕ)). Visits (graph_of udf (take v.at (held K)) es) before after node) entries
    (subst (λ (n : ℕ). Visits (graph_of udf (take n (held K)) w.entries.now) before after node) at
    (subst (λ (L : List Event). Visits (graph_of udf (take w.at (held L)) w.entries.now) before after node) journal h))
