-- What is written of a node, and where.
use Rattle.std.proofs.Common.{◌≡◌, ℕ, ◌+◌, ◌-◌, ◌/◌, ◌^◌, ◌<◌, ◌≤◌, Bool, List, [], ◌∷◌, ◌++◌, length, replicate, refl, sym, ap, subst, ◌∙◌, arith, length-append, append_assoc, append-nil}
use Rattle.std.specs.Prelude.{if◌then◌else◌, fold}
use Rattle.std.specs.Map.{values_of}
use Rattle.std.proofs.lemmas.List.{length-replicate}
use Rattle.limits.specs.declared.TheConstants.{DIRECTORY_NAMES, PARTITION_BLOCKS}
use Rattle.dir.specs.declared.entry.Dir.{Dir}
use Rattle.dir.specs.declared.entry.Entry.{Entry}
use Rattle.dir.specs.declared.entry.Kind.{Kind}
use Rattle.dir.specs.declared.entry.Kind.TheVariants.{File, Directory}
use Rattle.dir.specs.Directory.{identifiers, directory_blocks, directory_size, is_directory, IsDirectory}
use Rattle.dir.specs.Layout.{laid}
use Rattle.dir.proofs.Once.{laid_directory}
use Rattle.dir.specs.Size.{name_sizes, plain_sizes}
use Rattle.dir.proofs.Short.{directories_short}
use Rattle.dir.proofs.Sizes.{data_sized}
use Rattle.model.specs.Graph.{links_in, Entry as GraphEntry}
use Rattle.model.specs.Graph.Body.{Entries}
use Rattle.durability.specs.Formats.{Block}
use Rattle.durability.specs.Volume.{Medium, blocks_for}
use Rattle.durability.specs.Plan.{zeros, packed, Writing, Written, IsClearStart, IsPlaced, WritesNode, WritesNodes}
use Rattle.durability.proofs.Packed.{length-packed}
use Rattle.recover.specs.Nodes.{links_of}
use Rattle.udf.specs.Said.{names_directory, said_entries}
use Rattle.udf.specs.Udf.{udf, HoldsDirectory}
use Rattle.udf.proofs.Said.{directories_agree}
use Rattle.planning.specs.Writings.{IsProper}
use Rattle.planning.proofs.DirectoryBytes.{directory_bytes}

-- ---- data at a clear start

pub placed_at : (bytes : List ℕ) (from first : ℕ) → IsClearStart udf (packed bytes) from first → IsPlaced udf bytes from first (replicate (first - from) zeros ++ packed bytes)
placed_at bytes from first start = record { start = start; whole = refl }

pub length-placed : (bytes : List ℕ) (from first : ℕ) (blocks : List Block) → IsPlaced udf bytes from first blocks → from + length blocks ≡ first + blocks_for (length bytes)
length-placed bytes from first blocks p =
    omega (arith, ap length p.whole, length-append (replicate (first - from) zeros) (packed bytes), length-replicate {A = List ℕ} (first - from) zeros, length-packed bytes, p.start.low)

-- ---- directories

kinds_agree : (k : Kind) → is_directory k ≡ names_directory k
kinds_agree File = refl
kinds_agree Directory = refl

counts_agree : (n : ℕ) (es : List (List ℕ × Entry)) → fold (λ a (x : Entry). a + (if is_directory x.kind then 1 else 0)) n (values_of es) ≡ fold (λ a (x : GraphEntry). a + (if x.is_directory then 1 else 0)) n (said_entries es)
counts_agree n [] = refl
counts_agree n (e ∷ es) =
    counts_agree (n + (if is_directory e.1.kind then 1 else 0)) es
    ∙ ap (λ (b : Bool). fold (λ a (x : GraphEntry). a + (if x.is_directory then 1 else 0)) (n + (if b then 1 else 0)) (said_entries es)) (kinds_agree e.1.kind)

-- the links of a directory, by what its identifiers say
pub links_agree : (parent : ℕ) (es : List (List ℕ × Entry)) → links_of es ≡ links_in (Entries parent (said_entries es))
links_agree parent es = ap (λ n. 1 + n) (counts_agree 0 es)

-- a directory's blocks are its data
pub laid_there : (d : Dir) (first size : ℕ) → d.parent < 2 ^ 32 → length d.entries.entries ≤ DIRECTORY_NAMES → IsProper d → size ≡ directory_size d → IsDirectory d.parent d.entries.entries first size (directory_blocks d first)
laid_there d first size low few proper same =
    let es = d.entries.entries in
    let laid_size : length (laid first 0 (identifiers d.parent es)) ≡ size = data_sized first d.parent es proper.named ∙ sym (data_sized 0 d.parent es proper.named) ∙ sym same in
    subst (λ n. IsDirectory d.parent es first n (directory_blocks d first)) laid_size (laid_directory d.parent first es low few proper.named proper.distinct)

pub holds_directory : (d : Dir) (first size : ℕ) → d.parent < 2 ^ 32 → length d.entries.entries ≤ DIRECTORY_NAMES → IsProper d → first ≤ PARTITION_BLOCKS → size ≡ directory_size d
    → HoldsDirectory d.parent (said_entries d.entries.entries) first size (directory_blocks d first)
holds_directory d first size low few proper room same =
    let es = d.entries.entries in
    (directories_agree d.parent first size es (directory_blocks d first) (directory_bytes d.parent first es proper.named) room).0 (laid_there d first size low few proper same)

-- it takes no more blocks than the lengths of its names allow
pub directory_short : (d : Dir) (first : ℕ) → d.parent < 2 ^ 32 → length d.entries.entries ≤ DIRECTORY_NAMES → IsProper d → length (directory_blocks d first) ≤ 1 + (40 + plain_sizes (name_sizes d.entries.entries)) / 1720
directory_short d first low few proper =
    let es = d.entries.entries in
    directories_short d.parent first (directory_size d) es (directory_blocks d first) (λ k b lt. (directory_bytes d.parent first es proper.named k b lt).size) (laid_there d first (directory_size d) low few proper refl)

-- ---- nodes one after another

-- the entry of a node is its last block
pub node_ends : (medium : Medium) (node : Writing) (from : ℕ) (blocks : List Block) (number : ℕ) → WritesNode udf medium node from blocks number → number + 1 ≡ from + length blocks
node_ends medium node from blocks number w = omega (arith, w.number_is, ap length w.blocks_are, length-append w.before (w.entry ∷ []))

pub writes_one : (medium : Medium) (node : Writing) (from : ℕ) (blocks : List Block) (number : ℕ) → WritesNode udf medium node from blocks number → WritesNodes udf medium (node ∷ []) from blocks (record { address = node.address; number = number } ∷ [])
writes_one medium node from blocks number w = (blocks, [], number, [], sym (append-nil blocks), refl, w, (refl, refl))

-- those that come after are written on every medium
pub writes-append : (medium : Medium) (nodes more : List Writing) (from : ℕ) (blocks others : List Block) (written rest : List Written) → WritesNodes udf medium nodes from blocks written
    → ((before : Medium) → WritesNodes udf before more (from + length blocks) others rest) → WritesNodes udf medium (nodes ++ more) from (blocks ++ others) (written ++ rest)
writes-append medium [] more from blocks others written rest w v =
    let at : from + length blocks ≡ from = omega (arith, ap length w.0) in
    subst (λ (bs : List Block). WritesNodes udf medium more from (bs ++ others) (written ++ rest)) (sym w.0)
    (subst (λ (ws : List Written). WritesNodes udf medium more from others (ws ++ rest)) (sym w.1)
    (subst (λ n. WritesNodes udf medium more n others rest) at (v medium)))
writes-append medium (node ∷ nodes) more from blocks others written rest (first, after, number, tail, e, f, one, w) v =
    let at : from + length blocks ≡ from + length first + length after = omega (arith, ap length e, length-append first after) in
    let next = writes-append (medium ++ first) nodes more (from + length first) after others tail rest w (λ before. subst (λ n. WritesNodes udf before more n others rest) at (v before)) in (
      first,
      after ++ others,
      number,
      tail ++ rest,
      ap (λ (bs : List Block). bs ++ others) e ∙ append_assoc first after others,
      ap (λ (ws : List Written). ws ++ rest) f,
      one,
      next,
    )
