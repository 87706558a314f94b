-- What is kept lies there still when the journal grows, and what a commit writes lies there then.
use Rattle.std.proofs.Common.{◌≡◌, ℕ, zero, suc, ◌+◌, ◌-◌, ◌≤◌, List, [], ◌∷◌, ◌++◌, length, take, drop, sym, ap, subst, ◌∙◌, arith, append_assoc, length-append}
use Rattle.std.specs.Int.{div_ceil}
use Rattle.std.specs.Prelude.{All, slice_get}
use Rattle.std.proofs.lemmas.Option.{slice_get_within}
use Rattle.std.proofs.lemmas.List.{take_at, drop_at}
use Rattle.limits.specs.declared.TheConstants.{BLOCK_BYTES, PARTITION_START}
use Rattle.drive.specs.Journal.{Event, held, next_of, written, Once, AddsPrefix}
use Rattle.drive.proofs.Once.{next_once}
use Rattle.drive.proofs.Fronts.{begins_after, held_write}
use Rattle.dir.specs.Directory.{IsDirectory}
use Rattle.durability.specs.Formats.{Block}
use Rattle.durability.proofs.Lists.{get-append, get_past, part-append}
use Rattle.recover.specs.Nodes.{data_of}
use Rattle.recover.proofs.Held.{length-held}
use Rattle.lookup.specs.Cache.{IsEntryThere, LiesThere, AreKept, SaysPlace}
use Rattle.planning.specs.Plan.{directory_data, directory_list, directories_list, file_list, table_data, placed_of, plan_blocks, AreLaid, IsPlan}
use Rattle.lookup.specs.declared.content.Content.{Content}
use Rattle.lookup.specs.declared.cache.DirectoryCache.{DirectoryCache}
use Rattle.lookup.specs.declared.nodes.Placed.{Placed}
use Rattle.planning.specs.declared.layout.PlacedDirectory.{PlacedDirectory}
use Rattle.planning.specs.declared.plan.Plan.{Plan}

-- ---- a journal that grows

module _ (J J' : List Event) (blocks : List Block) (once : Once J) (is : J' ≡ J ++ written (next_of J) blocks) where
  grown : held J' ≡ held J ++ blocks
  grown = held_write J J' (next_of J) blocks once (next_once J once) is

  ends : next_of J + length blocks ≤ next_of J'
  ends = omega (arith, ap next_of is, begins_after J (next_of J) blocks (omega arith))

  entry_longer : (placed : Placed) → IsEntryThere J placed → IsEntryThere J' placed
  entry_longer placed entry =
      let at = placed.at.number + PARTITION_START in
      record {
        block = entry.block;
        there = ap (λ (medium : List Block). slice_get medium at) grown ∙ (get-append (held J) blocks at (slice_get_within (held J) at entry.block entry.there) ∙ entry.there);
        says = entry.says;
      }

  pub lies_longer : (placed : Placed) (content : Content) → LiesThere J placed content → LiesThere J' placed content
  lies_longer placed content lies =
      let extent = placed.extent in
      let found : data_of (held J') extent ≡ data_of (held J) extent =
      ap (λ (medium : List Block). data_of medium extent) grown ∙ part-append (extent.first + PARTITION_START) (div_ceil extent.size BLOCK_BYTES) (held J) blocks (omega (arith, length-held J, lies.within)) in
      record {
        entry = entry_longer placed lies.entry;
        within = omega (arith, lies.within, ends);
        is = subst (λ (bs : List Block). IsDirectory content.dir.parent content.dir.entries.entries extent.first extent.size bs) (sym found) lies.is;
      }

  pub kept_longer : (directories : DirectoryCache) → AreKept J directories → AreKept J' directories
  kept_longer directories kept at one there = let stands = kept at one there in (stands.0, lies_longer one.0 one.1 stands.1)

pub kept_front : (J J' : List Event) (blocks : List Block) (directories : DirectoryCache) → AddsPrefix J (next_of J) blocks J' → Once J → AreKept J directories → AreKept J' directories
kept_front J J' blocks directories (m, le, is) once kept = kept_longer J J' (take m blocks) once is directories kept

-- ---- blocks that are written

part_there : (n c : ℕ) (xs ys zs : List Block) → length xs ≡ n → length ys ≡ c → take c (drop n (xs ++ (ys ++ zs))) ≡ ys
part_there n c xs ys zs at long = ap (λ (bs : List Block). take c bs) (drop_at xs (ys ++ zs) n at) ∙ take_at ys zs c long

module _ (J J' : List Event) (once : Once J) where
  lies_written : (before blocks : List Block) (entry : Block) (afterwards : List Block) → J' ≡ J ++ written (next_of J) (before ++ (blocks ++ entry ∷ afterwards)) → (placed : Placed) (content : Content)
      → placed.extent.first + PARTITION_START ≡ next_of J + length before → length blocks ≡ div_ceil placed.extent.size BLOCK_BYTES → IsDirectory content.dir.parent content.dir.entries.entries placed.extent.first placed.extent.size blocks
      → placed.at.number ≡ placed.extent.first + length blocks → SaysPlace placed.at.address placed.extent placed.moment entry → LiesThere J' placed content
  lies_written before blocks entry afterwards is placed content at long directory number says =
      let extent = placed.extent in
      let rest = entry ∷ afterwards in
      let all = before ++ (blocks ++ rest) in
      let count = div_ceil extent.size BLOCK_BYTES in
      let start : length (held J ++ before) ≡ extent.first + PARTITION_START = omega (arith, length-append (held J) before, length-held J, at) in
      let medium : held J' ≡ (held J ++ before) ++ (blocks ++ rest) = grown J J' all once is ∙ sym (append_assoc (held J) before (blocks ++ rest)) in
      let found : data_of (held J') extent ≡ blocks =
      ap (λ (m : List Block). data_of m extent) medium ∙ part_there (extent.first + PARTITION_START) count (held J ++ before) blocks rest start long in
      record {
        entry = record {
          block = entry;
          there = ap (λ (m : List Block). slice_get m (placed.at.number + PARTITION_START)) medium
              ∙ (get_past (held J ++ before) (blocks ++ rest) (placed.at.number + PARTITION_START) (length blocks) (omega (arith, start, number)) ∙ get_past blocks rest (length blocks) 0 (omega arith));
          says = says;
        };
        within = omega (arith, at, long, ends J J' all once is, length-append before (blocks ++ rest), length-append blocks rest);
        is = subst (λ (bs : List Block). IsDirectory content.dir.parent content.dir.entries.entries extent.first extent.size bs) (sym found) directory;
      }

  all_lie : (ps : List PlacedDirectory) (before afterwards : List Block) (from : ℕ) → J' ≡ J ++ written (next_of J) (before ++ (directories_list ps ++ afterwards)) → from + PARTITION_START ≡ next_of J + length before → AreLaid from ps
      → All (λ (p : PlacedDirectory). LiesThere J' (placed_of p) p.directory.content) ps
  all_lie [] before afterwards from is at laid k d lt = absurd (omega (arith, lt))
  all_lie (p ∷ ps) before afterwards from is at laid zero d lt =
      let rest = directories_list ps ++ afterwards in
      let same : (directory_list p ++ directories_list ps) ++ afterwards ≡ directory_data p ++ (p.entry ∷ rest) =
      append_assoc (directory_list p) (directories_list ps) afterwards ∙ append_assoc (directory_data p) (p.entry ∷ []) rest in
      lies_written before (directory_data p) p.entry rest (is ∙ ap (λ (bs : List Block). J ++ written (next_of J) (before ++ bs)) same) (placed_of p) p.directory.content (omega (arith, at, laid.0.first)) laid.0.blocks laid.0.is
      (omega (arith, laid.0.number, laid.0.first)) laid.0.says
  all_lie (p ∷ ps) before afterwards from is at laid (suc k) d lt =
      let same : before ++ ((directory_list p ++ directories_list ps) ++ afterwards) ≡ (before ++ directory_list p) ++ (directories_list ps ++ afterwards) =
      ap (λ (bs : List Block). before ++ bs) (append_assoc (directory_list p) (directories_list ps) afterwards) ∙ sym (append_assoc before (directory_list p) (directories_list ps ++ afterwards)) in
      all_lie ps (before ++ directory_list p) afterwards (from + length (directory_list p)) (is ∙ ap (λ (bs : List Block). J ++ written (next_of J) bs) same) (omega (arith, at, length-append before (directory_list p))) laid.1 k d (omega (arith, lt))

  -- the directories of a plan lie there once its blocks are written
  pub plan_lies : (capacity : ℕ) (plan : Plan) → IsPlan (next_of J) capacity plan → J' ≡ J ++ written (next_of J) (plan_blocks plan) → All (λ (p : PlacedDirectory). LiesThere J' (placed_of p) p.directory.content) plan.directories.items
  plan_lies capacity plan planned is =
      let table = table_data plan.table ++ plan.table.entry ∷ [] in
      let same : plan_blocks plan ≡ file_list plan.file ++ (directories_list plan.directories.items ++ table) = append_assoc (file_list plan.file) (directories_list plan.directories.items) table in
      all_lie plan.directories.items (file_list plan.file) table (next_of J - PARTITION_START + length (file_list plan.file)) (is ∙ ap (λ (bs : List Block). J ++ written (next_of J) bs) same) (omega (arith, planned.low)) planned.laid
