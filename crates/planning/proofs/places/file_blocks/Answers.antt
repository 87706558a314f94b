use Rattle.std.proofs.Common.{◌≡◌, ◌+◌, ◌≤◌, ◌<◌, ◌++◌, ◌∷◌, ◌∙◌, ℕ, List, [], length, sym, ap, subst, arith, append-nil}
use Rattle.std.specs.Int.{div_ceil}
use Rattle.std.proofs.lemmas.Result.{IfOk-weaker}
use Rattle.limits.specs.declared.TheConstants.{BLOCK_BYTES, PARTITION_BLOCKS}
use Rattle.durability.specs.Formats.{Block}
use Rattle.durability.specs.Plan.{IsPlaced, Writing, WritesNode}
use Rattle.durability.specs.Volume.{Medium}
use Rattle.lookup.specs.Extents.{full_size}
use Rattle.udf.specs.Udf.{udf}
use Rattle.table_update.specs.Outside.{outside_after}
use Rattle.planning.specs.Writings.{AreKeptOn, file_writing}
use Rattle.planning.specs.declared.layout.FileBlocks.{FileBlocks}
use Rattle.planning.proofs.Growing.{outside_kept, outside_new, some_kept}
use Rattle.planning.proofs.places.file_blocks.Goals as goal
use Rattle.planning.proofs.places.file_blocks.Goals.{then-is_empty, else-is_empty}

pub long_file-requires-clause-room : goal.long_file-requires-clause-room
long_file-requires-clause-room c =
    let f = c.args.file.now in
    let some : 0 < full_size f.kept = omega (arith, c.descriptor_blocks.ensures.count, c.if-descriptor_blocks-gt0.true, f.short) in
    subst (λ (bs : List ℕ). c.args.first + div_ceil (length bs) BLOCK_BYTES ≤ PARTITION_BLOCKS) (outside_kept (full_size f.kept) f.bytes.now some) c.requires.room

pub returns-then-descriptor_blocks-gt0-clause-written : goal.returns-then-descriptor_blocks-gt0-clause-written
returns-then-descriptor_blocks-gt0-clause-written c =
    let f = c.args.file.now in
    let some : 0 < full_size f.kept = omega (arith, c.descriptor_blocks.ensures.count, c.if-descriptor_blocks-gt0.true, f.short) in
    let Writes : FileBlocks → List ℕ → Type 0 = λ b bytes. (medium : Medium) (from : ℕ) (blocks : List Block) → AreKeptOn medium f → IsPlaced udf bytes from c.args.first blocks → c.args.next ≡ from + length blocks
    → WritesNode udf medium (file_writing medium c.args.moment f) from ((blocks ++ b.listed.items) ++ b.entry ∷ []) (from + length (blocks ++ b.listed.items)) in
    IfOk-weaker c.long_file.result (λ b. Writes b f.bytes.now) (λ b. Writes b (outside_after (full_size f.kept) f.bytes.now))
    (λ b w. subst (Writes b) (sym (outside_kept (full_size f.kept) f.bytes.now some)) w) c.long_file.ensures.written

pub whole_entry-requires : goal.whole_entry-requires
whole_entry-requires c =
    let f = c.args.file.now in
    let none = c.is_empty.ensures.size.0 c.if-is_empty.true in
    record {
      none = c.is_empty.ensures.none.0 c.if-is_empty.true;
      room = subst (λ (bs : List ℕ). c.args.first + div_ceil (length bs) BLOCK_BYTES ≤ PARTITION_BLOCKS) (outside_new (full_size f.kept) f.bytes.now none) c.requires.room;
    }

pub grown_entry-requires : goal.grown_entry-requires
grown_entry-requires c =
    let f = c.args.file.now in
    let some = some_kept c.is_empty.result (full_size f.kept) c.is_empty.ensures.size c.if-is_empty.false in
    record {
      some = some;
      fits = omega (arith, c.descriptor_blocks.ensures.count, c.if-descriptor_blocks-gt0.false);
      room = subst (λ (bs : List ℕ). c.args.first + div_ceil (length bs) BLOCK_BYTES ≤ PARTITION_BLOCKS) (outside_kept (full_size f.kept) f.bytes.now some) c.requires.room;
    }

-- no descriptor blocks are between the data and the entry
none_listed : (medium : Medium) (node : Writing) (from : ℕ) (blocks listed : List Block) (entry made : Block) → listed ≡ [] → entry ≡ made
    → WritesNode udf medium node from (blocks ++ made ∷ []) (from + length blocks) → WritesNode udf medium node from ((blocks ++ listed) ++ entry ∷ []) (from + length (blocks ++ listed))
none_listed medium node from blocks listed entry made none same w =
    let before : blocks ≡ blocks ++ listed = sym (ap (λ (bs : List Block). blocks ++ bs) none ∙ append-nil blocks) in
    subst (λ (b : Block). WritesNode udf medium node from ((blocks ++ listed) ++ b ∷ []) (from + length (blocks ++ listed))) (sym same)
    (subst (λ (bs : List Block). WritesNode udf medium node from (bs ++ made ∷ []) (from + length bs)) before w)

pub returns-clause-written : goal.returns-clause-written
returns-clause-written c medium from blocks kept placed next-is =
    let f = c.args.file.now in
    let node = file_writing medium c.args.moment f in
    elim c.if-is_empty.branch [
      | then-is_empty w ↦
          let none = c.is_empty.ensures.size.0 w.if-is_empty.true in
          none_listed medium node from blocks c.new.result.items c.if-is_empty.entry w.whole_entry.result c.new.ensures.items (w.entry-is ∙ w.write.ensures)
          (w.whole_entry.ensures medium from blocks (subst (λ (bs : List ℕ). IsPlaced udf bs from c.args.first blocks) (outside_new (full_size f.kept) f.bytes.now none) placed))
      | else-is_empty w ↦
          let some = some_kept c.is_empty.result (full_size f.kept) c.is_empty.ensures.size w.if-is_empty.false in
          none_listed medium node from blocks c.new.result.items c.if-is_empty.entry w.grown_entry.result c.new.ensures.items (w.entry-is ∙ w.write-else-is_empty.ensures)
          (w.grown_entry.ensures medium from blocks kept (subst (λ (bs : List ℕ). IsPlaced udf bs from c.args.first blocks) (outside_kept (full_size f.kept) f.bytes.now some) placed))
    ]
