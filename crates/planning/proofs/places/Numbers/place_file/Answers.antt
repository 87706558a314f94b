use Rattle.std.proofs.Common.{◌≡◌, List, ℕ, ◌+◌, ◌-◌, ◌++◌, ◌∷◌, [], length, length-append, replicate, sym, ap, subst, arith}
use Rattle.std.specs.Int.{div_ceil}
use Rattle.limits.specs.declared.TheConstants.{BLOCK_BYTES}
use Rattle.durability.specs.Formats.{Block}
use Rattle.durability.specs.Plan.{zeros, packed, IsClearStart, IsPlaced, WritesNode}
use Rattle.udf.specs.Udf.{udf}
use Rattle.table_update.specs.Outside.{outside_after}
use Rattle.lookup.specs.Extents.{full_size}
use Rattle.planning.specs.Writings.{file_writing}
use Rattle.planning.proofs.Writings.{placed_at, length-placed}
use Rattle.planning.proofs.places.Numbers.place_file.Goals as goal

-- the data's blocks are as many as the numbers that were given out for them
record AreAt (all : List ℕ) (from first next : ℕ) : Type 0 where
  placed : IsPlaced udf all from first (replicate (first - from) zeros ++ packed all)
  ends : from + length (replicate (first - from) zeros ++ packed all) ≡ next

data_ends : (all bytes : List ℕ) (from first next : ℕ) → bytes ≡ all → IsClearStart udf (packed bytes) from first → next ≡ first + div_ceil (length bytes) BLOCK_BYTES → AreAt all from first next
data_ends all bytes from first next same clear ends =
    let start = subst (λ (bs : List ℕ). IsClearStart udf (packed bs) from first) same clear in
    let placed = placed_at all from first start in
    let before = replicate (first - from) zeros ++ packed all in
    record { placed = placed; ends = omega (arith, length-placed all from first before placed, ends, ap (λ (bs : List ℕ). div_ceil (length bs) BLOCK_BYTES) same) }

pub place_bytes-first-requires-clause-room : goal.place_bytes-first-requires-clause-room
place_bytes-first-requires-clause-room c =
    let same = ap (λ (bs : List ℕ). div_ceil (length bs) BLOCK_BYTES) c.outside_of.ensures.value in
    omega (arith, c.requires.room, same)

pub take-requires : goal.take-requires
take-requires c =
    let same = ap (λ (bs : List ℕ). div_ceil (length bs) BLOCK_BYTES) c.outside_of.ensures.value in
    record { room = omega (arith, c.requires.room, same, c.place_bytes-first.ensures.most, c.place_bytes-first.ensures.end, c.descriptor_blocks.ensures.count) }

pub take-requires-2 : goal.take-requires-2
take-requires-2 c =
    let same = ap (λ (bs : List ℕ). div_ceil (length bs) BLOCK_BYTES) c.outside_of.ensures.value in
    record { room = omega (arith, c.requires.room, same, c.place_bytes-first.ensures.most, c.place_bytes-first.ensures.end, c.descriptor_blocks.ensures.count, c.take.ensures.next, c.take.ensures.end) }

pub returns-clause-most : goal.returns-clause-most
returns-clause-most c =
    let same = ap (λ (bs : List ℕ). div_ceil (length bs) BLOCK_BYTES) c.outside_of.ensures.value in
    omega (arith, same, c.place_bytes-first.ensures.most, c.descriptor_blocks.ensures.count, c.take.ensures.next, c.take-2.ensures.next)

pub returns-clause-ends : goal.returns-clause-ends
returns-clause-ends c =
    let from = c.args.self.now.next in
    let first = c.place_bytes-first.result in
    let all = outside_after (full_size c.args.file.kept) c.args.file.bytes.now in
    let before = replicate (first - from) zeros ++ packed all in
    let b = c.in_ok-listed.field-0 in
    let listed : List Block = b.listed.items in
    let d = data_ends all c.outside_of.result.now from first c.place_bytes-first.new.self.next c.outside_of.ensures.value c.place_bytes-first.ensures.start c.place_bytes-first.ensures.next in
    omega (arith, d.ends, c.in_ok-listed.ensures.count, c.descriptor_blocks.ensures.count, c.take.ensures.next, length-append before listed, length-append (before ++ listed) (b.entry ∷ []))

pub returns-clause-written : goal.returns-clause-written
returns-clause-written c medium kept =
    let from = c.args.self.now.next in
    let first = c.place_bytes-first.result in
    let all = outside_after (full_size c.args.file.kept) c.args.file.bytes.now in
    let before = replicate (first - from) zeros ++ packed all in
    let b = c.in_ok-listed.field-0 in
    let listed : List Block = b.listed.items in
    let d = data_ends all c.outside_of.result.now from first c.place_bytes-first.new.self.next c.outside_of.ensures.value c.place_bytes-first.ensures.start c.place_bytes-first.ensures.next in
    let number : from + length (before ++ listed) ≡ c.take.new.self.next = omega (arith, d.ends, c.in_ok-listed.ensures.count, c.descriptor_blocks.ensures.count, c.take.ensures.next, length-append before listed) in
    subst (λ n. WritesNode udf medium (file_writing medium c.args.moment c.args.file) from ((before ++ listed) ++ b.entry ∷ []) n) number
    (c.in_ok-listed.ensures.written medium from before kept d.placed (sym d.ends))
