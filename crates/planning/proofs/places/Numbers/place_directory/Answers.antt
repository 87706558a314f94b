use Rattle.std.proofs.Common.{◌≡◌, ◌+◌, ◌/◌, ◌++◌, ◌∷◌, ◌∙◌, [], length, refl, sym, subst, arith, ap, rules}
use Rattle.std.specs.Int.{div_ceil}
use Rattle.limits.specs.declared.TheConstants.{BLOCK_BYTES}
use Rattle.dir.specs.Directory.{directory_size, directory_blocks}
use Rattle.ecma.specs.Blocks.{block_count}
use Rattle.durability.specs.Plan.{WritesNode}
use Rattle.udf.specs.Udf.{udf}
use Rattle.planning.specs.Writings.{directory_writing}
use Rattle.planning.proofs.Writings.{laid_there, directory_short}
use Rattle.planning.proofs.places.Numbers.place_directory.Goals as goal

pub directory_entry-entry-requires-clause-size : goal.directory_entry-entry-requires-clause-size
directory_entry-entry-requires-clause-size c = c.bytes.ensures ∙ c.data_size-size.ensures.size

pub directory_entry-entry-requires-clause-blocks : goal.directory_entry-entry-requires-clause-blocks
directory_entry-entry-requires-clause-blocks c =
    let dir = c.args.directory.content.dir in
    let size : c.bytes.result ≡ directory_size dir = c.bytes.ensures ∙ c.data_size-size.ensures.size in
    let count : length (directory_blocks dir c.args.self.now.next) ≡ (c.bytes.result + 2047) / BLOCK_BYTES = c.data_size-size.ensures.blocks c.args.self.now.next ∙ ap block_count (sym size) in
    omega (arith, count)

pub directory_entry-entry-requires-clause-some : goal.directory_entry-entry-requires-clause-some
directory_entry-entry-requires-clause-some c = omega (arith, c.bytes.ensures, c.data_size-size.result.some)

pub directory_entry-entry-requires-clause-few : goal.directory_entry-entry-requires-clause-few
directory_entry-entry-requires-clause-few c = omega (arith, c.bytes.ensures, c.data_size-size.ensures.full, c.data_size-size.result.in_block)

pub directory_entry-entry-requires-clause-room : goal.directory_entry-entry-requires-clause-room
directory_entry-entry-requires-clause-room c =
    let blocks : c.blocks-2.result ≡ (c.bytes.result + 2047) / BLOCK_BYTES = c.blocks-2.ensures.size ∙ ap block_count (sym c.bytes.ensures) in
    omega (arith, blocks, c.take.ensures.next, c.take.new.self.within, c.take.new.self.partition)

pub returns-clause-written : goal.returns-clause-written
returns-clause-written c medium =
    let blocks : c.blocks-2.result ≡ (c.bytes.result + 2047) / BLOCK_BYTES = c.blocks-2.ensures.size ∙ ap block_count (sym c.bytes.ensures) in
    let from = c.args.self.now.next in
    let number : from + div_ceil c.bytes.result BLOCK_BYTES ≡ c.take.new.self.next = omega (arith, blocks, c.take.ensures.next) in
    subst (λ n. WritesNode udf medium (directory_writing c.args.directory) from (directory_blocks c.args.directory.content.dir from ++ c.directory_entry-entry.result ∷ []) n) number (c.directory_entry-entry.ensures.written medium)

pub returns-clause-laid : goal.returns-clause-laid
returns-clause-laid c =
    let dir = c.args.directory.content.dir in
    let from = c.args.self.now.next in
    let size : c.bytes.result ≡ directory_size dir = c.bytes.ensures ∙ c.data_size-size.ensures.size in
    let count : length (directory_blocks dir from) ≡ (c.bytes.result + 2047) / BLOCK_BYTES = c.data_size-size.ensures.blocks from ∙ ap block_count (sym size) in
    let blocks : c.blocks-2.result ≡ (c.bytes.result + 2047) / BLOCK_BYTES = c.blocks-2.ensures.size ∙ ap block_count (sym c.bytes.ensures) in
    record {
      first = refl;
      blocks = (let long : length (directory_blocks dir from) ≡ div_ceil c.bytes.result BLOCK_BYTES = omega (arith, count) in long);
      is = laid_there dir from c.bytes.result (search rules) (search rules) c.requires.proper size;
      number = omega (arith, count, blocks, c.take.ensures.next);
      says = c.directory_entry-entry.ensures.describes;
    }

pub take-requires : goal.take-requires
take-requires c =
    let dir = c.args.directory.content.dir in
    let size : c.bytes.result ≡ directory_size dir = c.bytes.ensures ∙ c.data_size-size.ensures.size in
    let blocks : c.blocks-2.result ≡ (c.bytes.result + 2047) / BLOCK_BYTES = c.blocks-2.ensures.size ∙ ap block_count (sym c.bytes.ensures) in
    let count : length (directory_blocks dir c.args.self.now.next) ≡ (c.bytes.result + 2047) / BLOCK_BYTES = c.data_size-size.ensures.blocks c.args.self.now.next ∙ ap block_count (sym size) in
    let short = directory_short dir c.args.self.now.next (search rules) (search rules) c.requires.proper in
    record { room = omega (arith, c.requires.room, blocks, count, short) }

pub take-requires-2 : goal.take-requires-2
take-requires-2 c =
    let dir = c.args.directory.content.dir in
    let size : c.bytes.result ≡ directory_size dir = c.bytes.ensures ∙ c.data_size-size.ensures.size in
    let blocks : c.blocks-2.result ≡ (c.bytes.result + 2047) / BLOCK_BYTES = c.blocks-2.ensures.size ∙ ap block_count (sym c.bytes.ensures) in
    let count : length (directory_blocks dir c.args.self.now.next) ≡ (c.bytes.result + 2047) / BLOCK_BYTES = c.data_size-size.ensures.blocks c.args.self.now.next ∙ ap block_count (sym size) in
    let short = directory_short dir c.args.self.now.next (search rules) (search rules) c.requires.proper in
    record { room = omega (arith, c.requires.room, blocks, count, short, c.take.ensures.next, c.take.ensures.end) }

pub returns-clause-most : goal.returns-clause-most
returns-clause-most c =
    let dir = c.args.directory.content.dir in
    let size : c.bytes.result ≡ directory_size dir = c.bytes.ensures ∙ c.data_size-size.ensures.size in
    let blocks : c.blocks-2.result ≡ (c.bytes.result + 2047) / BLOCK_BYTES = c.blocks-2.ensures.size ∙ ap block_count (sym c.bytes.ensures) in
    let count : length (directory_blocks dir c.args.self.now.next) ≡ (c.bytes.result + 2047) / BLOCK_BYTES = c.data_size-size.ensures.blocks c.args.self.now.next ∙ ap block_count (sym size) in
    let short = directory_short dir c.args.self.now.next (search rules) (search rules) c.requires.proper in
    omega (arith, blocks, count, short, c.take.ensures.next, c.take-2.ensures.next)
