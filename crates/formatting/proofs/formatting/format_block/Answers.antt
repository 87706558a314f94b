use Rattle.std.proofs.Common.{length, arith, ap, ◌∙◌}
use Rattle.ecma.specs.Descriptor.{padded}
use Rattle.udf.specs.NewVolume.{first_table}
use Rattle.vat.proofs.TableReads.{takes_so_many}
use Rattle.formatting.specs.NewVolume.{words_of}
use Rattle.formatting.proofs.NewVolumes.{front_at, set_at, names_at, root_at, table_at, mark_at, names_are, first_is}
use Rattle.formatting.proofs.formatting.format_block.Goals as goal

pub returns-then-n-lt-PARTITION_START : goal.returns-then-n-lt-PARTITION_START
returns-then-n-lt-PARTITION_START c = front_at (words_of c.args.parts.now) c.args.n c.front_block.result c.if-n-lt-PARTITION_START.true c.front_block.ensures

pub table_block-requires : goal.table_block-requires
table_block-requires c =
    let parts = c.args.parts.now in
    omega (arith, ap length c.deref.ensures.value, takes_so_many (first_table parts.label) parts.table.items (first_is parts.label parts.table.items parts.named parts.first))

pub returns-in-257 : goal.returns-in-257
returns-in-257 c = set_at (words_of c.args.parts.now) c.args.n c.encode_fsd.result c.in-257.is c.encode_fsd.ensures

pub returns-in-258 : goal.returns-in-258
returns-in-258 c = names_at (words_of c.args.parts.now) c.args.n c.args.parts.now.root c.in-258.is (names_are c.args.parts.now.root c.args.parts.now.names)

pub returns-in-259 : goal.returns-in-259
returns-in-259 c = root_at (words_of c.args.parts.now) c.args.n c.root_block.result c.in-259.is c.root_block.ensures

pub returns-in-260 : goal.returns-in-260
returns-in-260 c =
    let parts = c.args.parts.now in
    table_at (words_of parts) c.args.n c.table_block.result c.in-260.is
    (parts.table.items, first_is parts.label parts.table.items parts.named parts.first, c.table_block.ensures ∙ ap padded c.deref.ensures.value)

pub returns-in_default : goal.returns-in_default
returns-in_default c = mark_at (words_of c.args.parts.now) c.args.n c.table_entry_block.result (omega arith) c.table_entry_block.ensures
