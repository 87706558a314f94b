use Rattle.std.proofs.Common.{refl}
use Rattle.dir.proofs.Heads.{fields_each}
use Rattle.dir.proofs.item.Item.write_fields.Goals as goal

pub returns : goal.returns
returns c =
    rw (
      c.write_u16-4.ensures,
      c.write_u32-3.ensures,
      c.write_u16-3.ensures,
      c.write_u16-2.ensures,
      c.write_u32-2.ensures,
      c.write_u32.ensures,
      c.bits.ensures,
      c.write_u16.ensures,
      fields_each c.args.into.now c.requires.size,
    ) refl
