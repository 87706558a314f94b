use Rattle.std.proofs.Common.{refl}
use Rattle.ecma.proofs.Seals.{tag_each}
use Rattle.ecma.proofs.tag.write_tag.Goals as goal

pub returns : goal.returns
returns c =
    rw (
      c.checksum.ensures,
      c.write_u32.ensures,
      c.write_u16-5.ensures,
      c.write_u16-4.ensures,
      c.write_u16-3.ensures,
      c.write_u16-2.ensures,
      c.write_u16.ensures,
      tag_each c.args.into.now c.requires,
    ) refl
