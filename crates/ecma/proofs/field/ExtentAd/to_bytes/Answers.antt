use Rattle.std.proofs.Common.{refl}
use Rattle.ecma.proofs.field.ExtentAd.to_bytes.Goals as goal

pub returns : goal.returns
returns c = rw (c.write_u32-2.ensures, c.write_u32.ensures) refl
