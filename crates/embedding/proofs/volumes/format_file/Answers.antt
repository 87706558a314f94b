use Rattle.std.proofs.Common.{inr}
use Rattle.embedding.proofs.volumes.format_file.Goals as goal

pub returns : goal.returns
returns c = inr (
  c.format_on.new.look.part,
  record {
    image = c.in-Ok.ensures.image.0;
    before = c.in-Ok.drive;
    begins = c.in-Ok.ensures.image.1;
    size = c.in-Ok.ensures.capacity;
    afterwards = c.format_on.new.drive;
    did = c.format_on.ensures;
  },
)
