use Rattle.std.proofs.Common.{refl}
use Rattle.std.specs.List.{concat}
use Rattle.icb.specs.FileSet.{set_parts}
use Rattle.icb.proofs.FileSets.{written_set}
use Rattle.icb.proofs.set.encode_fsd.Goals as goal

pub returns : goal.returns
returns c =
    let set = c.args.set.now in
    let stamp = c.to_bytes-stamp.result in
    record {
      fields = concat (set_parts set.label stamp);
      has = record { label = c.dstring_32-label.ensures.label; stamp = stamp; moment = c.to_bytes-stamp.ensures; spelled = refl };
      whole = written_set set.label stamp c.dstring_128-volume.result c.dstring_32-label.result c.descriptor_block.result c.dstring_128-volume.ensures.value c.dstring_32-label.ensures.value c.descriptor_block.ensures;
    }
