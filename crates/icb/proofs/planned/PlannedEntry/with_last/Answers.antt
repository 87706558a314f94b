use Rattle.std.proofs.Common.{subst}
use Rattle.ecma.proofs.Pieces.{IsBytes}
use Rattle.icb.specs.Entry.{fields_of}
use Rattle.icb.specs.Planned.{extended}
use Rattle.icb.proofs.EntryBlocks.{extended_bytes, is_planned}
use Rattle.icb.proofs.planned.PlannedEntry.with_last.Goals as goal

pub returns : goal.returns
returns c =
    let e = fields_of c.args.entry.now in
    is_planned (extended e c.args.last) c.args.location c.to_bytes-stamp.result c.requires c.to_bytes-stamp.ensures c.ranges.location.fits
    (extended_bytes e c.args.last (subst IsBytes c.bytes_inside-inside.ensures.value c.bytes_inside-inside.ensures.bytes))
