use Rattle.std.proofs.Common.{subst}
use Rattle.std.specs.Prelude.{All}
use Rattle.dir.specs.Directory.{IsDirectory}
use Rattle.udf.specs.Udf.{IsBlock}
use Rattle.recover.proofs.kept.Names.read.Goals as goal

pub returns-clause-named : goal.returns-clause-named
returns-clause-named g c = λ h.
    let read = c.in_ok-dir.ensures.directory in
    record {
      are = subst (All IsBlock) (read.1 h) read.2;
      is = subst (λ blocks. IsDirectory c.in_ok-dir.dir.parent c.in_ok-dir.dir.entries.entries c.args.extent.first c.args.extent.size blocks) (read.1 h) read.3;
      seen = c.new.ensures _ _;
    }
