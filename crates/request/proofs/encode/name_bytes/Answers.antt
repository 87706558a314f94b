use Rattle.std.proofs.Common.{length, ap, arith}
use Rattle.request.proofs.Names.{short_name}
use Rattle.request.proofs.encode.name_bytes.Goals as goal

pub returns-clause-short : goal.returns-clause-short
returns-clause-short c =
    omega (arith, short_name c.args.name.now c.as_str.ensures.name, ap length c.as_str.ensures.value, ap length c.as_bytes.ensures.value)
