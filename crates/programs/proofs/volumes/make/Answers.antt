use Rattle.std.proofs.Common.{refl}
use Rattle.recover.specs.declared.fault.StoreFault.TheVariants as stores
use Rattle.programs.proofs.Failing.{counts_put, counts_refused, made_words, refused_words}
use Rattle.programs.proofs.Making.{makes_put, makes_refused}
use Rattle.programs.proofs.volumes.make.Goals as goal

pub returns-in_err-format-clause-makes : goal.returns-in_err-format-clause-makes
returns-in_err-format-clause-makes g c = makes_refused c.args.label.now c.args.moment _ c.from_residual.result _ _ _ _ _ c.from_residual.ensures.1 c.in_err-format.ensures.err

pub returns-clause-makes : goal.returns-clause-makes
returns-clause-makes g c = makes_put c.args.label.now c.args.moment _ c.put.result _ _ _ _ _ c.put.ensures.puts c.in_ok-format.ensures.ok

pub returns-in_err-format-clause-words : goal.returns-in_err-format-clause-words
returns-in_err-format-clause-words g c = record {
  text = refused_words c.from_residual.result _ _ stores.Label _ c.from_residual.ensures.1 refl c.in_err-format.ensures.label;
  size = refused_words c.from_residual.result _ _ stores.Small _ c.from_residual.ensures.1 refl c.in_err-format.ensures.small;
}

pub returns-clause-words : goal.returns-clause-words
returns-clause-words g c = record {
  text = made_words c.put.result _ _ stores.Label _ _ _ _ c.put.ensures.puts refl c.in_ok-format.ensures.label;
  size = made_words c.put.result _ _ stores.Small _ _ _ _ c.put.ensures.puts refl c.in_ok-format.ensures.small;
}

pub returns-in_err-format-clause-failures : goal.returns-in_err-format-clause-failures
returns-in_err-format-clause-failures g c = counts_refused c.from_residual.result _ _ _ c.from_residual.ensures.1 c.in_err-format.ensures.follows.failures

pub returns-clause-failures : goal.returns-clause-failures
returns-clause-failures g c = counts_put c.put.result _ _ _ _ _ c.put.ensures.puts c.in_ok-format.ensures.follows.failures
