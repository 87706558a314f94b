use Rattle.std.proofs.Common.{Option, sym, subst}
use Rattle.std.specs.Prelude.{IfSome}
use Rattle.recover.specs.declared.kept.Names.{Names}
use Rattle.recover.specs.ReadCache.{IsCachedListing, same_extent}
use Rattle.recover.proofs.Maps.{holds_less}
use Rattle.recover.proofs.kept.Directories.take.Goals as goal

pub returns-clause-named : goal.returns-clause-named
returns-clause-named c medium are = subst (λ (o : Option Names). IfSome o (IsCachedListing medium c.args.extent)) (sym c.remove.ensures.value) (are c.args.extent)

pub returns-clause-kept : goal.returns-clause-kept
returns-clause-kept c medium are = holds_less same_extent (IsCachedListing medium) _ c.args.self.now.kept c.remove.new.self c.remove.ensures.updates.0 are
