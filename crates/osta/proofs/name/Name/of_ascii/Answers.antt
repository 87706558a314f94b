use Rattle.osta.proofs.Names.{kept_ascii}
use Rattle.osta.proofs.name.Name.of_ascii.Goals as goal

pub invariant_of-result : goal.invariant_of-result
invariant_of-result c = kept_ascii c.args.text.now _ _ c.requires.ascii c.requires.name c.in_ok-spelled.ensures c.new.ensures.items
