use Rattle.durability.proofs.Example.{example_stands}
use Rattle.durability.proofs.example_stands.Goals as goal

pub returns : goal.returns
returns c = example_stands
