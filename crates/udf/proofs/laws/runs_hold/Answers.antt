use Rattle.durability.specs.Commit.{need}
use Rattle.durability.proofs.Runs.{holds}
use Rattle.durability.proofs.OnJournals.{holds_on_journal}
use Rattle.udf.specs.Udf.{udf, spelled_length}
use Rattle.udf.proofs.laws.runs_hold.Goals as goal

pub returns-clause-medium : goal.returns-clause-medium
returns-clause-medium c = λ drive volume S before afterwards deliveries answers committed S' stands runs. holds udf (need spelled_length) drive volume S before afterwards deliveries answers committed S' stands runs

pub returns-clause-journal : goal.returns-clause-journal
returns-clause-journal c = λ drive volume S before afterwards deliveries answers once again front holds. holds_on_journal udf drive volume (need spelled_length) S before afterwards deliveries answers once again front holds
