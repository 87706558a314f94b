use Rattle.std.proofs.Common.{rules}
use Rattle.embedding.proofs.volumes.require_beginning_of.Goals as goal
