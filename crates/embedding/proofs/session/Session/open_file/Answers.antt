use Rattle.std.proofs.Common.{inr}
use Rattle.embedding.proofs.Beginning.{turned}
use Rattle.embedding.proofs.session.Session.open_file.Goals as goal

pub returns-in-Ok : goal.returns-in-Ok
returns-in-Ok c = inr (c.in-Ok.medium, c.in-Ok.ensures.lies, turned c.in-Ok.medium c.turn_to.result c.args.self.now c.turn_to.new.self c.turn_to.ensures.opened c.turn_to.ensures.refused)
