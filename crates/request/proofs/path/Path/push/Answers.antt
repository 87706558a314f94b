use Rattle.std.proofs.Common.{length, ap, arith}
use Rattle.request.proofs.Listings.{path_push}
use Rattle.request.proofs.path.Path.push.Goals as goal

pub invariant_of-self-2 : goal.invariant_of-self-2
invariant_of-self-2 c =
    rw c.in_ok-push.ensures.items (path_push c.self.inside.names.items c.args.name c.self.invariant (omega (arith, c.requires, ap length c.self.view_is)) c.as_str-text.ensures.name)
