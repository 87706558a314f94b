use Rattle.std.proofs.Common.{length, ap, arith}
use Rattle.request.proofs.Listings.{listing_push}
use Rattle.request.proofs.answer.Listing.push.Goals as goal

pub invariant_of-self-2 : goal.invariant_of-self-2
invariant_of-self-2 c =
    rw c.in_ok-push.ensures.items (listing_push c.self.inside.names.items c.args.listed c.self.invariant (omega (arith, c.requires, ap length c.self.view_is)) c.as_str-text.ensures.name)
