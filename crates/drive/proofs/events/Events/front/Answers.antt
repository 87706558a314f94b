use Rattle.std.proofs.Common.{arith}
use Rattle.drive.proofs.Journals.{next-take}
use Rattle.drive.proofs.events.Events.front.Goals as goal

pub next_after-next-requires : goal.next_after-next-requires
next_after-next-requires c =
    rw (c.deref-2.ensures.value, c.in_ok-list.ensures.items, c.deref.ensures.value) (omega (arith, next-take c.args.k c.args.self.now.list.items, c.args.self.now.next_is))
