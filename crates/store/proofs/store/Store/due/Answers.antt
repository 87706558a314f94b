use Rattle.store.proofs.Sessions.{codes_of}
use Rattle.store.proofs.store.Store.due.Goals as goal

pub due_for-requires : goal.due_for-requires
due_for-requires c =
    let vat = c.args.self.now.vat in
    let there = rw c.deref-kept-items.ensures.value at c.loop-kept-test.true in
    let is = rw c.deref-kept-items.ensures.value at c.kept-item.is in
    codes_of vat.sessions.version vat.sessions.commits vat.sessions.records.items c.loop-kept.kept-index c.kept-item.result there is c.requires.fits.records
