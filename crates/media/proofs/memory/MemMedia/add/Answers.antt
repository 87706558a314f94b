use Rattle.std.proofs.Common.{◌∙◌, List, None, false, ap}
use Rattle.media.specs.declared.memory.Slot.{Slot}
use Rattle.media.specs.InMemory.{is_empty, journal_in, slot_at}
use Rattle.media.proofs.Places.{push_here, push_other}
use Rattle.media.proofs.memory.MemMedia.add.Goals as goal

pub returns-clause-out : goal.returns-clause-out
returns-clause-out c =
    let added : Slot = record { path = c.in-Ok.own_path; drive = None } in
    ap (λ (slots : List Slot). slot_at is_empty false slots c.args.path.now) c.in_ok-push_slot.ensures.ok
    ∙ push_here is_empty false c.args.self.now.slots.items c.args.path.now added c.requires c.in-Ok.ensures.items

pub returns-clause-others : goal.returns-clause-others
returns-clause-others c =
    let added : Slot = record { path = c.in-Ok.own_path; drive = None } in
    λ q apart.
    ap (λ (slots : List Slot). slot_at journal_in None slots q) c.in_ok-push_slot.ensures.ok
    ∙ push_other journal_in None c.args.self.now.slots.items c.args.path.now added c.in-Ok.ensures.items q apart

pub returns-clause-places : goal.returns-clause-places
returns-clause-places c =
    let added : Slot = record { path = c.in-Ok.own_path; drive = None } in
    λ q apart.
    ap (λ (slots : List Slot). slot_at is_empty false slots q) c.in_ok-push_slot.ensures.ok
    ∙ push_other is_empty false c.args.self.now.slots.items c.args.path.now added c.in-Ok.ensures.items q apart
