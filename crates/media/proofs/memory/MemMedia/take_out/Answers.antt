use Rattle.std.proofs.Common.{◌≡◌, List, length, get_or, Option, None, false, sym, ◌∙◌, ap, subst}
use Rattle.std.specs.Prelude.{is_none}
use Rattle.std.specs.Option.{option_map}
use Rattle.std.proofs.lemmas.Result.{IfOk-weaker, on_err_weaker}
use Rattle.settling.specs.Gathered.{journal_of}
use Rattle.settling.specs.declared.memory.GatheringDrive.{GatheringDrive}
use Rattle.media.specs.declared.memory.Slot.{Slot}
use Rattle.media.specs.InMemory.{AreOthers, IsPlace, IsUnfit, is_empty, journal_in}
use Rattle.media.proofs.Places.{slot_here, slot_none, set_here, set_alike, set_other}
use Rattle.media.proofs.memory.MemMedia.take_out.Goals as goal

pub returns-clause-opened : goal.returns-clause-opened
returns-clause-opened c =
    let slots : List Slot = c.args.self.now.slots.items in
    let place : IsPlace slots c.args.path.now c.in-Some.place = subst (λ ss. IsPlace ss c.args.path.now c.in-Some.place) c.deref.ensures.value c.in-Some.ensures.found in
    IfOk-weaker c.take_drive.result _ _
    (λ (d : GatheringDrive) is. slot_here journal_in None slots c.args.path.now c.in-Some.place c.index_mut.result.now place ∙ ap journal_in (sym c.index_mut.ensures.value) ∙ is) c.take_drive.ensures.opened

pub returns-clause-out : goal.returns-clause-out
returns-clause-out c =
    let slots : List Slot = c.args.self.now.slots.items in
    let old : Slot = c.index_mut.result.now in
    let taken : Slot = c.take_drive.new.slot in
    let place : IsPlace slots c.args.path.now c.in-Some.place = subst (λ ss. IsPlace ss c.args.path.now c.in-Some.place) c.deref.ensures.value c.in-Some.ensures.found in
    let same : taken.path.items ≡ (get_or slots c.in-Some.place old).path.items = ap (λ p. p.items) c.take_drive.ensures.path ∙ ap (λ (s : Slot). s.path.items) c.index_mut.ensures.value in
    IfOk-weaker c.take_drive.result _ _
    (λ (d : GatheringDrive) out. set_here is_empty false slots c.args.path.now c.in-Some.place old taken place same ∙ ap (λ (o : Option GatheringDrive). is_none o) out) c.take_drive.ensures.out

pub returns-clause-others : goal.returns-clause-others
returns-clause-others c =
    let slots : List Slot = c.args.self.now.slots.items in
    let old : Slot = c.index_mut.result.now in
    let taken : Slot = c.take_drive.new.slot in
    let place : IsPlace slots c.args.path.now c.in-Some.place = subst (λ ss. IsPlace ss c.args.path.now c.in-Some.place) c.deref.ensures.value c.in-Some.ensures.found in
    let same : taken.path.items ≡ (get_or slots c.in-Some.place old).path.items = ap (λ p. p.items) c.take_drive.ensures.path ∙ ap (λ (s : Slot). s.path.items) c.index_mut.ensures.value in
    set_other journal_in None slots c.args.path.now c.in-Some.place old taken place same

pub returns-clause-places : goal.returns-clause-places
returns-clause-places c =
    let slots : List Slot = c.args.self.now.slots.items in
    let old : Slot = c.index_mut.result.now in
    let taken : Slot = c.take_drive.new.slot in
    let place : IsPlace slots c.args.path.now c.in-Some.place = subst (λ ss. IsPlace ss c.args.path.now c.in-Some.place) c.deref.ensures.value c.in-Some.ensures.found in
    let same : taken.path.items ≡ (get_or slots c.in-Some.place old).path.items = ap (λ p. p.items) c.take_drive.ensures.path ∙ ap (λ (s : Slot). s.path.items) c.index_mut.ensures.value in
    set_other is_empty false slots c.args.path.now c.in-Some.place old taken place same

pub returns-clause-err : goal.returns-clause-err
returns-clause-err c =
    let slots : List Slot = c.args.self.now.slots.items in
    let old : Slot = c.index_mut.result.now in
    let taken : Slot = c.take_drive.new.slot in
    let place : IsPlace slots c.args.path.now c.in-Some.place = subst (λ ss. IsPlace ss c.args.path.now c.in-Some.place) c.deref.ensures.value c.in-Some.ensures.found in
    let same : taken.path.items ≡ (get_or slots c.in-Some.place old).path.items = ap (λ p. p.items) c.take_drive.ensures.path ∙ ap (λ (s : Slot). s.path.items) c.index_mut.ensures.value in
    on_err_weaker c.take_drive.result
    (λ kept. λ q. set_alike journal_in None slots q c.in-Some.place old taken place.below same (ap (λ o. option_map journal_of o) kept ∙ ap journal_in c.index_mut.ensures.value)) c.take_drive.ensures.err

pub returns-in_default-clause-refused : goal.returns-in_default-clause-refused
returns-in_default-clause-refused c =
    let slots : List Slot = c.args.self.now.slots.items in
    let others : AreOthers slots c.args.path.now (length slots) = subst (λ ss. AreOthers ss c.args.path.now (length ss)) c.deref.ensures.value c.in_default.ensures.none in
    subst (λ o. IsUnfit c.args.capacity o) (sym (slot_none journal_in None slots c.args.path.now others)) tt

pub returns-clause-refused : goal.returns-clause-refused
returns-clause-refused c =
    let slots : List Slot = c.args.self.now.slots.items in
    let old : Slot = c.index_mut.result.now in
    let place : IsPlace slots c.args.path.now c.in-Some.place = subst (λ ss. IsPlace ss c.args.path.now c.in-Some.place) c.deref.ensures.value c.in-Some.ensures.found in
    on_err_weaker c.take_drive.result
    (λ unfit. subst (λ o. IsUnfit c.args.capacity o) (sym (slot_here journal_in None slots c.args.path.now c.in-Some.place old place ∙ ap journal_in (sym c.index_mut.ensures.value))) unfit) c.take_drive.ensures.refused

pub returns-clause-kept : goal.returns-clause-kept
returns-clause-kept c =
    let slots : List Slot = c.args.self.now.slots.items in
    let old : Slot = c.index_mut.result.now in
    let taken : Slot = c.take_drive.new.slot in
    let place : IsPlace slots c.args.path.now c.in-Some.place = subst (λ ss. IsPlace ss c.args.path.now c.in-Some.place) c.deref.ensures.value c.in-Some.ensures.found in
    let same : taken.path.items ≡ (get_or slots c.in-Some.place old).path.items = ap (λ p. p.items) c.take_drive.ensures.path ∙ ap (λ (s : Slot). s.path.items) c.index_mut.ensures.value in
    on_err_weaker c.take_drive.result
    (λ kept. λ q. set_alike is_empty false slots q c.in-Some.place old taken place.below same (ap (λ (o : Option GatheringDrive). is_none o) kept ∙ ap is_empty c.index_mut.ensures.value)) c.take_drive.ensures.err
