use Rattle.std.proofs.Common.{◌∙◌, List, None, length, sym, ap, subst}
use Rattle.std.proofs.lemmas.Result.{IfOk-weaker, on_err_weaker}
use Rattle.settling.specs.declared.memory.GatheringDrive.{GatheringDrive}
use Rattle.media.specs.declared.memory.Slot.{Slot}
use Rattle.media.specs.Held.{initial_journal}
use Rattle.media.specs.InMemory.{AreOthers, IsUnfit, journal_in}
use Rattle.media.proofs.Places.{slot_none}
use Rattle.media.proofs.memory.MemMedia.take_or_add.Goals as goal

pub returns-in-None-clause-opened : goal.returns-in-None-clause-opened
returns-in-None-clause-opened c =
    let slots : List Slot = c.args.self.now.slots.items in
    let others : AreOthers slots c.as_bytes.result.now (length slots) = subst (λ ss. AreOthers ss c.as_bytes.result.now (length ss)) c.deref.ensures.value c.in-None.ensures.none in
    let here : AreOthers slots c.args.path.now (length slots) = subst (λ path. AreOthers slots path (length slots)) c.as_bytes.ensures.value others in
    IfOk-weaker c.add.result _ _ (λ (d : GatheringDrive) blank. ap initial_journal (slot_none journal_in None slots c.args.path.now here) ∙ sym blank) c.add.ensures.blank

pub returns-in-None-clause-refused : goal.returns-in-None-clause-refused
returns-in-None-clause-refused c =
    let slots : List Slot = c.args.self.now.slots.items in
    let others : AreOthers slots c.as_bytes.result.now (length slots) = subst (λ ss. AreOthers ss c.as_bytes.result.now (length ss)) c.deref.ensures.value c.in-None.ensures.none in
    let here : AreOthers slots c.args.path.now (length slots) = subst (λ path. AreOthers slots path (length slots)) c.as_bytes.ensures.value others in
    on_err_weaker c.add.result (λ _. subst (λ o. IsUnfit c.args.capacity o) (sym (slot_none journal_in None slots c.args.path.now here)) tt) c.add.ensures.err

pub returns-in-None-clause-alike : goal.returns-in-None-clause-alike
returns-in-None-clause-alike c =
    let slots : List Slot = c.args.self.now.slots.items in
    let others : AreOthers slots c.as_bytes.result.now (length slots) = subst (λ ss. AreOthers ss c.as_bytes.result.now (length ss)) c.deref.ensures.value c.in-None.ensures.none in
    let here : AreOthers slots c.args.path.now (length slots) = subst (λ path. AreOthers slots path (length slots)) c.as_bytes.ensures.value others in
    IfOk-weaker c.add.result _ _ (λ (d : GatheringDrive) blank. λ once whole count. blank ∙ sym (ap initial_journal (slot_none journal_in None slots c.args.path.now here))) c.add.ensures.blank
