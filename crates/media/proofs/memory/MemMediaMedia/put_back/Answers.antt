use Rattle.std.proofs.Common.{◌≡◌, ◌∙◌, List, get_or, None, false, length, sym, ap, subst}
use Rattle.std.specs.Option.{option_map}
use Rattle.std.proofs.lemmas.Bool.{false≢true}
use Rattle.settling.specs.Gathered.{journal_of}
use Rattle.media.specs.declared.memory.Slot.{Slot}
use Rattle.media.specs.InMemory.{AreOthers, IsPlace, is_empty, journal_in}
use Rattle.media.proofs.Places.{set_here, set_other, slot_none}
use Rattle.media.proofs.memory.MemMediaMedia.put_back.Goals as goal

pub returns-in-Some-clause-held : goal.returns-in-Some-clause-held
returns-in-Some-clause-held c =
    let slots : List Slot = c.args.self.now.slots.items in
    let old : Slot = c.index_mut.result.now in
    let filled : Slot = c.fill.new.slot in
    let found : IsPlace slots c.as_bytes.result.now c.in-Some.place = subst (λ ss. IsPlace ss c.as_bytes.result.now c.in-Some.place) c.deref.ensures.value c.in-Some.ensures.found in
    let place : IsPlace slots c.args.path.now c.in-Some.place = subst (λ path. IsPlace slots path c.in-Some.place) c.as_bytes.ensures.value found in
    let same : filled.path.items ≡ (get_or slots c.in-Some.place old).path.items = ap (λ p. p.items) c.fill.ensures.path ∙ ap (λ (s : Slot). s.path.items) c.index_mut.ensures.value in
    set_here journal_in None slots c.args.path.now c.in-Some.place old filled place same ∙ ap (λ o. option_map journal_of o) c.fill.ensures.drive

pub returns-in-Some-clause-others : goal.returns-in-Some-clause-others
returns-in-Some-clause-others c =
    let slots : List Slot = c.args.self.now.slots.items in
    let old : Slot = c.index_mut.result.now in
    let filled : Slot = c.fill.new.slot in
    let found : IsPlace slots c.as_bytes.result.now c.in-Some.place = subst (λ ss. IsPlace ss c.as_bytes.result.now c.in-Some.place) c.deref.ensures.value c.in-Some.ensures.found in
    let place : IsPlace slots c.args.path.now c.in-Some.place = subst (λ path. IsPlace slots path c.in-Some.place) c.as_bytes.ensures.value found in
    let same : filled.path.items ≡ (get_or slots c.in-Some.place old).path.items = ap (λ p. p.items) c.fill.ensures.path ∙ ap (λ (s : Slot). s.path.items) c.index_mut.ensures.value in
    set_other journal_in None slots c.args.path.now c.in-Some.place old filled place same

pub returns-in-Some-clause-places : goal.returns-in-Some-clause-places
returns-in-Some-clause-places c =
    let slots : List Slot = c.args.self.now.slots.items in
    let old : Slot = c.index_mut.result.now in
    let filled : Slot = c.fill.new.slot in
    let found : IsPlace slots c.as_bytes.result.now c.in-Some.place = subst (λ ss. IsPlace ss c.as_bytes.result.now c.in-Some.place) c.deref.ensures.value c.in-Some.ensures.found in
    let place : IsPlace slots c.args.path.now c.in-Some.place = subst (λ path. IsPlace slots path c.in-Some.place) c.as_bytes.ensures.value found in
    let same : filled.path.items ≡ (get_or slots c.in-Some.place old).path.items = ap (λ p. p.items) c.fill.ensures.path ∙ ap (λ (s : Slot). s.path.items) c.index_mut.ensures.value in
    set_other is_empty false slots c.args.path.now c.in-Some.place old filled place same

pub returns-in_default-clause-held : goal.returns-in_default-clause-held
returns-in_default-clause-held c =
    let slots : List Slot = c.args.self.now.slots.items in
    let others : AreOthers slots c.as_bytes.result.now (length slots) = subst (λ ss. AreOthers ss c.as_bytes.result.now (length ss)) c.deref.ensures.value c.in_default.ensures.none in
    let here : AreOthers slots c.args.path.now (length slots) = subst (λ path. AreOthers slots path (length slots)) c.as_bytes.ensures.value others in
    absurd (false≢true (sym (slot_none is_empty false slots c.args.path.now here) ∙ c.requires))
