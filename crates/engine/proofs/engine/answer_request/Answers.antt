use Rattle.std.proofs.Common.{Ok, Err, refl, sym, inl, inr, ◌∙◌}
use Rattle.engine.proofs.Fronts.{after_refused, open_unwritten}
use Rattle.engine.proofs.Next.{is_next}
use Rattle.engine.proofs.Planned.{refused_unwritten}
use Rattle.engine.proofs.Rows.{committed_due, dealt_new}
use Rattle.engine.proofs.Withstanding.{applied_withstands, new_there, unwritten}
use Rattle.engine.proofs.engine.answer_request.Goals as goal

pub apply-requires-clause-next : goal.apply-requires-clause-next
apply-requires-clause-next g c =
    is_next c.args.request.now.client c.args.request.now.number _ c.requires.keeps.fits.distinct (sym c.in-New.ensures)

pub returns-in-Ok-clause-due : goal.returns-in-Ok-clause-due
returns-in-Ok-clause-due g c = committed_due _ _ _ _ c.in-New.ensures (inl (c.in-Ok.reply, refl))

pub returns-in-Ok-clause-dealt : goal.returns-in-Ok-clause-dealt
returns-in-Ok-clause-dealt g c volume S honest knows going = dealt_new _ volume S _ _ _ _ _ c.in-New.ensures (record {
  result = Ok c.in-Ok.reply;
  told = refl;
  kept = c.apply.new.self;
  store = refl;
  applies = c.in-Ok.ensures.applies volume S honest knows going;
  capacity = c.in-Ok.ensures.follows.capacity;
})

pub returns-in-Err : goal.returns-in-Err
returns-in-Err g c = record {
  due = committed_due _ _ _ _ c.in-New.ensures (inr (c.refusal.ensures.may, λ going. (open_unwritten _ _ _ _ _ _ _ c.in-Err.ensures.refused going, c.in-Err.ensures.unwritten going)));
  follows = record {
    ready = c.in-Err.ensures.agrees;
    front = after_refused _ _ _ _ _ _ _ c.in-Err.ensures.refused;
    capacity = c.in-Err.ensures.follows.capacity;
    honest = c.in-Err.ensures.follows.honest;
  };
  dealt = λ volume S honest knows going. dealt_new _ volume S _ _ _ _ _ c.in-New.ensures (record {
    result = Err c.in-Err.fault;
    told = c.refusal.ensures.refused;
    kept = c.apply.new.self;
    store = refl;
    applies = c.in-Err.ensures.applies volume S honest knows going;
    capacity = c.in-Err.ensures.follows.capacity;
  });
  withstands = λ volume S honest knows. rw c.refusal.ensures.device (applied_withstands volume S _ _ _ _ _ refl (new_there _ volume _ S c.args.store.now c.args.request.now.client c.args.request.now.number knows c.in-New.ensures) (c.in-Err.ensures.withstands volume S honest knows));
  planned = λ volume S honest knows few. inl (refused_unwritten _ _ _ _ _ _ _ c.in-Err.ensures.refused (sym c.refusal.ensures.device ∙ few));
  lent = rw c.refusal.ensures.device c.in-Err.ensures.follows;
}

pub returns-in-Ok-clause-withstands : goal.returns-in-Ok-clause-withstands
returns-in-Ok-clause-withstands g c volume S honest knows = applied_withstands volume S _ _ _ _ _ refl (new_there _ volume _ S c.args.store.now c.args.request.now.client c.args.request.now.number knows c.in-New.ensures) (c.in-Ok.ensures.withstands volume S honest knows)

pub returns-in-Repeat-clause-withstands : goal.returns-in-Repeat-clause-withstands
returns-in-Repeat-clause-withstands g c volume S honest knows = unwritten volume S _ _ _ _ knows.once knows.stands refl refl

pub returns-in-Stale-clause-withstands : goal.returns-in-Stale-clause-withstands
returns-in-Stale-clause-withstands g c volume S honest knows = unwritten volume S _ _ _ _ knows.once knows.stands refl refl

pub returns-in-Gap-clause-withstands : goal.returns-in-Gap-clause-withstands
returns-in-Gap-clause-withstands g c volume S honest knows = unwritten volume S _ _ _ _ knows.once knows.stands refl refl

pub returns-in-ClientsFull-clause-withstands : goal.returns-in-ClientsFull-clause-withstands
returns-in-ClientsFull-clause-withstands g c volume S honest knows = unwritten volume S _ _ _ _ knows.once knows.stands refl refl

pub returns-in-Ok-clause-planned : goal.returns-in-Ok-clause-planned
returns-in-Ok-clause-planned g c volume S honest knows few =
    inr (_, refl, new_there _ volume _ S c.args.store.now c.args.request.now.client c.args.request.now.number knows c.in-New.ensures, c.in-Ok.ensures.planned volume S honest knows)

pub returns-in-Repeat-clause-planned : goal.returns-in-Repeat-clause-planned
returns-in-Repeat-clause-planned g c volume S honest knows few = inl refl

pub returns-in-Stale-clause-planned : goal.returns-in-Stale-clause-planned
returns-in-Stale-clause-planned g c volume S honest knows few = inl refl

pub returns-in-Gap-clause-planned : goal.returns-in-Gap-clause-planned
returns-in-Gap-clause-planned g c volume S honest knows few = inl refl

pub returns-in-ClientsFull-clause-planned : goal.returns-in-ClientsFull-clause-planned
returns-in-ClientsFull-clause-planned g c volume S honest knows few = inl refl
