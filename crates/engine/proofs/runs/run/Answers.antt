use Rattle.std.proofs.Common.{rules, arith, ◌≡◌, ◌++◌, List, subst, take, None}
use Rattle.std.proofs.lemmas.List.{take_all}
use Rattle.std.specs.Option.{option_to_list}
use Rattle.drive.proofs.Reading.{follows_none, follows_then}
use Rattle.engine.specs.declared.runs.Delivery.{Delivery}
use Rattle.engine.specs.Delivered.{AllDelivered}
use Rattle.engine.specs.Situation.{Situation, seen_on, situation_on}
use Rattle.engine.proofs.Delivering.{all_counted, next_delivered}
use Rattle.engine.proofs.Withstanding.{ended_holds, ended_run}
use Rattle.engine.proofs.runs.run.Goals as goal
use Rattle.engine.proofs.runs.run.Goals.{in-Some, in_default}

pub loop-delivery-init : goal.loop-delivery-init
loop-delivery-init g c = record {
  delivered = search rules;
  ready = search rules;
  lent = follows_none _ _;
  room = search rules;
  count = search rules;
}

pub loop-delivery-preserved : goal.loop-delivery-preserved
loop-delivery-preserved g c =
    let inv = c.loop-delivery.invariant in
    elim c.match-deliver.branch [
      | in-Some w ↦
          let more : c.match-deliver.answers.items ≡ c.loop-delivery.answers.items ++ option_to_list c.deliver.result = search rules in
          record {
            delivered = next_delivered c.args.deliveries.now c.loop-delivery.delivery-index c.delivery-item.result c.loop-delivery.answers.items _ _ _ _
                c.deliver.result (omega arith) c.delivery-item.is inv.delivered c.deliver.ensures.delivers more;
            ready = c.deliver.ensures.ready;
            lent = follows_then inv.lent c.deliver.ensures.lent;
            room = search rules;
            count = search rules;
          }
      | in_default w ↦
          let more : c.match-deliver.answers.items ≡ c.loop-delivery.answers.items ++ option_to_list c.deliver.result = search rules in
          record {
            delivered = next_delivered c.args.deliveries.now c.loop-delivery.delivery-index c.delivery-item.result c.loop-delivery.answers.items _ _ _ _
                c.deliver.result (omega arith) c.delivery-item.is inv.delivered c.deliver.ensures.delivers more;
            ready = c.deliver.ensures.ready;
            lent = follows_then inv.lent c.deliver.ensures.lent;
            room = search rules;
            count = search rules;
          }
    ]

pub returns-clause-ok : goal.returns-clause-ok
returns-clause-ok g c =
    let start : Situation = situation_on g.D.Drive None c.args.drive.now in
    let last : Situation = seen_on g.D.Drive c.loop-delivery.engine c.loop-delivery.drive in
    (c.loop-delivery.engine.store, subst (λ (ds : List Delivery). AllDelivered ds start c.loop-delivery.answers.items last) (take_all c.loop-delivery.delivery-index c.args.deliveries.now (omega arith)) c.loop-delivery.invariant.delivered)

pub returns-clause-withstands : goal.returns-clause-withstands
returns-clause-withstands g c volume S honest once stands =
    ended_run volume c.args.deliveries.now c.loop-delivery.delivery-index S _ _ _ _ _ _ c.loop-delivery.engine.store _ (omega arith) once stands honest c.loop-delivery.invariant.delivered

pub returns-clause-holds : goal.returns-clause-holds
returns-clause-holds g c volume S honest once stands =
    let last : Situation = situation_on g.D.Drive None c.loop-delivery.drive in
    ended_holds volume c.args.deliveries.now S _ _ _ _ _ _ last once stands
    (ended_run volume c.args.deliveries.now c.loop-delivery.delivery-index S _ _ _ _ _ _ c.loop-delivery.engine.store last (omega arith) once stands honest c.loop-delivery.invariant.delivered)

pub returns-clause-failures : goal.returns-clause-failures
returns-clause-failures g c = all_counted (take c.loop-delivery.delivery-index c.args.deliveries.now) _ c.loop-delivery.answers.items _ c.loop-delivery.invariant.delivered
