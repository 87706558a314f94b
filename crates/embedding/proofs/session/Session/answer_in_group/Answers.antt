use Rattle.std.proofs.Common.{◌≡◌, ℕ, List, Option, inr, refl, subst, ◌∙◌, rules}
use Rattle.request.specs.Frames.{fed}
use Rattle.embedding.specs.Grouped.{TurnsOver, shown}
use Rattle.embedding.proofs.session.Session.answer_in_group.Goals as goal

pub returns-in-Ok-answer_next-clause-ok : goal.returns-in-Ok-answer_next-clause-ok
returns-in-Ok-answer_next-clause-ok c =
    let old = c.args.self.now in let a = c.in-Ok-answer_next.ensures.ok in
    let was_fed : c.feed.new.self ≡ fed old.frames c.args.bytes.now = search rules in
    record {
      turned = c.in-Ok.turned;
      between = shown c.turn_over.new.self;
      turns = subst (λ (r : Option (List ℕ)). TurnsOver c.args.group c.in-Ok.turned (record (shown old) { frames = r }) (shown c.turn_over.new.self)) was_fed c.in-Ok.ensures.ok;
      added = c.in-Ok-answer_next.added;
      answers = a;
      now_open = refl;
    }

pub returns-in-Err-answer_next-clause-err : goal.returns-in-Err-answer_next-clause-err
returns-in-Err-answer_next-clause-err c =
    let old = c.args.self.now in
    let was_fed : c.feed.new.self ≡ fed old.frames c.args.bytes.now = search rules in (
      c.in-Err-answer_next.ensures.group ∙ c.in-Ok.ensures.group ∙ c.requires,
      inr (inr (
        c.in-Ok.turned,
        shown c.turn_over.new.self,
        subst (λ (r : Option (List ℕ)). TurnsOver c.args.group c.in-Ok.turned (record (shown old) { frames = r }) (shown c.turn_over.new.self)) was_fed c.in-Ok.ensures.ok,
        c.in-Err-answer_next.ensures.err,
      )),
    )
