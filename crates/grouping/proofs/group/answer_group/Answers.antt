use Rattle.std.proofs.Common.{◌≡◌, ℕ, List, inl, inr, sym, subst, ◌∙◌, arith, length}
use Rattle.std.proofs.lemmas.Result.{on_ok_weaker, on_err_weaker}
use Rattle.engine.specs.Situation.{Situation, IsReady, situation_on}
use Rattle.grouping.specs.Groups.{IsSettled}
use Rattle.grouping.proofs.Ending.{alone_told, alone_untold, settled_told, settled_untold, front_is, counted_grows, counted_none}
use Rattle.grouping.proofs.Going.{ok_of, err_of, untouched_shows}
use Rattle.settling.proofs.Giving.{gives_first}
use Rattle.grouping.proofs.Settled.{adds_on, again_told, again_untold, follows_settles, is_alone, is_alone_here, is_back, is_settled, nothing_back, rest_follows, same_shown, settles_then, untouched_follows}
use Rattle.grouping.proofs.group.answer_group.Goals as goal

pub answer_held-requires : goal.answer_held-requires
answer_held-requires g c =
    let d = c.args.drive.now in
    let e = c.take_back.new.self in
    let journal = nothing_back (g.D.Drive.journal d) (g.D.Drive.journal e) c.count-from.result (g.met.D.Settles.once d) c.count-from.ensures c.take_back.ensures.journal in
    subst (λ (s : Situation). IsReady s) (sym (same_shown g.D.Drive c.args.engine.now.store d e journal c.take_back.ensures.failures c.take_back.ensures.rest)) c.requires

pub returns-in_default : goal.returns-in_default
returns-in_default g c =
    let d = c.args.drive.now in
    let e = c.take_back.new.self in
    let store = c.args.engine.now.store in
    let once = g.met.D.Settles.once d in
    let journal = nothing_back (g.D.Drive.journal d) (g.D.Drive.journal e) c.count-from.result once c.count-from.ensures c.take_back.ensures.journal in
    let shows = same_shown g.D.Drive store d e journal c.take_back.ensures.failures c.take_back.ensures.rest in
    let alone = is_alone_here g.D.Drive store d e c.answer_held.new.drive c.count-from.result once c.count-from.ensures c.take_back.ensures.rest c.take_back.ensures.ended c.answer_held.ensures.lent.gathering in
    record {
      ok = alone_told _ _ _ _ _ _ _ _ c.answer_held.result (situation_on g.D.Drive store e) (inl shows) alone c.answer_held.ensures.ok c.answer_held.ensures.idle;
      err = alone_untold _ _ _ _ _ _ _ _ c.answer_held.result (situation_on g.D.Drive store e) (inl shows) alone c.answer_held.ensures.err;
      ready = c.answer_held.ensures.ready;
      lent = settles_then (rest_follows d e c.take_back.ensures.rest (λ few. omega (arith, c.take_back.ensures.failures))) (follows_settles c.answer_held.ensures.lent);
    }

pub gather-gathered-requires : goal.gather-gathered-requires
gather-gathered-requires g c = record {
  ready = subst (λ (s : Situation). IsReady s) (untouched_shows g.D.Drive c.args.engine.now.store c.args.drive.now c.gather.new.self c.gather.ensures.untouched) c.requires;
  none = c.new-marks.ensures.items;
}

pub returns-in_default-gathered : goal.returns-in_default-gathered
returns-in_default-gathered g c =
    let a = c.args.drive.now in
    let b = c.gather.new.self in
    let m = c.gather-gathered.new.drive in
    let e = c.take_back-in_default-gathered.new.self in
    let store = c.args.engine.now.store in
    let once = g.met.D.Settles.once a in
    let gathered = c.gather-gathered.ensures in
    let taken = c.take_back-in_default-gathered.ensures in
    let long : c.len-told.result ≡ length c.args.answers.now.items = omega (arith, c.len-told.ensures) in
    let front = front_is c.gather-gathered.new.answers.items c.args.answers.now.items gathered.held.0 c.len-told.result gathered.held.1 long in
    let back = is_back g.D.Drive store c.gather-gathered.new.engine.store a b m e c.count-from.result once c.count-from.ensures c.gather.ensures.untouched gathered.follows gathered.lent taken.journal (λ few. omega (arith, taken.failures)) taken.rest in
    let goes = adds_on g.D.Drive store c.gather-gathered.new.engine.store a b m c.gather.ensures.untouched gathered.follows in
    let alone = is_alone g.D.Drive store a b m e c.answer_again.new.drive c.count-from.result _ goes.0 once c.count-from.ensures c.gather.ensures.untouched c.gather.ensures.begun gathered.lent.gathering goes.1 taken.rest (gives_first _ _ _ _ taken.ended.given) taken.ended.gathers taken.ended.waited c.answer_again.ensures.lent.gathering in
    record {
      ok = alone_told _ _ _ _ _ _ _ _ c.answer_again.result _ (inr back) alone (on_ok_weaker c.answer_again.result (again_told _ _ _ _ _ _ _ _ _ c.in-Ok.ensures front) c.answer_again.ensures.ok) c.answer_again.ensures.idle;
      err = alone_untold _ _ _ _ _ _ _ _ c.answer_again.result _ (inr back) alone (on_err_weaker c.answer_again.result (again_untold _ _ _ _ _ _ _ _ _ c.in-Ok.ensures front) c.answer_again.ensures.err);
      ready = c.answer_again.ensures.ready;
      lent = settles_then (untouched_follows a b c.gather.ensures.untouched) (settles_then (follows_settles gathered.lent) (settles_then (rest_follows m e taken.rest (λ few. omega (arith, taken.failures))) (follows_settles c.answer_again.ensures.lent)));
    }

pub returns-then-is_err : goal.returns-then-is_err
returns-then-is_err g c =
    let a = c.args.drive.now in
    let b = c.gather.new.self in
    let m = c.gather-gathered.new.drive in
    let e = c.settle.new.self in
    let store = c.args.engine.now.store in
    let once = g.met.D.Settles.once a in
    let gathered = c.gather-gathered.ensures in
    let failed = c.settle.ensures in
    let long : c.len-told.result ≡ length c.args.answers.now.items = omega (arith, c.len-told.ensures) in
    let front = front_is c.gather-gathered.new.answers.items c.args.answers.now.items gathered.held.0 c.len-told.result gathered.held.1 long in
    let cut = err_of c.settle.result _ (sym c.is_err.ensures.value ∙ c.if-is_err.true) failed.err in
    let back = is_back g.D.Drive store c.gather-gathered.new.engine.store a b m e c.count-from.result once c.count-from.ensures c.gather.ensures.untouched gathered.follows gathered.lent cut (counted_grows _ _ _ failed.failures) failed.rest in
    let goes = adds_on g.D.Drive store c.gather-gathered.new.engine.store a b m c.gather.ensures.untouched gathered.follows in
    let alone = is_alone g.D.Drive store a b m e c.answer_again-then-is_err.new.drive c.count-from.result _ goes.0 once c.count-from.ensures c.gather.ensures.untouched c.gather.ensures.begun gathered.lent.gathering goes.1 failed.rest failed.ended.given failed.ended.gathers failed.ended.waited c.answer_again-then-is_err.ensures.lent.gathering in
    record {
      ok = alone_told _ _ _ _ _ _ _ _ c.answer_again-then-is_err.result _ (inr back) alone (on_ok_weaker c.answer_again-then-is_err.result (again_told _ _ _ _ _ _ _ _ _ c.in-Ok.ensures front) c.answer_again-then-is_err.ensures.ok) c.answer_again-then-is_err.ensures.idle;
      err = alone_untold _ _ _ _ _ _ _ _ c.answer_again-then-is_err.result _ (inr back) alone (on_err_weaker c.answer_again-then-is_err.result (again_untold _ _ _ _ _ _ _ _ _ c.in-Ok.ensures front) c.answer_again-then-is_err.ensures.err);
      ready = c.answer_again-then-is_err.ensures.ready;
      lent = settles_then (untouched_follows a b c.gather.ensures.untouched) (settles_then (follows_settles gathered.lent) (settles_then (rest_follows m e failed.rest (counted_grows _ _ _ failed.failures)) (follows_settles c.answer_again-then-is_err.ensures.lent)));
    }

pub returns : goal.returns
returns g c =
    let a = c.args.drive.now in
    let b = c.gather.new.self in
    let m = c.gather-gathered.new.drive in
    let e = c.settle.new.self in
    let marks = c.gather-gathered.new.marks.items in
    let worked = sym c.is_err.ensures.value ∙ c.if-is_err.false in
    let gathered = c.gather-gathered.ensures in
    let ends = c.settle.ensures in
    let same = ok_of c.settle.result _ worked ends.ok in
    let shows = sym (same_shown g.D.Drive c.gather-gathered.new.engine.store m e same (counted_none _ _ _ worked ends.failures) ends.rest) in
    let given = is_settled g.D.Drive c.args.engine.now.store c.gather-gathered.new.engine.store a b m e c.count-from.result c.deref-2.result.now (g.met.D.Settles.once a) c.count-from.ensures
    c.gather.ensures.untouched c.gather.ensures.begun gathered.lent.gathering same ends.rest ends.ended (ok_of c.settle.result _ worked ends.given) in
    let settled = subst (λ (l : List ℕ). IsSettled l (situation_on g.D.Drive c.args.engine.now.store a) (situation_on g.D.Drive c.gather-gathered.new.engine.store e) (g.D.Drive.gathering a) (g.D.Drive.gathering e)) c.deref-2.ensures.value given in
    let began = sym (untouched_shows g.D.Drive c.args.engine.now.store a b c.gather.ensures.untouched) in
    record {
      ok = settled_told _ _ _ _ _ _ _ _ c.in-Some.outcome _ _ marks began shows settled c.in-Some.ensures.gathers;
      err = settled_untold _ _ _ _ _ _ _ _ c.in-Some.outcome _ _ marks began shows settled c.in-Some.ensures.gathers;
      ready = subst (λ (s : Situation). IsReady s) shows gathered.follows.ready;
      lent = settles_then (untouched_follows a b c.gather.ensures.untouched) (settles_then (follows_settles gathered.lent) (rest_follows m e ends.rest (counted_grows _ _ _ ends.failures)));
    }
