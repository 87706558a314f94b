use Rattle.std.proofs.Common.{◌≡◌, ◌⊎◌, inl, ℕ, ◌+◌, ◌<◌, ◌≤◌, ◌∙◌, List, refl, sym, ap, subst, arith, rules}
use Rattle.std.specs.Prelude.{Err}
use Rattle.std.proofs.lemmas.Bool.{false≢true}
use Rattle.std.proofs.lemmas.Result.{err_from_is_err_and}
use Rattle.drive.proofs.Reading.{reads_follows}
use Rattle.drive.specs.Journal.{Event, Once, held, next_of}
use Rattle.recover.specs.Faults.{IsShortage}
use Rattle.recover.specs.declared.fault.StoreFault.{StoreFault}
use Rattle.recover.specs.declared.fault.StoreFault.TheVariants.{Full}
use Rattle.request.specs.Numbers.{code_number}
use Rattle.request.specs.declared.answer.Reply.{Reply}
use Rattle.vat.specs.Table.{view}
use Rattle.store.specs.declared.store.Store.{Store}
use Rattle.lookup.specs.Cache.{AreKept}
use Rattle.planning.specs.Needs.{change_need}
use Rattle.table_update.specs.NextTable.{begun}
use Rattle.planning.specs.Plan.{IsPlan}
use Rattle.store.specs.Putting.{IsPlanOf, KeepsPlan}
use Rattle.table_update.specs.TableChange.{committed}
use Rattle.store.proofs.Commits.{if_ok, makes_plan, plan_is, writes_plan, has_failed, goes_on, open_is_ok, some_is}
use Rattle.store.proofs.Applying.{applies, full, plans_written, short, unwritten, withstands}
use Rattle.store.proofs.Knowing.{does_at, few, knows_again, nodes, shows, takes}
use Rattle.planning.specs.Last.{IsCounted, IsTakenBy}
use Rattle.store.proofs.store.Store.apply.Goals as goal

pub change-requires : goal.change-requires
change-requires g c = record {
  agrees = record { keeps = c.requires.agrees.keeps; on = c.requires.agrees.on; least = c.requires.agrees.least; most = c.requires.agrees.most; fits = c.requires.agrees.fits };
}

pub plan-requires-clause-agrees : goal.plan-requires-clause-agrees
plan-requires-clause-agrees g c = record {
  keeps = c.requires.agrees.keeps;
  on = omega (arith, ap next_of c.change.ensures.reads.journal, c.requires.agrees.on);
  least = c.requires.agrees.least;
  most = c.requires.agrees.most;
  fits = omega (arith, c.requires.agrees.fits, c.change.ensures.reads.capacity);
}

pub commit-requires-clause-agrees : goal.commit-requires-clause-agrees
commit-requires-clause-agrees g c =
    let same = c.plan.ensures.reads.journal ∙ c.change.ensures.reads.journal in
    record {
      keeps = c.requires.agrees.keeps;
      on = omega (arith, ap next_of same, c.requires.agrees.on);
      least = c.requires.agrees.least;
      most = c.requires.agrees.most;
      fits = omega (arith, c.requires.agrees.fits, c.plan.ensures.reads.capacity, c.change.ensures.reads.capacity);
    }

pub returns-clause-commit : goal.returns-clause-commit
returns-clause-commit g c =
    let plan = c.in_ok-plan.plan in
    let commits = c.args.self.now.vat.sessions.commits in
    if_ok c.commit.result (KeepsPlan plan (g.D.Drive.journal c.plan.new.drive) (g.D.Drive.journal c.commit.new.drive) _ c.commit.new.self) (λ (reply : Reply). reply.commit ≡ commits + 1) (λ reply keeps. ap (λ (r : Reply). r.commit) keeps.reply_is ∙ c.in_ok-plan.ensures.makes.commit) c.commit.ensures.done

pub returns-clause-written : goal.returns-clause-written
returns-clause-written g c =
    let J = g.D.Drive.journal c.args.drive.now in
    let K = g.D.Drive.journal c.plan.new.drive in
    let capacity = g.D.Drive.capacity c.args.drive.now in
    let plan = c.in_ok-plan.plan in
    let is : IsPlan (next_of J) capacity plan = plan_is J (g.D.Drive.journal c.change.new.drive) capacity (g.D.Drive.capacity c.change.new.drive) plan c.change.ensures.reads.journal c.change.ensures.reads.capacity c.in_ok-plan.ensures.plan in
    let change = c.in_ok-change.change in
    let of_moment : c.unwrap-moment.result ≡ c.args.request.now.moment = some_is c.of.result c.unwrap-moment.result c.args.request.now.moment _ (search rules) c.of.ensures in
    let makes : IsPlanOf c.args.self.now c.args.request.now change plan = makes_plan c.args.self.now _ c.args.request.now change plan c.unwrap-moment.result of_moment c.in_ok-plan.ensures.makes refl refl in
    writes_plan c.commit.result K J (g.D.Drive.journal c.commit.new.drive) c.args.self.now c.args.request.now capacity change plan _ c.commit.new.self (c.plan.ensures.reads.journal ∙ c.change.ensures.reads.journal) makes is c.commit.ensures.done

pub returns-then-self-clause-stopped : goal.returns-then-self-clause-stopped
returns-then-self-clause-stopped g c h = (refl, refl, refl)

pub returns-then-self-clause-refused : goal.returns-then-self-clause-refused
returns-then-self-clause-refused g c = inl (record { journal = refl; store_is = refl })

pub returns-in_err-change-clause-refused : goal.returns-in_err-change-clause-refused
returns-in_err-change-clause-refused g c =
    let p = err_from_is_err_and c.from_residual.result c.from_residual.ensures.1 in
    rw p.1 (inl (record { journal = c.change.ensures.reads.journal; store_is = refl }))

pub returns-in_err-plan-clause-refused : goal.returns-in_err-plan-clause-refused
returns-in_err-plan-clause-refused g c =
    let p = err_from_is_err_and c.from_residual-in_err-plan.result c.from_residual-in_err-plan.ensures.1 in
    rw p.1 (inl (record { journal = c.plan.ensures.reads.journal ∙ c.change.ensures.reads.journal; store_is = refl }))

pub returns-clause-refused : goal.returns-clause-refused
returns-clause-refused g c =
    let J = g.D.Drive.journal c.args.drive.now in
    let K = g.D.Drive.journal c.plan.new.drive in
    let capacity = g.D.Drive.capacity c.args.drive.now in
    let plan = c.in_ok-plan.plan in
    let is : IsPlan (next_of J) capacity plan = plan_is J (g.D.Drive.journal c.change.new.drive) capacity (g.D.Drive.capacity c.change.new.drive) plan c.change.ensures.reads.journal c.change.ensures.reads.capacity c.in_ok-plan.ensures.plan in
    let change = c.in_ok-change.change in
    let of_moment : c.unwrap-moment.result ≡ c.args.request.now.moment = some_is c.of.result c.unwrap-moment.result c.args.request.now.moment _ (search rules) c.of.ensures in
    let makes : IsPlanOf c.args.self.now c.args.request.now change plan = makes_plan c.args.self.now _ c.args.request.now change plan c.unwrap-moment.result of_moment c.in_ok-plan.ensures.makes refl refl in
    has_failed c.commit.result K J (g.D.Drive.journal c.commit.new.drive) c.args.self.now c.args.request.now capacity change plan _ c.commit.new.self (c.plan.ensures.reads.journal ∙ c.change.ensures.reads.journal) makes is c.commit.ensures.failed refl refl refl

pub returns-clause-unwritten : goal.returns-clause-unwritten
returns-clause-unwritten g c = open_is_ok c.commit.result _ _ _ _ c.commit.new.self _ c.commit.ensures.failed

pub returns-clause-stopped : goal.returns-clause-stopped
returns-clause-stopped g c h = absurd (false≢true (sym c.if-self.false ∙ h))

pub returns-clause-goes_on : goal.returns-clause-goes_on
returns-clause-goes_on g c = goes_on c.commit.result _ _ _ _ c.commit.new.self c.commit.ensures.done

pub returns-clause-follows : goal.returns-clause-follows
returns-clause-follows g c = reads_follows c.in_ok-change.ensures.reads (reads_follows c.in_ok-plan.ensures.reads c.commit.ensures.follows)

pub returns-then-self-clause-applies : goal.returns-then-self-clause-applies
returns-then-self-clause-applies g c volume S honest knows going = absurd (false≢true (sym going ∙ c.if-self.true))

pub returns-in_err-change-clause-applies : goal.returns-in_err-change-clause-applies
returns-in_err-change-clause-applies g c volume S honest knows going =
    let store = c.args.self.now in
    let r = c.args.request.now in
    let J = g.D.Drive.journal c.args.drive.now in
    let capacity = g.D.Drive.capacity c.args.drive.now in
    let now : Store = record { vat_icb_address = c.args.self.now.vat_icb_address; capacity = c.args.self.now.capacity; vat = c.args.self.now.vat; directories = c.change.new.cache; is_stopped = c.args.self.now.is_stopped; most_held = c.args.self.now.most_held } in
    let p = err_from_is_err_and c.from_residual.result c.from_residual.ensures.1 in
    let going_on = shows capacity volume J S store knows (g.D.Drive.honest c.change.new.drive) honest in
    let shortage : IsShortage p.0 = subst (λ (f : StoreFault). IsShortage f) (sym p.2) (c.in_err-change.ensures.short S.tree going_on) in
    let again = knows_again capacity volume J S store knows (g.D.Drive.journal c.change.new.drive) now c.change.ensures.reads.journal refl refl refl (c.change.ensures.kept honest knows.kept) in
    rw p.1 (short capacity volume J S store knows r p.0 (g.D.Drive.journal c.change.new.drive) now shortage c.change.ensures.reads.journal again)

pub returns-in_err-plan-clause-applies : goal.returns-in_err-plan-clause-applies
returns-in_err-plan-clause-applies g c volume S honest knows going =
    let store = c.args.self.now in
    let r = c.args.request.now in
    let J = g.D.Drive.journal c.args.drive.now in
    let capacity = g.D.Drive.capacity c.args.drive.now in
    let change = c.in_ok-change.change in
    let now : Store = record { vat_icb_address = c.args.self.now.vat_icb_address; capacity = c.args.self.now.capacity; vat = c.args.self.now.vat; directories = c.change.new.cache; is_stopped = c.args.self.now.is_stopped; most_held = c.args.self.now.most_held } in
    let p = err_from_is_err_and c.from_residual-in_err-plan.result c.from_residual-in_err-plan.ensures.1 in
    let after_change = c.plan.ensures.reads.honest honest in
    let of_moment : c.unwrap-moment.result ≡ c.args.request.now.moment = some_is c.of.result c.unwrap-moment.result c.args.request.now.moment _ (search rules) c.of.ensures in
    let going_on = shows capacity volume J S store knows (g.D.Drive.honest c.change.new.drive) after_change in
    let counted : IsCounted _ S.tree = record { count = nodes capacity volume J S store knows; few = few capacity volume J S store knows } in
    let does = does_at capacity volume J S store knows r change c.unwrap-moment.result of_moment (record { is = c.in_ok-change.ensures.does S.tree knows.once going_on counted; keeps = c.in_ok-change.ensures.keeps S.tree knows.once going_on counted }) in
    let taken = subst (λ (m : ℕ). IsTakenBy (held J) m c.in_ok-change.change (committed c.args.self.now.vat_icb_address c.args.request.now.client c.args.request.now.number (code_number c.in_ok-change.change.code) (view c.args.self.now.vat))) (sym of_moment) (takes capacity volume J S store knows r change does) in
    let refused : IsShortage p.0 ⊎ (p.0 ≡ Full) = subst (λ (f : StoreFault). IsShortage f ⊎ (f ≡ Full)) (sym p.2) (c.in_err-plan.ensures.refused (held J) taken) in
    let same = c.plan.ensures.reads.journal ∙ c.change.ensures.reads.journal in
    let again = knows_again capacity volume J S store knows (g.D.Drive.journal c.plan.new.drive) now same refl refl refl (c.change.ensures.kept after_change knows.kept) in
    let over = λ (e : p.0 ≡ Full). subst (λ (L : List Event). c.args.self.now.capacity < next_of L + change_need c.in_ok-change.change (begun c.args.self.now.vat_icb_address c.args.request.now.client c.args.request.now.number (code_number c.in_ok-change.change.code) c.in_ok-change.change.made (view c.args.self.now.vat))) c.change.ensures.reads.journal
    (c.in_err-plan.ensures.full (ap (λ (f : StoreFault). Err f) (sym p.2 ∙ e))) in
    rw p.1 (full capacity volume J S store knows r change does p.0 (g.D.Drive.journal c.plan.new.drive) now refused over same again)

pub returns-clause-applies : goal.returns-clause-applies
returns-clause-applies g c volume S honest knows going =
    let store = c.args.self.now in
    let r = c.args.request.now in
    let J = g.D.Drive.journal c.args.drive.now in
    let K = g.D.Drive.journal c.plan.new.drive in
    let capacity = g.D.Drive.capacity c.args.drive.now in
    let plan = c.in_ok-plan.plan in
    let change = c.in_ok-change.change in
    let after_plan = c.commit.ensures.follows.honest honest in
    let after_change = c.plan.ensures.reads.honest after_plan in
    let of_moment : c.unwrap-moment.result ≡ c.args.request.now.moment = some_is c.of.result c.unwrap-moment.result c.args.request.now.moment _ (search rules) c.of.ensures in
    let going_on = shows capacity volume J S store knows (g.D.Drive.honest c.change.new.drive) after_change in
    let counted : IsCounted _ S.tree = record { count = nodes capacity volume J S store knows; few = few capacity volume J S store knows } in
    let does = does_at capacity volume J S store knows r change c.unwrap-moment.result of_moment (record { is = c.in_ok-change.ensures.does S.tree knows.once going_on counted; keeps = c.in_ok-change.ensures.keeps S.tree knows.once going_on counted }) in
    let is : IsPlan (next_of J) capacity plan = plan_is J (g.D.Drive.journal c.change.new.drive) capacity (g.D.Drive.capacity c.change.new.drive) plan c.change.ensures.reads.journal c.change.ensures.reads.capacity c.in_ok-plan.ensures.plan in
    let makes : IsPlanOf c.args.self.now c.args.request.now change plan = makes_plan c.args.self.now _ c.args.request.now change plan c.unwrap-moment.result of_moment c.in_ok-plan.ensures.makes refl refl in
    let room = subst (λ (L : List Event). next_of L + change_need c.in_ok-change.change (begun c.args.self.now.vat_icb_address c.args.request.now.client c.args.request.now.number (code_number c.in_ok-change.change.code) c.in_ok-change.change.made (view c.args.self.now.vat)) ≤ c.args.self.now.capacity) c.change.ensures.reads.journal c.in_ok-plan.ensures.room in
    let same : K ≡ J = c.plan.ensures.reads.journal ∙ c.change.ensures.reads.journal in
    let once = subst (λ (L : List Event). Once L) (sym same) knows.once in
    let kept = subst (λ (L : List Event). AreKept L c.change.new.cache) (sym same) (c.change.ensures.kept after_change knows.kept) in
    applies capacity volume J S store knows r change does plan makes is room c.commit.result K (g.D.Drive.journal c.commit.new.drive) _ c.commit.new.self same c.commit.ensures.done c.commit.ensures.failed refl (c.commit.ensures.kept once kept)

pub returns-clause-withstands : goal.returns-clause-withstands
returns-clause-withstands g c volume S honest knows =
    let store = c.args.self.now in
    let r = c.args.request.now in
    let J = g.D.Drive.journal c.args.drive.now in
    let capacity = g.D.Drive.capacity c.args.drive.now in
    let plan = c.in_ok-plan.plan in
    let change = c.in_ok-change.change in
    let after_plan = c.commit.ensures.follows.honest honest in
    let after_change = c.plan.ensures.reads.honest after_plan in
    let of_moment : c.unwrap-moment.result ≡ c.args.request.now.moment = some_is c.of.result c.unwrap-moment.result c.args.request.now.moment _ (search rules) c.of.ensures in
    let going_on = shows capacity volume J S store knows (g.D.Drive.honest c.change.new.drive) after_change in
    let counted : IsCounted _ S.tree = record { count = nodes capacity volume J S store knows; few = few capacity volume J S store knows } in
    let does = does_at capacity volume J S store knows r change c.unwrap-moment.result of_moment (record { is = c.in_ok-change.ensures.does S.tree knows.once going_on counted; keeps = c.in_ok-change.ensures.keeps S.tree knows.once going_on counted }) in
    let is : IsPlan (next_of J) capacity plan = plan_is J (g.D.Drive.journal c.change.new.drive) capacity (g.D.Drive.capacity c.change.new.drive) plan c.change.ensures.reads.journal c.change.ensures.reads.capacity c.in_ok-plan.ensures.plan in
    let makes : IsPlanOf c.args.self.now c.args.request.now change plan = makes_plan c.args.self.now _ c.args.request.now change plan c.unwrap-moment.result of_moment c.in_ok-plan.ensures.makes refl refl in
    let room = subst (λ (L : List Event). next_of L + change_need c.in_ok-change.change (begun c.args.self.now.vat_icb_address c.args.request.now.client c.args.request.now.number (code_number c.in_ok-change.change.code) c.in_ok-change.change.made (view c.args.self.now.vat)) ≤ c.args.self.now.capacity) c.change.ensures.reads.journal c.in_ok-plan.ensures.room in
    withstands capacity volume J S store knows r change does plan makes is room {drive = g.D.Drive} c.commit.result c.plan.new.drive c.commit.new.drive (g.D.Drive.writes c.args.drive.now) (c.plan.ensures.reads.writes ∙ c.change.ensures.reads.writes)
    c.commit.ensures.alone (c.plan.ensures.reads.journal ∙ c.change.ensures.reads.journal) _ c.commit.new.self c.commit.ensures.failed

pub returns-then-self-clause-withstands : goal.returns-then-self-clause-withstands
returns-then-self-clause-withstands g c volume S honest knows =
    unwritten (g.D.Drive.capacity c.args.drive.now) volume (g.D.Drive.journal c.args.drive.now) S c.args.self.now knows c.args.request.now (g.D.Drive.writes c.args.drive.now) _ _ _ refl refl

pub returns-in_err-change-clause-withstands : goal.returns-in_err-change-clause-withstands
returns-in_err-change-clause-withstands g c volume S honest knows =
    unwritten (g.D.Drive.capacity c.args.drive.now) volume (g.D.Drive.journal c.args.drive.now) S c.args.self.now knows c.args.request.now (g.D.Drive.writes c.args.drive.now) _ _ _ c.change.ensures.reads.journal c.change.ensures.reads.writes

pub returns-in_err-plan-clause-withstands : goal.returns-in_err-plan-clause-withstands
returns-in_err-plan-clause-withstands g c volume S honest knows =
    unwritten (g.D.Drive.capacity c.args.drive.now) volume (g.D.Drive.journal c.args.drive.now) S c.args.self.now knows c.args.request.now (g.D.Drive.writes c.args.drive.now) _ _ _
    (c.plan.ensures.reads.journal ∙ c.change.ensures.reads.journal) (c.plan.ensures.reads.writes ∙ c.change.ensures.reads.writes)

pub returns-clause-planned : goal.returns-clause-planned
returns-clause-planned g c volume S honest knows =
    let store = c.args.self.now in
    let r = c.args.request.now in
    let J = g.D.Drive.journal c.args.drive.now in
    let capacity = g.D.Drive.capacity c.args.drive.now in
    let plan = c.in_ok-plan.plan in
    let change = c.in_ok-change.change in
    let after_plan = c.commit.ensures.follows.honest honest in
    let after_change = c.plan.ensures.reads.honest after_plan in
    let of_moment : c.unwrap-moment.result ≡ c.args.request.now.moment = some_is c.of.result c.unwrap-moment.result c.args.request.now.moment _ (search rules) c.of.ensures in
    let going_on = shows capacity volume J S store knows (g.D.Drive.honest c.change.new.drive) after_change in
    let counted : IsCounted _ S.tree = record { count = nodes capacity volume J S store knows; few = few capacity volume J S store knows } in
    let does = does_at capacity volume J S store knows r change c.unwrap-moment.result of_moment (record { is = c.in_ok-change.ensures.does S.tree knows.once going_on counted; keeps = c.in_ok-change.ensures.keeps S.tree knows.once going_on counted }) in
    let is : IsPlan (next_of J) capacity plan = plan_is J (g.D.Drive.journal c.change.new.drive) capacity (g.D.Drive.capacity c.change.new.drive) plan c.change.ensures.reads.journal c.change.ensures.reads.capacity c.in_ok-plan.ensures.plan in
    let makes : IsPlanOf c.args.self.now c.args.request.now change plan = makes_plan c.args.self.now _ c.args.request.now change plan c.unwrap-moment.result of_moment c.in_ok-plan.ensures.makes refl refl in
    let room = subst (λ (L : List Event). next_of L + change_need c.in_ok-change.change (begun c.args.self.now.vat_icb_address c.args.request.now.client c.args.request.now.number (code_number c.in_ok-change.change.code) c.in_ok-change.change.made (view c.args.self.now.vat)) ≤ c.args.self.now.capacity) c.change.ensures.reads.journal c.in_ok-plan.ensures.room in
    plans_written capacity volume J S store knows r change does plan makes is room c.commit.result (g.D.Drive.journal c.plan.new.drive) (g.D.Drive.journal c.commit.new.drive) _ c.commit.new.self (c.plan.ensures.reads.journal ∙ c.change.ensures.reads.journal) c.commit.ensures.done

pub returns-in_err-change-clause-planned : goal.returns-in_err-change-clause-planned
returns-in_err-change-clause-planned g c volume S honest knows =
    let p = err_from_is_err_and c.from_residual.result c.from_residual.ensures.1 in
    rw p.1 tt

pub returns-in_err-plan-clause-planned : goal.returns-in_err-plan-clause-planned
returns-in_err-plan-clause-planned g c volume S honest knows =
    let p = err_from_is_err_and c.from_residual-in_err-plan.result c.from_residual-in_err-plan.ensures.1 in
    rw p.1 tt
