use Rattle.std.proofs.Common.{◌≡◌, ◌<◌, IsTrue, ◌∙◌, ℕ, inl, inr, sym, subst, ap, arith}
use Rattle.std.specs.Prelude.{None, Ok, Err, OnOk, Result, ◌⊎◌}
use Rattle.std.proofs.lemmas.Result.{IfErr-weaker, IfOk-weaker, err_from_is_err_and}
use Rattle.drive.specs.Journal.{next_of}
use Rattle.drive.specs.Reads.{ReadsOnly}
use Rattle.request.specs.Numbers.{code_number}
use Rattle.recover.specs.declared.fault.StoreFault.{StoreFault}
use Rattle.recover.specs.declared.fault.StoreFault.TheVariants.{Full, Memory}
use Rattle.recover.specs.Faults.{IsShortage}
use Rattle.vat.specs.Table.{Table, view}
use Rattle.planning.specs.Entered.{IsPlanAfter, IsPlanOf}
use Rattle.planning.specs.Last.{IsTakenWith, table_committed}
use Rattle.planning.specs.Needs.{change_need}
use Rattle.planning.specs.Plan.{IsPlan, plan_written}
use Rattle.planning.specs.declared.plan.Plan.{Plan}
use Rattle.table_update.specs.NextTable.{all_placed, without_gone}
use Rattle.table_update.specs.TableChange.{committed}
use Rattle.planning.proofs.Plans.{planned_on}
use Rattle.planning.proofs.Taking.{made_free, taken_after}
use Rattle.planning.proofs.plan.LastTable.plan.Goals as goal

pub place-requires-clause-agrees : goal.place-requires-clause-agrees
place-requires-clause-agrees g c = record {
  keeps = c.requires.agrees.keeps;
  on = subst (λ (n : ℕ). c.args.self.now.vat_icb_address < n) (sym c.in-Ok.ensures.next) c.requires.agrees.on;
  least = c.requires.agrees.least;
  most = c.requires.agrees.most;
  fits = omega (arith);
}

pub returns-in_err-vat-clause-refused : goal.returns-in_err-vat-clause-refused
returns-in_err-vat-clause-refused g c medium takes =
    let p = err_from_is_err_and c.from_residual.result c.from_residual.ensures.1 in
    rw p.1 (inl (inr (p.2 ∙ c.in_err-vat.ensures.free (made_free medium c.args.change.made c.args.moment c.args.change (committed c.args.self.now.vat_icb_address c.args.request.now.client c.args.request.now.number (code_number c.args.change.code) (view c.args.self.now.vat.now)) takes))))

pub returns-clause-plan : goal.returns-clause-plan
returns-clause-plan g c = IfOk-weaker c.place.result (IsPlan c.in-Ok.next c.args.self.now.capacity) (IsPlan (next_of (g.D.Drive.journal c.args.drive.now)) (g.D.Drive.capacity c.args.drive.now)) plan c.place.ensures.plan
  where
    plan : (p : Plan) → IsPlan c.in-Ok.next c.args.self.now.capacity p → IsPlan (next_of (g.D.Drive.journal c.args.drive.now)) (g.D.Drive.capacity c.args.drive.now) p
    plan p h = planned_on c.requires.agrees.fits (subst (λ (n : ℕ). IsPlan n c.args.self.now.capacity p) c.in-Ok.ensures.next h)

pub returns-clause-makes : goal.returns-clause-makes
returns-clause-makes g c = IfOk-weaker c.place.result (IsPlanOf c.args.change c.args.moment c.in_ok-vat.vat) (IsPlanAfter c.args.self.now c.args.request.now c.args.change c.args.moment) makes c.place.ensures.makes
  where
    makes : (p : Plan) → IsPlanOf c.args.change c.args.moment c.in_ok-vat.vat p → IsPlanAfter c.args.self.now c.args.request.now c.args.change c.args.moment p
    makes p h = record {
      code = h.code;
      commit = h.commit ∙ c.in_ok-vat.ensures.begins.begun_is.commits;
      moment_is = h.moment_is;
      writings = h.writings;
      kept = h.kept;
      table = h.table ∙ ap (λ (t : Table). without_gone c.args.change.removed (all_placed (plan_written p) t)) c.in_ok-vat.ensures.begins.table;
    }

pub returns-clause-room : goal.returns-clause-room
returns-clause-room g c =
    let same = ap (λ (t : Table). change_need c.args.change t) c.in_ok-vat.ensures.begins.table in
    if_so c.place.result (omega (arith, same, c.need.ensures.value, c.saturating_add.ensures, c.from.ensures, c.from-2.ensures, c.if-saturating_add-from.false, c.in-Ok.ensures.next, c.requires.agrees.most))
  where
    if_so : {T E P : Type 0} (r : Result T E) → P → OnOk r P
    if_so (Ok x) p = p
    if_so (Err y) p = tt

pub returns-clause-refused : goal.returns-clause-refused
returns-clause-refused g c medium takes =
    IfErr-weaker c.place.result (λ (fault : StoreFault). fault ≡ Memory) (λ (fault : StoreFault). IsShortage fault ⊎ (fault ≡ Full)) (λ fault memory. inl (inr memory))
    (c.place.ensures.refused medium (subst (IsTakenWith medium None c.args.moment c.args.change) (sym c.in_ok-vat.ensures.begins.table) (taken_after medium c.args.change.made c.args.moment c.args.change (table_committed c.args.self.now c.args.request.now c.args.change) takes)))

pub returns-clause-reads : goal.returns-clause-reads
returns-clause-reads g c =
    let reads : ReadsOnly g.D.Drive 0 c.args.drive.now c.next.new.self = record {
      journal = c.next.ensures.journal;
      writes = c.next.ensures.writes;
      capacity = c.next.ensures.capacity;
      failures = λ few. omega (arith, c.in-Ok.ensures.failures);
      misreads = omega (arith, c.next.ensures.misreads);
      honest = subst IsTrue c.next.ensures.honest;
      stays = λ same. subst IsTrue (sym c.next.ensures.honest);
      gathering = c.next.ensures.gathering;
    } in
    subst (λ (n : ℕ). ReadsOnly g.D.Drive n c.args.drive.now c.next.new.self) (sym c.place.ensures.apart.device) reads
