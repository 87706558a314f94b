use Rattle.std.proofs.Common.{◌≡◌, Bool, ◌++◌, ◌≤◌, ◌∙◌, List, true, false, refl, sym, subst, ap, arith}
use Rattle.std.specs.Prelude.{is_err, All}
use Rattle.std.specs.Vec.Iter.{into_iter_items}
use Rattle.drive.specs.Reads.{ReadsAndWrites, one_if}
use Rattle.drive.specs.Sending.{SendsAlone}
use Rattle.drive.proofs.Reading.{writes_follow}
use Rattle.drive.specs.Journal.{next_of, written, AddsPrefix}
use Rattle.planning.specs.Plan.{node_list, placed_of, plan_blocks, table_data}
use Rattle.vat.specs.declared.table.Vat.{Vat}
use Rattle.planning.specs.Last.{HasTableBelow}
use Rattle.lookup.specs.Cache.{LiesThere}
use Rattle.lookup.specs.declared.nodes.Placed.{Placed}
use Rattle.planning.specs.declared.layout.PlacedDirectory.{PlacedDirectory}
use Rattle.planning.specs.declared.layout.PlacedTable.{PlacedTable}
use Rattle.store.proofs.Keeping.{kept_front, kept_longer, plan_lies}
use Rattle.planning.proofs.Names.{all_next}
use Rattle.planning.proofs.Plans.{plan_ends}
use Rattle.planning.proofs.Puttings.{on_err, on_ok, front_ends, writes_ends}
use Rattle.store.proofs.store.Store.commit.Goals as goal

pub returns-then-is_err-clause-follows : goal.returns-then-is_err-clause-follows
returns-then-is_err-clause-follows g c =
    let failed : is_err c.write-written.result ≡ true = sym c.is_err.ensures.value ∙ c.if-is_err.true in
    subst (λ (b : Bool). ReadsAndWrites g.D.Drive (one_if b) c.args.drive.now c.write-written.new.drive) failed (writes_follow c.write-written.ensures.writes)

pub returns-clause-follows : goal.returns-clause-follows
returns-clause-follows g c =
    let done : is_err c.write-written.result ≡ false = sym c.is_err.ensures.value ∙ c.if-is_err.false in
    subst (λ (b : Bool). ReadsAndWrites g.D.Drive (one_if b) c.args.drive.now c.write-written.new.drive) done (writes_follow c.write-written.ensures.writes)

pub returns-then-is_err-clause-agrees : goal.returns-then-is_err-clause-agrees
returns-then-is_err-clause-agrees g c =
    let J = g.D.Drive.journal c.args.drive.now in
    let J' = g.D.Drive.journal c.write-written.new.drive in
    let failed : is_err c.write-written.result ≡ true = sym c.is_err.ensures.value ∙ c.if-is_err.true in
    let front = on_err c.write-written.result (AddsPrefix J (next_of J) (plan_blocks c.args.plan) J') failed c.write-written.ensures.err in
    let more : next_of J ≤ next_of J' = front_ends (next_of J) J J' (plan_blocks c.args.plan) (omega arith) front in
    record {
      keeps = c.requires.agrees.keeps;
      on = omega (arith, more, c.requires.agrees.on);
      least = c.requires.agrees.least;
      most = c.requires.agrees.most;
      fits = omega (arith, c.requires.agrees.fits, c.write-written.ensures.writes.capacity);
    }

pub returns-then-is_err-clause-failed : goal.returns-then-is_err-clause-failed
returns-then-is_err-clause-failed g c =
    let J = g.D.Drive.journal c.args.drive.now in
    let J' = g.D.Drive.journal c.write-written.new.drive in
    let failed : is_err c.write-written.result ≡ true = sym c.is_err.ensures.value ∙ c.if-is_err.true in
    record {
      device = refl;
      front = on_err c.write-written.result (AddsPrefix J (next_of J) (plan_blocks c.args.plan) J') failed c.write-written.ensures.err;
      at = refl;
      vat = refl;
      volume = refl;
      stopped = refl;
    }

pub returns-clause-agrees : goal.returns-clause-agrees
returns-clause-agrees g c =
    let J = g.D.Drive.journal c.args.drive.now in
    let J' = g.D.Drive.journal c.write-written.new.drive in
    let done : is_err c.write-written.result ≡ false = sym c.is_err.ensures.value ∙ c.if-is_err.false in
    let all = on_ok c.write-written.result (J' ≡ J ++ written (next_of J) (plan_blocks c.args.plan)) done c.write-written.ensures.ok in
    let at : c.loop-placed.self.vat_icb_address ≡ c.args.plan.table.at = c.loop-placed.invariant.at ∙ ap (λ (t : PlacedTable). t.at) c.write-written.ensures.same.table in
    let vat : c.loop-placed.self.vat ≡ c.args.plan.table.vat = c.loop-placed.invariant.vat ∙ ap (λ (t : PlacedTable). t.vat) c.write-written.ensures.same.table in
    let ends = writes_ends (next_of J) J J' (plan_blocks c.args.plan) (omega arith) all in
    record {
      keeps = subst (λ n. HasTableBelow n c.loop-placed.self.vat) (sym at) (subst (λ (v : Vat). HasTableBelow c.args.plan.table.at v) (sym vat) c.requires.plan.keeps);
      on = omega (arith, at, ends, plan_ends (next_of J) (g.D.Drive.capacity c.args.drive.now) c.args.plan c.requires.plan);
      least = omega (arith, c.loop-placed.invariant.capacity, c.requires.agrees.least);
      most = omega (arith, c.loop-placed.invariant.capacity, c.requires.agrees.most);
      fits = omega (arith, c.loop-placed.invariant.capacity, c.requires.agrees.fits, c.write-written.ensures.writes.capacity);
    }

pub returns-clause-done : goal.returns-clause-done
returns-clause-done g c =
    let J = g.D.Drive.journal c.args.drive.now in
    let J' = g.D.Drive.journal c.write-written.new.drive in
    let done : is_err c.write-written.result ≡ false = sym c.is_err.ensures.value ∙ c.if-is_err.false in
    record {
      reply_is = c.write-written.ensures.same.reply;
      journal = on_ok c.write-written.result (J' ≡ J ++ written (next_of J) (plan_blocks c.args.plan)) done c.write-written.ensures.ok;
      at = c.loop-placed.invariant.at ∙ ap (λ (t : PlacedTable). t.at) c.write-written.ensures.same.table;
      vat = c.loop-placed.invariant.vat ∙ ap (λ (t : PlacedTable). t.vat) c.write-written.ensures.same.table;
      volume = c.loop-placed.invariant.capacity;
      going = c.loop-placed.invariant.stopped;
    }

pub returns-then-is_err-clause-kept : goal.returns-then-is_err-clause-kept
returns-then-is_err-clause-kept g c once kept =
    let J = g.D.Drive.journal c.args.drive.now in
    let J' = g.D.Drive.journal c.write-written.new.drive in
    let failed : is_err c.write-written.result ≡ true = sym c.is_err.ensures.value ∙ c.if-is_err.true in
    let front = on_err c.write-written.result (AddsPrefix J (next_of J) (plan_blocks c.args.plan) J') failed c.write-written.ensures.err in
    kept_front J J' (plan_blocks c.args.plan) c.args.self.now.directories front once kept

pub loop-placed-init : goal.loop-placed-init
loop-placed-init g c = record {
  at = refl;
  capacity = refl;
  vat = refl;
  stopped = refl;
  kept = λ journal lie kept.
      let same : c.args.plan.directories.items ≡ into_iter_items c.into_iter-placed-iterator.result = sym (c.into_iter-placed-iterator.ensures.into_iter_gives.0 ∙ c.write-written.ensures.same.directories) in
      (subst (λ (ps : List PlacedDirectory). All (λ (p : PlacedDirectory). LiesThere journal (placed_of p) p.directory.content) ps) same lie, kept);
}

pub loop-placed-preserved : goal.loop-placed-preserved
loop-placed-preserved g c = record {
  at = c.loop-placed.invariant.at;
  capacity = c.loop-placed.invariant.capacity;
  vat = c.loop-placed.invariant.vat;
  stopped = c.loop-placed.invariant.stopped;
  kept = λ journal lie kept.
      let before = c.loop-placed.invariant.kept journal lie kept in
      let next = all_next (λ (p : PlacedDirectory). LiesThere journal (placed_of p) p.directory.content) (into_iter_items c.loop-placed.placed-iterator) (into_iter_items c.next.new.self) c.in-Some.placed c.in-Some.ensures.steps.0 before.0 in
      (next.1, c.keep.ensures journal (subst (λ (p : Placed). LiesThere journal p c.in-Some.placed.directory.content) (sym c.placed-lies.ensures) next.0) before.1);
}

pub returns-clause-kept : goal.returns-clause-kept
returns-clause-kept g c once kept =
    let J = g.D.Drive.journal c.args.drive.now in
    let J' = g.D.Drive.journal c.write-written.new.drive in
    let done : is_err c.write-written.result ≡ false = sym c.is_err.ensures.value ∙ c.if-is_err.false in
    let all = on_ok c.write-written.result (J' ≡ J ++ written (next_of J) (plan_blocks c.args.plan)) done c.write-written.ensures.ok in
    let longer = kept_longer J J' (plan_blocks c.args.plan) once all c.args.self.now.directories kept in
    (c.loop-placed.invariant.kept J' (plan_lies J J' once (g.D.Drive.capacity c.args.drive.now) c.args.plan c.requires.plan all) longer).1

pub returns-then-is_err-clause-alone : goal.returns-then-is_err-clause-alone
returns-then-is_err-clause-alone g c =
    let failed : is_err c.write-written.result ≡ true = sym c.is_err.ensures.value ∙ c.if-is_err.true in
    subst (λ (b : Bool). SendsAlone g.D.Drive (next_of (g.D.Drive.journal c.args.drive.now)) (node_list c.args.plan ++ table_data c.args.plan.table) c.args.plan.table.entry b c.args.drive.now c.write-written.new.drive) failed c.write-written.ensures.alone

pub returns-clause-alone : goal.returns-clause-alone
returns-clause-alone g c =
    let done : is_err c.write-written.result ≡ false = sym c.is_err.ensures.value ∙ c.if-is_err.false in
    subst (λ (b : Bool). SendsAlone g.D.Drive (next_of (g.D.Drive.journal c.args.drive.now)) (node_list c.args.plan ++ table_data c.args.plan.table) c.args.plan.table.entry b c.args.drive.now c.write-written.new.drive) done c.write-written.ensures.alone
