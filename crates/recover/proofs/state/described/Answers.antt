use Rattle.std.proofs.Common.{◌≡◌, ◌-◌, ◌<◌, ◌≤◌, List, length, take, refl, sym, subst, ◌∙◌, arith}
use Rattle.std.proofs.lemmas.Result.{err_from_is_err_and}
use Rattle.limits.specs.declared.TheConstants.{PARTITION_START}
use Rattle.drive.proofs.Reading.{reads_then}
use Rattle.drive.specs.Journal.{Event, held}
use Rattle.vat.specs.Table.{IsTableAt, view}
use Rattle.recover.specs.ReadCache.{IsKnown}
use Rattle.recover.specs.State.{HasFileSet}
use Rattle.recover.specs.Tables.{IsEntryAt, table_data_of}
use Rattle.recover.proofs.Held.{length-held}
use Rattle.recover.proofs.Refusals.{entry_refused, front_refused, no_table, other_label, set_refused, too_large}
use Rattle.recover.proofs.States.{same_label}
use Rattle.recover.proofs.state.described.Goals as goal

pub returns-in_err-front-clause-refused : goal.returns-in_err-front-clause-refused
returns-in_err-front-clause-refused g c =
    let q = err_from_is_err_and c.from_residual.result c.from_residual.ensures.1 in
    let J : List Event = g.D.Drive.journal c.args.drive.now in
    let long : c.args.at < length (held J) = omega (arith, length-held J, c.requires.within) in
    rw (q.1, q.2) (λ h. front_refused (held J) c.args.at c.requires.low long (g.D.Drive.capacity c.args.drive.now) _ (c.in_err-front.ensures.refused h))

pub returns-then-front-capacity-clause-refused : goal.returns-then-front-capacity-clause-refused
returns-then-front-capacity-clause-refused g c = rw c.damaged.ensures (λ h.
    let J : List Event = g.D.Drive.journal c.args.drive.now in
    let long : c.args.at < length (held J) = omega (arith, length-held J, c.requires.within) in
    let front = c.in_ok-front.ensures.front h in
    let large : g.D.Drive.capacity c.args.drive.now < c.in_ok-front.front.capacity = omega (arith, c.if-front-capacity.true, c.capacity.ensures, c.front.ensures.reads.capacity) in
    too_large (held J) c.args.at c.requires.low long c.in_ok-front.front.label c.in_ok-front.front.moment c.in_ok-front.front.capacity (g.D.Drive.capacity c.args.drive.now) front large)

pub returns-in_err-entry-clause-refused : goal.returns-in_err-entry-clause-refused
returns-in_err-entry-clause-refused g c =
    let q = err_from_is_err_and c.from_residual-in_err-entry.result c.from_residual-in_err-entry.ensures.1 in
    let J : List Event = g.D.Drive.journal c.args.drive.now in
    let long : c.args.at < length (held J) = omega (arith, length-held J, c.requires.within) in
    rw (q.1, q.2) (λ h. entry_refused (held J) c.args.at c.requires.low long (g.D.Drive.capacity c.args.drive.now) _ (rw c.front.ensures.reads.journal at (c.in_err-entry.ensures.refused h)))

pub returns-in_err-vat-clause-refused : goal.returns-in_err-vat-clause-refused
returns-in_err-vat-clause-refused g c =
    let q = err_from_is_err_and c.from_residual-in_err-vat.result c.from_residual-in_err-vat.ensures.1 in
    let J : List Event = g.D.Drive.journal c.args.drive.now in
    let long : c.args.at < length (held J) = omega (arith, length-held J, c.requires.within) in
    let one = c.front.ensures.reads.journal in
    let two = c.table_entry.ensures.reads.journal ∙ one in
    rw (q.1, q.2) (λ h.
    let entry = subst (λ (K : List Event). IsEntryAt (held K) c.args.at c.in_ok-entry.entry) one (c.in_ok-entry.ensures.found (c.read_table.ensures.reads.honest h)) in
    no_table (held J) c.args.at c.requires.low long (g.D.Drive.capacity c.args.drive.now) c.in_ok-entry.entry entry _ (rw two at (c.in_err-vat.ensures.refused h)))

pub returns-then-ne-clause-refused : goal.returns-then-ne-clause-refused
returns-then-ne-clause-refused g c = rw c.damaged-then-ne.ensures (λ h.
    let J : List Event = g.D.Drive.journal c.args.drive.now in
    let long : c.args.at < length (held J) = omega (arith, length-held J, c.requires.within) in
    let after_entry = c.read_table.ensures.reads.honest h in
    let after_front = c.table_entry.ensures.reads.honest after_entry in
    let one = c.front.ensures.reads.journal in
    let two = c.table_entry.ensures.reads.journal ∙ one in
    let front = c.in_ok-front.ensures.front after_front in
    let entry = subst (λ (K : List Event). IsEntryAt (held K) c.args.at c.in_ok-entry.entry) one (c.in_ok-entry.ensures.found after_entry) in
    let read = c.in_ok-vat.ensures.table in
    let same = subst (λ (K : List Event). read.0 ≡ table_data_of (held K) c.in_ok-entry.entry) two (read.1 h) in
    other_label (held J) c.args.at c.requires.low long c.in_ok-entry.entry entry c.in_ok-vat.vat (subst (IsTableAt (c.args.at - PARTITION_START) (view c.in_ok-vat.vat)) same read.2)
    c.in_ok-front.front.label c.in_ok-front.front.moment c.in_ok-front.front.capacity front (g.D.Drive.capacity c.args.drive.now) _ c.ne.ensures c.if-ne.true)

pub returns-in_err-check_file_set-clause-refused : goal.returns-in_err-check_file_set-clause-refused
returns-in_err-check_file_set-clause-refused g c =
    let q = err_from_is_err_and c.from_residual-in_err-check_file_set.result c.from_residual-in_err-check_file_set.ensures.1 in
    rw (q.1, q.2) (λ h.
    let J : List Event = g.D.Drive.journal c.args.drive.now in
    let long : c.args.at < length (held J) = omega (arith, length-held J, c.requires.within) in
    let after_table = c.check_file_set.ensures.reads.honest h in
    let after_entry = c.read_table.ensures.reads.honest after_table in
    let after_front = c.table_entry.ensures.reads.honest after_entry in
    let one = c.front.ensures.reads.journal in
    let two = c.table_entry.ensures.reads.journal ∙ one in
    let three = c.read_table.ensures.reads.journal ∙ two in
    let front = c.in_ok-front.ensures.front after_front in
    let entry = subst (λ (K : List Event). IsEntryAt (held K) c.args.at c.in_ok-entry.entry) one (c.in_ok-entry.ensures.found after_entry) in
    let read = c.in_ok-vat.ensures.table in
    let same = subst (λ (K : List Event). read.0 ≡ table_data_of (held K) c.in_ok-entry.entry) two (read.1 after_table) in
    set_refused (held J) c.args.at c.requires.low long c.in_ok-entry.entry entry c.in_ok-vat.vat (subst (IsTableAt (c.args.at - PARTITION_START) (view c.in_ok-vat.vat)) same read.2)
    c.in_ok-front.front.label c.in_ok-front.front.moment c.in_ok-front.front.capacity front (g.D.Drive.capacity c.args.drive.now) _ (rw three at (c.in_err-check_file_set.ensures.refused h)))

pub returns-clause-described : goal.returns-clause-described
returns-clause-described g c = λ h.
    let J : List Event = g.D.Drive.journal c.args.drive.now in
    let after_table = c.check_file_set.ensures.reads.honest h in
    let after_entry = c.read_table.ensures.reads.honest after_table in
    let after_front = c.table_entry.ensures.reads.honest after_entry in
    let one = c.front.ensures.reads.journal in
    let two = c.table_entry.ensures.reads.journal ∙ one in
    let three = c.read_table.ensures.reads.journal ∙ two in
    let front = c.in_ok-front.ensures.front after_front in
    let entry = subst (λ (K : List Event). IsEntryAt (held K) c.args.at c.in_ok-entry.entry) one (c.in_ok-entry.ensures.found after_entry) in
    let read = c.in_ok-vat.ensures.table in
    let same = subst (λ (K : List Event). read.0 ≡ table_data_of (held K) c.in_ok-entry.entry) two (read.1 after_table) in
    let fits : c.in_ok-front.front.capacity ≤ g.D.Drive.capacity c.args.drive.now = omega (arith, c.if-front-capacity.false, c.capacity.ensures, c.front.ensures.reads.capacity) in
    record {
      entry = c.in_ok-entry.entry;
      is_entry = entry;
      below = c.in_ok-entry.ensures.below;
      table = subst (IsTableAt (c.args.at - PARTITION_START) (view c.in_ok-vat.vat)) same read.2;
      moment = refl;
      label = same_label c.in_ok-vat.vat.label c.in_ok-front.front.label _ c.ne.ensures c.if-ne.false;
      formatted = c.in_ok-front.front.moment;
      front = front;
      fits = fits;
      set = subst (λ (K : List Event). HasFileSet (take c.args.at (held K)) c.in_ok-vat.vat.entries.items c.in_ok-front.front.label c.in_ok-front.front.moment) three (c.in_ok-check_file_set.ensures.set h);
    }

pub returns-clause-reads : goal.returns-clause-reads
returns-clause-reads g c =
    let before = reads_then c.in_ok-front.ensures.reads (reads_then c.in_ok-entry.ensures.reads c.in_ok-vat.ensures.reads) in
    record {
      reads = reads_then before c.in_ok-check_file_set.ensures.reads;
      known = λ h.
          let after_front = c.table_entry.ensures.reads.honest (c.read_table.ensures.reads.honest (c.check_file_set.ensures.reads.honest h)) in
          let same = c.check_file_set.ensures.reads.journal ∙ (c.read_table.ensures.reads.journal ∙ c.table_entry.ensures.reads.journal) in
          subst (λ (K : List Event). IsKnown (held K) c.front.new.self) (sym same) (c.front.ensures.known after_front);
    }

pub returns-in_err-check_file_set-clause-reads : goal.returns-in_err-check_file_set-clause-reads
returns-in_err-check_file_set-clause-reads g c =
    let q = err_from_is_err_and c.from_residual-in_err-check_file_set.result c.from_residual-in_err-check_file_set.ensures.1 in
    let before = reads_then c.in_ok-front.ensures.reads (reads_then c.in_ok-entry.ensures.reads c.in_ok-vat.ensures.reads) in
    rw (q.1, q.2) (record {
      reads = reads_then before c.in_err-check_file_set.ensures.reads;
      known = λ h.
          let after_front = c.table_entry.ensures.reads.honest (c.read_table.ensures.reads.honest (c.check_file_set.ensures.reads.honest h)) in
          let same = c.check_file_set.ensures.reads.journal ∙ (c.read_table.ensures.reads.journal ∙ c.table_entry.ensures.reads.journal) in
          subst (λ (K : List Event). IsKnown (held K) c.front.new.self) (sym same) (c.front.ensures.known after_front);
    })

pub returns-then-ne-clause-reads : goal.returns-then-ne-clause-reads
returns-then-ne-clause-reads g c = rw c.damaged-then-ne.ensures (record {
  reads = reads_then c.in_ok-front.ensures.reads (reads_then c.in_ok-entry.ensures.reads c.in_ok-vat.ensures.reads);
  known = λ h.
      let after_front = c.table_entry.ensures.reads.honest (c.read_table.ensures.reads.honest h) in
      let same = c.read_table.ensures.reads.journal ∙ c.table_entry.ensures.reads.journal in
      subst (λ (K : List Event). IsKnown (held K) c.front.new.self) (sym same) (c.front.ensures.known after_front);
})
