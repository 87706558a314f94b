use Rattle.std.proofs.Common.{List, refl, ap, subst, ◌∙◌, arith}
use Rattle.std.proofs.lemmas.Result.{err_from_is_err_and}
use Rattle.drive.specs.Journal.{Event, held, next_of}
use Rattle.drive.proofs.Reading.{reads_then}
use Rattle.icb.specs.Entry.{fields_of}
use Rattle.recover.specs.Walk.{HasDescriptors, extent_in}
use Rattle.recover.proofs.Held.{held_at}
use Rattle.recover.proofs.Taken.{no_entry_said, unplaced}
use Rattle.recover.proofs.kept.NodeEntry.read.Goals as goal

pub extent_of-requires-clause-below : goal.extent_of-requires-clause-below
extent_of-requires-clause-below g c =
    let same = ap next_of c.in_ok-read_into.ensures.reads.journal in
    omega (arith, same, c.requires.below)

pub returns-clause-described : goal.returns-clause-described
returns-clause-described g c = λ h.
    let read = c.in_ok-read_into.ensures.reads in
    let f = fields_of c.in-Ok.entry in
    record {
      block = c.read_into.new.block;
      there = held_at _ _ _ c.requires.within (c.in_ok-read_into.ensures.read (c.in_ok-extent.ensures.reads.honest h));
      fields = f;
      is = c.in-Ok.ensures.found;
      kind = refl;
      unique = refl;
      links = refl;
      listed = subst (λ (J : List Event). HasDescriptors (held J) f.size f.place) read.journal (c.in_ok-extent.ensures.listed h);
      extent = c.in_ok-extent.ensures.extent h ∙ ap (λ (J : List Event). extent_in (held J) f.size f.place) read.journal;
    }

pub returns-in-Err-clause-refused : goal.returns-in-Err-clause-refused
returns-in-Err-clause-refused g c = rw c.damaged.ensures (λ h.
    no_entry_said (held (g.D.Drive.journal c.args.drive.now)) c.args.below c.args.place c.read_into.new.block (held_at _ _ _ c.requires.within (c.in_ok-read_into.ensures.read h)) c.in-Err.ensures.only c.number.result)

pub returns-in_err-extent-clause-refused : goal.returns-in_err-extent-clause-refused
returns-in_err-extent-clause-refused g c =
    let q = err_from_is_err_and c.from_residual-in_err-extent.result c.from_residual-in_err-extent.ensures.1 in
    rw (q.1, q.2) (λ h.
    let J : List Event = g.D.Drive.journal c.args.drive.now in
    unplaced (held (g.D.Drive.journal c.read_into.new.drive)) (held J) (ap held c.in_ok-read_into.ensures.reads.journal) c.args.below c.args.place c.read_into.new.block (held_at _ _ _ c.requires.within (c.in_ok-read_into.ensures.read (c.in_err-extent.ensures.reads.honest h))) (fields_of c.in-Ok.entry) c.in-Ok.ensures.found _
    (c.in_err-extent.ensures.refused h))

pub returns-in_err-extent-clause-reads : goal.returns-in_err-extent-clause-reads
returns-in_err-extent-clause-reads g c =
    let q = err_from_is_err_and c.from_residual-in_err-extent.result c.from_residual-in_err-extent.ensures.1 in
    rw (q.1, q.2) (reads_then c.in_ok-read_into.ensures.reads c.in_err-extent.ensures.reads)

pub returns-clause-reads : goal.returns-clause-reads
returns-clause-reads g c = reads_then c.in_ok-read_into.ensures.reads c.in_ok-extent.ensures.reads
