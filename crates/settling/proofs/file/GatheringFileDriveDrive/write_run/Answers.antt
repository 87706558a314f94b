use Rattle.std.proofs.Common.{◌++◌, ◌+◌, List, ℕ, Bool, length, refl, sym, ap, subst, ◌∙◌, arith, append-nil}
use Rattle.drive.specs.Journal.{Event, written}
use Rattle.drive.specs.Note.{longer}
use Rattle.drive.specs.Writes.{SplitsRun}
use Rattle.drive.proofs.Fronts.{written_after}
use Rattle.drive.proofs.Running.{longer_last, runs_whole, runs_cut}
use Rattle.settling.specs.GatheringFile.{gathers_of, journal_of, writes_of}
use Rattle.settling.proofs.Giving.{counts_write}
use Rattle.settling.proofs.file.GatheringFileDriveDrive.write_run.Goals as goal

pub returns-then-is_err-clause-one : goal.returns-then-is_err-clause-one
returns-then-is_err-clause-one c =
    c.note_waiting.ensures.writes ∙ c.note-2.ensures.1 ∙ ap (λ (ws : List (List (List ℕ))). longer ws c.args.second.now) c.note.ensures.1 ∙ longer_last (writes_of c.args.self.now) c.args.first.now c.args.second.now

pub returns-then-is_err-clause-runs : goal.returns-then-is_err-clause-runs
returns-then-is_err-clause-runs c =
    subst (λ (failed : Bool). SplitsRun c.args.at (c.args.first.now ++ c.args.second.now) failed (journal_of c.args.self.now) (writes_of c.args.self.now) c.note_waiting.new.notes.journal c.note_waiting.new.notes.writes) (sym c.fail.ensures.err)
    (runs_cut (c.args.first.now ++ c.args.second.now) (0, omega arith, c.note_waiting.ensures.journal ∙ c.note-2.ensures.0 ∙ c.note.ensures.0 ∙ sym (append-nil (journal_of c.args.self.now))) (returns-then-is_err-clause-one c))

pub returns-clause-ok : goal.returns-clause-ok
returns-clause-ok c =
    let J = journal_of c.args.self.now in
    let first = c.note_written.ensures.journal ∙ ap (λ (K : List Event). K ++ written c.args.at c.args.first.now) (c.note_waiting.ensures.journal ∙ c.note-2.ensures.0 ∙ c.note.ensures.0) in
    written_after J c.note_written.new.notes.journal c.note_written-2.new.notes.journal c.args.at (c.args.at + length c.args.first.now) c.args.first.now c.args.second.now first refl c.note_written-2.ensures.journal

pub returns-clause-one : goal.returns-clause-one
returns-clause-one c =
    c.note_written-2.ensures.writes ∙ c.note_written.ensures.writes ∙ c.note_waiting.ensures.writes ∙ c.note-2.ensures.1 ∙ ap (λ (ws : List (List (List ℕ))). longer ws c.args.second.now) c.note.ensures.1 ∙ longer_last (writes_of c.args.self.now) c.args.first.now c.args.second.now

pub returns-clause-runs : goal.returns-clause-runs
returns-clause-runs c = runs_whole (c.args.first.now ++ c.args.second.now) (returns-clause-ok c) (returns-clause-one c)

pub returns-then-is_err-clause-gathering : goal.returns-then-is_err-clause-gathering
returns-then-is_err-clause-gathering c = record {
  gathers = c.write.ensures.gathers;
  phases = c.note_waiting.ensures.phases ∙ c.note-2.ensures.3 ∙ c.note.ensures.3;
  waited = counts_write (gathers_of c.args.self.now) _ _ _ _ _ (omega (arith, c.note_waiting.ensures.waited, c.note-2.ensures.4, c.note.ensures.4)) (returns-then-is_err-clause-one c);
}

pub returns-clause-gathering : goal.returns-clause-gathering
returns-clause-gathering c = record {
  gathers = c.write.ensures.gathers;
  phases = c.note_written-2.ensures.phases ∙ c.note_written.ensures.phases ∙ c.note_waiting.ensures.phases ∙ c.note-2.ensures.3 ∙ c.note.ensures.3;
  waited = counts_write (gathers_of c.args.self.now) _ _ _ _ _ (omega (arith, c.note_written-2.ensures.waited, c.note_written.ensures.waited, c.note_waiting.ensures.waited, c.note-2.ensures.4, c.note.ensures.4)) (returns-clause-one c);
}
