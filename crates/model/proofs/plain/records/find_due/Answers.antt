use Rattle.std.proofs.Common.{ap, ◌∙◌, length, option_map}
use Rattle.model.specs.Session.{due_by}
use Rattle.model.specs.Plain.{record_in}
use Rattle.model.proofs.PlainRecords.{find-records}
use Rattle.model.proofs.plain.records.find_due.Goals as goal

pub returns-in-None : goal.returns-in-None
returns-in-None c = c.due_with_none.ensures ∙ ap (due_by c.args.number (length c.args.records.now)) (ap (option_map record_in) c.in-None.ensures ∙ find-records c.args.client c.args.records.now)

pub returns-in-Some : goal.returns-in-Some
returns-in-Some c = c.due_with.ensures ∙ ap (due_by c.args.number (length c.args.records.now)) (ap (option_map record_in) c.in-Some.ensures ∙ find-records c.args.client c.args.records.now)
