use Rattle.std.proofs.Common.{◌≡◌, ◌++◌, map, take, drop, length}
use Rattle.model.specs.Session.{answered_if}
use Rattle.model.specs.Plain.{reply_in, record_in}
use Rattle.model.proofs.plain.records.answer_all.Given as goal

abbrev pub invariant-loop-i : goal.invariant-loop-i
invariant-loop-i l =
    (length l.records.items ≡ length l.initial.records.items)
    × (map record_in l.records.items ≡ map (answered_if l.client l.number (reply_in l.reply)) (take l.i (map record_in l.initial.records.items)) ++ drop l.i (map record_in l.initial.records.items))
