use Rattle.std.proofs.Common.{◌≡◌, drop}
use Rattle.std.specs.Prelude.{map}
use Rattle.model.specs.Session.{record_of}
use Rattle.udf.specs.Said.{model_record}
use Rattle.store.proofs.store.Store.due.Given as goal

-- the client's record is no earlier one
abbrev pub invariant-loop-kept : goal.invariant-loop-kept
invariant-loop-kept l = record_of l.client (map model_record (drop l.kept-index l.records.items)) ≡ record_of l.client (map model_record l.records.items)
