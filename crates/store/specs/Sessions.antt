-- What is due for a client, in the model's words.
use Rattle.std.specs.Prelude.{◌≤◌}
use Rattle.request.specs.declared.answer.Reply as told
use Rattle.request.specs.Numbers.{code_number}
use Rattle.vat.specs.declared.record.Reply as table
use Rattle.model.specs.Session.{Reply}
use Rattle.model.specs.Session as model
use Rattle.store.specs.declared.due.Due.{Due}
use Rattle.store.specs.declared.due.Due.TheVariants as due

-- a reply as a client gets it
abbrev pub reply_said : told.Reply → Reply
reply_said reply = record { code = code_number reply.code; commit = reply.commit }

-- one of the eleven codes
abbrev pub is_code : table.Reply → Type 0
is_code reply = reply.code ≤ 10

abbrev pub due_said : Due → model.Due
due_said (due.Repeat reply) = model.Due.Repeat (reply_said reply)
due_said (due.Stale latest) = model.Due.Stale latest
due_said (due.Gap latest) = model.Due.Gap latest
due_said due.ClientsFull = model.Due.ClientsFull
due_said due.New = model.Due.New
