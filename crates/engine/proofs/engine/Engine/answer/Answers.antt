use Rattle.std.proofs.Common.{rules, None, Some, refl, ◌∙◌, inl}
use Rattle.drive.proofs.Reading.{reads_are, reads_follows, reads_then}
use Rattle.engine.specs.Situation.{Situation, situation_on}
use Rattle.engine.proofs.Opening.{not_opened}
use Rattle.engine.proofs.Planned.{planned_from}
use Rattle.engine.proofs.Rows.{request_answered, same_situation, knows_there, request_calls, request_short, query_calls, query_short}
use Rattle.engine.proofs.Withstanding.{unwritten, withstands_from}
use Rattle.engine.proofs.engine.Engine.answer.Goals as goal

pub returns-in-Ok-clause-answered : goal.returns-in-Ok-clause-answered
returns-in-Ok-clause-answered g c =
    let d = g.D.Drive in
    let drive = c.take_open.new.drive in
    let store = c.in-Ok.store in
    let during = situation_on d (Some store) drive in
    request_answered c.args.message c.in-Request.request _ during _ store c.answer_request-answer.result c.in-Request.is
    (record {
      opens = record {
        opened = (refl, c.in-Ok.ensures.open);
        ready = c.in-Ok.ensures.agrees;
        journal = c.in-Ok.ensures.reads.journal;
        writes = c.in-Ok.ensures.reads.writes;
        stays = λ kept o.
            let same = c.in-Ok.ensures.stays kept o.0 o.1 in
            same_situation d.journal d.failures d.capacity d.honest d.writes (Some store) _ drive c.args.drive.now (search rules) same.1;
      };
      capacity = c.in-Ok.ensures.reads.capacity;
      honest = c.in-Ok.ensures.reads.honest;
      failures = c.in-Ok.ensures.reads.failures;
    })
    c.answer_request-answer.ensures.due c.answer_request-answer.ensures.follows c.answer_request-answer.ensures.lent.failures

pub returns-in-Ok-clause-calls : goal.returns-in-Ok-clause-calls
returns-in-Ok-clause-calls g c volume S honest at =
    let d = g.D.Drive in
    let first = c.args.drive.now in
    let drive = c.take_open.new.drive in
    let store = c.in-Ok.store in
    let during : Situation = situation_on d (Some store) drive in
    let opened = c.in-Ok.ensures in
    let known = opened.knows volume S (c.answer_request-answer.ensures.follows.honest honest) at in
    let knows = knows_there (d.capacity first) (d.capacity drive) volume (d.journal first) (d.journal drive) S store opened.reads.capacity opened.reads.journal known in
    request_calls volume S c.args.message c.in-Request.request _ during _ store c.answer_request-answer.result c.in-Request.is (record { journal = opened.reads.journal; capacity = opened.reads.capacity; knows = knows })
    (c.answer_request-answer.ensures.dealt volume S honest knows opened.open)

pub returns-in-Ok-take_open-clause-calls : goal.returns-in-Ok-take_open-clause-calls
returns-in-Ok-take_open-clause-calls g c volume S honest at =
    let d = g.D.Drive in
    let first = c.args.drive.now in
    let drive = c.take_open-in-Query.new.drive in
    let last = c.answer_query-answer.new.drive in
    let store = c.in-Ok-take_open.store in
    let during : Situation = situation_on d (Some store) drive in
    let opened = c.in-Ok-take_open.ensures in
    let read = c.answer_query-answer.ensures in
    let known = opened.knows volume S (read.reads.honest honest) at in
    let knows = knows_there (d.capacity first) (d.capacity drive) volume (d.journal first) (d.journal drive) S store opened.reads.capacity opened.reads.journal known in
    let queried = read.queried volume S honest knows opened.open in
    query_calls volume S c.args.message c.in-Query.query _ during _ store c.answer_query-answer.result c.in-Query.is (record { journal = opened.reads.journal; capacity = opened.reads.capacity; knows = knows })
    (record {
      result = queried.0;
      kept = c.answer_query-answer.new.store;
      store = refl;
      journal = read.reads.journal;
      capacity = read.reads.capacity;
      knows = λ still. knows_there (d.capacity drive) (d.capacity last) volume (d.journal drive) (d.journal last) S c.answer_query-answer.new.store read.reads.capacity read.reads.journal queried.1;
    })

pub returns-in-Request-clause-calls : goal.returns-in-Request-clause-calls
returns-in-Request-clause-calls g c volume S honest at = request_short volume S c.args.message c.in-Request.request _ c.failure.result _ c.in-Request.is (record {
  refusal = c.in-Err.fault;
  shortage = c.in-Err.ensures.short volume S honest at;
  told = c.failure.ensures.failed;
  journal = c.in-Err.ensures.reads.journal;
  capacity = c.in-Err.ensures.reads.capacity;
  store = c.in-Err.ensures.taken;
  closed = λ kept o. not_opened c.in-Err.fault kept (c.in-Err.ensures.stays kept o.0 o.1).0;
})

pub returns-clause-calls : goal.returns-clause-calls
returns-clause-calls g c volume S honest at = query_short volume S c.args.message c.in-Query.query _ c.failure-in-Err-take_open.result _ c.in-Query.is (record {
  refusal = c.in-Err-take_open.fault;
  shortage = c.in-Err-take_open.ensures.short volume S honest at;
  told = c.failure-in-Err-take_open.ensures.failed;
  journal = c.in-Err-take_open.ensures.reads.journal;
  capacity = c.in-Err-take_open.ensures.reads.capacity;
  store = c.in-Err-take_open.ensures.taken;
  closed = λ kept o. not_opened c.in-Err-take_open.fault kept (c.in-Err-take_open.ensures.stays kept o.0 o.1).0;
})

pub returns-in-Ok-clause-nothing : goal.returns-in-Ok-clause-nothing
returns-in-Ok-clause-nothing g c honest holds = absurd (c.in-Ok.ensures.nothing (c.answer_request-answer.ensures.follows.honest honest) holds)

pub returns-in-Ok-take_open-clause-nothing : goal.returns-in-Ok-take_open-clause-nothing
returns-in-Ok-take_open-clause-nothing g c honest holds = absurd (c.in-Ok-take_open.ensures.nothing (c.answer_query-answer.ensures.reads.honest honest) holds)

pub returns-in-Request-clause-nothing : goal.returns-in-Request-clause-nothing
returns-in-Request-clause-nothing g c honest holds = rw c.in-Request.is (c.failure.ensures.fails, c.in-Err.ensures.reads.journal, c.in-Err.ensures.taken)

pub returns-clause-nothing : goal.returns-clause-nothing
returns-clause-nothing g c honest holds = rw c.in-Query.is (c.failure-in-Err-take_open.ensures.fails, c.in-Err-take_open.ensures.reads.journal, c.in-Err-take_open.ensures.taken)

pub returns-in-Ok-clause-lent : goal.returns-in-Ok-clause-lent
returns-in-Ok-clause-lent g c = reads_follows c.in-Ok.ensures.reads c.answer_request-answer.ensures.lent

pub returns-in-Ok-take_open-clause-lent : goal.returns-in-Ok-take_open-clause-lent
returns-in-Ok-take_open-clause-lent g c = reads_are (reads_then c.in-Ok-take_open.ensures.reads c.answer_query-answer.ensures.reads)

pub returns-in-Request-clause-lent : goal.returns-in-Request-clause-lent
returns-in-Request-clause-lent g c = rw c.failure.ensures.device (reads_are c.in-Err.ensures.reads)

pub returns-clause-lent : goal.returns-clause-lent
returns-clause-lent g c = rw c.failure-in-Err-take_open.ensures.device (reads_are c.in-Err-take_open.ensures.reads)

pub returns-in-Ok-clause-withstands : goal.returns-in-Ok-clause-withstands
returns-in-Ok-clause-withstands g c volume S honest at =
    let d = g.D.Drive in
    let first = c.args.drive.now in
    let drive = c.take_open.new.drive in
    let store = c.in-Ok.store in
    let opened = c.in-Ok.ensures in
    let known = opened.knows volume S (c.answer_request-answer.ensures.follows.honest honest) at in
    let knows = knows_there (d.capacity first) (d.capacity drive) volume (d.journal first) (d.journal drive) S store opened.reads.capacity opened.reads.journal known in
    let during : Situation = situation_on d (Some store) drive in
    rw c.in-Request.is (withstands_from volume S _ _ _ during _ opened.reads.journal opened.reads.capacity opened.reads.writes (c.answer_request-answer.ensures.withstands volume S honest knows))

pub returns-in-Ok-take_open-clause-withstands : goal.returns-in-Ok-take_open-clause-withstands
returns-in-Ok-take_open-clause-withstands g c volume S honest at = unwritten volume S _ _ _ _ at.once at.stands (c.answer_query-answer.ensures.reads.journal ∙ c.in-Ok-take_open.ensures.reads.journal)
    (c.answer_query-answer.ensures.reads.writes ∙ c.in-Ok-take_open.ensures.reads.writes)

pub returns-in-Request-clause-withstands : goal.returns-in-Request-clause-withstands
returns-in-Request-clause-withstands g c volume S honest at = unwritten volume S _ _ _ _ at.once at.stands c.in-Err.ensures.reads.journal c.in-Err.ensures.reads.writes

pub returns-clause-withstands : goal.returns-clause-withstands
returns-clause-withstands g c volume S honest at = unwritten volume S _ _ _ _ at.once at.stands c.in-Err-take_open.ensures.reads.journal c.in-Err-take_open.ensures.reads.writes

pub returns-in-Malformed-clause-withstands : goal.returns-in-Malformed-clause-withstands
returns-in-Malformed-clause-withstands g c volume S honest at = unwritten volume S _ _ _ _ at.once at.stands refl refl

pub returns-in-NoMemory-clause-withstands : goal.returns-in-NoMemory-clause-withstands
returns-in-NoMemory-clause-withstands g c volume S honest at = unwritten volume S _ _ _ _ at.once at.stands refl refl

pub returns-in-Ok-clause-planned : goal.returns-in-Ok-clause-planned
returns-in-Ok-clause-planned g c volume S honest at few =
    let d = g.D.Drive in
    let first = c.args.drive.now in
    let drive = c.take_open.new.drive in
    let store = c.in-Ok.store in
    let opened = c.in-Ok.ensures in
    let known = opened.knows volume S (c.answer_request-answer.ensures.follows.honest honest) at in
    let knows = knows_there (d.capacity first) (d.capacity drive) volume (d.journal first) (d.journal drive) S store opened.reads.capacity opened.reads.journal known in
    let during : Situation = situation_on d (Some store) drive in
    let before : Situation = situation_on d None first in
    let afterwards : Situation = situation_on d None c.answer_request-answer.new.drive in
    rw c.in-Request.is (planned_from volume S _ before during afterwards opened.reads.journal opened.reads.capacity (c.answer_request-answer.ensures.planned volume S honest knows few))

pub returns-in-Ok-take_open-clause-planned : goal.returns-in-Ok-take_open-clause-planned
returns-in-Ok-take_open-clause-planned g c volume S honest at few = inl (c.answer_query-answer.ensures.reads.journal ∙ c.in-Ok-take_open.ensures.reads.journal)

pub returns-in-Request-clause-planned : goal.returns-in-Request-clause-planned
returns-in-Request-clause-planned g c volume S honest at few = inl c.in-Err.ensures.reads.journal

pub returns-clause-planned : goal.returns-clause-planned
returns-clause-planned g c volume S honest at few = inl c.in-Err-take_open.ensures.reads.journal

pub returns-in-Malformed-clause-planned : goal.returns-in-Malformed-clause-planned
returns-in-Malformed-clause-planned g c volume S honest at few = inl refl

pub returns-in-NoMemory-clause-planned : goal.returns-in-NoMemory-clause-planned
returns-in-NoMemory-clause-planned g c volume S honest at few = inl refl
