use Rattle.programs.proofs.Going.{goes_none}
use Rattle.programs.proofs.Hearing.{ends_none, ends_some, ends_unlimited}
use Rattle.programs.proofs.daemons.serve_one.Goals as goal

pub returns-then-is_err-clause-goes : goal.returns-then-is_err-clause-goes
returns-then-is_err-clause-goes g c = goes_none _ _

pub returns-then-is_err-clause-ends : goal.returns-then-is_err-clause-ends
returns-then-is_err-clause-ends g c blank = ends_unlimited _ _ _ _ _ _ blank c.end.ensures.ended c.end.ensures.given c.end.ensures.missed _ c.new.ensures.failures c.end.ensures.failed

pub returns-in-Some-clause-ends : goal.returns-in-Some-clause-ends
returns-in-Some-clause-ends g c blank =
    ends_some g.L.Output.Write.contents g.L.Input.Read.remaining c.serve_stream-served.result.0 c.serve_stream-served.result.1 c.in-Some.output c.args.input c.new-input.result.stream _ _ _ _ _ _ _ _ c.in-Some.is blank c.serve_stream-served.ensures.goes
    c.serve_stream-served.ensures.all c.serve_stream-served.ensures.front c.end-in-Some.ensures.ended c.end-in-Some.ensures.given c.end-in-Some.ensures.missed
    c.new-input.ensures.stream _ _ c.new-input.ensures.failures c.serve_stream-served.ensures.failures c.end-in-Some.ensures.failed

pub returns-in-None-clause-ends : goal.returns-in-None-clause-ends
returns-in-None-clause-ends g c blank =
    ends_none c.serve_stream-served.result.0 c.serve_stream-served.result.1 _ _ _ _ _ _ _ c.in-None.is blank c.serve_stream-served.ensures.goes c.serve_stream-served.ensures.let_go
