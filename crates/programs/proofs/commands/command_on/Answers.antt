use Rattle.std.proofs.Common.{IsTrue, ap, subst, sym}
use Rattle.media.specs.Held.{Same}
use Rattle.programs.specs.FaultLines.{said_on}
use Rattle.programs.specs.Images.{images_on}
use Rattle.programs.specs.Inputs.{input_on}
use Rattle.programs.proofs.Ending.{ends_after, unchanged}
use Rattle.programs.proofs.commands.command_on.Goals.{in-Some, in-None}
use Rattle.programs.proofs.commands.command_on.Goals as goal

pub returns-clause-unchanged : goal.returns-clause-unchanged
returns-clause-unchanged g c asked asks reading honest = elim c.match-read_command.branch [
  | in-Some w ↦ subst (λ m. Same (g.M.Media.held c.args.media.now) (g.M.Media.held m)) (sym w.media-is)
      (unchanged w.carry_out-outcome.result _ w.in-Some.asked asked (images_on g.M.Media c.args.media.now) (images_on g.M.Media w.carry_out-outcome.new.media) _ _ _ _
      w.in-Some.ensures.found w.carry_out-outcome.ensures.does asks reading (subst (λ m. IsTrue (g.M.Media.honest m)) w.media-is honest))
  | in-None w ↦ λ path. ap (λ m. g.M.Media.held m path) w.media-is
]

pub returns-clause-does : goal.returns-clause-does
returns-clause-does g c asked asks = elim c.match-read_command.branch [
  | in-Some w ↦
      let done = w.carry_out-outcome in
      ends_after (λ m. images_on g.M.Media m) (λ i. input_on g.I.Read i) g.O.Write.contents done.result c.match-read_command.outcome _ w.in-Some.asked asked _
      (images_on g.M.Media c.args.media.now) c.match-read_command.media done.new.media (input_on g.I.Read c.args.input.now) c.match-read_command.input done.new.input
      (g.O.Write.contents c.args.output.now) c.match-read_command.output done.new.output (said_on g.E.Write c.args.errors.now) (said_on g.E.Write c.report.new.errors)
      w.outcome-is w.media-is w.input-is w.output-is c.report.ensures.status c.report.ensures.describes w.in-Some.ensures.found done.ensures.does done.ensures.failures asks
  | in-None w ↦ absurd (w.in-None.ensures.only asked asks)
]
