use Rattle.std.proofs.Common.{[], map, arith}
use Rattle.std.proofs.lemmas.List.{get_or-map}
use Rattle.std.proofs.lemmas.Option.{none-some}
use Rattle.command_line.proofs.Commands.{no_format}
use Rattle.command_line.proofs.command.read_format.Goals as goal

pub returns-in_err-read_capacity-in-len4-clause-only :
    goal.returns-in_err-read_capacity-in-len4-clause-only
returns-in_err-read_capacity-in-len4-clause-only c =
    no_format (map (λ w. w.now) c.args.words.now) _ _
    (get_or-map (λ w. w.now) c.args.words.now 3 _ [] (omega (arith, c.in-len4.len_at_least)))
    (λ n says good. none-some n (c.in_err-read_capacity-in-len4.ensures.only n says good))
