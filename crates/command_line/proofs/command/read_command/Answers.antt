use Rattle.std.proofs.Common.{rules, map}
use Rattle.command_line.proofs.Commands.{format_found, format_only, apply_found, apply_only}
use Rattle.command_line.proofs.command.read_command.Goals as goal

pub returns-in-format-default-clause-found : goal.returns-in-format-default-clause-found
returns-in-format-default-clause-found c =
    format_found _ (map (λ w. w.now) c.in_ok-name.rest.now) _ (search rules) c.read_format.ensures.found

pub returns-in-format-default-clause-only : goal.returns-in-format-default-clause-only
returns-in-format-default-clause-only c =
    format_only _ (map (λ w. w.now) c.in_ok-name.rest.now) _ (search rules) c.read_format.ensures.only

pub returns-in-apply-default-clause-found : goal.returns-in-apply-default-clause-found
returns-in-apply-default-clause-found c =
    apply_found _ (map (λ w. w.now) c.in_ok-name.rest.now) _ (search rules) c.read_apply.ensures.found

pub returns-in-apply-default-clause-only : goal.returns-in-apply-default-clause-only
returns-in-apply-default-clause-only c =
    apply_only _ (map (λ w. w.now) c.in_ok-name.rest.now) _ (search rules) c.read_apply.ensures.only
