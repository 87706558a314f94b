use Rattle.std.proofs.Common.{rules, List, ℕ, ◌++◌, codes, refl, sym, ap, subst, ◌∙◌}
use Rattle.command_line.specs.declared.command.Storage.{Storage}
use Rattle.command_line.specs.Commands.{NamesStorage}
use Rattle.command_line.proofs.command.read_apply.Goals as goal
use Rattle.command_line.proofs.command.read_apply.Goals.{in-Some+in_ok-read_capacity-in-Some, in-None}

pub returns-clause-found : goal.returns-clause-found
returns-clause-found c =
    let word = c.in_ok-word.word.now in (
      word,
      search rules,
      elim c.match-strip_prefix.branch [
        | in-Some+in_ok-read_capacity-in-Some w ↦
            let strip = w.in-Some.ensures.cases in
            let read = w.in_ok-read_capacity-in-Some.ensures.some in
            subst (λ (m : Storage). NamesStorage word m) (sym w.medium-is)
            (w.in-Some.capacity.now, strip.1.1 ∙ ap (λ (l : List ℕ). codes "mem:" ++ l) (sym strip.2), read.0, read.1)
        | in-None w ↦ subst (λ (m : Storage). NamesStorage word m) (sym w.medium-is) (refl, λ rest e. w.in-None.ensures.cases rest e)
      ],
    )
