use Rattle.std.proofs.Common.{ℕ, List, length, Option, sym, ap, subst, ◌∙◌, arith}
use Rattle.std.specs.Option.{option_map}
use Rattle.drive.proofs.Once.{once-written}
use Rattle.settling.proofs.Giving.{next_counts}
use Rattle.settling.specs.Gathered.{blocks_of, journal_of}
use Rattle.settling.specs.declared.memory.GatheringDrive.{GatheringDrive}
use Rattle.media.specs.InMemory.{IsUnfit}
use Rattle.media.proofs.memory.take_drive.Goals as goal

pub returns-then-blocks-capacity-clause-fit : goal.returns-then-blocks-capacity-clause-fit
returns-then-blocks-capacity-clause-fit c =
    let blocks : List (List ℕ) = blocks_of c.reopened.result in
    (once-written 0 blocks, omega (arith, next_counts blocks, ap length c.reopened.ensures.blocks, ap length c.blocks-2.ensures, c.if-blocks-capacity.true))

pub returns-clause-refused : goal.returns-clause-refused
returns-clause-refused c =
    let blocks : List (List ℕ) = blocks_of c.in-Some.drive in
    subst (λ (o : Option GatheringDrive). IsUnfit c.args.capacity (option_map journal_of o)) (sym (sym c.take.ensures.value ∙ c.in-Some.is))
    (λ fit. absurd (omega (arith, fit.1, next_counts blocks, ap length c.blocks-2.ensures, c.if-blocks-capacity.false)))
