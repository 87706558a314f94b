use Rattle.std.proofs.Common.{ℕ, ◌++◌, List, drop, sym, ap, subst, ◌∙◌}
use Rattle.drive.specs.Journal.{Event}
use Rattle.settling.specs.Calls.{GivesFront}
use Rattle.settling.specs.Gathered.{blocks_of, phases_of}
use Rattle.settling.specs.Given.{blocks_in}
use Rattle.settling.proofs.Giving.{gives_both, gives_first, gives_second, phases_are}
use Rattle.settling.proofs.memory.GatheringDrive.give.Goals as goal

pub returns-then-not-sync-clause-begun : goal.returns-then-not-sync-clause-begun
returns-then-not-sync-clause-begun c =
    let are = phases_are c.args.from c.args.marks.now (blocks_of c.args.self.now) _ (blocks_in c.in-Ok.first) (blocks_in c.in-Ok-marks.second) c.requires (c.split_at.ensures.back ∙ ap (λ (bs : List (List ℕ)). drop c.args.from bs) c.deref.ensures.value) c.in-Ok.ensures c.in-Ok-marks.ensures in
    subst (λ (P : List (List Event)). GivesFront P (phases_of c.args.self.now) (phases_of c.sync.new.self)) (sym are) (gives_first _ _ _ _ c.sync.ensures.begun)

pub returns-clause-given : goal.returns-clause-given
returns-clause-given c = λ worked.
    let are = phases_are c.args.from c.args.marks.now (blocks_of c.args.self.now) _ (blocks_in c.in-Ok.first) (blocks_in c.in-Ok-marks.second) c.requires (c.split_at.ensures.back ∙ ap (λ (bs : List (List ℕ)). drop c.args.from bs) c.deref.ensures.value) c.in-Ok.ensures c.in-Ok-marks.ensures in
    gives_both _ _ _ _ _ (c.sync.ensures.given c.if-not-sync.false) (c.sync-2.ensures.given worked) ∙ ap (λ (P : List (List Event)). phases_of c.args.self.now ++ P) (sym are)

pub returns-clause-begun : goal.returns-clause-begun
returns-clause-begun c =
    let are = phases_are c.args.from c.args.marks.now (blocks_of c.args.self.now) _ (blocks_in c.in-Ok.first) (blocks_in c.in-Ok-marks.second) c.requires (c.split_at.ensures.back ∙ ap (λ (bs : List (List ℕ)). drop c.args.from bs) c.deref.ensures.value) c.in-Ok.ensures c.in-Ok-marks.ensures in
    subst (λ (P : List (List Event)). GivesFront P (phases_of c.args.self.now) (phases_of c.sync-2.new.self)) (sym are) (gives_second _ _ _ _ _ (c.sync.ensures.given c.if-not-sync.false) c.sync-2.ensures.begun)
