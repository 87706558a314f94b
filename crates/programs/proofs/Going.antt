-- A connection whose messages were answered.
use Rattle.std.proofs.Common.{ℕ, List, [], Option, Result, Ok, Err, refl}
use Rattle.std.specs.Prelude.{OnOk, IfErr}
use Rattle.drive.specs.Gathering.{Gathering}
use Rattle.engine.specs.Situation.{Situation}
use Rattle.engine.specs.declared.serving.ServeFault.{ServeFault}
use Rattle.grouping.specs.Streams.{ServesGroups, ServesGroupsUntil}
use Rattle.grouping.proofs.Cutting.{groups_are_lives}
use Rattle.grouping.proofs.Running.{groups_run}
use Rattle.grouping.proofs.Withstanding.{groups_withstand}
use Rattle.programs.specs.Connections.{ServesMessages}

pub goes_none : (s : Situation) (g : Gathering) → ServesMessages s g s g
goes_none s g = record {
  groups = [];
  are = (refl, refl);
  run = groups_run [] s g s g (refl, refl);
  withstand = groups_withstand [] s g s g (refl, refl);
  lives = groups_are_lives [] s g s g (refl, refl);
}

pub goes_served : {T : Type 0} (most : ℕ) (r : Result T ServeFault) (s : Situation) (sg : Gathering) (t : Situation) (tg : Gathering) (i l o w : Option (List ℕ)) → OnOk r (ServesGroups most s sg t tg i l o w)
    → IfErr r (λ fault. ServesGroupsUntil fault s sg t tg i l o w) → ServesMessages s sg t tg
goes_served most (Ok x) s sg t tg i l o w all left = record { groups = all.serving.groups; are = all.serving.are; run = all.run; withstand = all.withstand; lives = all.lives }
goes_served most (Err fault) s sg t tg i l o w all left = record { groups = left.groups; are = left.are; run = left.run; withstand = left.withstand; lives = left.lives }
