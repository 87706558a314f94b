use Rattle.std.proofs.Common.{Bool, refl, sym, subst}
use Rattle.embedding.specs.declared.medium.Medium.TheVariants.{Image, InOrder}
use Rattle.embedding.specs.Opens.{IsOn}
use Rattle.embedding.proofs.medium.medium_under.Goals as goal

pub returns-then-is_in_order-clause-lies : goal.returns-then-is_in_order-clause-lies
returns-then-is_in_order-clause-lies c =
    let file = c.in-Ok.file in
    (c.in-Ok.ensures.image.0, file, c.in-Ok.ensures.image.1, c.in-Ok.ensures.capacity, subst (λ (b : Bool). IsOn b file (InOrder file)) (sym c.if-is_in_order.true) refl)

pub returns-in-Ok-over-clause-lies : goal.returns-in-Ok-over-clause-lies
returns-in-Ok-over-clause-lies c =
    let file = c.in-Ok.file in
    let drive = c.in-Ok-over.drive in
    let over = c.in-Ok-over.ensures in (
      c.in-Ok.ensures.image.0,
      file,
      c.in-Ok.ensures.image.1,
      c.in-Ok.ensures.capacity,
      subst (λ (b : Bool). IsOn b file (Image drive)) (sym c.if-is_in_order.false)
          (drive, record { counts = over.journal; size = over.capacity; writes = over.writes; failures = over.failures; misreads = over.misreads; gathering = over.gathering }, refl),
    )
