use Rattle.std.proofs.Common.{ℕ, List, Option, take, subst, ◌∙◌, arith}
use Rattle.std.proofs.lemmas.Result.{err_from_is_err_and}
use Rattle.drive.specs.Journal.{Event, held}
use Rattle.durability.specs.Volume.{graph_of}
use Rattle.udf.specs.Udf.{udf}
use Rattle.recover.specs.Refused.{IsVisitRefused}
use Rattle.recover.specs.Walk.{Visits}
use Rattle.recover.proofs.States.{counts_agree, has_tree, tree_refused}
use Rattle.recover.proofs.state.check_tree.Goals.{then-files-vat-via-then-files-vat, then-files-vat-via-else-files-vat+then-directories-vat, then-not-has_room-via-then-not-has_room, then-not-has_room-via-else-not-has_room+then-from-commits}
use Rattle.recover.proofs.state.check_tree.Goals as goal

pub returns-clause-tree : goal.returns-clause-tree
returns-clause-tree g c = λ h.
    let J : List Event = g.D.Drive.journal c.args.drive.now in
    let visits =
    subst (λ (es : List (Option ℕ)). Visits (graph_of udf (take c.args.at (held J)) es) c.new-walk.result c.visit.new.self c.root.result) (c.new-walk.ensures.entries ∙ c.deref.ensures.value)
    (subst (λ (n : ℕ). Visits (graph_of udf (take n (held J)) c.new-walk.result.entries.now) c.new-walk.result c.visit.new.self c.root.result) c.new-walk.ensures.at (c.in_ok-visit.ensures.visits h)) in
    has_tree (take c.args.at (held J)) c.args.vat.now c.new-walk.result c.visit.new.self c.root.result c.new-walk.ensures.reached c.new-walk.ensures.uniques
    c.root.ensures.kind c.root.ensures.address c.root.ensures.unique c.root.ensures.above c.root.ensures.depth c.new-walk.ensures.next_unique visits
    c.requires.next c.requires.few c.new-walk.ensures.files c.new-walk.ensures.directories c.if-files-vat.false c.if-directories-vat.false

pub returns-in_err-visit-clause-refused : goal.returns-in_err-visit-clause-refused
returns-in_err-visit-clause-refused g c =
    let J : List Event = g.D.Drive.journal c.args.drive.now in
    let q = err_from_is_err_and c.from_residual.result c.from_residual.ensures.1 in
    rw (q.1, q.2) (λ h.
    let refused =
    subst (λ (es : List (Option ℕ)). IsVisitRefused (graph_of udf (take c.args.at (held J)) es) c.new-walk.result c.root.result c.in_err-visit.field-0.0) (c.new-walk.ensures.entries ∙ c.deref.ensures.value)
    (subst (λ (n : ℕ). IsVisitRefused (graph_of udf (take n (held J)) c.new-walk.result.entries.now) c.new-walk.result c.root.result c.in_err-visit.field-0.0) c.new-walk.ensures.at (c.in_err-visit.ensures.refused h)) in
    tree_refused (take c.args.at (held J)) c.args.at c.args.vat.now c.new-walk.result c.root.result c.new-walk.ensures.reached c.new-walk.ensures.uniques
    c.root.ensures.kind c.root.ensures.address c.root.ensures.unique c.root.ensures.above c.root.ensures.depth c.new-walk.ensures.next_unique _ refused)

pub returns-then-files-vat-clause-refused : goal.returns-then-files-vat-clause-refused
returns-then-files-vat-clause-refused g c = rw c.damaged.ensures (λ h has commits unique.
    let J : List Event = g.D.Drive.journal c.args.drive.now in
    let visits =
    subst (λ (es : List (Option ℕ)). Visits (graph_of udf (take c.args.at (held J)) es) c.new-walk.result c.visit.new.self c.root.result) (c.new-walk.ensures.entries ∙ c.deref.ensures.value)
    (subst (λ (n : ℕ). Visits (graph_of udf (take n (held J)) c.new-walk.result.entries.now) c.new-walk.result c.visit.new.self c.root.result) c.new-walk.ensures.at (c.in_ok-visit.ensures.visits h)) in
    let same =
    counts_agree (take c.args.at (held J)) c.args.vat.now c.new-walk.result c.visit.new.self c.root.result c.new-walk.ensures.reached c.new-walk.ensures.uniques
    c.root.ensures.kind c.root.ensures.address c.root.ensures.unique c.root.ensures.above c.root.ensures.depth c.new-walk.ensures.next_unique visits
    c.requires.few c.new-walk.ensures.files c.new-walk.ensures.directories has in
    elim c.then-files-vat.branch [ then-files-vat-via-then-files-vat w ↦ w.if-files-vat.true same.0 | then-files-vat-via-else-files-vat+then-directories-vat w ↦ w.if-directories-vat.true same.1 ])

pub returns-then-not-has_room-clause-refused : goal.returns-then-not-has_room-clause-refused
returns-then-not-has_room-clause-refused g c = rw c.damaged-then-not-has_room.ensures (λ h has commits unique.
    let first = c.from-commits.ensures in
    let last = c.from.ensures in
    elim c.then-not-has_room.branch [
      | then-not-has_room-via-then-not-has_room w ↦ let none = w.if-not-has_room.true in omega (arith, none, first, last, commits)
      | then-not-has_room-via-else-not-has_room+then-from-commits w ↦ let many = w.if-from-commits.true in let next = w.from-else-not-has_room.ensures in omega (arith, many, next, first, unique)
    ])
