use Rattle.std.proofs.Common.{◌∙◌, ◌+◌, sym, ap, refl, ℕ, nat_lt, arith}
use Rattle.lookup.specs.Lookups.{IsDirectoryAt, graph_seen}
use Rattle.lookup.proofs.Heights.{there_at, alone_at}
use Rattle.lookup.proofs.Looking.{refused_by}
use Rattle.planning.proofs.Deepness.{deep_shorter, deep_itself, deep_height, deep_alone}
use Rattle.planning.proofs.before.StateBefore.is_too_deep.Goals as goal

pub returns-then-names_after-names_before-clause-deep : goal.returns-then-names_after-names_before-clause-deep
returns-then-names_after-names_before-clause-deep g c tree from to seen before after =
    sym (deep_shorter tree from to seen.0.tree (omega (arith, c.if-names_after-names_before.true, before, after)))

pub returns-then-names_after-gt-PATH_NAMES-clause-deep : goal.returns-then-names_after-gt-PATH_NAMES-clause-deep
returns-then-names_after-gt-PATH_NAMES-clause-deep g c tree from to seen before after =
    let a = c.args.self.now.lookup in
    let has = there_at a.nodes.vat_icb_address a.nodes.numbers.now (g.D.Drive.journal a.drive.now) tree seen.0.tree seen.0.makes from c.args.node seen.1 in
    sym (deep_itself tree from to has (omega (arith, c.if-names_after-gt-PATH_NAMES.true, after)))

pub returns-then-not-is_directory-clause-deep : goal.returns-then-not-is_directory-clause-deep
returns-then-not-is_directory-clause-deep g c tree from to seen before after =
    let a = c.args.self.now.lookup in
    let file = sym c.is_directory.ensures ∙ c.if-not-is_directory.true in
    let alone = alone_at a.nodes.vat_icb_address a.nodes.numbers.now (g.D.Drive.journal a.drive.now) tree seen.0.tree seen.0.makes from c.args.node 17 seen.1 file in
    sym (deep_alone tree from to (omega (arith, c.if-names_after-gt-PATH_NAMES.false, after)) alone)

pub returns-in_err-height-clause-short : goal.returns-in_err-height-clause-short
returns-in_err-height-clause-short g c tree from seen =
    let directory : IsDirectoryAt (graph_seen g.D.Drive c.args.self.now.lookup) from c.args.node.address = record { node = c.args.node; there = seen.1; directory = sym c.is_directory.ensures ∙ c.if-not-is_directory.false; address_is = refl } in
    refused_by c.from_residual.result _ _ c.from_residual.ensures.1 (c.in_err-height.ensures.height tree from (seen.0, directory)).1

pub returns-clause-deep : goal.returns-clause-deep
returns-clause-deep g c tree from to seen before after =
    let directory : IsDirectoryAt (graph_seen g.D.Drive c.args.self.now.lookup) from c.args.node.address = record { node = c.args.node; there = seen.1; directory = sym c.is_directory.ensures ∙ c.if-not-is_directory.false; address_is = refl } in
    let height = (c.in_ok-height.ensures.height tree from (seen.0, directory)).0 in
    ap (λ (n : ℕ). nat_lt 16 (n + c.in_ok-height.height)) (sym after) ∙ deep_height tree from to c.in_ok-height.height seen.0.tree height
