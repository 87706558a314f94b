use Rattle.std.proofs.Common.{◌∙◌, [], sym, subst, refl, Option}
use Rattle.model.specs.Operation.Operation.{Replace}
use Rattle.request.specs.declared.answer.Code.TheVariants as code
use Rattle.recover.specs.declared.node.Node.{Node}
use Rattle.lookup.specs.Lookups.{free_seen, graph_seen}
use Rattle.lookup.specs.Shows.{IsFound}
use Rattle.lookup.proofs.Looking.{failed}
use Rattle.planning.specs.Changes.{WritesFile}
use Rattle.planning.proofs.Replacing.{refuses, replace_root, replace_missing, replace_directory, replaces}
use Rattle.planning.proofs.before.StateBefore.replace.Goals as goal

pub returns-then-is_empty-clause-does : goal.returns-then-is_empty-clause-does
returns-then-is_empty-clause-does g c tree moment identity s =
    let a = c.args.self.now.lookup in (
      refuses (graph_seen g.D.Drive a) (free_seen a) tree (Replace c.args.names.now c.args.bytes.now) moment identity 6 code.Root c.refused.result c.refused.ensures refl
          (replace_root c.args.names.now c.args.bytes.now tree (sym c.is_empty.ensures ∙ c.if-is_empty.true)),
      tt,
    )

pub returns-in_err-node-clause-does : goal.returns-in_err-node-clause-does
returns-in_err-node-clause-does g c tree moment identity s = failed c.from_residual.result _ _ _ c.from_residual.ensures.1 (c.in_err-node.ensures.found tree s).1

pub returns-in_default-clause-does : goal.returns-in_default-clause-does
returns-in_default-clause-does g c tree moment identity s =
    let a = c.args.self.now.lookup in
    let graph = graph_seen g.D.Drive a in
    let none = subst (λ (o : Option Node). IsFound graph tree c.args.names.now o) c.in_default.is (c.in_ok-node.ensures.found tree s).0 in (
      refuses graph (free_seen a) tree (Replace c.args.names.now c.args.bytes.now) moment identity 1 code.NotFound c.refused-in_default.result c.refused-in_default.ensures refl
          (replace_missing c.args.names.now c.args.bytes.now tree (sym c.is_empty.ensures ∙ c.if-is_empty.false) none),
      tt,
    )

pub returns-then-is_directory-clause-does : goal.returns-then-is_directory-clause-does
returns-then-is_directory-clause-does g c tree moment identity s =
    let a = c.args.self.now.lookup in
    let graph = graph_seen g.D.Drive a in
    let here = subst (λ (o : Option Node). IsFound graph tree c.args.names.now o) c.in-Some.is (c.in_ok-node.ensures.found tree s).0 in (
      refuses graph (free_seen a) tree (Replace c.args.names.now c.args.bytes.now) moment identity 3 code.IsDirectory c.refused-then-is_directory.result c.refused-then-is_directory.ensures refl
          (replace_directory a.nodes.vat_icb_address a.nodes.numbers.now (g.D.Drive.journal a.drive.now) tree s.tree s.makes c.args.names.now c.in-Some.node (sym c.is_empty.ensures ∙ c.if-is_empty.false) here (sym c.is_directory.ensures ∙ c.if-is_directory.true) c.args.bytes.now),
      tt,
    )

pub returns-clause-does : goal.returns-clause-does
returns-clause-does g c tree moment identity s =
    let a = c.args.self.now.lookup in
    let here = subst (λ (o : Option Node). IsFound (graph_seen g.D.Drive a) tree c.args.names.now o) c.in-Some.is (c.in_ok-node.ensures.found tree s).0 in
    let f = c.whole-file.ensures in
    let e = c.of_file.ensures in
    let writes : WritesFile c.in-Some.node [] c.args.bytes.now c.of_file.result = record {
      file = c.whole-file.result;
      file_is = e.file;
      address = f.address;
      unique = f.unique;
      kept = f.kept;
      bytes_are = f.bytes;
      code = e.code;
      directories = e.directories;
      made = e.made;
      removed = e.removed;
    } in (
      replaces a.nodes.vat_icb_address a.nodes.numbers.now (g.D.Drive.journal a.drive.now) tree s.tree s.makes (free_seen a) moment identity c.args.names.now c.in-Some.node c.args.bytes.now c.of_file.result (sym c.is_empty.ensures ∙ c.if-is_empty.false) here
          (sym c.is_directory.ensures ∙ c.if-is_directory.false) writes,
      tt,
    )
