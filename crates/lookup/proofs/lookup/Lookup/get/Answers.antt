use Rattle.std.proofs.Common.{◌∙◌, List, subst, sym, refl, inl, inr}
use Rattle.std.proofs.lemmas.Result.{IfErr-weaker}
use Rattle.drive.specs.Journal.{Event, Once}
use Rattle.durability.specs.Runs.Query.{Get}
use Rattle.lookup.proofs.Asking.{file_bytes, told_none, told_file, told_long, told_directory}
use Rattle.lookup.proofs.Looking.{failed, looks_then, missing_told, of_file, sees_before, stored_seen}
use Rattle.lookup.proofs.lookup.Lookup.get.Goals as goal

pub returns-in_err-node-clause-told : goal.returns-in_err-node-clause-told
returns-in_err-node-clause-told g c once tree s =
    failed c.from_residual.result _ _ _ c.from_residual.ensures.1 (missing_told tree c.args.path.now (Get c.args.path.now) _ (told_none tree c.args.path.now) (c.in_err-node.ensures.missing tree s))

pub returns-then-is_directory-clause-told : goal.returns-then-is_directory-clause-told
returns-then-is_directory-clause-told g c once tree s =
    (tt, inr (inl (refl, told_directory c.args.self.now.nodes.vat_icb_address c.args.self.now.nodes.numbers.now (g.D.Drive.journal c.args.self.now.drive.now) tree s.tree s.makes c.args.path.now c.in_ok-node.node (c.in_ok-node.ensures.found tree s) (sym c.is_directory.ensures ∙ c.if-is_directory.true))))

pub returns-clause-looks : goal.returns-clause-looks
returns-clause-looks g c = looks_then c.in_ok-node.ensures.looks c.file_data.ensures.looks

pub returns-clause-told : goal.returns-clause-told
returns-clause-told g c once tree s =
    let J = g.D.Drive.journal c.args.self.now.drive.now in
    let at = c.args.self.now.nodes.vat_icb_address in
    let entries = c.args.self.now.nodes.numbers.now in
    let here = c.in_ok-node.ensures.found tree (sees_before c.args.self.now tree c.file_data.ensures.looks s) in
    let there = stored_seen c.args.path.now c.in_ok-node.node here c.in_ok-node.ensures.looks in
    let file = sym here.kind ∙ (sym c.is_directory.ensures ∙ c.if-is_directory.false) in
    let once1 = subst (λ (K : List Event). Once K) (sym c.in_ok-node.ensures.looks.reads.journal) once in
    let read = c.file_data.ensures.read once1 s.honest here.found.stored there file in
    let bytes = file_bytes here.found.stored file in (
      of_file c.file_data.result _ _ _ (λ b body few. told_file at entries J tree s.tree s.makes c.args.path.now c.in_ok-node.node here b body few) read.0 c.file_data.ensures.few,
      IfErr-weaker c.file_data.result _ _ (λ fault why. elim why [
        | inl long ↦ inr (inr (inr (inl (long.0, told_long at entries J tree s.tree s.makes c.args.path.now c.in_ok-node.node here bytes.0 bytes.1 (long.1 bytes.0 bytes.1)))))
        | inr short ↦ inr (inr (inr (inr short)))
      ]) read.1,
    )
