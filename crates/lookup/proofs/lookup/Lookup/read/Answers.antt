use Rattle.std.proofs.Common.{◌∙◌, ℕ, ap, drop, List, subst, sym, take, refl, inl, inr}
use Rattle.std.proofs.lemmas.Result.{IfOk-weaker, IfErr-weaker}
use Rattle.drive.specs.Journal.{Event, Once}
use Rattle.durability.specs.Runs.Answer.{Data}
use Rattle.durability.specs.Runs.Query.{Read}
use Rattle.lookup.proofs.Asking.{file_bytes, told_none_read, told_piece, told_directory_read}
use Rattle.lookup.proofs.Looking.{failed, looks_then, missing_told, sees_before, stored_seen}
use Rattle.lookup.proofs.lookup.Lookup.read.Goals as goal

pub returns-in_err-node-clause-told : goal.returns-in_err-node-clause-told
returns-in_err-node-clause-told g c once tree s =
    failed c.from_residual.result _ _ _ c.from_residual.ensures.1 (missing_told tree c.args.path.now (Read c.args.path.now c.args.offset c.args.count.now) _ (told_none_read tree c.args.path.now c.args.offset c.args.count.now) (c.in_err-node.ensures.missing tree s))

pub returns-then-is_directory-clause-told : goal.returns-then-is_directory-clause-told
returns-then-is_directory-clause-told g c once tree s =
    (tt, inr (inl (refl, told_directory_read c.args.self.now.nodes.vat_icb_address c.args.self.now.nodes.numbers.now (g.D.Drive.journal c.args.self.now.drive.now) tree s.tree s.makes c.args.path.now c.in_ok-node.node (c.in_ok-node.ensures.found tree s) c.args.offset c.args.count.now (sym c.is_directory.ensures ∙ c.if-is_directory.true))))

pub returns-else-is_directory-clause-looks : goal.returns-else-is_directory-clause-looks
returns-else-is_directory-clause-looks g c = looks_then c.in_ok-node.ensures.looks c.file_piece.ensures.looks

pub returns-else-is_directory-clause-told : goal.returns-else-is_directory-clause-told
returns-else-is_directory-clause-told g c once tree s =
    let J = g.D.Drive.journal c.args.self.now.drive.now in
    let at = c.args.self.now.nodes.vat_icb_address in
    let entries = c.args.self.now.nodes.numbers.now in
    let here = c.in_ok-node.ensures.found tree (sees_before c.args.self.now tree c.file_piece.ensures.looks s) in
    let there = stored_seen c.args.path.now c.in_ok-node.node here c.in_ok-node.ensures.looks in
    let file = sym here.kind ∙ (sym c.is_directory.ensures ∙ c.if-is_directory.false) in
    let once1 = subst (λ (K : List Event). Once K) (sym c.in_ok-node.ensures.looks.reads.journal) once in
    let read = c.file_piece.ensures.read once1 s.honest here.found.stored there file in
    let whole = file_bytes here.found.stored file in (
      IfOk-weaker c.file_piece.result _ _ (λ bytes is.
          told_piece at entries J tree s.tree s.makes c.args.path.now c.in_ok-node.node here c.args.offset c.args.count.now whole.0 whole.1 ∙ ap Data (sym (is whole.0 whole.1 ∙ ap (λ (n : ℕ). take n (drop c.args.offset whole.0)) c.bytes.ensures.count))) read.0,
      IfErr-weaker c.file_piece.result _ _ (λ fault short. inr (inr (inr (inr short)))) read.1,
    )
