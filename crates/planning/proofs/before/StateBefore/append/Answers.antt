use Rattle.std.proofs.Common.{◌≡◌, ◌∙◌, ◌<◌, ◌≤◌, ◌%◌, ◌==◌, ◌&&◌, nat_le, Bool, true, false, ℕ, sym, subst, refl, Option, arith}
use Rattle.std.proofs.lemmas.Bool.{eqb-true, le-leb, lt-leb}
use Rattle.limits.specs.declared.TheConstants.{FILE_BYTES, GREATEST_FILE}
use Rattle.model.specs.Operation.Operation.{Append}
use Rattle.request.specs.declared.answer.Code.TheVariants as code
use Rattle.recover.specs.declared.node.Node.{Node}
use Rattle.planning.specs.Changes.{WritesFile}
use Rattle.lookup.specs.Lookups.{below_seen, free_seen, graph_seen}
use Rattle.drive.specs.Journal.{held}
use Rattle.lookup.specs.Shows.{IsFound}
use Rattle.lookup.proofs.Looking.{looks_failed, looks_then, refused_by, sees_before}
use Rattle.planning.proofs.Keeping.{append_keeps, refused_keeps}
use Rattle.planning.proofs.Replacing.{refuses}
use Rattle.planning.proofs.Appending.{append_directory, append_file, append_missing, append_root, appends, end_there, no_directory_there, still_there}
use Rattle.planning.proofs.before.StateBefore.append.Goals as goal

pub returns-then-is_empty-clause-does : goal.returns-then-is_empty-clause-does
returns-then-is_empty-clause-does g c tree moment identity once s =
    let a = c.args.self.now.lookup in
    refuses (graph_seen g.D.Drive a) (free_seen a) tree (Append c.args.names.now c.args.offset c.args.bytes.now) moment identity 6 code.Root c.refused.result c.refused.ensures refl
    (append_root c.args.names.now c.args.offset c.args.bytes.now tree (sym c.is_empty.ensures ∙ c.if-is_empty.true))

pub returns-in_err-node-clause-short : goal.returns-in_err-node-clause-short
returns-in_err-node-clause-short g c tree s = refused_by c.from_residual.result _ _ c.from_residual.ensures.1 (c.in_err-node.ensures.found tree s).1

pub returns-in_default-clause-does : goal.returns-in_default-clause-does
returns-in_default-clause-does g c tree moment identity once s =
    let a = c.args.self.now.lookup in
    let graph = graph_seen g.D.Drive a in
    let none = subst (λ (o : Option Node). IsFound graph tree c.args.names.now o) c.in_default.is (c.in_ok-node.ensures.found tree s).0 in
    refuses graph (free_seen a) tree (Append c.args.names.now c.args.offset c.args.bytes.now) moment identity 1 code.NotFound c.refused-in_default.result c.refused-in_default.ensures refl
    (append_missing c.args.names.now c.args.offset c.args.bytes.now tree (sym c.is_empty.ensures ∙ c.if-is_empty.false) none)

pub returns-then-is_directory-clause-does : goal.returns-then-is_directory-clause-does
returns-then-is_directory-clause-does g c tree moment identity once s =
    let a = c.args.self.now.lookup in
    let graph = graph_seen g.D.Drive a in
    let here = subst (λ (o : Option Node). IsFound graph tree c.args.names.now o) c.in-Some.is (c.in_ok-node.ensures.found tree s).0 in
    refuses graph (free_seen a) tree (Append c.args.names.now c.args.offset c.args.bytes.now) moment identity 3 code.IsDirectory c.refused-then-is_directory.result c.refused-then-is_directory.ensures refl
    (append_directory a.nodes.vat_icb_address a.nodes.numbers.now (g.D.Drive.journal a.drive.now) tree s.tree s.makes c.args.names.now c.in-Some.node c.args.offset (sym c.is_empty.ensures ∙ c.if-is_empty.false) here (sym c.is_directory.ensures ∙ c.if-is_directory.true) c.args.bytes.now)

pub returns-in_err-end-clause-short : goal.returns-in_err-end-clause-short
returns-in_err-end-clause-short g c tree s =
    let a = c.args.self.now.lookup in
    let p = c.in_ok-node.ensures.looks in
    let s1 = sees_before a tree c.in_err-end.ensures.looks s in
    let here = subst (λ (o : Option Node). IsFound (graph_seen g.D.Drive a) tree c.args.names.now o) c.in-Some.is (c.in_ok-node.ensures.found tree s1).0 in
    let kind = sym c.is_directory.ensures ∙ c.if-is_directory.false in
    refused_by c.from_residual-in_err-end.result _ _ c.from_residual-in_err-end.ensures.1 (c.in_err-end.ensures.short s.honest here.found.stored (still_there p c.args.names.now c.in-Some.node here) (no_directory_there p c.args.names.now c.in-Some.node here kind))

pub returns-in_err-end-clause-looks : goal.returns-in_err-end-clause-looks
returns-in_err-end-clause-looks g c = looks_failed c.from_residual-in_err-end.result _ c.from_residual-in_err-end.ensures.1 (looks_then c.in_ok-node.ensures.looks c.in_err-end.ensures.looks)

pub returns-then-not-ends_at-clause-does : goal.returns-then-not-ends_at-clause-does
returns-then-not-ends_at-clause-does g c tree moment identity once s =
    let a = c.args.self.now.lookup in
    let graph = graph_seen g.D.Drive a in
    let J = g.D.Drive.journal a.drive.now in
    let p = c.in_ok-node.ensures.looks in
    let s1 = sees_before a tree c.in_ok-end.ensures.looks s in
    let path = c.args.names.now in
    let node = c.in-Some.node in
    let here = subst (λ (o : Option Node). IsFound graph tree path o) c.in-Some.is (c.in_ok-node.ensures.found tree s1).0 in
    let kind = sym c.is_directory.ensures ∙ c.if-is_directory.false in
    let (whole, body, ends) = end_there p path node here c.in_ok-end.end kind once (λ o. c.in_ok-end.ensures.read o s.honest) in
    let code_is = append_file a.nodes.vat_icb_address a.nodes.numbers.now J tree s.tree s.makes path node c.args.offset false (nat_le GREATEST_FILE c.args.offset) (sym c.is_empty.ensures ∙ c.if-is_empty.false) here kind whole body c.in_ok-end.end.size ends.size
    (sym c.ends_at.ensures ∙ c.if-not-ends_at.true) refl c.args.bytes.now in
    refuses graph (free_seen a) tree (Append path c.args.offset c.args.bytes.now) moment identity 2 code.Exists c.refused-then-not-ends_at.result c.refused-then-not-ends_at.ensures refl code_is

pub returns-then-not-ends_at-clause-looks : goal.returns-then-not-ends_at-clause-looks
returns-then-not-ends_at-clause-looks g c = looks_then {n = 0} c.in_ok-node.ensures.looks c.in_ok-end.ensures.looks

pub returns-then-offset-from-clause-does : goal.returns-then-offset-from-clause-does
returns-then-offset-from-clause-does g c tree moment identity once s =
    let a = c.args.self.now.lookup in
    let graph = graph_seen g.D.Drive a in
    let J = g.D.Drive.journal a.drive.now in
    let p = c.in_ok-node.ensures.looks in
    let s1 = sees_before a tree c.in_ok-end.ensures.looks s in
    let path = c.args.names.now in
    let node = c.in-Some.node in
    let here = subst (λ (o : Option Node). IsFound graph tree path o) c.in-Some.is (c.in_ok-node.ensures.found tree s1).0 in
    let kind = sym c.is_directory.ensures ∙ c.if-is_directory.false in
    let (whole, body, ends) = end_there p path node here c.in_ok-end.end kind once (λ o. c.in_ok-end.ensures.read o s.honest) in
    let much : GREATEST_FILE ≤ c.args.offset = omega (arith, c.from.ensures, c.if-offset-from.true) in
    let code_is = append_file a.nodes.vat_icb_address a.nodes.numbers.now J tree s.tree s.makes path node c.args.offset true true (sym c.is_empty.ensures ∙ c.if-is_empty.false) here kind whole body c.in_ok-end.end.size ends.size
    (sym c.ends_at.ensures ∙ c.if-not-ends_at.false) (le-leb GREATEST_FILE c.args.offset much) c.args.bytes.now in
    refuses graph (free_seen a) tree (Append path c.args.offset c.args.bytes.now) moment identity 9 code.TooMany c.refused-then-offset-from.result c.refused-then-offset-from.ensures refl code_is

pub returns-then-offset-from-clause-looks : goal.returns-then-offset-from-clause-looks
returns-then-offset-from-clause-looks g c = looks_then {n = 0} c.in_ok-node.ensures.looks c.in_ok-end.ensures.looks

-- what two tests say together
both_are : (size offset : ℕ) → (size == offset && offset % FILE_BYTES == 0) ≡ true → (size ≡ offset) × (offset % FILE_BYTES ≡ 0)
both_are size offset e = go (size == offset) (offset % FILE_BYTES == 0) refl refl e
  where
    go : (x y : Bool) → (size == offset) ≡ x → (offset % FILE_BYTES == 0) ≡ y → (x && y) ≡ true → (size ≡ offset) × (offset % FILE_BYTES ≡ 0)
    go true true p q e = (eqb-true size offset p, eqb-true (offset % FILE_BYTES) 0 q)
    go true false p q e = absurd cc
    go false y p q e = absurd cc

pub grown-file-requires : goal.grown-file-requires
grown-file-requires g c =
    let tests = both_are c.in_ok-end.end.size c.args.offset (sym c.ends_at.ensures ∙ c.if-not-ends_at.false) in
    let filled : c.in_ok-end.end.size % FILE_BYTES ≡ 0 = subst (λ (n : ℕ). n % FILE_BYTES ≡ 0) (sym tests.0) tests.1 in
    let full = c.in_ok-end.ensures.extents.full filled in
    omega (arith, full, tests.0, c.from.ensures, c.if-offset-from.false)

pub returns-clause-does : goal.returns-clause-does
returns-clause-does g c tree moment identity once s =
    let a = c.args.self.now.lookup in
    let graph = graph_seen g.D.Drive a in
    let J = g.D.Drive.journal a.drive.now in
    let p = c.in_ok-node.ensures.looks in
    let s1 = sees_before a tree c.in_ok-end.ensures.looks s in
    let path = c.args.names.now in
    let node = c.in-Some.node in
    let end = c.in_ok-end.end in
    let here = subst (λ (o : Option Node). IsFound graph tree path o) c.in-Some.is (c.in_ok-node.ensures.found tree s1).0 in
    let kind = sym c.is_directory.ensures ∙ c.if-is_directory.false in
    let (whole, body, ends) = end_there p path node here end kind once (λ o. c.in_ok-end.ensures.read o s.honest) in
    let test = sym c.ends_at.ensures ∙ c.if-not-ends_at.false in
    let tests = both_are end.size c.args.offset test in
    let few : c.args.offset < GREATEST_FILE = omega (arith, c.from.ensures, c.if-offset-from.false) in
    let f = c.grown-file.ensures in
    let e = c.of_file.ensures in
    let writes : WritesFile node end.extents c.args.bytes.now c.of_file.result = record {
      file = c.grown-file.result;
      file_is = e.file;
      address = f.address;
      unique = f.unique;
      kept = f.kept;
      bytes_are = f.bytes;
      code = e.code;
      directories = e.directories;
      made = e.made;
      removed = e.removed;
    } in
    appends a.nodes.vat_icb_address a.nodes.numbers.now J tree s.tree s.makes (free_seen a) moment identity path node c.args.offset c.args.bytes.now c.of_file.result (sym c.is_empty.ensures ∙ c.if-is_empty.false) here kind whole body end ends
    c.in_ok-end.ensures.extents tests.0 tests.1 test (lt-leb GREATEST_FILE c.args.offset few) writes

pub returns-clause-looks : goal.returns-clause-looks
returns-clause-looks g c = looks_then {n = 0} c.in_ok-node.ensures.looks c.in_ok-end.ensures.looks

pub returns-then-is_empty-clause-keeps : goal.returns-then-is_empty-clause-keeps
returns-then-is_empty-clause-keeps g c tree moment once s =
    let a = c.args.self.now.lookup in
    refused_keeps (below_seen g.D.Drive a) a.nodes.numbers.now (held (g.D.Drive.journal a.drive.now)) moment code.Root c.refused.result c.refused.ensures

pub returns-in_default-clause-keeps : goal.returns-in_default-clause-keeps
returns-in_default-clause-keeps g c tree moment once s =
    let a = c.args.self.now.lookup in
    refused_keeps (below_seen g.D.Drive a) a.nodes.numbers.now (held (g.D.Drive.journal a.drive.now)) moment code.NotFound c.refused-in_default.result c.refused-in_default.ensures

pub returns-then-is_directory-clause-keeps : goal.returns-then-is_directory-clause-keeps
returns-then-is_directory-clause-keeps g c tree moment once s =
    let a = c.args.self.now.lookup in
    refused_keeps (below_seen g.D.Drive a) a.nodes.numbers.now (held (g.D.Drive.journal a.drive.now)) moment code.IsDirectory c.refused-then-is_directory.result c.refused-then-is_directory.ensures

pub returns-then-not-ends_at-clause-keeps : goal.returns-then-not-ends_at-clause-keeps
returns-then-not-ends_at-clause-keeps g c tree moment once s =
    let a = c.args.self.now.lookup in
    refused_keeps (below_seen g.D.Drive a) a.nodes.numbers.now (held (g.D.Drive.journal a.drive.now)) moment code.Exists c.refused-then-not-ends_at.result c.refused-then-not-ends_at.ensures

pub returns-then-offset-from-clause-keeps : goal.returns-then-offset-from-clause-keeps
returns-then-offset-from-clause-keeps g c tree moment once s =
    let a = c.args.self.now.lookup in
    refused_keeps (below_seen g.D.Drive a) a.nodes.numbers.now (held (g.D.Drive.journal a.drive.now)) moment code.TooMany c.refused-then-offset-from.result c.refused-then-offset-from.ensures

pub returns-clause-keeps : goal.returns-clause-keeps
returns-clause-keeps g c tree moment once s =
    let a = c.args.self.now.lookup in
    let p = c.in_ok-node.ensures.looks in
    let s1 = sees_before a tree c.in_ok-end.ensures.looks s in
    let path = c.args.names.now in
    let node = c.in-Some.node in
    let end = c.in_ok-end.end in
    let here = subst (λ (o : Option Node). IsFound (graph_seen g.D.Drive a) tree path o) c.in-Some.is (c.in_ok-node.ensures.found tree s1).0 in
    let kind = sym c.is_directory.ensures ∙ c.if-is_directory.false in
    let (whole, body, ends) = end_there p path node here end kind once (λ o. c.in_ok-end.ensures.read o s.honest) in
    let tests = both_are end.size c.args.offset (sym c.ends_at.ensures ∙ c.if-not-ends_at.false) in
    let filled : end.size % FILE_BYTES ≡ 0 = subst (λ (n : ℕ). n % FILE_BYTES ≡ 0) (sym tests.0) tests.1 in
    let f = c.grown-file.ensures in
    let e = c.of_file.ensures in
    let writes : WritesFile node end.extents c.args.bytes.now c.of_file.result = record {
      file = c.grown-file.result;
      file_is = e.file;
      address = f.address;
      unique = f.unique;
      kept = f.kept;
      bytes_are = f.bytes;
      code = e.code;
      directories = e.directories;
      made = e.made;
      removed = e.removed;
    } in
    append_keeps p path node here (no_directory_there p path node here kind) whole body end (c.in_ok-end.ensures.placed s.honest) c.in_ok-end.ensures.extents filled moment c.args.bytes.now c.of_file.result writes
