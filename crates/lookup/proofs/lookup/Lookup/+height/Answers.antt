use Rattle.std.proofs.Common.{◌≡◌, ◌∙◌, ◌+◌, ◌-◌, ◌<◌, ◌≤◌, sym, ap, refl, [], ◌∷◌, ◌++◌, Some, arith, rules}
use Rattle.std.specs.Prelude.{slice_get, max}
use Rattle.dir.specs.declared.entry.Entry.{Entry}
use Rattle.udf.specs.Said.{names_directory}
use Rattle.lookup.specs.Lookups.{IsDirectoryAt, graph_seen}
use Rattle.lookup.proofs.Looking.{failed, looks_failed, looks_keep, looks_then, node_later, sees_before, sees_kept, sees_next}
use Rattle.lookup.proofs.Heights.{height_none, height_unseen, height_more, height_opened, there_at, alone_at, stored_on, leads_on, file_kind, ord_max_is, max_within}
use Rattle.lookup.proofs.lookup.Lookup.+height.Goals as goal

pub returns-then-left-eq0-clause-height : goal.returns-then-left-eq0-clause-height
returns-then-left-eq0-clause-height g t c tree path seen =
    let s = seen.0 in
    (height_unseen tree path c.args.left (there_at c.args.self.now.nodes.vat_icb_address c.args.self.now.nodes.numbers.now (g.D.Drive.journal c.args.self.now.drive.now) tree s.tree s.makes path seen.1.node seen.1.there) (omega (arith, c.if-left-eq0.true)), tt)

pub returns-in_err-placed-clause-height : goal.returns-in_err-placed-clause-height
returns-in_err-placed-clause-height g t c tree path seen =
    let s = seen.0 in
    let here = seen.1.there in
    let J = g.D.Drive.journal c.args.self.now.drive.now in
    let there = stored_on c.args.self.now.nodes.vat_icb_address c.args.self.now.nodes.numbers.now J tree s.tree s.makes J refl c.args.address path seen.1.node here seen.1.address_is in
    let short = (c.in_err-placed.ensures.opened (record { honest = s.honest; kept = s.kept }) here.found.stored there (sym here.kind ∙ seen.1.directory)).1 in
    failed c.from_residual.result _ _ _ c.from_residual.ensures.1 short

pub loop-index-init : goal.loop-index-init
loop-index-init g t c = record {
  bound = omega arith;
  still = λ h. h;
  looks = c.in_ok-placed.ensures.looks;
  height = λ tree path seen.
      height_none tree path c.args.left c.in_ok-placed.content.dir.entries.entries (there_at c.args.self.now.nodes.vat_icb_address c.args.self.now.nodes.numbers.now (g.D.Drive.journal c.args.self.now.drive.now) tree seen.0.tree seen.0.makes path seen.1.node seen.1.there);
}

pub loop-index-preserved-in_default : goal.loop-index-preserved-in_default
loop-index-preserved-in_default g t c =
    let at = c.args.self.now.nodes.vat_icb_address in
    let entries = c.args.self.now.nodes.numbers.now in
    let J = g.D.Drive.journal c.args.self.now.drive.now in
    let es = c.in_ok-placed.content.dir.entries.entries in
    let name = c.unwrap.result.0.now in
    let entry : Entry = c.unwrap.result.1.now in
    let found : slice_get es c.loop-index.index ≡ Some (name, entry) = search rules in
    let some : 0 < c.args.left = omega (arith, c.if-left-eq0.false) in
    let next : c.max-most.result ≡ max c.loop-index.most (0 + 1) = c.max-most.ensures ∙ ord_max_is c.loop-index.most 1 in
    record {
      bound = omega (arith, next, max_within c.loop-index.most 1 c.args.left c.loop-index.invariant.bound some);
      still = c.loop-index.invariant.still;
      looks = c.loop-index.invariant.looks;
      height = λ tree path seen.
          let s = seen.0 in
          let node = seen.1.node in
          let here = seen.1.there in
          let there = stored_on at entries J tree s.tree s.makes J refl c.args.address path node here seen.1.address_is in
          let shown = (c.in_ok-placed.ensures.opened (record { honest = c.loop-index.invariant.still s.honest; kept = s.kept }) here.found.stored there (sym here.kind ∙ seen.1.directory)).0 in
          let leads = leads_on at entries J tree s.tree s.makes J refl path node here c.in_ok-placed.placed c.in_ok-placed.content shown c.loop-index.index name entry found in
          let alone = alone_at at entries J tree s.tree s.makes (path ++ name ∷ []) (record { kind = entry.kind; address = entry.virtual_address; unique = entry.unique }) (c.args.left - 1) leads (file_kind entry.kind c.in_default.not-Directory) in
          height_more tree path c.args.left es c.loop-index.index c.loop-index.most 0 c.max-most.result name entry found some c.loop-index.invariant.bound (omega arith) next
          (c.loop-index.invariant.height tree path seen) alone;
    }

pub returns-in_err-below-clause-height : goal.returns-in_err-below-clause-height
returns-in_err-below-clause-height g t c tree path seen =
    let at = c.args.self.now.nodes.vat_icb_address in
    let entries = c.args.self.now.nodes.numbers.now in
    let J = g.D.Drive.journal c.args.self.now.drive.now in
    let s = seen.0 in
    let node = seen.1.node in
    let here = seen.1.there in
    let p = c.loop-index.invariant.looks in
    let q = c.in_err-below.ensures.looks in
    let name = c.unwrap.result.0.now in
    let entry : Entry = c.unwrap.result.1.now in
    let found : slice_get c.in_ok-placed.content.dir.entries.entries c.loop-index.index ≡ Some (name, entry) = search rules in
    let there = stored_on at entries J tree s.tree s.makes J refl c.args.address path node here seen.1.address_is in
    let shown = (c.in_ok-placed.ensures.opened (record { honest = c.loop-index.invariant.still (q.reads.honest s.honest); kept = s.kept }) here.found.stored there (sym here.kind ∙ seen.1.directory)).0 in
    let leads = leads_on at entries J tree s.tree s.makes J refl path node here c.in_ok-placed.placed c.in_ok-placed.content shown c.loop-index.index name entry found in
    let under : IsDirectoryAt (graph_seen g.D.Drive c.loop-index.self) (path ++ name ∷ []) entry.virtual_address = record { node = record { kind = entry.kind; address = entry.virtual_address; unique = entry.unique }; there = node_later p leads; directory = ap names_directory c.in-Directory.is; address_is = refl } in
    let short = (c.in_err-below.ensures.height tree (path ++ name ∷ []) (sees_next tree p q s, under)).1 in
    failed c.from_residual-in_err-below.result _ _ _ c.from_residual-in_err-below.ensures.1 short

pub returns-in_err-below-clause-looks : goal.returns-in_err-below-clause-looks
returns-in_err-below-clause-looks g t c = looks_failed c.from_residual-in_err-below.result _ c.from_residual-in_err-below.ensures.1 (looks_then c.loop-index.invariant.looks c.in_err-below.ensures.looks)

pub loop-index-preserved : goal.loop-index-preserved
loop-index-preserved g t c =
    let at = c.args.self.now.nodes.vat_icb_address in
    let entries = c.args.self.now.nodes.numbers.now in
    let J = g.D.Drive.journal c.args.self.now.drive.now in
    let es = c.in_ok-placed.content.dir.entries.entries in
    let p = c.loop-index.invariant.looks in
    let q = c.in_ok-below.ensures.looks in
    let name = c.unwrap.result.0.now in
    let entry : Entry = c.unwrap.result.1.now in
    let found : slice_get es c.loop-index.index ≡ Some (name, entry) = search rules in
    let some : 0 < c.args.left = omega (arith, c.if-left-eq0.false) in
    let under : c.in_ok-below.below ≤ c.args.left - 1 = c.in_ok-below.ensures.bound in
    let next : c.max-most-in-loop-index.result ≡ max c.loop-index.most (c.in_ok-below.below + 1) = c.max-most-in-loop-index.ensures ∙ ord_max_is c.loop-index.most (c.in_ok-below.below + 1) in
    record {
      bound = omega (arith, next, max_within c.loop-index.most (c.in_ok-below.below + 1) c.args.left c.loop-index.invariant.bound (omega (arith, under, some)));
      still = λ h. c.loop-index.invariant.still (q.reads.honest h);
      looks = looks_then p q;
      height = λ tree path seen.
          let s = seen.0 in
          let node = seen.1.node in
          let here = seen.1.there in
          let there = stored_on at entries J tree s.tree s.makes J refl c.args.address path node here seen.1.address_is in
          let shown = (c.in_ok-placed.ensures.opened (record { honest = c.loop-index.invariant.still (q.reads.honest s.honest); kept = s.kept }) here.found.stored there (sym here.kind ∙ seen.1.directory)).0 in
          let leads = leads_on at entries J tree s.tree s.makes J refl path node here c.in_ok-placed.placed c.in_ok-placed.content shown c.loop-index.index name entry found in
          let below : IsDirectoryAt (graph_seen g.D.Drive c.loop-index.self) (path ++ name ∷ []) entry.virtual_address = record { node = record { kind = entry.kind; address = entry.virtual_address; unique = entry.unique }; there = node_later p leads; directory = ap names_directory c.in-Directory.is; address_is = refl } in
          let deeper = (c.in_ok-below.ensures.height tree (path ++ name ∷ []) (sees_next tree p q s, below)).0 in
          height_more tree path c.args.left es c.loop-index.index c.loop-index.most c.in_ok-below.below c.max-most-in-loop-index.result name entry found some c.loop-index.invariant.bound under next
          (c.loop-index.invariant.height tree path (sees_before c.args.self.now tree q s, seen.1)) deeper;
    }

pub returns-clause-height : goal.returns-clause-height
returns-clause-height g t c tree path seen =
    let at = c.args.self.now.nodes.vat_icb_address in
    let entries = c.args.self.now.nodes.numbers.now in
    let J = g.D.Drive.journal c.args.self.now.drive.now in
    let s = sees_kept c.args.self.now tree c.keep.ensures seen.0 in
    let here = seen.1.there in
    let there = stored_on at entries J tree s.tree s.makes J refl c.args.address path seen.1.node here seen.1.address_is in
    let shown = (c.in_ok-placed.ensures.opened (record { honest = c.loop-index.invariant.still s.honest; kept = s.kept }) here.found.stored there (sym here.kind ∙ seen.1.directory)).0 in (
      height_opened at entries J tree s.tree s.makes path seen.1.node here c.in_ok-placed.placed c.in_ok-placed.content shown c.args.left c.loop-index.index c.loop-index.most (omega (arith, c.loop-index-test.false, c.len-index-end.ensures.len))
          (c.loop-index.invariant.height tree path (s, seen.1)),
      tt,
    )

pub returns-clause-looks : goal.returns-clause-looks
returns-clause-looks g t c = looks_keep c.loop-index.invariant.looks c.keep.ensures (λ k. c.in_ok-placed.ensures.lies.lies (record { honest = c.loop-index.invariant.still k.honest; kept = k.kept }))
