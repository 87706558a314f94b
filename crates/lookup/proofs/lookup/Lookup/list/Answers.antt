use Rattle.std.proofs.Common.{◌∙◌, sym, ap, refl, inl, inr}
use Rattle.durability.specs.Runs.Answer.{Names}
use Rattle.durability.specs.Runs.Query.{List_}
use Rattle.lookup.proofs.Listings.{listed_directory, listed_file, listed_none}
use Rattle.lookup.proofs.Looking.{failed, looks_failed, looks_keep, looks_short, looks_then, lies_back, missing_told, sees_before, sees_kept, sound, sound_next, stored_seen}
use Rattle.lookup.proofs.lookup.Lookup.list.Goals as goal

pub returns-in_err-node-clause-told : goal.returns-in_err-node-clause-told
returns-in_err-node-clause-told g c tree s =
    failed c.from_residual.result _ _ _ c.from_residual.ensures.1 (missing_told tree c.args.path.now (List_ c.args.path.now) _ (listed_none tree c.args.path.now) (c.in_err-node.ensures.missing tree s))

pub returns-then-not-is_directory-clause-told : goal.returns-then-not-is_directory-clause-told
returns-then-not-is_directory-clause-told g c tree s =
    (tt, inr (inr (inl (refl, listed_file c.args.self.now.nodes.vat_icb_address c.args.self.now.nodes.numbers.now (g.D.Drive.journal c.args.self.now.drive.now) tree s.tree s.makes c.args.path.now c.in_ok-node.node (c.in_ok-node.ensures.found tree s) (sym c.is_directory.ensures ∙ c.if-not-is_directory.true)))))

pub returns-in_err-placed-clause-told : goal.returns-in_err-placed-clause-told
returns-in_err-placed-clause-told g c tree s =
    let p = c.in_ok-node.ensures.looks in
    let q = c.in_err-placed.ensures.looks in
    let here = c.in_ok-node.ensures.found tree (sees_before c.args.self.now tree q s) in
    let there = stored_seen c.args.path.now c.in_ok-node.node here p in
    let short = (c.in_err-placed.ensures.opened (sound_next p q (sound s)) here.found.stored there (sym here.kind ∙ (sym c.is_directory.ensures ∙ c.if-not-is_directory.false))).1 in
    failed c.from_residual-in_err-placed.result _ _ _ c.from_residual-in_err-placed.ensures.1 (inr (inr (inr (inr short))))

pub returns-in_err-placed-clause-looks : goal.returns-in_err-placed-clause-looks
returns-in_err-placed-clause-looks g c = looks_failed c.from_residual-in_err-placed.result _ c.from_residual-in_err-placed.ensures.1 (looks_then c.in_ok-node.ensures.looks c.in_err-placed.ensures.looks)

pub returns-in_err-listing-clause-told : goal.returns-in_err-listing-clause-told
returns-in_err-listing-clause-told g c tree s = failed c.from_residual-in_err-listing.result _ _ _ c.from_residual-in_err-listing.ensures.1 (inr (inr (inr (inr c.in_err-listing.ensures.short))))

pub returns-in_err-listing-clause-looks : goal.returns-in_err-listing-clause-looks
returns-in_err-listing-clause-looks g c =
    looks_short c.from_residual-in_err-listing.result _ c.from_residual-in_err-listing.ensures.1 c.in_err-listing.ensures.failures (looks_then c.in_ok-node.ensures.looks c.in_ok-placed.ensures.looks)

pub returns-clause-told : goal.returns-clause-told
returns-clause-told g c tree s =
    let J = g.D.Drive.journal c.args.self.now.drive.now in
    let at = c.args.self.now.nodes.vat_icb_address in
    let entries = c.args.self.now.nodes.numbers.now in
    let p = c.in_ok-node.ensures.looks in
    let q = c.in_ok-placed.ensures.looks in
    let s2 = sees_kept c.args.self.now tree c.keep.ensures s in
    let here = c.in_ok-node.ensures.found tree (sees_before c.args.self.now tree q s2) in
    let there = stored_seen c.args.path.now c.in_ok-node.node here p in
    let dir = sym here.kind ∙ (sym c.is_directory.ensures ∙ c.if-not-is_directory.false) in
    let body = (c.in_ok-placed.ensures.opened (sound_next p q (sound s2)) here.found.stored there dir).0.body in (
      listed_directory at entries J tree s.tree s.makes c.args.path.now c.in_ok-node.node here c.in_ok-placed.content.dir.parent c.in_ok-placed.content.dir.entries.entries body
          ∙ ap Names (sym c.in_ok-listing.ensures.names),
      tt,
    )

pub returns-clause-looks : goal.returns-clause-looks
returns-clause-looks g c =
    let p = c.in_ok-node.ensures.looks in
    let q = c.in_ok-placed.ensures.looks in
    looks_keep (looks_then p q) c.keep.ensures (lies_back p q c.in_ok-placed.ensures.lies)
