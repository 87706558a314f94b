use Rattle.std.proofs.Common.{◌∙◌, sym}
use Rattle.lookup.proofs.Looking.{directory_there, failed, looks_keep, sees_kept, sound}
use Rattle.lookup.proofs.Walks.{child_none, child_some}
use Rattle.lookup.proofs.lookup.Lookup.child.Goals as goal

pub returns-in_err-placed-clause-found : goal.returns-in_err-placed-clause-found
returns-in_err-placed-clause-found g c tree path seen =
    let there = directory_there c.args.self.now path c.args.directory seen.1 in
    failed c.from_residual.result _ _ _ c.from_residual.ensures.1 (c.in_err-placed.ensures.opened (sound seen.0) seen.1.there.found.stored there.0 there.1).1

pub returns-in-Some-clause-found : goal.returns-in-Some-clause-found
returns-in-Some-clause-found g c tree path seen =
    let s = sees_kept c.args.self.now tree c.keep.ensures seen.0 in
    let there = directory_there c.args.self.now path c.args.directory seen.1 in
    let shown = (c.in_ok-placed.ensures.opened (sound s) seen.1.there.found.stored there.0 there.1).0 in (
      child_some c.args.self.now.nodes.vat_icb_address c.args.self.now.nodes.numbers.now (g.D.Drive.journal c.args.self.now.drive.now) tree s.tree s.makes path seen.1.node seen.1.there c.in_ok-placed.placed c.in_ok-placed.content shown c.args.name.now c.in-Some.entry
          (sym (c.copied-entry.ensures ∙ c.get.ensures.value) ∙ c.in-Some.is),
      tt,
    )

pub returns-in-None-clause-found : goal.returns-in-None-clause-found
returns-in-None-clause-found g c tree path seen =
    let s = sees_kept c.args.self.now tree c.keep.ensures seen.0 in
    let there = directory_there c.args.self.now path c.args.directory seen.1 in
    let shown = (c.in_ok-placed.ensures.opened (sound s) seen.1.there.found.stored there.0 there.1).0 in (
      child_none c.args.self.now.nodes.vat_icb_address c.args.self.now.nodes.numbers.now (g.D.Drive.journal c.args.self.now.drive.now) tree s.tree s.makes path seen.1.node seen.1.there c.in_ok-placed.placed c.in_ok-placed.content shown c.args.name.now
          (sym (c.copied-entry.ensures ∙ c.get.ensures.value) ∙ c.in-None.is),
      tt,
    )

pub returns-in-Some-clause-looks : goal.returns-in-Some-clause-looks
returns-in-Some-clause-looks g c = looks_keep c.in_ok-placed.ensures.looks c.keep.ensures c.in_ok-placed.ensures.lies.lies

pub returns-in-None-clause-looks : goal.returns-in-None-clause-looks
returns-in-None-clause-looks g c = looks_keep c.in_ok-placed.ensures.looks c.keep.ensures c.in_ok-placed.ensures.lies.lies
