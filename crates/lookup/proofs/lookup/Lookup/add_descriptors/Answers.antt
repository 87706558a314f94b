use Rattle.std.proofs.Common.{◌*◌, ◌+◌, ◌∙◌, ◌++◌, List, ℕ, ap, length, length-take, take, refl, inl, arith}
use Rattle.std.proofs.lemmas.Bool.{false≢true}
use Rattle.limits.specs.declared.TheConstants.{PARTITION_START}
use Rattle.recover.specs.Faults.{device_failures}
use Rattle.recover.proofs.Held.{held_below}
use Rattle.lookup.proofs.AllDescriptors.{in_list, same_read}
use Rattle.lookup.proofs.Looking.{looks_failed, looks_none_failed, refused_by}
use Rattle.lookup.proofs.lookup.Lookup.add_descriptors.Goals as goal

pub returns-in_err-block-clause-refused : goal.returns-in_err-block-clause-refused
returns-in_err-block-clause-refused g c honest has = refused_by c.from_residual.result _ _ c.from_residual.ensures.1 (inl c.in_err-block.ensures.device)

pub returns-in_err-block-clause-looks : goal.returns-in_err-block-clause-looks
returns-in_err-block-clause-looks g c =
    looks_failed c.from_residual.result _ c.from_residual.ensures.1 (record { same_drive = refl; same_cache = refl; nodes = refl; reads = c.in_err-block.ensures.reads; kept = λ honest kept. kept })

pub slice_bounds-extend_from_slice-end : goal.slice_bounds-extend_from_slice-end
slice_bounds-extend_from_slice-end g c =
    let room = in_list c.args.size c.args.number c.in_ok-block.block c.in-Ok.ensures.found in
    let long = ap (λ (xs : List ℕ). length xs) c.in-Ok.ensures.descriptors in
    omega (arith, room, long, c.listed-count.ensures.listed, length-take (16 * c.listed-count.result) c.in-Ok.list.now)

pub returns-in_ok-extend_from_slice-in-Ok-clause-added : goal.returns-in_ok-extend_from_slice-in-Ok-clause-added
returns-in_ok-extend_from_slice-in-Ok-clause-added g c = record {
  block = c.in_ok-block.block;
  there = λ honest.
      let at = c.args.number + PARTITION_START in
      held_below (g.D.Drive.journal c.args.self.now.drive.now) c.args.self.now.nodes.vat_icb_address at c.in_ok-block.block c.requires.below (omega (arith, c.requires.below, c.args.self.now.within)) (c.in_ok-block.ensures.read honest);
  is = c.in-Ok.ensures.found;
  items = c.in_ok-extend_from_slice-in-Ok.ensures.items
      ∙ (λ i. c.args.all.now.items ++ take (16 * c.listed-count.ensures.listed i) (c.in-Ok.ensures.descriptors i));
}

pub returns-in-Err-clause-refused : goal.returns-in-Err-clause-refused
returns-in-Err-clause-refused g c honest has =
    let at = c.args.number + PARTITION_START in
    let held = held_below (g.D.Drive.journal c.args.self.now.drive.now) c.args.self.now.nodes.vat_icb_address at c.in_ok-block.block c.requires.below (omega (arith, c.requires.below, c.args.self.now.within)) (c.in_ok-block.ensures.read honest) in
    let is = same_read _ c.args.number c.args.size c.in_ok-block.block has held in
    absurd (false≢true (c.in-Err.ensures.only is))

pub returns-in-Err-clause-looks : goal.returns-in-Err-clause-looks
returns-in-Err-clause-looks g c =
    looks_none_failed (ap device_failures c.damaged.ensures) (record { same_drive = refl; same_cache = refl; nodes = refl; reads = c.in_ok-block.ensures.reads; kept = λ honest kept. kept })
