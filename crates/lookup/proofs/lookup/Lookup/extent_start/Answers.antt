use Rattle.std.proofs.Common.{◌≡◌, ◌+◌, ◌-◌, ◌*◌, ◌/◌, ◌<◌, ◌≤◌, ◌∙◌, List, ℕ, Some, ap, refl, slice_get, subst, length, take, arith}
use Rattle.std.specs.Prelude.{min}
use Rattle.std.proofs.lemmas.Bool.{false≢true}
use Rattle.limits.specs.declared.TheConstants.{BLOCK_DESCRIPTORS, ENTRY_DESCRIPTORS, PARTITION_START}
use Rattle.drive.specs.Journal.{held}
use Rattle.ecma.specs.Numbers.{u32_at}
use Rattle.icb.specs.Extents.{IsDescriptorBlock, listed}
use Rattle.recover.specs.Faults.{device_failures}
use Rattle.recover.proofs.Held.{held_below}
use Rattle.lookup.proofs.AllDescriptors.{first_here, first_there, listed_is, place_in_block, some_block}
use Rattle.lookup.proofs.Looking.{looks_none_failed}
use Rattle.lookup.proofs.lookup.Lookup.extent_start.Goals as goal

pub returns-then-index-here-clause-read : goal.returns-then-index-here-clause-read
returns-then-index-here-clause-read g c honest all =
    let M = take c.args.self.now.nodes.vat_icb_address (held (g.D.Drive.journal c.args.self.now.drive.now)) in
    (first_here M c.args.size c.args.descriptors.now c.requires.long c.requires.are all c.args.index c.extent_first.result c.requires.there (omega (arith, c.if-index-here.true, c.listed-here.ensures.listed)) c.extent_first.ensures, tt)

pub extent_first-requires-in-Ok : goal.extent_first-requires-in-Ok
extent_first-requires-in-Ok g c =
    let j = c.min-number.result in
    let high : listed ENTRY_DESCRIPTORS c.args.size ≤ c.args.index = omega (arith, c.if-index-here.false, c.listed-here.ensures.listed) in
    let e = c.min-number.ensures ∙ (λ i. min ((c.args.index - c.listed-here.ensures.listed i) / (BLOCK_DESCRIPTORS - 1)) (c.descriptor_blocks.ensures.count i - 1)) in
    let is = subst (λ (n : ℕ). IsDescriptorBlock n (c.in_ok-first.first + j) c.in_ok-block.block) c.bytes_from_block.ensures.bytes c.in-Ok.ensures.found in
    let place = place_in_block c.args.size (c.in_ok-first.first + j) c.args.index j c.in_ok-block.block c.requires.there high e is in
    let long = ap (λ (xs : List ℕ). length xs) c.in-Ok.ensures.descriptors in
    omega (arith, place, long, c.listed-here.ensures.listed)

pub returns-in-Ok-clause-read : goal.returns-in-Ok-clause-read
returns-in-Ok-clause-read g c honest all =
    let at = c.args.self.now.nodes.vat_icb_address in
    let J = g.D.Drive.journal c.args.self.now.drive.now in
    let M = take at (held J) in
    let j = c.min-number.result in
    let block = c.in_ok-block.block in
    let high : listed ENTRY_DESCRIPTORS c.args.size ≤ c.args.index = omega (arith, c.if-index-here.false, c.listed-here.ensures.listed) in
    let e = c.min-number.ensures ∙ (λ i. min ((c.args.index - c.listed-here.ensures.listed i) / (BLOCK_DESCRIPTORS - 1)) (c.descriptor_blocks.ensures.count i - 1)) in
    let some = some_block c.args.size c.args.index c.requires.there high in
    let below : c.in_ok-first.first + j + PARTITION_START < at = omega (arith, c.in_ok-first.ensures.below, some, e) in
    let there = held_below J at (c.in_ok-first.first + j + PARTITION_START) block below (omega (arith, below, c.args.self.now.within)) (c.in_ok-block.ensures.read honest) in
    let there_is = subst (λ (n : ℕ). slice_get M (n + j + PARTITION_START) ≡ Some block) c.in_ok-first.ensures.first there in
    let first = c.extent_first-in-Ok.ensures ∙ (λ i. u32_at (16 * (c.args.index - c.listed-here.ensures.listed i - (BLOCK_DESCRIPTORS - 1) * j) + 4) (c.in-Ok.ensures.descriptors i)) in
    (first_there M c.args.size c.args.descriptors.now c.requires.long c.requires.are all c.args.index j c.extent_first-in-Ok.result block c.requires.there high e there_is first, tt)

pub returns-in-Err-clause-read : goal.returns-in-Err-clause-read
returns-in-Err-clause-read g c honest all =
    let at = c.args.self.now.nodes.vat_icb_address in
    let J = g.D.Drive.journal c.args.self.now.drive.now in
    let M = take at (held J) in
    let j = c.min-number.result in
    let block = c.in_ok-block.block in
    let high : listed ENTRY_DESCRIPTORS c.args.size ≤ c.args.index = omega (arith, c.if-index-here.false, c.listed-here.ensures.listed) in
    let e = c.min-number.ensures ∙ (λ i. min ((c.args.index - c.listed-here.ensures.listed i) / (BLOCK_DESCRIPTORS - 1)) (c.descriptor_blocks.ensures.count i - 1)) in
    let some = some_block c.args.size c.args.index c.requires.there high in
    let below : c.in_ok-first.first + j + PARTITION_START < at = omega (arith, c.in_ok-first.ensures.below, some, e) in
    let there = held_below J at (c.in_ok-first.first + j + PARTITION_START) block below (omega (arith, below, c.args.self.now.within)) (c.in_ok-block.ensures.read honest) in
    let is = listed_is M c.args.size c.args.descriptors.now c.requires.long c.requires.are all c.in_ok-first.first j c.bytes_from_block.result block c.in_ok-first.ensures.first c.bytes_from_block.ensures.bytes (omega (arith, some, e)) there in
    absurd (false≢true (c.in-Err.ensures.only is))

pub returns-in-Err-clause-looks : goal.returns-in-Err-clause-looks
returns-in-Err-clause-looks g c =
    looks_none_failed (ap device_failures c.damaged.ensures) (record { same_drive = refl; same_cache = refl; nodes = refl; reads = c.in_ok-block.ensures.reads; kept = λ honest kept. kept })
