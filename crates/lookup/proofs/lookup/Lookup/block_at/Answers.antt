use Rattle.std.proofs.Common.{◌+◌, ◌<◌, arith, rules, refl}
use Rattle.limits.specs.declared.TheConstants.{PARTITION_START}
use Rattle.recover.proofs.BelowLemmas.{used_below}
use Rattle.recover.proofs.Held.{held_at}
use Rattle.lookup.proofs.lookup.Lookup.block_at.Goals as goal

pub overflow_add-number : goal.overflow_add-number
overflow_add-number g c =
    let below : c.args.at.number + PARTITION_START < c.args.self.now.nodes.vat_icb_address = used_below c.args.self.now.nodes.vat_icb_address c.args.self.now.nodes.numbers.now c.args.at.address c.args.at.number c.args.self.now.below c.requires.used in
    search rules

pub returns-clause-read : goal.returns-clause-read
returns-clause-read g c =
    let below : c.args.at.number + PARTITION_START < c.args.self.now.nodes.vat_icb_address = used_below c.args.self.now.nodes.vat_icb_address c.args.self.now.nodes.numbers.now c.args.at.address c.args.at.number c.args.self.now.below c.requires.used in
    record {
      address = refl;
      block = λ honest. held_at (g.D.Drive.journal c.args.self.now.drive.now) (c.args.at.number + PARTITION_START) c.in_ok-read_block.field-0 (omega (arith, below, c.args.self.now.within)) (c.in_ok-read_block.ensures.read honest);
      whole = c.in_ok-read_block.ensures.whole;
    }

pub returns-clause-looks : goal.returns-clause-looks
returns-clause-looks g c = record { same_drive = refl; same_cache = refl; nodes = refl; reads = c.in_ok-read_block.ensures.reads; kept = λ honest kept. kept }
