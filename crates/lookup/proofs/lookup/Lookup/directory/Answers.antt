use Rattle.std.proofs.Common.{◌≡◌, ◌+◌, ◌≤◌, ◌∙◌, rules, ap, refl, subst, sym}
use Rattle.std.specs.Int.{div_ceil}
use Rattle.std.specs.Prelude.{IsOkAnd}
use Rattle.std.proofs.lemmas.Bool.{false≢true}
use Rattle.limits.specs.declared.TheConstants.{BLOCK_BYTES, PARTITION_START}
use Rattle.icb.specs.Entry as icb
use Rattle.udf.specs.Words.{icb_fields}
use Rattle.lookup.specs.declared.nodes.Nodes.{Nodes}
use Rattle.lookup.proofs.StoredNodes.{entry_there, extent_bounds, has_data, decoded, lies_below, extent_of}
use Rattle.lookup.proofs.lookup.Lookup.directory.Goals as goal

pub returns-in-Err-clause-refused : goal.returns-in-Err-clause-refused
returns-in-Err-clause-refused g c honest s there d =
    let b = entry_there c.args.self.now.nodes.vat_icb_address c.args.self.now.nodes.numbers.now (g.D.Drive.journal c.args.self.now.drive.now) c.args.at.address c.args.at.number c.in_ok-block.block s c.requires.used (c.in_ok-block.ensures.read.block honest) there in
    let ok = decoded c.in_ok-block.block there.block c.args.at.address there.fields c.decode_fe.result b.0 there.entry c.decode_fe.ensures.only in
    absurd (subst (λ r. IsOkAnd r (λ e. icb.fields_of e ≡ icb_fields there.fields)) c.in-Err.is ok)

pub returns-in_default-clause-refused : goal.returns-in_default-clause-refused
returns-in_default-clause-refused g c honest s there d =
    let at = c.args.self.now.nodes.vat_icb_address in
    let J = g.D.Drive.journal c.args.self.now.drive.now in
    let b = entry_there at c.args.self.now.nodes.numbers.now J c.args.at.address c.args.at.number c.in_ok-block.block s c.requires.used (c.in_ok-block.ensures.read.block honest) there in
    let ok = decoded c.in_ok-block.block there.block c.args.at.address there.fields c.decode_fe.result b.0 there.entry c.decode_fe.ensures.only in
    let same = subst (λ r. IsOkAnd r (λ e. icb.fields_of e ≡ icb_fields there.fields)) c.in-Ok.is ok in
    let h = has_data at c.args.self.now.nodes.numbers.now J c.args.at.address s there d in
    let place = extent_of at J s (icb_fields there.fields) c.in-Ok.entry h same in
    absurd (c.in_default.not-Extent place.0 place.1)

pub returns-in_default-clause-looks : goal.returns-in_default-clause-looks
returns-in_default-clause-looks g c = rw c.damaged-in_default.ensures c.in_ok-block.ensures.looks

pub returns-then-not-lies_below-clause-refused : goal.returns-then-not-lies_below-clause-refused
returns-then-not-lies_below-clause-refused g c honest s there d =
    let at = c.args.self.now.nodes.vat_icb_address in
    let J = g.D.Drive.journal c.args.self.now.drive.now in
    let b = entry_there at c.args.self.now.nodes.numbers.now J c.args.at.address c.args.at.number c.in_ok-block.block s c.requires.used (c.in_ok-block.ensures.read.block honest) there in
    let ok = decoded c.in_ok-block.block there.block c.args.at.address there.fields c.decode_fe.result b.0 there.entry c.decode_fe.ensures.only in
    let same = subst (λ r. IsOkAnd r (λ e. icb.fields_of e ≡ icb_fields there.fields)) c.in-Ok.is ok in
    let h = has_data at c.args.self.now.nodes.numbers.now J c.args.at.address s there d in
    let below : c.in-Extent.first + PARTITION_START + div_ceil c.in-Ok.entry.size BLOCK_BYTES ≤ at = lies_below at J s (icb_fields there.fields) c.in-Ok.entry c.in-Extent.first h same c.in-Extent.is in
    absurd (false≢true (sym c.if-not-lies_below.true ∙ c.lies_below.ensures.1 (subst (λ (n : Nodes). c.in-Extent.first + PARTITION_START + div_ceil c.in-Ok.entry.size BLOCK_BYTES ≤ n.vat_icb_address) (sym c.in_ok-block.ensures.looks.nodes) below)))

pub returns-clause-placed : goal.returns-clause-placed
returns-clause-placed g c =
    let below : c.in-Extent.first + PARTITION_START + div_ceil c.in-Ok.entry.size BLOCK_BYTES ≤ c.block_at.new.self.nodes.vat_icb_address = search rules in
    let bounds = extent_bounds _ _ _ _ _ c.in-Ok.ensures.found.fits.place c.in-Extent.is (subst (λ (n : Nodes). c.in-Extent.first + PARTITION_START + div_ceil c.in-Ok.entry.size BLOCK_BYTES ≤ n.vat_icb_address) c.in_ok-block.ensures.looks.nodes below) in
    record {
      at_is = refl;
      entry = λ honest. record {
        block = c.in_ok-block.block;
        there = c.in_ok-block.ensures.read.block honest;
        says = record { fields = icb.fields_of c.in-Ok.entry; is = c.in-Ok.ensures.found; place = ap icb.place_of c.in-Extent.is; size = refl; time = refl };
      };
      some = bounds.0;
      first = bounds.1;
      below = bounds.2;
    }
