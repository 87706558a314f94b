use Rattle.std.proofs.Common.{◌≡◌, ◌%◌, ◌∙◌, List, ℕ, ap, drop, sym}
use Rattle.std.proofs.lemmas.List.{take_rest}
use Rattle.limits.specs.declared.TheConstants.{BLOCK_BYTES}
use Rattle.lookup.proofs.FileSizes.{piece_read}
use Rattle.lookup.proofs.lookup.Lookup.extent_piece.Goals as goal

pub returns-then-skip-eq0-clause-read : goal.returns-then-skip-eq0-clause-read
returns-then-skip-eq0-clause-read g c honest once below =
    let items = c.in_ok-bytes.bytes.items in
    let none : c.args.offset % BLOCK_BYTES ≡ 0 = c.if-skip-eq0.true in
    let whole : drop (c.args.offset % BLOCK_BYTES) items ≡ items = ap (λ (n : ℕ). drop n items) none in
    (sym whole ∙ piece_read c.args.self.now.nodes.vat_icb_address (g.D.Drive.journal c.args.self.now.drive.now) c.args.first c.args.size c.args.offset c.args.count items once c.requires.whole below c.requires.within (c.in_ok-bytes.ensures.read honest), tt)

pub returns-clause-read : goal.returns-clause-read
returns-clause-read g c honest once below =
    let copied = c.in_ok-to_vec.ensures.items_if_clones_equal (λ x y e. e) in
    let sliced = take_rest c.deref.result.now (c.args.offset % BLOCK_BYTES) in (
      copied ∙ (sliced ∙ ap (λ (items : List ℕ). drop (c.args.offset % BLOCK_BYTES) items) c.deref.ensures.value
          ∙ piece_read c.args.self.now.nodes.vat_icb_address (g.D.Drive.journal c.args.self.now.drive.now) c.args.first c.args.size c.args.offset c.args.count c.in_ok-bytes.bytes.items once c.requires.whole below c.requires.within (c.in_ok-bytes.ensures.read honest)),
      tt,
    )
