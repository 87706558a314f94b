use Rattle.std.proofs.Common.{◌≡◌, ℕ, ◌+◌, ◌%◌, List, ap, ◌∙◌, arith, sum}
use Rattle.std.specs.Prelude.{slice_index, slice_set}
use Rattle.std.specs.Int.{w32, to_le_bytes}
use borrow.Rule.Slice.PartMut.{put_mid}
use Rattle.dir.specs.Identifier.{identifier}
use Rattle.dir.proofs.Spelled.{moved-identifier}
use Rattle.dir.proofs.item.relocate.Goals as goal

pub returns : goal.returns
returns c x is =
    let total = c.from.result + c.from-2.result + c.from-3.result + c.from-4.result + c.from-5.result in
    let location : c.to_le_bytes-location.result ≡ to_le_bytes w32 c.args.number = c.to_le_bytes-location.ensures in
    let all : total ≡ slice_index (identifier 0 x 0) 4 + sum (to_le_bytes w32 c.args.number) = omega (
      arith,
      c.from.ensures,
      c.from-2.ensures,
      c.from-3.ensures,
      c.from-4.ensures,
      c.from-5.ensures,
      ap (λ (b : List ℕ). slice_index b 4) is,
      ap (λ (b : List ℕ). slice_index b 0) location,
      ap (λ (b : List ℕ). slice_index b 1) location,
      ap (λ (b : List ℕ). slice_index b 2) location,
      ap (λ (b : List ℕ). slice_index b 3) location,
    ) in
    ap (λ (b : List ℕ). put_mid 12 4 (slice_set b 4 (total % 256)) c.copy_from_slice.new.self) is
    ∙ ap (λ (t : List ℕ). put_mid 12 4 (slice_set (identifier 0 x 0) 4 (total % 256)) t) (c.copy_from_slice.ensures.after ∙ location)
    ∙ moved-identifier c.args.number total x all
