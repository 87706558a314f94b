use Rattle.std.proofs.Common.{◌≡◌, ◌<◌, List, ℕ, length, ap, subst, refl, arith}
use Rattle.std.specs.Prelude.{if◌then◌else◌, []}
use Rattle.std.proofs.lemmas.Bool.{lt-ltb}
use Rattle.durability.specs.Plan.{IsPlaced}
use Rattle.durability.specs.Plan.PlacesFile.{outside as beyond}
use Rattle.udf.specs.Udf.{udf}
use Rattle.table_update.specs.Outside.{outside}
use Rattle.planning.proofs.places.place_of_bytes.Goals as goal

pub returns-else-bytes-le-INSIDE_BYTES-clause-places : goal.returns-else-bytes-le-INSIDE_BYTES-clause-places
returns-else-bytes-le-INSIDE_BYTES-clause-places c medium firsts from blocks placed =
    let bytes = c.args.bytes.now in
    let many : 1872 < length bytes = omega (arith, c.if-bytes-le-INSIDE_BYTES.false) in
    let all : outside bytes ≡ bytes = ap (λ b. if b then bytes else []) (lt-ltb 1872 (length bytes) many) in
    beyond refl many c.args.first (subst (λ (bs : List ℕ). IsPlaced udf bs from c.args.first blocks) all placed) refl
