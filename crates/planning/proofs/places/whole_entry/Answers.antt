use Rattle.std.proofs.Common.{◌≡◌, ◌++◌, ℕ, List, [], length, refl, sym, ap, subst}
use Rattle.icb.specs.Entry.{place_of, Fields}
use Rattle.icb.specs.declared.entry.Kind.TheVariants.{File as IcbFile}
use Rattle.durability.specs.Formats.Kind.{File}
use Rattle.durability.specs.Plan.{IsPlaced, PlacesFile}
use Rattle.durability.specs.Volume.{bytes_in_extents}
use Rattle.lookup.specs.Extents.{full_size}
use Rattle.udf.specs.Said.{said_place}
use Rattle.udf.specs.Udf.{all_firsts, udf}
use Rattle.udf.proofs.Said.{entries_agree}
use Rattle.table_update.specs.Outside.{outside}
use Rattle.planning.proofs.places.whole_entry.Goals as goal

pub returns : goal.returns
returns c medium from blocks placed =
    let f = c.args.file.now in
    let size = length c.as_slice-bytes.result.now in
    let place = said_place (place_of c.place_of_bytes.result) in
    let fields : ℕ → Fields = λ u. record { kind = IcbFile; moment = c.args.moment; links = 1; unique = u; size = size; place = place_of c.place_of_bytes.result } in
    let says : ℕ → Type 0 = λ u. udf.IsEntry (record { kind = File; moment = c.args.moment; links = 1; identity = u; size = size; place = place }) c.new.result f.address in
    let places = subst (λ (bs : List ℕ). IsPlaced udf (outside bs) from c.args.first blocks → PlacesFile udf medium 0 (all_firsts []) bs from blocks place) c.as_slice-bytes.ensures.bytes (c.place_of_bytes.ensures.places medium (all_firsts []) from blocks) in
    let kept : List ℕ → List ℕ = λ xs. bytes_in_extents medium (full_size xs) (all_firsts xs) ++ f.bytes.now in
    record {
      before = blocks;
      entry = c.new.result;
      blocks_are = refl;
      number_is = refl;
      place = place;
      size = size;
      body = subst (λ (xs : List ℕ). (size ≡ length (kept xs)) × PlacesFile udf medium (full_size xs) (all_firsts xs) (kept xs) from blocks place) (sym c.requires.none) (ap length c.as_slice-bytes.ensures.bytes, places placed);
      is = subst says c.from.ensures ((entries_agree (fields c.from.result) c.new.result f.address).0 c.new.ensures);
    }
