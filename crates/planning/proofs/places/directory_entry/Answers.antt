use Rattle.std.proofs.Common.{ℕ, ◌+◌, ◌∙◌, refl, ap, subst, arith, rules}
use Rattle.dir.specs.Directory.{directory_blocks}
use Rattle.durability.specs.Formats.Kind.{Directory}
use Rattle.durability.specs.Formats.NodePlace.{Extent}
use Rattle.icb.specs.Entry as icb
use Rattle.icb.specs.declared.entry.Kind.TheVariants as entry
use Rattle.udf.specs.Udf.{udf}
use Rattle.planning.proofs.Writings.{links_agree, holds_directory}
use Rattle.planning.proofs.places.directory_entry.Goals as goal

pub returns-clause-describes : goal.returns-clause-describes
returns-clause-describes c = record {
  fields = record { kind = entry.Directory; moment = c.args.directory.now.moment; links = 1 + c.directory_count.result; unique = c.from.result; size = c.args.extent.size; place = icb.Place.Extent c.args.extent.first };
  is = c.new.ensures;
  place = refl;
  size = refl;
  time = refl;
}

pub returns-clause-written : goal.returns-clause-written
returns-clause-written c medium =
    let d = c.args.directory.now in
    let dir = d.content.dir in
    let first = c.args.extent.first in
    let size = c.args.extent.size in
    let links = ap (λ n. 1 + n) c.directory_count.ensures.value ∙ links_agree dir.parent dir.entries.entries in
    let says : (l u : ℕ) → Type 0 = λ l u. udf.IsEntry (record { kind = Directory; moment = d.moment; links = l; identity = u; size = size; place = Extent first }) c.new.result d.address in
    record {
      before = directory_blocks dir first;
      entry = c.new.result;
      blocks_are = refl;
      number_is = omega (arith, c.requires.blocks);
      place = Extent first;
      size = size;
      body = (refl, c.requires.blocks, holds_directory dir first size (search rules) (search rules) c.requires.proper (omega (arith, c.requires.room)) c.requires.size);
      is = subst (λ l. says l d.unique) links (subst (λ u. says (1 + c.directory_count.result) u) c.from.ensures c.new.ensures);
    }
