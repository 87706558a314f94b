use Rattle.std.proofs.Common.{◌≡◌, Option, sym, subst, ◌∙◌, arith}
use Rattle.std.specs.Prelude.{IfSome}
use Rattle.recover.specs.declared.directory.Extent.{Extent}
use Rattle.recover.proofs.LastExtent.{EndsBelow}
use Rattle.recover.proofs.Held.{lies_there}
use Rattle.recover.proofs.Nodes.{extent_lies}
use Rattle.recover.proofs.Placed.{extent_same, listed_below}
use Rattle.recover.proofs.walk.is_known.Goals as goal

pub returns : goal.returns
returns c medium is known =
    let said = c.in-Some.ensures medium known in
    let wide = said.unique in
    let at = c.args.at in
    let f = said.fields in
    let ends = c.is_below.ensures.0 is in
    let below = subst (λ (o : Option Extent). IfSome o (EndsBelow at)) said.extent ends in (
      record { links = c.in-Some.entry.links; extent = c.in-Some.entry.extent },
      record {
        block = said.block;
        there = lies_there medium at c.args.entry_at said.block c.requires said.there;
        fields = said.fields;
        is = said.is;
        kind = sym said.kind ∙ c.is_kind.ensures.0 c.if-not-is_kind.false;
        unique = (let e : said.fields.unique ≡ c.args.node.now.unique = omega (arith, c.if-entry-from.false, c.from.ensures, wide) in e);
        links = sym said.links;
        file = λ file. sym said.links ∙ c.has_links.ensures.0 c.if-not-has_links.false file;
        listed = listed_below at medium f.size f.place medium below said.listed;
        extent = said.extent ∙ sym (extent_same at medium f.size f.place medium below);
      },
      extent_lies at c.in-Some.entry.extent c.in-Some.entry.fits ends,
    )
