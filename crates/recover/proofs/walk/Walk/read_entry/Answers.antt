use Rattle.std.proofs.Common.{◌≡◌, ℕ, ◌+◌, ◌≤◌, take, sym, ◌∙◌, subst, arith}
use Rattle.std.specs.Prelude.{IfSome, Option}
use Rattle.std.specs.Int.{div_ceil}
use Rattle.std.proofs.lemmas.Bool.{false≢true}
use Rattle.std.proofs.lemmas.Result.{err_from_is_err_and}
use Rattle.limits.specs.declared.TheConstants.{BLOCK_BYTES, PARTITION_START}
use Rattle.drive.specs.Journal.{held}
use Rattle.recover.specs.declared.directory.Extent.{Extent}
use Rattle.recover.specs.Walk.{extent_in}
use Rattle.recover.proofs.Held.{lies_there}
use Rattle.recover.proofs.Nodes.{extent_lies}
use Rattle.recover.proofs.Placed.{extent_same, listed_below}
use Rattle.recover.proofs.LastExtent.{EndsBelow, ends_below}
use Rattle.recover.proofs.Taken.{other_entry, unread}
use Rattle.recover.proofs.walk.Walk.read_entry.Goals.{then-not-is_kind-via-then-not-is_kind, then-not-is_kind-via-else-not-is_kind+then-entry-from, then-not-is_new-via-then-not-is_new, then-not-is_new-via-else-not-is_new+then-not-has_links}
use Rattle.recover.proofs.walk.Walk.read_entry.Goals as goal

pub returns-clause-body : goal.returns-clause-body
returns-clause-body g c = record {
  entry = λ h.
      let said = c.in_ok-entry.ensures.described h in
      let wide = said.unique in
      let at = c.args.self.now.at in
      let M = held (g.D.Drive.journal c.args.drive.now) in
      let f = said.fields in
      let ends = subst (λ (n : ℕ). IfSome c.in_ok-entry.entry.extent (EndsBelow n)) c.is_new_unique.ensures.rest.at (c.is_below.ensures.0 c.if-not-is_below.false) in
      let below = subst (λ (o : Option Extent). IfSome o (EndsBelow at)) said.extent ends in
      record {
        block = said.block;
        there = lies_there _ c.args.self.now.at c.args.entry_at said.block c.requires.below said.there;
        fields = said.fields;
        is = said.is;
        kind = sym said.kind ∙ c.is_kind.ensures.0 c.if-not-is_kind.false;
        unique = (let e : said.fields.unique ≡ c.args.node.now.unique = omega (arith, c.if-entry-from.false, c.from.ensures, wide) in e);
        links = sym said.links;
        file = λ file. sym said.links ∙ c.has_links.ensures.0 c.if-not-has_links.false file;
        listed = listed_below at M f.size f.place M below said.listed;
        extent = said.extent ∙ sym (extent_same at M f.size f.place M below);
      };
  extent =
      extent_lies c.args.self.now.at c.in_ok-entry.entry.extent c.in_ok-entry.entry.fits
      (subst (λ (n : ℕ). IfSome c.in_ok-entry.entry.extent (λ (e : Extent). e.first + PARTITION_START + div_ceil e.size BLOCK_BYTES ≤ n)) c.is_new_unique.ensures.rest.at (c.is_below.ensures.0 c.if-not-is_below.false));
}

pub returns-clause-unique : goal.returns-clause-unique
returns-clause-unique g c = record { drawn = c.in_ok-is_new.ensures.drawn c.if-not-is_new.false; uniques = c.in_ok-is_new.ensures.uniques c.if-not-is_new.false }

pub returns-in_err-entry-clause-refused : goal.returns-in_err-entry-clause-refused
returns-in_err-entry-clause-refused g c =
    let q = err_from_is_err_and c.from_residual.result c.from_residual.ensures.1 in
    rw (q.1, q.2) (λ h. unread (held (g.D.Drive.journal c.args.drive.now)) c.args.self.now c.args.entry_at c.args.node.now c.requires.below _ (c.in_err-entry.ensures.refused h))

pub returns-then-not-is_kind-clause-refused : goal.returns-then-not-is_kind-clause-refused
returns-then-not-is_kind-clause-refused g c = rw c.damaged.ensures (λ h.
    let said = c.in_ok-entry.ensures.described h in
    let have = said.unique in
    other_entry (take c.args.self.now.at (held (g.D.Drive.journal c.args.drive.now))) c.args.self.now c.args.entry_at c.args.node.now said.block
    (lies_there _ c.args.self.now.at c.args.entry_at said.block c.requires.below said.there) said.fields said.is
    (λ (kind, unique, file, below, drawn, fresh).
    elim c.then-not-is_kind.branch [
      | then-not-is_kind-via-then-not-is_kind w ↦ false≢true (sym w.if-not-is_kind.true ∙ c.is_kind.ensures.1 (said.kind ∙ kind))
      | then-not-is_kind-via-else-not-is_kind+then-entry-from w ↦ let other = w.if-entry-from.true in let wide = w.from.ensures in omega (arith, other, wide, have, unique)
    ]))

pub returns-then-not-is_new-clause-refused : goal.returns-then-not-is_new-clause-refused
returns-then-not-is_new-clause-refused g c = rw c.damaged-then-not-is_new.ensures (λ h.
    let said = c.in_ok-entry.ensures.described h in
    other_entry (take c.args.self.now.at (held (g.D.Drive.journal c.args.drive.now))) c.args.self.now c.args.entry_at c.args.node.now said.block
    (lies_there _ c.args.self.now.at c.args.entry_at said.block c.requires.below said.there) said.fields said.is
    (λ (kind, unique, file, below, drawn, fresh).
    elim c.then-not-is_new.branch [
      | then-not-is_new-via-then-not-is_new w ↦ false≢true (sym w.if-not-is_new.true ∙ c.in_ok-is_new.ensures.only drawn fresh)
      | then-not-is_new-via-else-not-is_new+then-not-has_links w ↦ false≢true (sym w.if-not-has_links.true ∙ w.has_links.ensures.1 (λ is. said.links ∙ file is))
    ]))

pub returns-then-not-is_below-clause-refused : goal.returns-then-not-is_below-clause-refused
returns-then-not-is_below-clause-refused g c = rw c.damaged-then-not-is_below.ensures (λ h.
    let said = c.in_ok-entry.ensures.described h in
    other_entry (take c.args.self.now.at (held (g.D.Drive.journal c.args.drive.now))) c.args.self.now c.args.entry_at c.args.node.now said.block
    (lies_there _ c.args.self.now.at c.args.entry_at said.block c.requires.below said.there) said.fields said.is
    (λ (kind, unique, file, below, drawn, fresh).
    let at = c.args.self.now.at in
    let M = held (g.D.Drive.journal c.args.drive.now) in
    let f = said.fields in
    let under = ends_below at (extent_in (take at M) f.size f.place) below in
    let ends = subst (λ (o : Option Extent). IfSome o (EndsBelow at)) (extent_same at M f.size f.place (take at M) under ∙ sym said.extent) under in
    let there = subst (λ (n : ℕ). IfSome c.in_ok-entry.entry.extent (EndsBelow n)) (sym c.is_new_unique.ensures.rest.at) ends in
    false≢true (sym c.if-not-is_below.true ∙ c.is_below.ensures.1 there)))
