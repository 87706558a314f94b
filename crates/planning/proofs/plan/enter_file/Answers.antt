use Rattle.std.proofs.Common.{◌≡◌, ◌+◌, ◌≤◌, ◌++◌, ◌∷◌, ◌∙◌, [], Option, length, refl, sym, ap, subst, arith, rules}
use Rattle.std.specs.Prelude.{IfSome}
use Rattle.std.proofs.lemmas.Grind.{common_steps}
use Rattle.limits.specs.declared.TheConstants.{PARTITION_START}
use Rattle.model.specs.Graph.{as_stored}
use Rattle.model.specs.Graph.Body.{Bytes}
use Rattle.durability.specs.Plan.{Writing}
use Rattle.durability.specs.Volume.{bytes_in_extents}
use Rattle.udf.specs.Udf.{all_firsts}
use Rattle.lookup.specs.Extents.{full_size}
use Rattle.planning.specs.declared.file.NewFile.{NewFile}
use Rattle.planning.proofs.Replacing.{same_kept}
use Rattle.planning.specs.Needs.{file_need}
use Rattle.planning.specs.Plan.{file_data}
use Rattle.recover.proofs.BelowLemmas.{below_later}
use Rattle.planning.proofs.Writings.{writes_one}
use Rattle.planning.specs.Writings.{AreKeptOn, file_writing, new_file}
use Rattle.planning.proofs.plan.enter_file.Goals as goal

pub returns-in_default-clause-enters : goal.returns-in_default-clause-enters
returns-in_default-clause-enters c = record {
  table = refl;
  fits = c.requires.fits;
  next = omega arith;
  most = omega arith;
  below = λ h. h;
  stays = record { previous = refl; commits = refl; unique = refl; need = refl };
}

pub returns-in_default-clause-written : goal.returns-in_default-clause-written
returns-in_default-clause-written c medium kept = (refl, refl)

pub returns-in_default-clause-writings : goal.returns-in_default-clause-writings
returns-in_default-clause-writings c medium = sym (ap (new_file medium c.args.moment) c.in_default.is)

pub returns-clause-written : goal.returns-clause-written
returns-clause-written c medium kept =
    let p = c.in_ok-placed.placed in
    writes_one medium (file_writing medium c.args.moment p.file) c.args.numbers.now.next (file_data p ++ p.entry ∷ []) p.number (c.in_ok-placed.ensures.written medium kept)

pub returns-clause-kept : goal.returns-clause-kept
returns-clause-kept c medium kept =
    let f = c.in-Some.file in
    let p = c.in_ok-placed.placed.file in
    let here : AreKeptOn medium f = subst (λ (o : Option NewFile). IfSome o (AreKeptOn medium)) c.in-Some.is kept in
    same_kept medium f p (sym c.in_ok-placed.ensures.kept) here

pub returns-clause-enters : goal.returns-clause-enters
returns-clause-enters c =
    let p = c.in_ok-placed.placed in
    let next = c.place_file.new.self.next in
    let ends : p.number + 1 ≡ c.args.numbers.now.next + length (file_data p ++ p.entry ∷ []) = c.in_ok-placed.ensures.ends in
    let later : c.args.numbers.now.next + PARTITION_START ≤ next + PARTITION_START = omega (arith, ends, c.in_ok-placed.ensures.next) in
    record {
      table = first_of (search rules, grind (arith, common_steps));
      fits = c.place_node.ensures.fits;
      next = omega (arith, ends, c.in_ok-placed.ensures.next);
      most = omega (arith, c.in_ok-placed.ensures.most, ap file_need c.in-Some.is);
      below = λ h. c.place_node.ensures.below (next + PARTITION_START) (omega (arith, c.in_ok-placed.ensures.next)) (below_later (c.args.numbers.now.next + PARTITION_START) (next + PARTITION_START) c.args.vat.now.entries.items later h);
      stays = c.place_node.ensures.stays;
    }

pub returns-clause-writings : goal.returns-clause-writings
returns-clause-writings c medium =
    let m = c.args.moment in
    let e = c.in_ok-placed.ensures in
    let one : file_writing medium m c.in_ok-placed.placed.file ≡ file_writing medium m c.in-Some.file =
    λ i. record {
      address = e.address i;
      kept = full_size (e.kept i);
      firsts = all_firsts (e.kept i);
      stored = as_stored (e.unique i) m (Bytes (bytes_in_extents medium (full_size (e.kept i)) (all_firsts (e.kept i)) ++ e.bytes i));
    } in
    ap (λ (w : Writing). w ∷ []) one ∙ sym (ap (new_file medium m) c.in-Some.is)

pub place_file-requires : goal.place_file-requires
place_file-requires c = record { room = omega (arith, c.requires.room, ap file_need c.in-Some.is) }
