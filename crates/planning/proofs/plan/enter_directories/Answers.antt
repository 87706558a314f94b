use Rattle.std.proofs.Common.{◌≡◌, ℕ, Option, List, [], ◌∷◌, ◌++◌, ◌+◌, ◌<◌, ◌≤◌, ◌∙◌, length, refl, append_assoc, append-nil, sym, ap, subst, arith, length-append, rules}
use Rattle.std.specs.Prelude.{All}
use Rattle.std.proofs.lemmas.Bool.{false≢true}
use Rattle.std.specs.Vec.Iter.{into_iter_items}
use Rattle.limits.specs.declared.TheConstants.{PARTITION_START}
use Rattle.durability.specs.Plan.{Writing, WritesNodes}
use Rattle.udf.specs.Udf.{udf}
use Rattle.planning.specs.declared.change.NewDirectory.{NewDirectory}
use Rattle.planning.specs.declared.layout.PlacedDirectory.{PlacedDirectory}
use Rattle.vat.specs.Table.{Table, view}
use Rattle.recover.specs.Below.{IsUsed}
use Rattle.planning.specs.Needs.{directories_need}
use Rattle.table_update.specs.NextTable.{all_placed}
use Rattle.table_update.specs.TableChange.{placed}
use Rattle.planning.specs.Plan.{AreLaid, directory_list, directories_list, directories_writings, directories_written}
use Rattle.planning.specs.Writings.{IsProper, directory_writing, new_directories}
use Rattle.recover.proofs.BelowLemmas.{below_later}
use Rattle.planning.proofs.Names.{all_next, nothing}
use Rattle.planning.proofs.Plans.{list_push, writings_push, written_push, laid_push, table_push}
use Rattle.planning.proofs.Taking.{still_all}
use Rattle.planning.proofs.Writings.{node_ends}
use Rattle.planning.proofs.plan.enter_directories.Goals as goal

pub place_directory-placed-requires : goal.place_directory-placed-requires
place_directory-placed-requires c = record {
  room = omega (arith, c.loop-directory.invariant.room, c.loop-directory.invariant.end, c.requires.room, ap directories_need c.in-Some.ensures.steps.0);
  proper = (all_next (λ (d : NewDirectory). IsProper d.content.dir) (into_iter_items c.loop-directory.directory-iterator) (into_iter_items c.next.new.self) c.in-Some.directory c.in-Some.ensures.steps.0 c.loop-directory.invariant.left).0;
}

pub loop-directory-init : goal.loop-directory-init
loop-directory-init c =
    let start = c.args.numbers.now.next in
    let none : c.in_ok-all.all.items ≡ [] = c.in_ok-all.ensures.items in
    let gives = c.into_iter-directory-iterator.ensures.into_iter_gives in
    record {
      left = subst (λ (ds : List NewDirectory). All (λ d. IsProper d.content.dir) ds) (sym gives.0) c.requires.proper;
      used = λ h. subst (λ (ds : List NewDirectory). All (λ d. IsUsed d.address c.args.vat.now.entries.items) ds) (sym gives.0) h;
      count = omega (arith, gives.1, ap length gives.0);
      writings = ap new_directories (sym gives.0) ∙ subst (λ (ps : List PlacedDirectory). new_directories (into_iter_items c.into_iter-directory-iterator.result) ≡ directories_writings ps ++ new_directories (into_iter_items c.into_iter-directory-iterator.result)) (sym none) refl;
      table = subst (λ (ps : List PlacedDirectory). view c.args.vat.now ≡ all_placed (directories_written ps) (view c.args.vat.now)) (sym none) refl;
      fits = c.requires.fits;
      below = λ h. h;
      stays = record { previous = refl; commits = refl; unique = refl; need = refl };
      written = λ medium. subst (λ (ps : List PlacedDirectory). WritesNodes udf medium (directories_writings ps) start (directories_list ps) (directories_written ps)) (sym none) (refl, refl);
      laid = subst (λ (ps : List PlacedDirectory). AreLaid start ps) (sym none) tt;
      room = omega (arith, ap directories_need gives.0);
      next = subst (λ (ps : List PlacedDirectory). start ≡ start + length (directories_list ps)) (sym none) (omega arith);
      end = refl;
    }

pub returns-clause-enters : goal.returns-clause-enters
returns-clause-enters c =
    let so_far = c.loop-directory.invariant in
    record {
      table = so_far.table;
      fits = so_far.fits;
      next = so_far.next;
      most = omega (arith, so_far.room);
      below = so_far.below;
      stays = so_far.stays;
    }

pub returns-clause-written : goal.returns-clause-written
returns-clause-written c = c.loop-directory.invariant.written

pub returns-clause-placed : goal.returns-clause-placed
returns-clause-placed c =
    let ps = c.loop-directory.all.items in
    let none : into_iter_items c.loop-directory.directory-iterator ≡ [] = nothing (into_iter_items c.loop-directory.directory-iterator) (omega (arith, c.loop-directory.invariant.count, c.in-None.ensures.steps.0)) in
    record {
      writings = sym (c.loop-directory.invariant.writings ∙ ap (λ (ds : List NewDirectory). directories_writings ps ++ new_directories ds) none ∙ append-nil (directories_writings ps));
      laid = c.loop-directory.invariant.laid;
    }

pub loop-directory-preserved : goal.loop-directory-preserved
loop-directory-preserved c =
    let start = c.args.numbers.now.next in
    let now = c.loop-directory.numbers.next in
    let next = c.place_directory-placed.new.self.next in
    let all = c.loop-directory.all.items in
    let p = c.place_directory-placed.result in
    let ends = node_ends [] (directory_writing p.directory) now (directory_list p) p.number (c.place_directory-placed.ensures.written []) in
    let later : now + PARTITION_START ≤ next + PARTITION_START = omega (arith, ends, c.place_directory-placed.ensures.next) in
    let number : p.number + PARTITION_START < next + PARTITION_START = omega (arith, c.place_directory-placed.ensures.next) in
    let d = c.in-Some.directory in
    let rest = new_directories (into_iter_items c.next.new.self) in
    let written : new_directories c.args.directories.items ≡ directories_writings (all ++ p ∷ []) ++ rest =
    c.loop-directory.invariant.writings
    ∙ ap (λ (ds : List NewDirectory). directories_writings all ++ new_directories ds) c.in-Some.ensures.steps.0
    ∙ ap (λ (x : NewDirectory). directories_writings all ++ (directory_writing x ∷ rest)) (sym c.place_directory-placed.ensures.directory)
    ∙ sym (append_assoc (directories_writings all) (directory_writing p.directory ∷ []) rest)
    ∙ ap (λ (ws : List Writing). ws ++ rest) (sym (writings_push all p)) in
    let moved : view c.place_node.new.vat ≡ placed p.directory.address p.number (view c.loop-directory.vat) = search rules in
    let pushed : all ++ p ∷ [] ≡ c.push.new.self.items = sym c.in_ok-push.ensures.items in
    record {
      left = (all_next (λ (d : NewDirectory). IsProper d.content.dir) (into_iter_items c.loop-directory.directory-iterator) (into_iter_items c.next.new.self) c.in-Some.directory c.in-Some.ensures.steps.0 c.loop-directory.invariant.left).1;
      used = λ h.
          let xs = c.loop-directory.vat.entries.items in
          let here = all_next (λ (e : NewDirectory). IsUsed e.address xs) (into_iter_items c.loop-directory.directory-iterator) (into_iter_items c.next.new.self) d c.in-Some.ensures.steps.0 (c.loop-directory.invariant.used h) in
          let address : d.address ≡ p.directory.address = ap (λ (e : NewDirectory). e.address) (sym c.place_directory-placed.ensures.directory) in
          let used : IsUsed p.directory.address xs = subst (λ (a : ℕ). IsUsed a xs) address here.0 in
          subst (λ (ys : List (Option ℕ)). All (λ (e : NewDirectory). IsUsed e.address ys) (into_iter_items c.next.new.self)) (sym (ap (λ (t : Table). t.entries) moved))
          (still_all (into_iter_items c.next.new.self) xs p.directory.address p.number used here.1);
      count = omega (arith, c.loop-directory.invariant.count, ap length c.in-Some.ensures.steps.0, c.in-Some.ensures.steps.1);
      writings = subst (λ (ps : List PlacedDirectory). new_directories c.args.directories.items ≡ directories_writings ps ++ new_directories (into_iter_items c.next.new.self)) pushed written;
      table = subst (λ (ps : List PlacedDirectory). view c.place_node.new.vat ≡ all_placed (directories_written ps) (view c.args.vat.now)) pushed (table_push all p (view c.args.vat.now) (view c.loop-directory.vat) (view c.place_node.new.vat) c.loop-directory.invariant.table moved);
      fits = c.place_node.ensures.fits;
      below = λ h. c.place_node.ensures.below (next + PARTITION_START) number (below_later (now + PARTITION_START) (next + PARTITION_START) c.loop-directory.vat.entries.items later (c.loop-directory.invariant.below h));
      stays = record {
        previous = c.place_node.ensures.stays.previous ∙ c.loop-directory.invariant.stays.previous;
        commits = c.place_node.ensures.stays.commits ∙ c.loop-directory.invariant.stays.commits;
        unique = c.place_node.ensures.stays.unique ∙ c.loop-directory.invariant.stays.unique;
        need = c.place_node.ensures.stays.need ∙ c.loop-directory.invariant.stays.need;
      };
      written = λ medium. subst (λ (ps : List PlacedDirectory). WritesNodes udf medium (directories_writings ps) start (directories_list ps) (directories_written ps)) pushed (written_push all p start now c.loop-directory.invariant.next c.loop-directory.invariant.written c.place_directory-placed.ensures.written medium);
      laid = subst (λ (ps : List PlacedDirectory). AreLaid start ps) pushed (laid_push all p start now c.loop-directory.invariant.next c.loop-directory.invariant.laid c.place_directory-placed.ensures.laid);
      room = omega (arith, c.loop-directory.invariant.room, ap directories_need c.in-Some.ensures.steps.0, c.place_directory-placed.ensures.most);
      next = subst (λ (ps : List PlacedDirectory). next ≡ start + length (directories_list ps)) pushed (omega (arith, ends, c.place_directory-placed.ensures.next, c.loop-directory.invariant.next, ap length (list_push all p), length-append (directories_list all) (directory_list p)));
      end = c.place_directory-placed.ensures.end ∙ c.loop-directory.invariant.end;
    }

pub returns-then-not-place_node-clause-used : goal.returns-then-not-place_node-clause-used
returns-then-not-place_node-clause-used c h =
    let here = all_next (λ (e : NewDirectory). IsUsed e.address c.loop-directory.vat.entries.items) (into_iter_items c.loop-directory.directory-iterator) (into_iter_items c.next.new.self) c.in-Some.directory c.in-Some.ensures.steps.0 (c.loop-directory.invariant.used h) in
    absurd (false≢true (sym c.if-not-place_node.true ∙ c.place_node.ensures.used.1 here.0))
