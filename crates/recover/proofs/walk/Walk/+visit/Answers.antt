use Rattle.std.proofs.Common.{◌≡◌, IsTrue, ℕ, ◌+◌, ◌-◌, ◌^◌, ◌<◌, ◌≤◌, length, take, List, Option, Some, refl, sym, ap, subst, ◌∙◌, arith, length-take}
use Rattle.std.specs.Prelude.{All, IfSome, min, slice_get, option_map}
use Rattle.std.specs.Map.Iter.{deref_pair}
use Rattle.std.proofs.lemmas.Result.{err_from_is_err_and}
use Rattle.drive.specs.Journal.{Event, held, next_of}
use Rattle.drive.proofs.Reading.{reads_then}
use Rattle.dir.specs.declared.entry.Dir.{Dir}
use Rattle.dir.specs.declared.entry.Entry.{Entry as DirEntry}
use Rattle.dir.specs.Directory.{IsDirectory}
use Rattle.udf.specs.Udf.{IsBlock}
use Rattle.recover.specs.declared.directory.Extent.{Extent}
use Rattle.recover.specs.Forest.{IsAssigned, InsertsNumber}
use Rattle.recover.specs.declared.walk.Walk.{Walk}
use Rattle.recover.specs.ReadCache.{IsKnown}
use Rattle.recover.specs.Refused.{IsBodyRefused, IsNamesRefused}
use Rattle.recover.specs.IdSet.{marked}
use Rattle.recover.specs.Nodes.{data_of}
use Rattle.recover.specs.Seen.{AreSeen}
use Rattle.recover.specs.Walk.{HasFileEntry, HasListing, LiesBelow, Tallied, nodes_of, reached_in, uniques_in}
use Rattle.recover.proofs.Found.{goes_on_same}
use Rattle.recover.proofs.Held.{length-held}
use Rattle.recover.proofs.Refused.{body_refused, child_refused, names_refused, reach_refused, refused_same}
use Rattle.recover.proofs.Walks.{begun_all, begun_more, begun_none, directory_seen, file_seen, file_visits, visits_same}
use Rattle.recover.proofs.walk.Walk.+visit.Goals as goal

-- a count that stays, and one that goes up by one
counted_none : (before now : ℕ) → now ≡ before → Tallied before 0 now
counted_none before now same = (omega (arith, same), (λ lt. omega (arith, same)), omega (arith, same))

counted_one : (before now after : ℕ) → before < 2 ^ 32 → now ≡ before → after ≡ min (now + 1) (2 ^ 32 - 1) → Tallied before 1 after
counted_one before now after fits same is = (omega (arith, fits, same, is), (λ lt. omega (arith, same, is, lt)), omega (arith, same, is))

counts_up : (now after : ℕ) → after ≡ min (now + 1) (2 ^ 32 - 1) → (later : ℕ) → later ≡ after → 1 ≤ later
counts_up now after is later same = omega (arith, is, same)

grows : (a b c d : ℕ) → a ≤ b → b ≤ c → d ≡ c → a ≤ d
grows a b c d first second same = omega (arith, first, second, same)

not_above : (a b : ℕ) → a < b → a ≤ b
not_above a b below = omega (arith, below)

held_long : (J : List Event) (at : ℕ) → at < next_of J → at ≤ length (take at (held J))
held_long J at within = omega (arith, length-take at (held J), length-held J, within)

pub returns-in-File-clause-visits : goal.returns-in-File-clause-visits
returns-in-File-clause-visits g t c = λ h.
    let J : List Event = g.D.Drive.journal c.args.drive.now in
    let long : c.args.self.now.at ≤ length (take c.args.self.now.at (held J)) = held_long J c.args.self.now.at c.requires.within.within in
    let entry = subst (λ (n : ℕ). HasFileEntry (take n (held J)) c.in_ok-entry_at.entry_at c.args.node.now c.in_ok-body.body) c.reach.ensures.rest.at (c.in_ok-body.ensures.body.entry h) in
    let below = subst (λ (n : ℕ). IfSome c.in_ok-body.body.extent (LiesBelow n)) c.reach.ensures.rest.at c.in_ok-body.ensures.body.extent in
    let seen = file_seen (take c.args.self.now.at (held J)) c.args.self.now.entries.now c.args.node.now c.in_ok-body.body c.in_ok-entry_at.entry_at c.in_ok-entry_at.ensures.leads entry c.args.self.now.at long c.in-File.is below in
    let files = counted_one c.args.self.now.files _ _ (omega arith) (c.read_entry.ensures.rest.files ∙ c.reach.ensures.rest.files) c.saturating_add-self.ensures in
    let directories = counted_none c.args.self.now.directories _ (c.read_entry.ensures.rest.directories ∙ c.reach.ensures.rest.directories) in
    file_visits (nodes_of J c.args.self.now) c.args.self.now _ c.args.node.now (reached_in c.reach.new.self) (uniques_in c.read_entry.new.self) seen c.in-File.is
    c.in_ok-entry_at.ensures.depth (subst (λ (n : ℕ). IsAssigned n c.args.node.now.address c.args.node.now.unique) c.reach.ensures.rest.next_unique c.in_ok-body.ensures.unique.drawn)
    c.in_ok-entry_at.ensures.reached (λ x. ap (λ r. marked r x) c.read_entry.ensures.rest.reached)
    (subst (λ u. InsertsNumber (marked u) c.args.node.now.unique (uniques_in c.read_entry.new.self)) c.reach.ensures.rest.uniques c.in_ok-body.ensures.unique.uniques) (λ x. refl)
    files directories

pub loop-index-init : goal.loop-index-init
loop-index-init g t c =
    let J : List Event = g.D.Drive.journal c.args.drive.now in
    let read : Walk = c.read_entry.new.self in
    let now : Walk = record {
      at = read.at;
      entries = read.entries;
      next_unique = read.next_unique;
      reached = read.reached;
      uniques = read.uniques;
      files = read.files;
      directories = c.saturating_add-self-2.result;
    } in
    let at : now.at ≡ c.args.self.now.at = c.read_entry.ensures.rest.at ∙ c.reach.ensures.rest.at in
    let table : now.entries.now ≡ c.args.self.now.entries.now = ap (λ e. e.now) (c.read_entry.ensures.rest.entries ∙ c.reach.ensures.rest.entries) in
    let next : now.next_unique ≡ c.args.self.now.next_unique = c.read_entry.ensures.rest.next_unique ∙ c.reach.ensures.rest.next_unique in
    let es : List (List ℕ × DirEntry) = c.in_ok-names.names.dir.entries.entries in
    let names : IsTrue (g.D.Drive.honest c.read_names.new.drive) → HasListing (held J) c.args.node.now.above c.in_ok-body.body.links c.in-Some.extent c.in_ok-names.names.dir = λ h.
    subst (λ (K : List Event). HasListing (held K) c.args.node.now.above c.in_ok-body.body.links c.in-Some.extent c.in_ok-names.names.dir) c.read_entry.ensures.reads.reads.journal (c.in_ok-names.ensures.names h) in
    let are : IsTrue (g.D.Drive.honest c.read_names.new.drive) → AreSeen (held J) es c.in_ok-names.names.files = λ h.
    subst (λ (K : List Event). AreSeen (held K) es c.in_ok-names.names.files) c.read_entry.ensures.reads.reads.journal (c.in_ok-names.ensures.seen h) in
    record {
      begun = λ h.
          let long : c.args.self.now.at ≤ length (take c.args.self.now.at (held J)) = held_long J c.args.self.now.at c.requires.within.within in
          let entry = subst (λ (n : ℕ). HasFileEntry (take n (held J)) c.in_ok-entry_at.entry_at c.args.node.now c.in_ok-body.body) c.reach.ensures.rest.at (c.in_ok-body.ensures.body.entry (c.read_names.ensures.reads.reads.honest h)) in
          let below = subst (λ (n : ℕ). IfSome c.in_ok-body.body.extent (LiesBelow n)) c.reach.ensures.rest.at c.in_ok-body.ensures.body.extent in
          let here = subst (λ (o : Option Extent). IfSome o (LiesBelow c.args.self.now.at)) c.in-Some.is below in
          let seen = directory_seen (held J) c.args.self.now.entries.now c.args.node.now c.in_ok-body.body c.in_ok-entry_at.entry_at c.args.self.now.at c.in_ok-entry_at.ensures.leads entry long c.in-Directory.is c.in-Some.extent c.in-Some.is here
          c.in_ok-names.names.dir (names h) in
          let files = counted_none c.args.self.now.files _ (c.read_entry.ensures.rest.files ∙ c.reach.ensures.rest.files) in
          let directories = counted_one c.args.self.now.directories _ _ (omega arith) (c.read_entry.ensures.rest.directories ∙ c.reach.ensures.rest.directories) c.saturating_add-self-2.ensures in
          goes_on_same J now c.args.self.now c.visit_checked-index.new.self c.in_ok-names.names.files 0 c.visit_checked-index.result c.args.node.now c.in_ok-names.names.dir.entries.entries at table next (not_above _ _ c.requires.within.within) (are h) c.visit_checked-index.ensures.visits
          (begun_none (nodes_of J c.args.self.now) c.args.self.now now c.args.node.now c.in_ok-names.names.dir.entries.entries (reached_in c.reach.new.self) (uniques_in c.read_entry.new.self) seen
          c.in_ok-entry_at.ensures.depth (subst (λ (n : ℕ). IsAssigned n c.args.node.now.address c.args.node.now.unique) c.reach.ensures.rest.next_unique c.in_ok-body.ensures.unique.drawn)
          c.in_ok-entry_at.ensures.reached (λ x. ap (λ r. marked r x) c.read_entry.ensures.rest.reached)
          (subst (λ u. InsertsNumber (marked u) c.args.node.now.unique (uniques_in c.read_entry.new.self)) c.reach.ensures.rest.uniques c.in_ok-body.ensures.unique.uniques) (λ x. refl)
          files directories);
      at = c.visit_checked-index.ensures.rest.at ∙ at;
      entries = ap (λ e. e.now) c.visit_checked-index.ensures.rest.entries ∙ table;
      next_unique = c.visit_checked-index.ensures.rest.next_unique ∙ next;
      more = omega (arith, c.visit_checked-index.ensures.rest.directories, c.saturating_add-self-2.ensures, c.read_entry.ensures.rest.directories, c.reach.ensures.rest.directories);
      counted = counts_up _ _ c.saturating_add-self-2.ensures _ c.visit_checked-index.ensures.rest.directories;
      known = c.read_names.ensures.reads.known;
      are = λ h. (names h).are;
      is = λ h. (names h).is;
      seen = are;
      reads = reads_then c.in_ok-body.ensures.reads.reads c.in_ok-names.ensures.reads.reads;
    }

pub loop-index-preserved : goal.loop-index-preserved
loop-index-preserved g t c =
    let J : List Event = g.D.Drive.journal c.args.drive.now in
    let K : List Event = g.D.Drive.journal c.visit.new.drive in
    let es : List (List ℕ × DirEntry) = c.in_ok-names.names.dir.entries.entries in
    let journal : K ≡ J = c.visit.ensures.reads.reads.journal ∙ c.loop-index.invariant.reads.journal in
    let there : slice_get es c.loop-index.index ≡ Some (c.unwrap.result.0.now, c.unwrap.result.1.now) = sym c.get_index.ensures.entry ∙ ap (option_map deref_pair) c.unwrap.ensures in
    let at : c.visit.new.self.at ≡ c.args.self.now.at = c.visit.ensures.goes_on.at ∙ c.loop-index.invariant.at in
    let entries : c.visit.new.self.entries.now ≡ c.args.self.now.entries.now = c.visit.ensures.goes_on.entries ∙ c.loop-index.invariant.entries in
    let next : c.visit.new.self.next_unique ≡ c.args.self.now.next_unique = c.visit.ensures.goes_on.next_unique ∙ c.loop-index.invariant.next_unique in
    let seen : IsTrue (g.D.Drive.honest c.visit.new.drive) → AreSeen (held J) es c.keep_seen.new.files = λ h.
    c.keep_seen.ensures (held J) es (subst (λ (L : List Event). IsKnown (held L) c.visit.new.known) journal (c.visit.ensures.reads.known h))
    (record { name = (c.unwrap.result.0.now, c.unwrap.result.1.now); there = there; kind = c.child-child.ensures.kind; address = c.child-child.ensures.address; unique = c.child-child.ensures.unique })
    (c.loop-index.invariant.seen (c.visit.ensures.reads.reads.honest h)) in
    record {
      begun = λ h.
          let visits = visits_same _ _ c.loop-index.self c.args.self.now _ _ _ c.loop-index.invariant.reads.journal c.loop-index.invariant.at c.loop-index.invariant.entries (c.in_ok-visit.ensures.visits h) in
          goes_on_same J c.visit.new.self c.args.self.now c.visit_checked-index-in-loop-index.new.self c.keep_seen.new.files (c.loop-index.index + 1) c.visit_checked-index-in-loop-index.result c.args.node.now es at entries next (not_above _ _ c.requires.within.within) (seen h) c.visit_checked-index-in-loop-index.ensures.visits
          (begun_more (nodes_of J c.args.self.now) c.args.self.now c.loop-index.self c.visit.new.self c.args.node.now c.child-child.result es c.loop-index.index
          c.unwrap.result.0.now c.unwrap.result.1.now there c.child-child.ensures.kind c.child-child.ensures.address c.child-child.ensures.unique c.child-child.ensures.above c.child-child.ensures.depth
          c.loop-index.invariant.next_unique (c.loop-index.invariant.begun (c.visit.ensures.reads.reads.honest h)) visits);
      at = c.visit_checked-index-in-loop-index.ensures.rest.at ∙ at;
      entries = ap (λ e. e.now) c.visit_checked-index-in-loop-index.ensures.rest.entries ∙ entries;
      next_unique = c.visit_checked-index-in-loop-index.ensures.rest.next_unique ∙ next;
      more = grows _ _ _ _ c.loop-index.invariant.more c.visit.ensures.goes_on.more c.visit_checked-index-in-loop-index.ensures.rest.directories;
      counted = grows _ _ _ _ c.loop-index.invariant.counted c.visit.ensures.goes_on.more c.visit_checked-index-in-loop-index.ensures.rest.directories;
      known = c.visit.ensures.reads.known;
      are = λ h. c.loop-index.invariant.are (c.visit.ensures.reads.reads.honest h);
      is = λ h. c.loop-index.invariant.is (c.visit.ensures.reads.reads.honest h);
      seen = seen;
      reads = reads_then c.loop-index.invariant.reads c.in_ok-visit.ensures.reads.reads;
    }

pub returns-clause-visits : goal.returns-clause-visits
returns-clause-visits g t c = λ h.
    let long : length c.in_ok-names.names.dir.entries.entries ≤ c.loop-index.index = omega (arith, c.loop-index-test.false, c.len-count.ensures.len) in
    begun_all (nodes_of (g.D.Drive.journal c.args.drive.now) c.args.self.now) c.args.self.now c.loop-index.self c.args.node.now c.in_ok-names.names.dir.entries.entries c.loop-index.index long c.in-Directory.is (c.loop-index.invariant.begun h)

pub returns-in_err-entry_at-clause-refused : goal.returns-in_err-entry_at-clause-refused
returns-in_err-entry_at-clause-refused g t c =
    let J : List Event = g.D.Drive.journal c.args.drive.now in
    let long : length (take c.args.self.now.at (held J)) ≤ c.args.self.now.at = omega (arith, length-take c.args.self.now.at (held J)) in
    let q = err_from_is_err_and c.from_residual.result c.from_residual.ensures.1 in
    rw (q.1, q.2) (λ h. reach_refused (take c.args.self.now.at (held J)) c.args.self.now long c.args.node.now _ c.in_err-entry_at.ensures.refused)

pub returns-in_err-body-clause-refused : goal.returns-in_err-body-clause-refused
returns-in_err-body-clause-refused g t c =
    let J : List Event = g.D.Drive.journal c.args.drive.now in
    let long : length (take c.args.self.now.at (held J)) ≤ c.args.self.now.at = omega (arith, length-take c.args.self.now.at (held J)) in
    let q = err_from_is_err_and c.from_residual-in_err-body.result c.from_residual-in_err-body.ensures.1 in
    rw (q.1, q.2) (λ h.
    body_refused (take c.args.self.now.at (held J)) c.args.self.now long c.args.node.now c.in_ok-entry_at.entry_at c.in_ok-entry_at.ensures.leads c.reach.new.self c.reach.ensures.rest.at c.reach.ensures.rest.next_unique c.reach.ensures.rest.uniques _
    (subst (λ (n : ℕ). IsBodyRefused (take n (held J)) c.reach.new.self c.in_ok-entry_at.entry_at c.args.node.now c.in_err-body.field-0.0) c.reach.ensures.rest.at (c.in_err-body.ensures.refused h)))

pub returns-in_err-names-clause-refused : goal.returns-in_err-names-clause-refused
returns-in_err-names-clause-refused g t c =
    let J : List Event = g.D.Drive.journal c.args.drive.now in
    let q = err_from_is_err_and c.from_residual-in_err-names.result c.from_residual-in_err-names.ensures.1 in
    rw (q.1, q.2) (λ h.
    let entry = subst (λ (n : ℕ). HasFileEntry (take n (held J)) c.in_ok-entry_at.entry_at c.args.node.now c.in_ok-body.body) c.reach.ensures.rest.at (c.in_ok-body.ensures.body.entry (c.read_names.ensures.reads.reads.honest h)) in
    let below = subst (λ (o : Option Extent). IfSome o (LiesBelow c.args.self.now.at)) c.in-Some.is (subst (λ (n : ℕ). IfSome c.in_ok-body.body.extent (LiesBelow n)) c.reach.ensures.rest.at c.in_ok-body.ensures.body.extent) in
    names_refused (held J) c.args.self.now c.args.node.now c.in_ok-entry_at.entry_at c.in_ok-entry_at.ensures.leads c.in_ok-body.body entry c.in-Directory.is c.in-Some.extent c.in-Some.is below _
    (subst (λ (K : List Event). IsNamesRefused (held K) c.args.node.now.above c.in_ok-body.body.links c.in-Some.extent c.in_err-names.field-0.0) c.read_entry.ensures.reads.reads.journal (c.in_err-names.ensures.refused h)))

pub returns-in_err-visit-clause-refused : goal.returns-in_err-visit-clause-refused
returns-in_err-visit-clause-refused g t c =
    let J : List Event = g.D.Drive.journal c.args.drive.now in
    let q = err_from_is_err_and c.from_residual-in_err-visit.result c.from_residual-in_err-visit.ensures.1 in
    let there : slice_get c.in_ok-names.names.dir.entries.entries c.loop-index.index ≡ Some (c.unwrap.result.0.now, c.unwrap.result.1.now) = sym c.get_index.ensures.entry ∙ ap (option_map deref_pair) c.unwrap.ensures in
    rw (q.1, q.2) (λ h.
    child_refused (nodes_of J c.args.self.now) c.args.self.now c.loop-index.self c.args.node.now c.child-child.result c.in_ok-names.names.dir.entries.entries c.loop-index.index
    c.unwrap.result.0.now c.unwrap.result.1.now there c.child-child.ensures.kind c.child-child.ensures.address c.child-child.ensures.unique c.child-child.ensures.above c.child-child.ensures.depth
    c.loop-index.invariant.next_unique (c.loop-index.invariant.begun (c.visit.ensures.reads.reads.honest h)) _
    (refused_same _ _ c.loop-index.self c.args.self.now _ _ c.in_err-visit.field-0.0 c.loop-index.invariant.reads.journal c.loop-index.invariant.at c.loop-index.invariant.entries (c.in_err-visit.ensures.refused h)))

pub returns-clause-reads : goal.returns-clause-reads
returns-clause-reads g t c = record { reads = c.loop-index.invariant.reads; known = known }
  where
    known : IsTrue (g.D.Drive.honest c.loop-index.drive) → IsKnown (held (g.D.Drive.journal c.loop-index.drive)) c.keep_directory.new.self
    known = λ h.
        let journal = sym c.loop-index.invariant.reads.journal in
        let extent : Extent = c.in-Some.extent in
        let dir : Dir = c.in_ok-names.names.dir in
        c.keep_directory.ensures (held (g.D.Drive.journal c.loop-index.drive))
        (record {
          are = subst (λ (K : List Event). All IsBlock (data_of (held K) extent)) journal (c.loop-index.invariant.are h);
          is = subst (λ (K : List Event). IsDirectory dir.parent dir.entries.entries extent.first extent.size (data_of (held K) extent)) journal (c.loop-index.invariant.is h);
          seen = subst (λ (K : List Event). AreSeen (held K) dir.entries.entries c.loop-index.files) journal (c.loop-index.invariant.seen h);
        }) (c.loop-index.invariant.known h)

pub returns-in_err-visit-clause-reads : goal.returns-in_err-visit-clause-reads
returns-in_err-visit-clause-reads g t c =
    let q = err_from_is_err_and c.from_residual-in_err-visit.result c.from_residual-in_err-visit.ensures.1 in
    rw (q.1, q.2) (record { reads = reads_then c.loop-index.invariant.reads c.in_err-visit.ensures.reads.reads; known = c.in_err-visit.ensures.reads.known })

pub read_names-requires-clause-some : goal.read_names-requires-clause-some
read_names-requires-clause-some g t c =
    let lies = subst (λ (o : Option Extent). IfSome o (LiesBelow c.reach.new.self.at)) c.in-Some.is c.in_ok-body.ensures.body.extent in
    lies.some

pub read_names-requires-clause-first : goal.read_names-requires-clause-first
read_names-requires-clause-first g t c =
    let lies = subst (λ (o : Option Extent). IfSome o (LiesBelow c.reach.new.self.at)) c.in-Some.is c.in_ok-body.ensures.body.extent in
    lies.first

pub returns-in_default-clause-reads : goal.returns-in_default-clause-reads
returns-in_default-clause-reads g t c = rw c.damaged.ensures (record { reads = c.in_ok-body.ensures.reads.reads; known = c.in_ok-body.ensures.reads.known })
