-- A table takes each change of a plan: what is placed finds its address, and what goes is there.
use Rattle.std.proofs.Common.{◌≡◌, ℕ, ◌≤◌, ◌==◌, Bool, true, false, List, [], ◌∷◌, ◌++◌, length, map, get_or, refl, sym, ap, subst, ◌∙◌, arith}
use Rattle.std.specs.Prelude.{Option, Some, None, IfSome, All}
use Rattle.std.proofs.lemmas.Bool.{eqb-true, eqb-false}
use Rattle.std.proofs.lemmas.List.{map-append}
use Rattle.std.proofs.lemmas.List.Elements.{All-cons}
use Rattle.std.proofs.lemmas.Option.{slice_get_within}
use Rattle.durability.specs.Volume.{Medium}
use Rattle.durability.specs.Plan.{Writing, Written}
use Rattle.vat.specs.Table.{Table}
use Rattle.planning.specs.declared.change.Change.{Change}
use Rattle.planning.specs.declared.change.NewDirectory.{NewDirectory}
use Rattle.planning.specs.declared.file.NewFile.{NewFile}
use Rattle.planning.specs.declared.layout.PlacedDirectory.{PlacedDirectory}
use Rattle.planning.specs.declared.layout.PlacedFile.{PlacedFile}
use Rattle.recover.specs.Below.{IsUsed}
use Rattle.table_update.specs.declared.node.NewNode.{NewNode}
use Rattle.table_update.specs.NextTable.{AreTaken, AreUsed, all_placed, with_new_node}
use Rattle.planning.specs.Plan.{file_writings, file_written, directories_writings, directories_written}
use Rattle.table_update.specs.TableChange.{IsFree, IsRemovable, placed, with_number}
use Rattle.planning.specs.Writings.{change_writings, new_directories, new_file}
use Rattle.table_update.proofs.EntryChanges.{entry_other}
use Rattle.table_update.proofs.NodeChanges.{still_used}
use Rattle.planning.specs.Last.{IsTakenWith}
use Rattle.planning.proofs.Plans.{placed_append}

used_within : (xs : List (Option ℕ)) (i : ℕ) → IsUsed i xs → i ≤ length xs
used_within xs i used = omega (arith, slice_get_within xs i (Some used.0) used.1)

-- an address that leads somewhere does so where another is placed, and did before
pub still_all : (ds : List NewDirectory) (xs : List (Option ℕ)) (i number : ℕ) → IsUsed i xs → All (λ (d : NewDirectory). IsUsed d.address xs) ds → All (λ (d : NewDirectory). IsUsed d.address (with_number i (Some number) xs)) ds
still_all ds xs i number used all k d lt = still_used xs i (get_or ds k d).address number (used_within xs i used) (all k d lt)

used_before : (xs : List (Option ℕ)) (i k number : ℕ) → IsUsed i xs → IsUsed k (with_number i (Some number) xs) → IsUsed k xs
used_before xs i k number used is = go (k == i) refl
  where
    go : (b : Bool) → (k == i) ≡ b → IsUsed k xs
    go true e = subst (λ (n : ℕ). IsUsed n xs) (sym (eqb-true k i e)) used
    go false e = (is.0, sym (entry_other xs i k (Some number) (used_within xs i used) (eqb-false k i e)) ∙ is.1)

-- ---- at no number yet

abbrev pub bare : List Writing → List Written
bare nodes = map (λ (n : Writing). record { address = n.address; number = 0 }) nodes

pub bare_addresses : (nodes : List Writing) → map (λ (w : Written). w.address) (bare nodes) ≡ map (λ (n : Writing). n.address) nodes
bare_addresses [] = refl
bare_addresses (n ∷ nodes) = ap (λ (rest : List ℕ). n.address ∷ rest) (bare_addresses nodes)

-- what is used in turn is used at once
all_used : (ds : List NewDirectory) (xs : List (Option ℕ)) → AreUsed (bare (new_directories ds)) xs → All (λ (d : NewDirectory). IsUsed d.address xs) ds
all_used [] xs h = λ k d lt. absurd (omega (arith, lt))
all_used (d ∷ ds) xs h =
    let rest : All (λ (e : NewDirectory). IsUsed e.address (with_number d.address (Some 0) xs)) ds = all_used ds (with_number d.address (Some 0) xs) h.1 in
    All-cons (λ (e : NewDirectory). IsUsed e.address xs) d ds h.0 (λ k e lt. used_before xs d.address (get_or ds k e).address 0 h.0 (rest k e lt))

used_after : (xs ys : List Written) (t : Table) → AreUsed (xs ++ ys) t.entries → AreUsed ys (all_placed xs t).entries
used_after [] ys t h = h
used_after (x ∷ xs) ys t h = used_after xs ys (placed x.address x.number t) h.1

-- ---- as they are placed

file_addresses : (medium : Medium) (moment : ℕ) (p : Option PlacedFile) → map (λ (w : Written). w.address) (file_written p) ≡ map (λ (n : Writing). n.address) (file_writings medium moment p)
file_addresses medium moment None = refl
file_addresses medium moment (Some p) = refl

directory_addresses : (ps : List PlacedDirectory) → map (λ (w : Written). w.address) (directories_written ps) ≡ map (λ (n : Writing). n.address) (directories_writings ps)
directory_addresses [] = refl
directory_addresses (p ∷ ps) = ap (λ (rest : List ℕ). p.directory.address ∷ rest) (directory_addresses ps)

both_addresses : (xs ys : List Written) (ms ns : List Writing) → map (λ (w : Written). w.address) xs ≡ map (λ (n : Writing). n.address) ms → map (λ (w : Written). w.address) ys ≡ map (λ (n : Writing). n.address) ns
    → map (λ (w : Written). w.address) (xs ++ ys) ≡ map (λ (n : Writing). n.address) (ms ++ ns)
both_addresses xs ys ms ns p q =
    map-append (λ (w : Written). w.address) xs ys
    ∙ (λ i. p i ++ q i)
    ∙ sym (map-append (λ (n : Writing). n.address) ms ns)

-- a table that takes a change takes it once the new node is in it
pub taken_after : (medium : Medium) (made : Option NewNode) (moment : ℕ) (change : Change) (base : Table) → IsTakenWith medium made moment change base → IsTakenWith medium None moment change (with_new_node made base)
taken_after medium made moment change base takes written same =
    let taken = takes written same in
    record { free = tt; used = taken.used; there = taken.there }

module _ (medium : Medium) (made : Option NewNode) (moment : ℕ) (change : Change) (base : Table) (takes : IsTakenWith medium made moment change base) where
  first : AreTaken made (bare (change_writings medium moment change)) change.removed base
  first = takes (bare (change_writings medium moment change)) (bare_addresses (change_writings medium moment change))

  pub made_free : IfSome made (λ node. IsFree node.address base.entries)
  made_free = first.free

  pub file_used : IfSome change.file (λ f. IsUsed f.address (with_new_node made base).entries)
  file_used = go change.file (new_directories change.directories.items) (with_new_node made base).entries first.used
    where
      go : (o : Option NewFile) (rest : List Writing) (xs : List (Option ℕ)) → AreUsed (bare (new_file medium moment o ++ rest)) xs → IfSome o (λ f. IsUsed f.address xs)
      go None rest xs h = tt
      go (Some f) rest xs h = h.0

  module _ (file : Option PlacedFile) (same : file_writings medium moment file ≡ new_file medium moment change.file) where
    file_same : map (λ (w : Written). w.address) (file_written file) ≡ map (λ (n : Writing). n.address) (new_file medium moment change.file)
    file_same = file_addresses medium moment file ∙ ap (λ (ns : List Writing). map (λ (n : Writing). n.address) ns) same

    pub directories_used : All (λ (d : NewDirectory). IsUsed d.address (all_placed (file_written file) (with_new_node made base)).entries) change.directories.items
    directories_used =
        let new : List Writing = new_directories change.directories.items in
        let all = takes (file_written file ++ bare new) (both_addresses (file_written file) (bare new) (new_file medium moment change.file) new file_same (bare_addresses new)) in
        all_used change.directories.items (all_placed (file_written file) (with_new_node made base)).entries (used_after (file_written file) (bare new) (with_new_node made base) all.used)

    pub gone_there : (ps : List PlacedDirectory) → directories_writings ps ≡ new_directories change.directories.items
        → IfSome change.removed (λ node. IsRemovable node.kind node.address (all_placed (directories_written ps) (all_placed (file_written file) (with_new_node made base))))
    gone_there ps all_same =
        let new : List Writing = new_directories change.directories.items in
        let all = takes (file_written file ++ directories_written ps) (both_addresses (file_written file) (directories_written ps) (new_file medium moment change.file) new file_same (directory_addresses ps ∙ ap (λ (ns : List Writing). map (λ (n : Writing). n.address) ns) all_same)) in
        subst (λ (t : Table). IfSome change.removed (λ node. IsRemovable node.kind node.address t)) (placed_append (file_written file) (directories_written ps) (with_new_node made base)) all.there
