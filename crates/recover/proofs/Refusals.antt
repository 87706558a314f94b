-- Where a state is not read, none is described.
use Rattle.std.proofs.Common.{◌≡◌, ℕ, ◌+◌, ◌*◌, ◌-◌, ◌<◌, ◌≤◌, inl, inr, Bool, true, not, nat_eq, List, length, take, Some, sym, ap, subst, ◌∙◌, arith}
use Rattle.std.specs.Prelude.{slice_get}
use Rattle.std.specs.Int.{div_ceil}
use Rattle.std.specs.List.{flat_map}
use Rattle.std.specs.Cmp.Lexicographic.{pointwise}
use Rattle.std.proofs.lemmas.Bool.{true≢false}
use Rattle.std.proofs.lemmas.List.{length-take}
use Rattle.std.proofs.lemmas.Option.{same_Some}
use Rattle.limits.specs.declared.TheConstants.{BLOCK_BYTES, PARTITION_START}
use Rattle.ecma.proofs.Faults.{no_fault}
use Rattle.model.specs.Graph.{MakesTree}
use Rattle.model.specs.Identities.{HasIdentities}
use Rattle.model.specs.Session.{State as ModelState}
use Rattle.model.proofs.Lists.{bytes_eq-itself}
use Rattle.durability.specs.Formats.{NodeFields, NodePlace, Table_}
use Rattle.durability.specs.Formats.NodePlace.{Nowhere, Extent, Extents, Inside}
use Rattle.durability.specs.Volume.{HasTable, IsWithin, Describes, bytes_in_blocks, extent, graph_of}
use Rattle.udf.specs.Said.{said_fields, model_table}
use Rattle.udf.specs.Udf.{udf}
use Rattle.udf.specs.Words.{icb_fields, icb_kind_of, table_of}
use Rattle.udf.proofs.Formats.{exact}
use Rattle.udf.proofs.Said.{entries_agree, tables_agree}
use Rattle.vat.specs.declared.table.Vat.{Vat}
use Rattle.vat.specs.Rules.{table_rules}
use Rattle.vat.specs.Table.{IsTableAt, view}
use Rattle.vat.proofs.TableReads.{rules_hold}
use Rattle.volume.specs.declared.front.Front.{Front}
use Rattle.volume.specs.Front.{IsFront}
use Rattle.volume.proofs.ReadingLaws.{front_tells, one_told}
use Rattle.recover.specs.declared.fault.StoreFault.{StoreFault}
use Rattle.recover.specs.declared.fault.StoreFault.TheVariants.{Device, Memory, Damaged}
use Rattle.recover.specs.declared.table.TableEntry.{TableEntry}
use Rattle.recover.specs.State.{HasFileSet, CountsTree, IsFrontRefused, IsSetRefused, IsStateRefused, IsTreeRefused, DescribesNoState}
use Rattle.recover.specs.Tables.{HasDataBelow, HasVatIcb, IsEntryAt, IsEntryRefused, IsTableRefused, table_data_of, table_fields}
use Rattle.recover.proofs.Walks.{part_below}

first_of : NodePlace → ℕ
first_of Nowhere = 0
first_of (Extent first) = first
first_of (Extents descriptors) = 0
first_of (Inside bytes) = 0

module _ (M : List (List ℕ)) (at : ℕ) (low : PARTITION_START ≤ at) (long : at < length M) where
  -- ---- the entry of the table

  no_table_entry : (block : List ℕ) (table : Table_) (moment : ℕ) → slice_get M at ≡ Some block → (HasVatIcb M at → ⊥) → HasTable udf (take at M) at block table moment → ⊥
  no_table_entry block table moment there never h =
      never (record { block = block; there = there; is = record { fields = icb_fields h.fields; kind = ap icb_kind_of h.kind; entry = h.entry } })

  module _ (e : TableEntry) (is : IsEntryAt M at e) (block : List ℕ) (table : Table_) (moment : ℕ) (there : slice_get M at ≡ Some block) (h : HasTable udf (take at M) at block table moment) where
    same_fields : h.fields ≡ said_fields (table_fields e)
    same_fields =
        let same = same_Some is.block block (sym is.there ∙ there) in
        let said = (entries_agree (table_fields e) block (at - PARTITION_START)).0 (subst (λ (b : List ℕ). udf.IsEntry (said_fields (table_fields e)) b (at - PARTITION_START)) same ((entries_agree (table_fields e) is.block (at - PARTITION_START)).0 is.is)) in
        exact.entry block (at - PARTITION_START) h.fields (said_fields (table_fields e)) h.entry said

    same_first : h.first ≡ e.first
    unfolding first_of
    same_first = ap first_of (sym h.place ∙ ap (λ (f : NodeFields). f.place) same_fields)

    same_size : h.fields.size ≡ e.size
    same_size = ap (λ (f : NodeFields). f.size) same_fields

    pub data_below : HasDataBelow at e
    data_below =
        let within : IsWithin (take at M) e.first e.size = subst (λ (n : ℕ). IsWithin (take at M) n e.size) same_first (subst (λ (n : ℕ). IsWithin (take at M) h.first n) same_size h.within) in
        let l = length-take at M in
        omega (arith, within, l, long)

    -- its data
    pub told_table : udf.IsTable table (at - PARTITION_START) (table_data_of M e)
    told_table =
        let below = data_below in
        let part = part_below (e.first + PARTITION_START) (div_ceil e.size BLOCK_BYTES) at M below in
        let same : bytes_in_blocks e.size (extent (take at M) e.first e.size) ≡ table_data_of M e = ap (λ (blocks : List (List ℕ)). take e.size (flat_map (λ b. b) blocks)) part in
        subst (udf.IsTable table (at - PARTITION_START)) same
        (subst (λ (n : ℕ). udf.IsTable table (at - PARTITION_START) (bytes_in_blocks e.size (extent (take at M) n e.size))) same_first
        (subst (λ (n : ℕ). udf.IsTable table (at - PARTITION_START) (bytes_in_blocks n (extent (take at M) h.first n))) same_size h.is))

  -- a table that is there is not refused
  pub entry_is_read : (block : List ℕ) (table : Table_) (moment : ℕ) → slice_get M at ≡ Some block → HasTable udf (take at M) at block table moment → (b c : ℕ) → IsEntryRefused M at (Damaged b c) → ⊥
  entry_is_read block table moment there h b c r =
      elim r.1 [
        | inl none ↦ no_table_entry block table moment there none.1 h
        | inr far ↦ far.3 (data_below far.1 far.2 block table moment there h)
      ]

  pub table_is_read : (block : List ℕ) (table : Table_) (moment : ℕ) → slice_get M at ≡ Some block → HasTable udf (take at M) at block table moment → (e : TableEntry) → IsEntryAt M at e
      → (b c : ℕ) → IsTableRefused (at - PARTITION_START) e (table_data_of M e) (Damaged b c) → ⊥
  table_is_read block table moment there h e is b c r =
      let told = told_table e is block table moment there h in
      no_fault (table_rules (at - PARTITION_START) (table_data_of M e)) r.1 r.3 (rules_hold (at - PARTITION_START) (table_of told.0 table) (table_data_of M e) told.1)

  pub entry_refused : (capacity : ℕ) (fault : StoreFault) → IsEntryRefused M at fault → IsStateRefused capacity M at fault
  entry_refused capacity Device r = tt
  entry_refused capacity (Damaged b c) r = λ volume block said there tells. entry_is_read block tells.table said.moment there tells.has b c r
  entry_refused capacity _ r = absurd r

  -- ---- the volume header

  told_front : (capacity volume : ℕ) (block : List ℕ) (said : ModelState) (tells : Describes udf capacity volume (take at M) at block said) → IsFront tells.table.label tells.formatted volume (take PARTITION_START M)
  told_front capacity volume block said tells = subst (IsFront tells.table.label tells.formatted volume) (part_below 0 PARTITION_START at M low) tells.front

  pub front_refused : (capacity : ℕ) (fault : StoreFault) → IsFrontRefused (take PARTITION_START M) fault → IsStateRefused capacity M at fault
  front_refused capacity Device r = tt
  front_refused capacity (Damaged b c) r = λ volume block said there tells. r.1 tells.table.label tells.formatted volume (told_front capacity volume block said tells)
  front_refused capacity _ r = absurd r

  module _ (label : List ℕ) (formatted size : ℕ) (front : IsFront label formatted size (take PARTITION_START M)) (capacity volume : ℕ) (block : List ℕ) (said : ModelState)
      (tells : Describes udf capacity volume (take at M) at block said) where
    one_front : ◌≡◌ {A = Front} (record { label = tells.table.label; moment = tells.formatted; capacity = volume }) (record { label = label; moment = formatted; capacity = size })
    one_front =
        one_told _ _ _ _ (front_tells (record { label = tells.table.label; moment = tells.formatted; capacity = volume }) (take PARTITION_START M) (told_front capacity volume block said tells))
        (front_tells (record { label = label; moment = formatted; capacity = size }) (take PARTITION_START M) front)

    one_label : tells.table.label ≡ label
    one_label = ap (λ (f : Front). f.label) one_front

    one_formatted : tells.formatted ≡ formatted
    one_formatted = ap (λ (f : Front). f.moment) one_front

    one_capacity : volume ≡ size
    one_capacity = ap (λ (f : Front). f.capacity) one_front

  -- a volume that is larger than the drive
  pub too_large : (label : List ℕ) (formatted size capacity : ℕ) → IsFront label formatted size (take PARTITION_START M) → capacity < size → DescribesNoState capacity M at
  too_large label formatted size capacity front lt volume block said there tells =
      let same = one_capacity label formatted size front capacity volume block said tells in
      let fits = tells.fits in
      omega (arith, same, fits, lt)

  -- ---- the table

  pub no_table : (capacity : ℕ) (e : TableEntry) → IsEntryAt M at e → (fault : StoreFault) → IsTableRefused (at - PARTITION_START) e (table_data_of M e) fault → IsStateRefused capacity M at fault
  no_table capacity e is Device r = tt
  no_table capacity e is Memory r = tt
  no_table capacity e is (Damaged b c) r = λ volume block said there tells. table_is_read block tells.table said.moment there tells.has e is b c r
  no_table capacity e is _ r = absurd r

  module _ (e : TableEntry) (is : IsEntryAt M at e) (vat : Vat) (read : IsTableAt (at - PARTITION_START) (view vat) (table_data_of M e)) (capacity volume : ℕ) (block : List ℕ) (said : ModelState)
      (there : slice_get M at ≡ Some block) (tells : Describes udf capacity volume (take at M) at block said) where
    pub one_table : tells.table ≡ model_table (view vat)
    one_table = exact.table (at - PARTITION_START) (table_data_of M e) tells.table (model_table (view vat)) (told_table e is block tells.table said.moment there tells.has) (tables_agree (view vat) (at - PARTITION_START) (table_data_of M e) read)

  module _ (e : TableEntry) (is : IsEntryAt M at e) (vat : Vat) (read : IsTableAt (at - PARTITION_START) (view vat) (table_data_of M e)) (label : List ℕ) (formatted size : ℕ) (front : IsFront label formatted size (take PARTITION_START M)) (capacity : ℕ) where
    -- labels that `!=` distinguishes
    pub other_label : (r : Bool) → r ≡ not (pointwise nat_eq vat.label label) → r ≡ true → DescribesNoState capacity M at
    other_label r is_not apart volume block said there tells =
        let same : vat.label ≡ label = sym (ap (λ (t : Table_). t.label) (one_table e is vat read capacity volume block said there tells)) ∙ one_label label formatted size front capacity volume block said tells in
        let equal : pointwise nat_eq vat.label label ≡ true = ap (λ (l : List ℕ). pointwise nat_eq l label) same ∙ bytes_eq-itself label in
        true≢false (sym apart ∙ is_not ∙ ap not equal)

    -- ---- the file set

    told_set : (volume : ℕ) (block : List ℕ) (said : ModelState) → slice_get M at ≡ Some block → Describes udf capacity volume (take at M) at block said → HasFileSet (take at M) vat.entries.items label formatted
    told_set volume block said there tells =
        let table = one_table e is vat read capacity volume block said there tells in
        let same = one_label label formatted size front capacity volume block said tells in
        let moment = one_formatted label formatted size front capacity volume block said tells in
        record {
          number = tells.set_number;
          used = subst (λ (t : Table_). slice_get t.entries 0 ≡ Some (Some tells.set_number)) table tells.set_used;
          block = tells.set_block;
          there = tells.set_there;
          is = subst (λ (n : ℕ). udf.IsFileSet label n tells.set_block) moment (subst (λ (l : List ℕ). udf.IsFileSet l tells.formatted tells.set_block) same tells.set_is);
        }

    pub set_refused : (fault : StoreFault) → IsSetRefused (take at M) vat.entries.items label formatted fault → IsStateRefused capacity M at fault
    set_refused Device r = tt
    set_refused (Damaged b c) r = λ volume block said there tells. r (told_set volume block said there tells)
    set_refused _ r = absurd r

    -- ---- the tree

    told_tree : (volume : ℕ) (block : List ℕ) (said : ModelState) → slice_get M at ≡ Some block → Describes udf capacity volume (take at M) at block said
        → CountsTree (take at M) vat × (2 * vat.sessions.commits + 261 ≤ at) × (vat.sessions.next_unique ≤ 16 + vat.sessions.commits)
    told_tree volume block said there tells =
        let table = one_table e is vat read capacity volume block said there tells in
        let next : said.next_identity ≡ vat.sessions.next_unique = sym tells.next_identity ∙ ap (λ (t : Table_). t.next_identity) table in
        let commits : said.commits ≡ vat.sessions.commits = sym tells.commits ∙ ap (λ (t : Table_). t.commits) table in
        let few_commits = tells.few_commits in
        let few_identities = tells.few_identities in (
          record {
            tree = said.tree;
            is = tells.tree;
            makes = subst (λ (t : Table_). MakesTree (graph_of udf (take at M) t.entries) said.tree) table tells.makes;
            identities = subst (HasIdentities said.tree) next tells.identities;
            files = sym (ap (λ (t : Table_). t.files) table) ∙ tells.files;
            directories = sym (ap (λ (t : Table_). t.directories) table) ∙ tells.directories;
          },
          omega (arith, few_commits, commits),
          omega (arith, few_identities, commits, next),
        )

    pub no_tree : (fault : StoreFault) → IsTreeRefused (take at M) at vat fault → IsStateRefused capacity M at fault
    no_tree Device r = tt
    no_tree Memory r = tt
    no_tree (Damaged b c) r = λ volume block said there tells. let told = told_tree volume block said there tells in r told.0 told.1 told.2
    no_tree _ r = absurd r
