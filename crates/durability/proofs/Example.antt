-- The small formats meet what the laws ask.
use Rattle.std.proofs.Common.{◌≡◌, ◌⊎◌, inl, inr, ℕ, zero, suc, ◌+◌, ◌-◌, ◌≤◌, Bool, true, false, List, [], ◌∷◌, length, get_or, replicate, slice_get, count_by, Some, refl, sym, ◌∙◌, ap, arith}
use Rattle.std.specs.Prelude.{is_some}
use Rattle.std.proofs.lemmas.Bool.{true≢false}
use Rattle.limits.specs.declared.TheConstants.{ADDRESSES}
use Rattle.model.specs.Graph.{Entry}
use Rattle.model.specs.Session.{after_one, formatted}
use Rattle.model.proofs.Fresh.{sound_fresh, no_files, one_directory}
use Rattle.durability.specs.Formats.{Block, Kind, NodeFields, Table_, AreExact, AreBounded}
use Rattle.durability.specs.Formats.Kind.{Directory, File, Table}
use Rattle.durability.specs.Volume.{IsVatIcbAt, NoneImitates, RecoversTo, LastTable}
use Rattle.durability.specs.Step.{CarriesOut, IsFormat, Moves}
use Rattle.durability.specs.Example.{example_root, example_table_fields, refusal, example_table, second_table, small, new_blocks, mark, new_medium, used_medium, ExampleStands}
use Rattle.durability.proofs.Mediums.{none-append}
use Rattle.durability.proofs.One.{last_one}
use Rattle.durability.proofs.History.{last_table_one, standing_table, past_now}
use Rattle.durability.proofs.Formatted.{last, format_stands}
use Rattle.durability.proofs.Commits.{keeps, moves_whole}

head : Block → ℕ
head block = get_or block 0 0

apart : (block : Block) (x y : ℕ) → head block ≡ x → head block ≡ y → x ≡ y
apart block x y a b = sym a ∙ b

exact : AreExact small
unfolding head
exact = record {
  entry = λ block location f g a b. entry_one block location f g a b;
  directory = λ first size blocks p q es fs a b. (a.0 ∙ sym b.0, a.1 ∙ sym b.1);
  table = λ icb bytes t u a b. table_one icb t u a b;
}
  where
    entry_one : (block : Block) (location : ℕ) (f g : NodeFields) → small.IsEntry f block location → small.IsEntry g block location → f ≡ g
    entry_one block location f g (inl a) (inl b) = a.1 ∙ sym b.1
    entry_one block location f g (inl a) (inr b) = absurd (omega (arith, apart block 4 248 (ap head a.0) (ap head b.0)))
    entry_one block location f g (inr a) (inl b) = absurd (omega (arith, apart block 248 4 (ap head a.0) (ap head b.0)))
    entry_one block location f g (inr a) (inr b) = a.1 ∙ sym b.1

    table_one : (icb : ℕ) (t u : Table_) → ((icb ≡ 4) × (t ≡ example_table)) ⊎ ((icb ≡ 6) × (t ≡ second_table)) → ((icb ≡ 4) × (u ≡ example_table)) ⊎ ((icb ≡ 6) × (u ≡ second_table)) → t ≡ u
    table_one icb t u (inl a) (inl b) = a.1 ∙ sym b.1
    table_one icb t u (inl a) (inr b) = absurd (omega (arith, a.0, b.0))
    table_one icb t u (inr a) (inl b) = absurd (omega (arith, a.0, b.0))
    table_one icb t u (inr a) (inr b) = a.1 ∙ sym b.1

bounded : AreBounded small
bounded = record {
  names = λ parent first size es blocks h. omega (arith, ap (λ (xs : List Entry). length xs) h.1);
  nodes = λ t icb bytes h. elim h [ inl a ↦ few t example_table a.1 (omega arith) (omega arith) | inr a ↦ few t second_table a.1 (omega arith) (omega arith) ];
  used = λ t icb bytes h. elim h [ inl a ↦ all t example_table a.1 refl | inr a ↦ all t second_table a.1 refl ];
}
  where
    all : (t u : Table_) → t ≡ u → count_by is_some u.entries ≡ 1 + (u.files + u.directories) → count_by is_some t.entries ≡ 1 + (t.files + t.directories)
    all t u e a = rw e a

    few : (t u : Table_) → t ≡ u → 1 + (u.files + u.directories) ≤ length u.entries → length u.entries ≤ ADDRESSES → (1 + (t.files + t.directories) ≤ length t.entries) × (length t.entries ≤ ADDRESSES)
    few t u e a b = rw e (a, b)

is_table : Kind → Bool
is_table Directory = false
is_table File = false
is_table Table = true

-- a block that does not begin with 248 does not imitate
plain : (block : Block) (at : ℕ) → (head block ≡ 248 → ⊥) → IsVatIcbAt small block at → ⊥
unfolding head is_table
plain block at h (far, fields, kind, inl a) = true≢false (sym (ap is_table kind) ∙ ap (λ (f : NodeFields). is_table f.kind) a.1)
plain block at h (far, fields, kind, inr a) = h (ap head a.0)

none_empty : (n at : ℕ) → NoneImitates small at (replicate n [])
unfolding head
none_empty zero at = tt
none_empty (suc n) at = (plain [] at (λ e. absurd (omega arith)), none_empty n (suc at))

none_new : NoneImitates small 0 new_blocks
unfolding head
none_new = none-append small 0 (replicate 259 []) ((4 ∷ []) ∷ [] ∷ []) (none_empty 259 0) (plain (4 ∷ []) 259 (λ e. absurd (omega arith)), (plain [] 260 (λ e. absurd (omega arith)), tt))

abbrev is_format : IsFormat small 3000 3000 [] 0 new_blocks mark
is_format = record {
  long = refl;
  none = none_new;
  front = tt;
  fits = omega arith;
  table = example_table;
  has = record { fields = example_table_fields 4; kind = refl; entry = inr (refl, refl); moment_is = refl; first = 3; place = refl; within = omega arith; is = inl (refl, refl) };
  label_is = refl;
  commits = refl;
  next_identity = refl;
  records = refl;
  table_length = refl;
  files = refl;
  directories = refl;
  set_number = 0;
  set_used = refl;
  set_block = [];
  set_there = refl;
  set_is = tt;
  root = record { number = 2; used = refl; block = 4 ∷ []; there = refl; fields = example_root; entry = inl (refl, refl); moment = refl; identity = refl; links = refl; body = (refl, (omega arith, (refl, refl))) };
}

stands_new : RecoversTo small 3000 3000 new_medium (formatted 0)
stands_new = format_stands small 3000 3000 [] 0 new_blocks mark is_format exact

module _ (stands : RecoversTo small 3000 3000 new_medium (formatted 0)) (table : stands.tells.table ≡ example_table) (at : stands.at ≡ 261) where
  carries_out : CarriesOut small 3000 3000 new_medium (formatted 0) stands refusal ([] ∷ []) mark
  unfolding head
  carries_out = record {
    none = (plain [] (length new_medium) (λ e. absurd (omega arith)), tt);
    some = omega arith;
    table = second_table;
    has = record { fields = example_table_fields 6; kind = refl; entry = inr (refl, refl); moment_is = refl; first = 5; place = refl; within = omega arith; is = inr (refl, refl) };
    label = sym (ap (λ (t : Table_). t.label) table);
    previous = ap (λ n. Some (n - 257)) (sym at);
    commits = refl;
    next_identity = refl;
    records = refl;
    table_length = let room = (sound_fresh 0).room in omega arith;
    files = sym (no_files 0);
    directories = sym (one_directory 0);
    set = ap (λ (t : Table_). slice_get t.entries 0) (sym table);
    follows = record {
      done = λ e. absurd (omega (arith, e));
      refused = λ not_done address reached. keeps small 3000 3000 new_medium ([] ∷ []) (formatted 0) stands second_table.entries address (ap (λ (t : Table_). slice_get t.entries address) (sym table));
    };
  }

  moves : Moves small 3000 3000 new_medium (formatted 0) used_medium (after_one (formatted 0) refusal)
  moves = moves_whole small 3000 3000 exact new_medium ([] ∷ []) mark (formatted 0) refusal stands carries_out

abbrev last_table : LastTable small new_medium
last_table = record { at = 261; block = mark; last = last small 3000 3000 [] 0 new_blocks mark is_format; table = example_table; moment = 0; has = is_format.has }

table_is : stands_new.tells.table ≡ example_table
table_is = last_table_one small exact new_medium (standing_table small 3000 3000 new_medium (formatted 0) stands_new) last_table

at_is : stands_new.at ≡ 261
at_is = last_one small new_medium stands_new.at 261 stands_new.block mark stands_new.last last_table.last

pub example_stands : ExampleStands
example_stands =
    let m = moves stands_new table_is at_is in (
      exact,
      bounded,
      stands_new,
      m.ends,
      m.past 0 (formatted 0) (past_now small 3000 3000 new_medium (formatted 0) stands_new),
      past_now small 3000 3000 used_medium (after_one (formatted 0) refusal) m.ends,
    )
