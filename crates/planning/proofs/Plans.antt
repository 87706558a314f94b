-- The blocks of a plan.
use Rattle.std.proofs.Common.{◌≡◌, ℕ, zero, suc, ◌+◌, ◌<◌, ◌≤◌, List, [], ◌∷◌, ◌++◌, length, take, drop, replicate, get_or, refl, sym, ap, subst, ◌∙◌, arith, append_assoc, append-nil, length-append}
use Rattle.std.specs.Prelude.{slice_get, Some}
use Rattle.std.specs.Int.{div_ceil}
use Rattle.std.proofs.lemmas.List.{length-replicate}
use Rattle.limits.specs.declared.TheConstants.{BLOCK_BYTES}
use Rattle.durability.specs.Formats.{Block}
use Rattle.durability.specs.Volume.{Medium}
use Rattle.durability.specs.Plan.{zeros, packed, Writing, Written, WritesNode, WritesNodes}
use Rattle.durability.proofs.Packed.{length-packed}
use Rattle.udf.specs.Udf.{udf}
use Rattle.planning.specs.declared.layout.PlacedDirectory.{PlacedDirectory}
use Rattle.planning.specs.declared.change.NewDirectory.{NewDirectory}
use Rattle.planning.specs.declared.plan.Plan.{Plan}
use Rattle.vat.specs.Table.{Table}
use Rattle.table_update.specs.NextTable.{all_placed}
use Rattle.table_update.specs.TableChange.{placed}
use Rattle.planning.specs.Needs.{directory_need, directories_need}
use Rattle.planning.specs.Plan.{directory_list, directories_list, directories_writings, directories_written, node_list, table_data, plan_blocks, IsLaid, AreLaid, IsPlan}
use Rattle.planning.specs.Writings.{directory_writing}
use Rattle.planning.proofs.Writings.{writes_one, writes-append}

-- blocks of zeros, and bytes after them
pub length-padded : (gap : ℕ) (bytes : List ℕ) → length (replicate gap zeros ++ packed bytes) ≡ gap + div_ceil (length bytes) BLOCK_BYTES
length-padded gap bytes = omega (arith, length-append (replicate gap zeros) (packed bytes), length-replicate {A = List ℕ} gap zeros, length-packed bytes)

-- ---- one directory more

pub list_push : (ps : List PlacedDirectory) (p : PlacedDirectory) → directories_list (ps ++ p ∷ []) ≡ directories_list ps ++ directory_list p
list_push [] p = append-nil (directory_list p)
list_push (x ∷ ps) p = ap (λ (bs : List Block). directory_list x ++ bs) (list_push ps p) ∙ sym (append_assoc (directory_list x) (directories_list ps) (directory_list p))

pub writings_push : (ps : List PlacedDirectory) (p : PlacedDirectory) → directories_writings (ps ++ p ∷ []) ≡ directories_writings ps ++ directory_writing p.directory ∷ []
writings_push [] p = refl
writings_push (x ∷ ps) p = ap (λ (ws : List Writing). directory_writing x.directory ∷ ws) (writings_push ps p)

numbers_push : (ps : List PlacedDirectory) (p : PlacedDirectory) → directories_written (ps ++ p ∷ []) ≡ directories_written ps ++ record { address = p.directory.address; number = p.number } ∷ []
numbers_push [] p = refl
numbers_push (x ∷ ps) p = ap (λ (ws : List Written). record { address = x.directory.address; number = x.number } ∷ ws) (numbers_push ps p)

pub written_push : (ps : List PlacedDirectory) (p : PlacedDirectory) (start now : ℕ) → now ≡ start + length (directories_list ps)
    → ((medium : Medium) → WritesNodes udf medium (directories_writings ps) start (directories_list ps) (directories_written ps)) → ((medium : Medium) → WritesNode udf medium (directory_writing p.directory) now (directory_list p) p.number)
    → (medium : Medium) → WritesNodes udf medium (directories_writings (ps ++ p ∷ [])) start (directories_list (ps ++ p ∷ [])) (directories_written (ps ++ p ∷ []))
written_push ps p start now at w one medium =
    let next : Written = record { address = p.directory.address; number = p.number } in
    let last : (before : Medium) → WritesNodes udf before (directory_writing p.directory ∷ []) (start + length (directories_list ps)) (directory_list p) (next ∷ []) = λ before. subst (λ n. WritesNodes udf before (directory_writing p.directory ∷ []) n (directory_list p) (next ∷ [])) at (writes_one before (directory_writing p.directory) now (directory_list p) p.number (one before)) in
    let all = writes-append medium (directories_writings ps) (directory_writing p.directory ∷ []) start (directories_list ps) (directory_list p) (directories_written ps) (next ∷ []) (w medium) last in
    subst (λ (ws : List Writing). WritesNodes udf medium ws start (directories_list (ps ++ p ∷ [])) (directories_written (ps ++ p ∷ []))) (sym (writings_push ps p))
    (subst (λ (bs : List Block). WritesNodes udf medium (directories_writings ps ++ directory_writing p.directory ∷ []) start bs (directories_written (ps ++ p ∷ []))) (sym (list_push ps p))
    (subst (λ (ws : List Written). WritesNodes udf medium (directories_writings ps ++ directory_writing p.directory ∷ []) start (directories_list ps ++ directory_list p) ws) (sym (numbers_push ps p)) all))

pub laid_push : (ps : List PlacedDirectory) (p : PlacedDirectory) (start now : ℕ) → now ≡ start + length (directories_list ps) → AreLaid start ps → IsLaid now p → AreLaid start (ps ++ p ∷ [])
laid_push [] p start now at laid one = (subst (λ n. IsLaid n p) (let begins : now ≡ start = omega (arith, at) in begins) one, tt)
laid_push (x ∷ ps) p start now at laid one =
    (laid.0, laid_push ps p (start + length (directory_list x)) now (omega (arith, at, length-append (directory_list x) (directories_list ps))) laid.1 one)

pub placed_append : (xs ys : List Written) (t : Table) → all_placed (xs ++ ys) t ≡ all_placed ys (all_placed xs t)
placed_append [] ys t = refl
placed_append (x ∷ xs) ys t = placed_append xs ys (placed x.address x.number t)

pub table_push : (ps : List PlacedDirectory) (p : PlacedDirectory) (t now next : Table) → now ≡ all_placed (directories_written ps) t → next ≡ placed p.directory.address p.number now
    → next ≡ all_placed (directories_written (ps ++ p ∷ [])) t
table_push ps p t now next is moved =
    let last : Written = record { address = p.directory.address; number = p.number } in
    moved
    ∙ ap (placed p.directory.address p.number) is
    ∙ sym (placed_append (directories_written ps) (last ∷ []) t)
    ∙ sym (ap (λ (ws : List Written). all_placed ws t) (numbers_push ps p))

-- ---- the directories so far

pub list_more : (ps : List PlacedDirectory) (i : ℕ) (p : PlacedDirectory) → i < length ps → get_or ps i p ≡ p → directories_list (take (i + 1) ps) ≡ directories_list (take i ps) ++ directory_list p
list_more [] i p lt is = absurd (omega arith)
list_more (x ∷ ps) zero p lt is = append-nil (directory_list x) ∙ ap directory_list is
list_more (x ∷ ps) (suc i) p lt is =
    let next : suc i + 1 ≡ suc (i + 1) = omega arith in
    ap (λ n. directories_list (take n (x ∷ ps))) next ∙ ap (λ (bs : List Block). directory_list x ++ bs) (list_more ps i p (omega arith) is) ∙ sym (append_assoc (directory_list x) (directories_list (take i ps)) (directory_list p))

pub list_front : (n : ℕ) (ps : List PlacedDirectory) → directories_list (take n ps) ++ directories_list (drop n ps) ≡ directories_list ps
list_front zero ps = refl
list_front (suc n) [] = refl
list_front (suc n) (x ∷ ps) = append_assoc (directory_list x) (directories_list (take n ps)) (directories_list (drop n ps)) ∙ ap (λ (bs : List Block). directory_list x ++ bs) (list_front n ps)

-- ---- a plan

pub plan_ends : (next capacity : ℕ) (p : Plan) → IsPlan next capacity p → next + length (plan_blocks p) ≡ p.table.at + 1
plan_ends next capacity p is = omega (arith, is.low, is.table.number, length-append (node_list p) (table_data p.table ++ p.table.entry ∷ []), length-append (table_data p.table) (p.table.entry ∷ []))

-- on a larger drive it is the same plan
pub planned_on : {next fewer more : ℕ} {p : Plan} → fewer ≤ more → IsPlan next fewer p → IsPlan next more p
planned_on few is = record {
  begins = is.begins;
  low = is.low;
  nodes = is.nodes;
  laid = is.laid;
  table = is.table;
  fits = omega (arith, few, is.fits);
  keeps = is.keeps;
}

-- ---- how many blocks directories may take

pub need_more : (ds : List NewDirectory) (i : ℕ) (d : NewDirectory) → slice_get ds i ≡ Some d → directories_need (take (i + 1) ds) ≡ directories_need (take i ds) + directory_need d
need_more [] i d found = absurd (cc)
need_more (x ∷ ds) zero d found = let same : x ≡ d = cc in omega (arith, ap directory_need same)
need_more (x ∷ ds) (suc i) d found =
    let next : suc i + 1 ≡ suc (i + 1) = omega arith in
    omega (arith, ap (λ n. directories_need (take n (x ∷ ds))) next, need_more ds i d found)
