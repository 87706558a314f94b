-- The text of a path, cut at its slashes.
use Rattle.std.proofs.Common.{◌≡◌, ℕ, ◌<◌, Bool, true, false, eqb, List, [], ◌∷◌, ◌++◌, length, get_or, Result, Ok, Err, refl, sym, ap, subst, ◌∙◌, arith}
use Rattle.std.specs.Prelude.{All, IfOk}
use Rattle.std.specs.List.{flat_map, slice_split, onto_first}
use Rattle.std.proofs.lemmas.Bool.{eqb-true}
use Rattle.std.proofs.lemmas.List.{append-nil}
use Rattle.std.proofs.lemmas.List.Concat.{flat_map-cons}
use Rattle.std.proofs.lemmas.List.Elements.{All-head, All-tail, All-get_or}
use Rattle.std.proofs.lemmas.List.Splits.{slice_split-cons_yes, slice_split-cons_no, slice_split_none, slice_split_at}
use Rattle.osta.specs.declared.fault.NameFault.{NameFault}
use Rattle.osta.specs.declared.fault.NameFault.TheVariants as name
use Rattle.osta.specs.Fault.{text_fault}
use Rattle.osta.specs.FirstFault.{first_text_fault}
use Rattle.osta.specs.Name.{name_faults, IsName}
use Rattle.request.specs.declared.path.PathFault.TheVariants as PathFaults
use Rattle.request.specs.PathFault.{path_fault_of}
use Rattle.request.specs.Path.{IsPath, step_text, path_text}
use Rattle.request.proofs.Names.{no_slash}

abbrev pub parts : List ℕ → List (List ℕ)
parts text = slice_split (λ b. eqb b 47) text

tail_is : (x y : ℕ) (xs ys : List ℕ) → x ∷ xs ≡ y ∷ ys → xs ≡ ys
tail_is x y xs ys e = cc

onto_steps : (x : ℕ) (xs : List ℕ) (pieces : List (List ℕ)) → flat_map step_text pieces ≡ 47 ∷ xs → flat_map step_text (onto_first x pieces) ≡ 47 ∷ x ∷ xs
onto_steps x xs [] e = absurd cc
onto_steps x xs (piece ∷ pieces) e =
    let after : piece ++ flat_map step_text pieces ≡ xs = tail_is 47 47 _ xs (sym (flat_map-cons step_text piece pieces) ∙ e) in
    flat_map-cons step_text (x ∷ piece) pieces ∙ ap (λ (l : List ℕ). 47 ∷ x ∷ l) after

-- the parts, each after a slash, are the text after a slash
pub steps_of_parts : (text : List ℕ) → flat_map step_text (parts text) ≡ 47 ∷ text
steps_of_parts [] = flat_map-cons step_text [] []
steps_of_parts (x ∷ xs) =
    let rest = steps_of_parts xs in
    let cut : (b : Bool) → eqb x 47 ≡ b → flat_map step_text (parts (x ∷ xs)) ≡ 47 ∷ x ∷ xs = λ b. elim b as (λ v. eqb x 47 ≡ v → flat_map step_text (parts (x ∷ xs)) ≡ 47 ∷ x ∷ xs) [
      | true ↦ λ e. ap (flat_map step_text) (slice_split-cons_yes (λ b. eqb b 47) x xs e) ∙ flat_map-cons step_text [] (parts xs) ∙ ap (λ (l : List ℕ). 47 ∷ l) rest ∙ ap (λ (k : ℕ). 47 ∷ k ∷ xs) (sym (eqb-true x 47 e))
      | false ↦ λ e. ap (flat_map step_text) (slice_split-cons_no (λ b. eqb b 47) x xs e) ∙ onto_steps x xs (parts xs) rest
    ] in
    cut (eqb x 47) refl

pub text_of_steps : (path : List (List ℕ)) (text : List ℕ) → flat_map step_text path ≡ 47 ∷ text → path_text path ≡ 47 ∷ text
text_of_steps [] text e = absurd cc
text_of_steps (name ∷ names) text e = e

-- names without a slash are the parts of their text
pub parts_of_steps : (name : List ℕ) (names : List (List ℕ)) (text : List ℕ) → All IsName (name ∷ names) → flat_map step_text (name ∷ names) ≡ 47 ∷ text → parts text ≡ name ∷ names
parts_of_steps name [] text good e =
    let alone : name ≡ text = sym (append-nil name) ∙ tail_is 47 47 _ text (sym (flat_map-cons step_text name []) ∙ e) in
    subst (λ (t : List ℕ). parts t ≡ name ∷ []) alone (slice_split_none (λ b. eqb b 47) name (no_slash name (All-head IsName name [] good)))
parts_of_steps name (next ∷ names) text good e =
    let others = All-tail IsName name (next ∷ names) good in
    let after : List ℕ = next ++ flat_map step_text names in
    let steps : flat_map step_text (next ∷ names) ≡ 47 ∷ after = flat_map-cons step_text next names in
    let whole : name ++ (47 ∷ after) ≡ text = ap (λ (l : List ℕ). name ++ l) (sym steps) ∙ tail_is 47 47 _ text (sym (flat_map-cons step_text name (next ∷ names)) ∙ e) in
    let first = slice_split_at (λ b. eqb b 47) name 47 after (no_slash name (All-head IsName name (next ∷ names) good)) refl in
    subst (λ (t : List ℕ). parts t ≡ name ∷ next ∷ names) whole (first ∙ ap (λ (ns : List (List ℕ)). name ∷ ns) (parts_of_steps next names after others steps))

begins_with_slash : (path : List (List ℕ)) → (rest : List ℕ) × (path_text path ≡ 47 ∷ rest)
begins_with_slash [] = ([], refl)
begins_with_slash (name ∷ names) = (name ++ flat_map step_text names, flat_map-cons step_text name names)

pub no_path_text : (text : List ℕ) → ((rest : List ℕ) → text ≡ 47 ∷ rest → ⊥) → (path : List (List ℕ)) → text ≡ path_text path → ⊥
no_path_text text apart path e = let b = begins_with_slash path in apart b.0 (e ∙ b.1)

-- the path of a text that is more than a slash
pub is_parts : (path : List (List ℕ)) (text : List ℕ) → 0 < length text → IsPath path → 47 ∷ text ≡ path_text path → IsPath (parts text)
is_parts [] text some good e = absurd (omega (arith, ap length e))
is_parts (name ∷ names) text some good e =
    subst IsPath (sym (parts_of_steps name names text good.names (sym e))) good

-- a part that is no name
pub bad_part : (pieces : List (List ℕ)) (i : ℕ) (part : List ℕ) → i < length pieces → part ≡ get_or pieces i part → (IsName part → ⊥) → IsPath pieces → ⊥
bad_part pieces i part lt is bad good = bad (subst IsName (sym is) (All-get_or IsName pieces i part lt good.names))

pub parsed : {E : Type 0} (r : Result (List (List ℕ)) E) (text names : List ℕ) → text ≡ 47 ∷ names → IfOk r (λ path. IsPath path × (path ≡ parts names)) → IfOk r (λ path. IsPath path × (text ≡ path_text path))
parsed (Ok path) text names e h =
    (h.0, e ∙ sym (text_of_steps path names (ap (flat_map step_text) h.1 ∙ steps_of_parts names)))
parsed (Err fault) text names e h = tt

-- a fault that is reported as the path's own
pub bad_name : (fault : NameFault) (text : List ℕ) → text_fault fault ≡ first_text_fault (name_faults text) → path_fault_of fault ≡ PathFaults.Path → IsName text → ⊥
bad_name name.Memory text told is good = absurd cc
bad_name name.Empty text told is good = let e = told ∙ good.faultless in absurd cc
bad_name name.Dot text told is good = let e = told ∙ good.faultless in absurd cc
bad_name name.Slash text told is good = let e = told ∙ good.faultless in absurd cc
bad_name name.Nul text told is good = let e = told ∙ good.faultless in absurd cc
bad_name name.Wide text told is good = let e = told ∙ good.faultless in absurd cc
bad_name name.Long text told is good = let e = told ∙ good.faultless in absurd cc
