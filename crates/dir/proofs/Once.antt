-- Data is that of one directory at most.
use Rattle.std.proofs.Common.{◌≡◌, ℕ, zero, suc, ◌+◌, ◌-◌, ◌*◌, ◌%◌, ◌^◌, ◌<◌, ◌≤◌, List, [], ◌∷◌, ◌++◌, length, take, drop, replicate, map, refl, sym, ap, subst, ◌∙◌, append_assoc, arith, inl, inr}
use Rattle.std.specs.Prelude.{nat_eq}
use Rattle.std.specs.Cmp.Lexicographic.{pointwise}
use Rattle.std.specs.Map.{keys_of}
use Rattle.std.specs.List.{All, IsDistinct, concat}
use Rattle.ecma.specs.Descriptor.{padded}
use Rattle.std.proofs.lemmas.Bool.{cases_lt}
use Rattle.std.proofs.lemmas.List.{append-nil, nil_from_length, get_or-drop, take_all, drop_all, take-append-drop, replicate-append-replicate, length-take, length-drop, length-map}
use Rattle.limits.specs.declared.TheConstants.{DIRECTORY_NAMES, PARTITION_BLOCKS}
use Rattle.dir.specs.declared.entry.Entry.{Entry}
use Rattle.dir.specs.declared.entry.Kind.{Kind}
use Rattle.dir.specs.declared.entry.Kind.TheVariants.{File, Directory}
use Rattle.dir.specs.Directory.{of_parent, characteristics_of, identifiers, IsDirectoryEntry, IsDirectory}
use Rattle.dir.specs.Identifier.{Identifier, rounded}
use Rattle.ecma.specs.Blocks.{block_count}
use Rattle.dir.specs.Layout.{laid, blocked, identifier_blocks, FitsInBlock}
use Rattle.dir.specs.Split.{AreBytes, FitsIdentifier, size_of, use_size, name_size}
use Rattle.dir.proofs.Placing.{fits_cases, laid-nil, length-laid, stands_within, onward-full, onward-within}
use Rattle.dir.proofs.Refusals.{of_entry, all_Fit, one_name, directory_data}
use Rattle.dir.proofs.Steps.{bytes_front, laid_found}

tail_of : {X : Type 0} (P : X → Type 0) (x : X) (xs : List X) → All P (x ∷ xs) → All P xs
tail_of P x xs all k d lt = all (suc k) d (omega arith)

short_tail : (x : Identifier) (xs : List Identifier) → All FitsIdentifier (x ∷ xs) → (y : Identifier) (r : List Identifier) → xs ≡ y ∷ r → length y.name ≤ 255
short_tail x xs fit y r e = (subst (λ (t : List Identifier). All FitsIdentifier (x ∷ t)) e fit 1 y (omega arith)).name

some_laid : (number at : ℕ) (x : Identifier) (xs : List Identifier) (s : List ℕ) → at < 2048 → FitsIdentifier x → FitsInBlock at (x ∷ xs)
    → s ≡ laid number at (x ∷ xs) → s ≡ [] → ⊥
some_laid number at x xs s inside f stood there none =
    let room = stands_within at x xs f.name (omega arith) stood in
    omega (arith, ap length (sym none ∙ there), length-laid number at x xs room)

-- bytes are laid in one way
laid_once : (xs ys : List Identifier) (number at : ℕ) (s : List ℕ) → AreBytes s → number + length xs < 2 ^ 32 → at < 2048 → at % 4 ≡ 0
    → All FitsIdentifier xs → All FitsIdentifier ys → s ≡ laid number at xs → s ≡ laid number at ys → FitsInBlock at xs → FitsInBlock at ys → xs ≡ ys
laid_once [] [] number at s all low inside at4 fx fy ex ey sx sy = refl
laid_once [] (y ∷ ys) number at s all low inside at4 fx fy ex ey sx sy =
    absurd (some_laid number at y ys s inside (fy 0 y (omega arith)) sy ey (ex ∙ laid-nil number at))
laid_once (x ∷ xs) [] number at s all low inside at4 fx fy ex ey sx sy =
    absurd (some_laid number at x xs s inside (fx 0 x (omega arith)) sx ex (ey ∙ laid-nil number at))
laid_once (x ∷ xs) (y ∷ ys) number at s all low inside at4 fx fy ex ey sx sy =
    let a = laid_found number at s x xs all (omega arith) inside at4 (fx 0 x (omega arith)) (short_tail x xs fx) ex sx in
    let b = laid_found number at s y ys all (omega arith) inside at4 (fy 0 y (omega arith)) (short_tail y ys fy) ey sy in
    let n = size_of s in
    let same : x ≡ y = sym a.says ∙ b.says in
    let high : at + n ≤ 2048 = elim (fits_cases n (2048 - at) a.split.within) [ inl q ↦ omega arith | inr q ↦ omega arith ] in
    let end4 : (at + n) % 4 ≡ 0 = whole at (38 + use_size s + name_size s) at4 in
    let bytes : AreBytes (drop n s) = λ i. subst (λ (v : ℕ). v < 256) (sym (get_or-drop n s i 0)) (all (n + i)) in
    let rest : xs ≡ ys = elim (cases_lt (at + n) 2048) [
      | inl lt ↦
          laid_once xs ys number (at + n) (drop n s) bytes (omega arith) lt end4 (tail_of FitsIdentifier x xs fx) (tail_of FitsIdentifier y ys fy)
          (a.after ∙ onward-within number (at + n) xs lt) (b.after ∙ onward-within number (at + n) ys lt) (a.next lt) (b.next lt)
      | inr ge ↦
          let full : at + n ≡ 2048 = omega arith in
          laid_once xs ys (number + 1) 0 (drop n s) bytes (omega arith) (omega arith) refl (tail_of FitsIdentifier x xs fx) (tail_of FitsIdentifier y ys fy)
          (a.after ∙ onward-full number (at + n) xs full) (b.after ∙ onward-full number (at + n) ys full) (inl refl) (inl refl)
    ] in
    cc
  where
    whole : (p m : ℕ) → p % 4 ≡ 0 → (p + rounded m) % 4 ≡ 0
    whole p m e = omega arith

one_kind : (a b : Kind) → characteristics_of a ≡ characteristics_of b → a ≡ b
one_kind File File e = refl
one_kind File Directory e = absurd (omega arith)
one_kind Directory File e = absurd (omega arith)
one_kind Directory Directory e = refl

same_entry : (a b : Entry) → a.kind ≡ b.kind → a.virtual_address ≡ b.virtual_address → a.unique ≡ b.unique → a ≡ b
same_entry a b k i u =
    let P : Kind → ℕ → ℕ → Entry = λ x y z. record { kind = x; virtual_address = y; unique = z } in
    ap (λ (x : Kind). P x a.virtual_address a.unique) k ∙ ap (λ (y : ℕ). P b.kind y a.unique) i ∙ ap (λ (z : ℕ). P b.kind b.virtual_address z) u

one_entry : (a b : List ℕ × Entry) → IsDirectoryEntry a → IsDirectoryEntry b → of_entry a ≡ of_entry b → a ≡ b
one_entry a b x y e =
    let text : a.0 ≡ b.0 = one_name a.0 b.0 x.name y.name (ap (λ (z : Identifier). z.name) e) in
    let entry : a.1 ≡ b.1 =
    same_entry a.1 b.1 (one_kind a.1.kind b.1.kind (ap (λ (z : Identifier). z.characteristics) e)) (ap (λ (z : Identifier). z.icb) e) (ap (λ (z : Identifier). z.unique) e) in
    ap (λ (t : List ℕ). (t, a.1)) text ∙ ap (λ (z : Entry). (b.0, z)) entry

one_list : (es fs : List (List ℕ × Entry)) → All IsDirectoryEntry es → All IsDirectoryEntry fs → map of_entry es ≡ map of_entry fs → es ≡ fs
one_list [] [] x y e = refl
one_list [] (f ∷ fs) x y e = absurd (cc)
one_list (e ∷ es) [] x y q = absurd (cc)
one_list (e ∷ es) (f ∷ fs) x y q =
    let head : of_entry e ≡ of_entry f = cc in
    let tail : map of_entry es ≡ map of_entry fs = cc in
    let first : e ≡ f = one_entry e f (x 0 e (omega arith)) (y 0 f (omega arith)) head in
    let rest : es ≡ fs = one_list es fs (tail_of IsDirectoryEntry e es x) (tail_of IsDirectoryEntry f fs y) tail in
    cc

-- blocks are the data of one directory
pub directory_once : (first size p q : ℕ) (es fs : List (List ℕ × Entry)) (blocks : List (List ℕ)) → first ≤ PARTITION_BLOCKS → AreBytes (concat blocks)
    → IsDirectory p es first size blocks → IsDirectory q fs first size blocks → (p ≡ q) × (es ≡ fs)
directory_once first size p q es fs blocks low all a b =
    let few = a.few in
    let count : length (identifiers p es) ≡ length es + 1 = omega (arith, length-map es of_entry) in
    let same : identifiers p es ≡ identifiers q fs =
    laid_once (identifiers p es) (identifiers q fs) first 0 (take size (concat blocks)) (bytes_front size (concat blocks) all) (omega arith) (omega arith) refl
    (all_Fit p es a.parent_fits a.named) (all_Fit q fs b.parent_fits b.named)
    (directory_data p es first size blocks a) (directory_data q fs first size blocks b) (inl refl) (inl refl) in
    let parents : of_parent p ≡ of_parent q = cc in
    let names : map of_entry es ≡ map of_entry fs = cc in
    (ap (λ (x : Identifier). x.icb) parents, one_list es fs a.named b.named names)

-- bytes as blocks, and the blocks joined again
concat_blocked : (count : ℕ) (bytes : List ℕ) → length bytes ≤ 2048 * count → concat (blocked count bytes) ≡ bytes ++ replicate (2048 * count - length bytes) 0
concat_blocked zero bytes few =
    let none : bytes ≡ [] = nil_from_length bytes (omega arith) in
    let left : 2048 * zero - length bytes ≡ 0 = omega arith in
    let zeros : replicate (2048 * zero - length bytes) 0 ≡ [] = ap (λ (n : ℕ). replicate n 0) left in
    sym (ap (λ (t : List ℕ). t ++ replicate (2048 * zero - length bytes) 0) none ∙ zeros)
concat_blocked (suc count) bytes few =
    elim (cases_lt 2048 (length bytes)) [
      | inl more ↦
          let front : length (take 2048 bytes) ≡ 2048 = omega (arith, length-take 2048 bytes) in
          let rest : length (drop 2048 bytes) ≡ length bytes - 2048 = length-drop 2048 bytes in
          let full : padded (take 2048 bytes) ≡ take 2048 bytes =
          ap (λ (n : ℕ). take 2048 bytes ++ replicate (2048 - n) 0) front ∙ append-nil (take 2048 bytes) in
          let zeros : replicate (2048 * count - length (drop 2048 bytes)) 0 ≡ replicate (2048 * suc count - length bytes) 0 = ap (λ (n : ℕ). replicate n 0) (omega arith) in
          ap (λ (t : List ℕ). t ++ concat (blocked count (drop 2048 bytes))) full
          ∙ ap (λ (t : List ℕ). take 2048 bytes ++ t) (concat_blocked count (drop 2048 bytes) (omega arith))
          ∙ ap (λ (t : List ℕ). take 2048 bytes ++ (drop 2048 bytes ++ t)) zeros
          ∙ sym (append_assoc (take 2048 bytes) (drop 2048 bytes) (replicate (2048 * suc count - length bytes) 0))
          ∙ ap (λ (t : List ℕ). t ++ replicate (2048 * suc count - length bytes) 0) (take-append-drop 2048 bytes)
      | inr less ↦
          let front : take 2048 bytes ≡ bytes = take_all 2048 bytes less in
          let none : drop 2048 bytes ≡ [] = drop_all 2048 bytes less in
          let z : List ℕ = replicate (2048 - length bytes) 0 in
          let all : 2048 * count - 0 ≡ 2048 * count = omega arith in
          let rest : concat (blocked count (drop 2048 bytes)) ≡ replicate (2048 * count) 0 =
          ap (λ (t : List ℕ). concat (blocked count t)) none ∙ concat_blocked count [] (omega arith) ∙ ap (λ (n : ℕ). replicate n 0) all in
          let zeros : z ++ replicate (2048 * count) 0 ≡ replicate (2048 * suc count - length bytes) 0 =
          replicate-append-replicate (2048 - length bytes) (2048 * count) 0 ∙ ap (λ (n : ℕ). replicate n 0) (omega arith) in
          ap (λ (t : List ℕ). padded t ++ concat (blocked count (drop 2048 bytes))) front
          ∙ ap (λ (t : List ℕ). (bytes ++ z) ++ t) rest
          ∙ append_assoc bytes z (replicate (2048 * count) 0)
          ∙ ap (λ (t : List ℕ). bytes ++ t) zeros
    ]

-- a directory's blocks are its data
pub laid_directory : (parent first : ℕ) (entries : List (List ℕ × Entry)) → parent < 2 ^ 32 → length entries ≤ DIRECTORY_NAMES → All IsDirectoryEntry entries
    → IsDistinct (pointwise nat_eq) (keys_of entries)
    → IsDirectory parent entries first (length (laid first 0 (identifiers parent entries))) (identifier_blocks first (identifiers parent entries))
laid_directory parent first entries low few all apart =
    let bytes = laid first 0 (identifiers parent entries) in
    record {
      parent_fits = low;
      few = few;
      named = all;
      distinct = apart;
      size_is = refl;
      bytes = concat_blocked (block_count (length bytes)) bytes (omega arith);
    }
