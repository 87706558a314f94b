-- What the tests of an identifier's bytes say of them.
use Rattle.std.proofs.Common.{◌≡◌, ℕ, ◌+◌, ◌-◌, ◌%◌, ◌^◌, ◌<◌, ◌≤◌, List, [], ◌++◌, length, take, drop, replicate, refl, sym, ap, subst, ◌∙◌, arith, inl, inr}
use Rattle.std.specs.Prelude.{slice_index}
use Rattle.std.proofs.lemmas.List.{append-nil, take-append-drop, drop-drop, drop_at, take_at, get_or-drop, length-drop, length-take-le}
use Rattle.ecma.specs.Numbers.{u32_at}
use Rattle.ecma.specs.Tag.{Sealed}
use Rattle.ecma.proofs.Pieces.{IsBytes, cut}
use Rattle.dir.specs.Identifier.{Identifier, rounded, plain_size, use_of, head_of, body_of, identifier}
use Rattle.dir.specs.Kinds.{IsKind}
use Rattle.dir.specs.Split.{name_size, use_size, size_of, identifier_in, HasHead, IsPadded, FitsIdentifier}
use Rattle.ecma.proofs.Seals.{is_sealed}
use Rattle.dir.proofs.Spelled.{identifier_is, length-use_of, length-body_of, name_size-identifier, use_size-identifier, kind-identifier, icb-identifier, unique-identifier, head-identifier, tail-identifier}

-- the use of an identifier that is padded is a multiple of 4
pub use_whole : (at : ℕ) (bytes after : List ℕ) → IsPadded at bytes after → use_size bytes % 4 ≡ 0
use_whole at bytes after p = elim p.lengthened [ inl none ↦ omega arith | inr long ↦ long.whole ]

pub size_whole : (bytes : List ℕ) → use_size bytes % 4 ≡ 0 → size_of bytes ≡ plain_size (name_size bytes) + use_size bytes
size_whole bytes whole = rounded_more (use_size bytes) (name_size bytes) whole
  where
    rounded_more : (u l : ℕ) → u % 4 ≡ 0 → rounded (38 + u + l) ≡ plain_size l + u
    rounded_more u l e = omega arith

pub length-said_by : (bytes : List ℕ) → size_of bytes ≡ length bytes → length (identifier_in bytes).name ≡ name_size bytes
length-said_by bytes whole =
    let u = use_size bytes in
    length-take-le (name_size bytes) (drop (38 + u) bytes) (omega (arith, length-drop (38 + u) bytes))

-- bytes that pass the tests are an identifier
pub identifier_read : (number at : ℕ) (bytes after : List ℕ) → IsBytes bytes → HasHead number bytes → size_of bytes ≡ length bytes
    → IsPadded at bytes after → bytes ≡ identifier number (identifier_in bytes) (use_size bytes)
identifier_read number at bytes after fits h whole p =
    let u = use_size bytes in
    let l = name_size bytes in
    let name = (identifier_in bytes).name in
    let u4 = use_whole at bytes after p in
    let size = size_whole bytes u4 in
    let count : length bytes - (38 + u + l) ≡ plain_size l - (38 + l) = omega arith in
    let pad : List ℕ = replicate (plain_size l - (38 + l)) 0 in
    let padding : drop (38 + u + l) bytes ≡ pad = p.padding ∙ ap (λ (n : ℕ). replicate n 0) count in
    let names : drop (38 + u) bytes ≡ name ++ pad =
    sym (take-append-drop l (drop (38 + u) bytes)) ∙ ap (λ (t : List ℕ). name ++ t) (drop-drop l (38 + u) bytes ∙ padding) in
    let uses : drop 38 bytes ≡ use_of u ++ (name ++ pad) =
    sym (take-append-drop u (drop 38 bytes)) ∙ ap (λ (t : List ℕ). t ++ drop u (drop 38 bytes)) p.filled
    ∙ ap (λ (t : List ℕ). use_of u ++ t) (drop-drop u 38 bytes ∙ names) in
    let body : drop 16 bytes ≡ head_of (slice_index bytes 18) l (u32_at 24 bytes) (u32_at 32 bytes) u ++ (use_of u ++ (name ++ pad)) =
    cut 16 38 (head_of (slice_index bytes 18) l (u32_at 24 bytes) (u32_at 32 bytes) u) bytes _ refl h.fields uses in
    let same : head_of (slice_index bytes 18) l (u32_at 24 bytes) (u32_at 32 bytes) u ++ (use_of u ++ (name ++ pad)) ≡ body_of (identifier_in bytes) u =
    ap (λ (n : ℕ). head_of (slice_index bytes 18) n (u32_at 24 bytes) (u32_at 32 bytes) u ++ (use_of u ++ (name ++ replicate (plain_size n - (38 + n)) 0)))
    (sym (length-said_by bytes whole)) in
    identifier_is number u (identifier_in bytes) bytes _ fits h.«sealed» body same

-- what says the same is the same
pub same_said : (x : Identifier) (name : List ℕ) (kind icb unique : ℕ) → name ≡ x.name → kind ≡ x.characteristics → icb ≡ x.icb → unique ≡ x.unique
    → record { name = name; characteristics = kind; icb = icb; unique = unique } ≡ x
same_said x name kind icb unique n k i u =
    let start : Identifier = record { name = name; characteristics = kind; icb = icb; unique = unique } in
    let P : List ℕ → ℕ → ℕ → ℕ → Identifier = λ a b c d. record { name = a; characteristics = b; icb = c; unique = d } in
    ap (λ (a : List ℕ). P a kind icb unique) n ∙ ap (λ (b : ℕ). P x.name b icb unique) k
    ∙ ap (λ (c : ℕ). P x.name x.characteristics c unique) i ∙ ap (λ (d : ℕ). P x.name x.characteristics x.icb d) u

same_heads : (a b c d e a' b' c' d' e' : ℕ) → a ≡ a' → b ≡ b' → c ≡ c' → d ≡ d' → e ≡ e' → head_of a' b' c' d' e' ≡ head_of a b c d e
same_heads a b c d e a' b' c' d' e' p q r s t =
    ap (λ (x : ℕ). head_of x b' c' d' e') (sym p) ∙ ap (λ (x : ℕ). head_of a x c' d' e') (sym q)
    ∙ ap (λ (x : ℕ). head_of a b x d' e') (sym r) ∙ ap (λ (x : ℕ). head_of a b c x e') (sym s) ∙ ap (λ (x : ℕ). head_of a b c d x) (sym t)

sealed-identifier : (number more : ℕ) (x : Identifier) → number < 2 ^ 32 → more < 2 ^ 15 → length x.name ≤ 255
    → IsBytes (identifier number x more) → Sealed 257 number (identifier number x more)
unfolding identifier
sealed-identifier number more x in_range few short fits =
    is_sealed 257 number (body_of x more) (omega arith) in_range (omega (arith, length-body_of x more))
    (λ i. let e = get_or-drop 16 (identifier number x more) i 0 in let byte = fits (16 + i) in omega (arith, e))

-- the name that is in the bytes
name-identifier : (number more : ℕ) (x : Identifier) (rest : List ℕ)
    → take (length x.name) (drop (38 + more) (identifier number x more ++ rest)) ≡ x.name
name-identifier number more x rest =
    let pad : List ℕ = replicate (plain_size (length x.name) - (38 + length x.name)) 0 in
    let all = identifier number x more ++ rest in
    let place : drop (38 + more) all ≡ x.name ++ (pad ++ rest) =
    sym (drop-drop more 38 all) ∙ ap (drop more) (tail-identifier number more x rest) ∙ drop_at (use_of more) (x.name ++ (pad ++ rest)) more (length-use_of more) in
    ap (take (length x.name)) place ∙ take_at x.name (pad ++ rest) (length x.name) refl

-- the bytes of an identifier say what it says, and pass the tests
pub said_by-identifier : (number more : ℕ) (x : Identifier) (bytes : List ℕ) → FitsIdentifier x → more < 2 ^ 15
    → bytes ≡ identifier number x more → identifier_in bytes ≡ x
said_by-identifier number more x bytes f few e =
    let b : bytes ≡ identifier number x more ++ [] = e ∙ sym (append-nil (identifier number x more)) in
    let l : name_size bytes ≡ length x.name = ap name_size b ∙ name_size-identifier number more x [] in
    let u : use_size bytes ≡ more = ap use_size b ∙ use_size-identifier number more x [] (omega arith) in
    let name : take (name_size bytes) (drop (38 + use_size bytes) bytes) ≡ x.name =
    ap (λ (n : ℕ). take n (drop (38 + use_size bytes) bytes)) l ∙ ap (λ (n : ℕ). take (length x.name) (drop (38 + n) bytes)) u
    ∙ ap (λ (t : List ℕ). take (length x.name) (drop (38 + more) t)) b ∙ name-identifier number more x [] in
    same_said x _ _ _ _ name (ap (λ (t : List ℕ). slice_index t 18) b ∙ kind-identifier number more x [])
    (ap (u32_at 24) b ∙ icb-identifier number more x [] f.icb) (ap (u32_at 32) b ∙ unique-identifier number more x [] f.unique)

pub HasHead-identifier : (number more : ℕ) (x : Identifier) (bytes : List ℕ) → FitsIdentifier x → number < 2 ^ 32 → more < 2 ^ 15 → IsBytes bytes
    → bytes ≡ identifier number x more → HasHead number bytes
HasHead-identifier number more x bytes f in_range few fits e =
    let b : bytes ≡ identifier number x more ++ [] = e ∙ sym (append-nil (identifier number x more)) in
    let l : name_size bytes ≡ length x.name = ap name_size b ∙ name_size-identifier number more x [] in
    let u : use_size bytes ≡ more = ap use_size b ∙ use_size-identifier number more x [] (omega arith) in
    let k : slice_index bytes 18 ≡ x.characteristics = ap (λ (t : List ℕ). slice_index t 18) b ∙ kind-identifier number more x [] in
    let i : u32_at 24 bytes ≡ x.icb = ap (u32_at 24) b ∙ icb-identifier number more x [] f.icb in
    let q : u32_at 32 bytes ≡ x.unique = ap (u32_at 32) b ∙ unique-identifier number more x [] f.unique in
    let s = sealed-identifier number more x in_range few f.name (subst IsBytes e fits) in
    record {
      «sealed» = subst (λ (t : List ℕ). Sealed 257 number t) (sym e) s;
      kind = subst IsKind (sym k) f.kind;
      fields =
          ap (λ (t : List ℕ). take 22 (drop 16 t)) b ∙ head-identifier number more x []
          ∙ same_heads (slice_index bytes 18) (name_size bytes) (u32_at 24 bytes) (u32_at 32 bytes) (use_size bytes) _ _ _ _ _ k l i q u;
    }

pub filled-identifier : (number more : ℕ) (x : Identifier) (bytes : List ℕ) → bytes ≡ identifier number x more
    → take more (drop 38 bytes) ≡ use_of more
filled-identifier number more x bytes e =
    let b : bytes ≡ identifier number x more ++ [] = e ∙ sym (append-nil (identifier number x more)) in
    let pad : List ℕ = replicate (plain_size (length x.name) - (38 + length x.name)) 0 in
    ap (λ (t : List ℕ). take more (drop 38 t)) b ∙ ap (take more) (tail-identifier number more x [])
    ∙ take_at (use_of more) (x.name ++ (pad ++ [])) more (length-use_of more)

pub padding-identifier : (number more : ℕ) (x : Identifier) (bytes : List ℕ) → bytes ≡ identifier number x more
    → drop (38 + more + length x.name) bytes ≡ replicate (plain_size (length x.name) - (38 + length x.name)) 0
padding-identifier number more x bytes e =
    let b : bytes ≡ identifier number x more ++ [] = e ∙ sym (append-nil (identifier number x more)) in
    let pad : List ℕ = replicate (plain_size (length x.name) - (38 + length x.name)) 0 in
    let place : drop (38 + more) bytes ≡ x.name ++ (pad ++ []) =
    sym (drop-drop more 38 bytes) ∙ ap (λ (t : List ℕ). drop more (drop 38 t)) b ∙ ap (drop more) (tail-identifier number more x [])
    ∙ drop_at (use_of more) (x.name ++ (pad ++ [])) more (length-use_of more) in
    sym (drop-drop (length x.name) (38 + more) bytes) ∙ ap (drop (length x.name)) place
    ∙ drop_at x.name (pad ++ []) (length x.name) refl ∙ append-nil pad
