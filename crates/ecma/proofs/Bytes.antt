-- Lists of bytes: their parts, and the numbers that are spelled by them.
use Rattle.std.proofs.Common.{ℕ, zero, suc, ◌<◌, List, [], ◌∷◌, ◌++◌, replicate, arith}
use Rattle.std.specs.Prelude.{⊤}
use Rattle.std.specs.Int.{w16, w32, w64, to_le_bytes}
use Rattle.std.specs.List.{concat}
use Rattle.ecma.proofs.Pieces.{IsBytes}

-- each is below 256
abbrev pub AllFit : List ℕ → Type 0
AllFit [] = ⊤
AllFit (x ∷ xs) = (x < 256) × AllFit xs

pub bytes_of : (bytes : List ℕ) → AllFit bytes → IsBytes bytes
bytes_of [] all i = omega arith
bytes_of (x ∷ xs) all zero = all.0
bytes_of (x ∷ xs) all (suc i) = bytes_of xs all.1 i

pub bytes_append : (front rest : List ℕ) → IsBytes front → IsBytes rest → IsBytes (front ++ rest)
bytes_append [] rest front-fits rest-fits i = rest-fits i
bytes_append (x ∷ front) rest front-fits rest-fits zero = front-fits 0
bytes_append (x ∷ front) rest front-fits rest-fits (suc i) = bytes_append front rest (λ k. front-fits (suc k)) rest-fits i

-- each of the parts is bytes
abbrev pub AreBytes : List (List ℕ) → Type 0
AreBytes [] = ⊤
AreBytes (p ∷ ps) = IsBytes p × AreBytes ps

pub bytes_concat : (parts : List (List ℕ)) → AreBytes parts → IsBytes (concat parts)
bytes_concat [] all = bytes_of [] tt
bytes_concat (p ∷ ps) all = bytes_append p (concat ps) all.0 (bytes_concat ps all.1)

pub bytes_zeros : (n : ℕ) → IsBytes (replicate n 0)
bytes_zeros zero i = omega arith
bytes_zeros (suc n) zero = omega arith
bytes_zeros (suc n) (suc i) = bytes_zeros n i

pub bytes_u16 : (n : ℕ) → IsBytes (to_le_bytes w16 n)
bytes_u16 n = bytes_of (to_le_bytes w16 n) (omega arith, (omega arith, tt))

pub bytes_u32 : (n : ℕ) → IsBytes (to_le_bytes w32 n)
bytes_u32 n = bytes_of (to_le_bytes w32 n) (omega arith, (omega arith, (omega arith, (omega arith, tt))))

pub bytes_u64 : (n : ℕ) → IsBytes (to_le_bytes w64 n)
bytes_u64 n = bytes_of (to_le_bytes w64 n) (omega arith, (omega arith, (omega arith, (omega arith, (omega arith, (omega arith, (omega arith, (omega arith, tt))))))))
