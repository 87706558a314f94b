-- Bytes that are read after the first ones of a buffer.
use Rattle.std.proofs.Common.{◌≡◌, ℕ, ◌+◌, ◌≤◌, ◌<◌, List, ◌++◌, length, take, drop, Option, Some, None, Bool, true, false, refl, sym, ap, ◌∙◌, append_assoc, arith, length-drop}
use Rattle.std.specs.Prelude.{if◌then◌else◌}
use Rattle.std.specs.Io.KnownBytes.{Consumes, IsAtEnd}
use Rattle.std.proofs.lemmas.List.{drop-take, take-take, length-take-le, drop-append-le}
use Rattle.std.proofs.Math.Seq.{take-add, take-append_seam, drop-append_seam, take-append-add}
use Rattle.request.specs.Frames.{fed}
use Rattle.request.specs.Streams.{ReadsPiece}

-- what was written between a prefix of a buffer and the rest
between : (front room rest : List ℕ) → drop (length front) (take (length front + length room) (front ++ (room ++ rest))) ≡ room
between front room rest =
    ap (drop (length front)) (take-append-add front (room ++ rest) (length room) ∙ ap (λ (x : List ℕ). front ++ x) (take-append_seam room rest)) ∙ drop-append_seam front room

-- the same where it is cut, and more is after it
pub between_cut : (n end most : ℕ) (front room rest more : List ℕ) → length front ≡ end → length room ≡ most → end + most ≤ n
    → drop end (take (end + most) (take n (front ++ (room ++ rest) ++ more))) ≡ room
between_cut n end most front room rest more e f fits =
    let bytes : List ℕ = front ++ (room ++ rest) ++ more in
    let split : bytes ≡ front ++ (room ++ (rest ++ more)) = append_assoc front (room ++ rest) more ∙ ap (λ (x : List ℕ). front ++ x) (append_assoc room rest more) in
    ap (drop end) (take-take (end + most) n bytes fits ∙ ap (take (end + most)) split)
    ∙ rw (← e, ← f) (between front room (rest ++ more))

-- the bytes of so many that were read
piece_is : (count end most : ℕ) (bytes : List ℕ) → count ≤ most → take count (drop end (take (end + most) bytes)) ≡ take count (drop end bytes)
piece_is count end most bytes fits = ap (take count) (drop-take end most bytes) ∙ take-take count most (drop end bytes) fits

room_len : (end most : ℕ) (bytes : List ℕ) → end + most ≤ length bytes → length (drop end (take (end + most) bytes)) ≡ most
room_len end most bytes fits = length-drop end (take (end + most) bytes) ∙ omega (arith, length-take-le (end + most) bytes fits)

-- what a reader of frames holds, where it is not over
abbrev pub held : Bool → ℕ → ℕ → List ℕ → Option (List ℕ)
held failed taken end bytes = if failed then None else Some (drop taken (take end bytes))

fed_held : (failed : Bool) (taken end count : ℕ) (bytes before : List ℕ) → taken ≤ end → end ≤ length before → take end bytes ≡ take end before
    → held failed taken (end + count) bytes ≡ fed (held failed taken end before) (take count (drop end bytes))
fed_held true taken end count bytes before order within same = refl
fed_held false taken end count bytes before order within same =
    let piece : List ℕ = take count (drop end bytes) in
    let fits : taken ≤ length (take end before) = omega (arith, length-take-le end before within, order) in
    ap (λ (x : List ℕ). Some (drop taken x)) (take-add end count bytes ∙ ap (λ (x : List ℕ). x ++ piece) same)
    ∙ ap (λ (x : List ℕ). Some x) (drop-append-le taken (take end before) piece fits)

-- a reader of frames was fed what was read after the bytes that it holds
pub reads_piece : (failed : Bool) (taken end count most : ℕ) (bytes before : List ℕ) (remaining left : Option (List ℕ)) → taken ≤ end → end ≤ length before → 0 < most
    → end + most ≤ length bytes → count ≤ most → take end bytes ≡ take end before
    → (let room = drop end (take (end + most) bytes) in Consumes remaining left (take count room) × (count ≡ 0 → 0 < length room → IsAtEnd left))
    → ReadsPiece count remaining left (held failed taken end before) (held failed taken (end + count) bytes)
reads_piece failed taken end count most bytes before remaining left order within some fits short same read =
    let room : List ℕ = drop end (take (end + most) bytes) in
    let long : length room ≡ most = room_len end most bytes fits in
    record {
      piece = take count room;
      long = length-take-le count room (omega (arith, long, short));
      consumed = read.0;
      end = λ none. read.1 none (omega (arith, long, some));
      taken = fed_held failed taken end count bytes before order within same ∙ ap (λ (x : List ℕ). fed (held failed taken end before) x) (sym (piece_is count end most bytes short));
    }
