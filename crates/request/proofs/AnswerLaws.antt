-- No answer's bytes begin another's: what an answer says can be read from its bytes.
use Rattle.std.proofs.Common.{◌≡◌, ℕ, zero, suc, ◌*◌, ◌^◌, ◌<◌, ◌≤◌, cond, eqb, ltb, List, [], ◌∷◌, ◌++◌, length, take, drop, get_or, refl, sym, ap, ◌∙◌, arith, length-append}
use Rattle.std.specs.Prelude.{All}
use Rattle.std.specs.List.{flat_map}
use Rattle.std.specs.Int.{w16, w32, w64, to_le_bytes, from_le_bytes}
use Rattle.std.proofs.lemmas.Bool.{lt-ltb}
use Rattle.std.proofs.lemmas.List.Elements.{All-head, All-tail}
use Rattle.std.proofs.lemmas.List.Concat.{flat_map-cons}
use Rattle.std.proofs.lemmas.Nat.{from_le_bytes-to_le_bytes_2, from_le_bytes-to_le_bytes_4, from_le_bytes-to_le_bytes_8}
use Rattle.std.proofs.Math.Seq.{take-append_seam, drop-append_seam}
use Rattle.request.specs.declared.message.Cause.{Cause}
use Rattle.request.specs.declared.message.Cause.TheVariants as cause
use Rattle.request.specs.declared.answer.Code.{Code}
use Rattle.request.specs.declared.answer.Code.TheVariants as code
use Rattle.request.specs.declared.answer.NodeKind.{NodeKind}
use Rattle.request.specs.declared.answer.NodeKind.TheVariants as kind
use Rattle.request.specs.declared.answer.Listed.{Listed}
use Rattle.request.specs.declared.answer.Answer.{Answer}
use Rattle.request.specs.declared.answer.Answer.TheVariants as answer
use Rattle.request.specs.Numbers.{code_number, cause_number, kind_number}
use Rattle.request.specs.Listing.{IsNamed}
use Rattle.request.specs.Answers.{listed_field, answer_code, answer_body, answer_payload, answer_frame, IsAnswer}
use Rattle.request.proofs.Names.{short_name}
use Rattle.request.proofs.FrameLaws.{same_frames}

-- ---- numbers back to what they stand for

code_named : ℕ → Code
code_named n =
    cond (eqb n 0) code.Done (cond (eqb n 1) code.NoParent (cond (eqb n 2) code.NotFound (cond (eqb n 3) code.Exists (cond (eqb n 4) code.IsDirectory
    (cond (eqb n 5) code.NotEmpty (cond (eqb n 6) code.IntoItself (cond (eqb n 7) code.Root (cond (eqb n 8) code.TooDeep (cond (eqb n 9) code.DirectoryFull code.TooMany)))))))))

code_again : (c : Code) → code_named (code_number c) ≡ c
unfolding code_named
code_again code.Done = refl
code_again code.NoParent = refl
code_again code.NotFound = refl
code_again code.Exists = refl
code_again code.IsDirectory = refl
code_again code.NotEmpty = refl
code_again code.IntoItself = refl
code_again code.Root = refl
code_again code.TooDeep = refl
code_again code.DirectoryFull = refl
code_again code.TooMany = refl

code_below : (c : Code) → code_number c < 11
code_below code.Done = omega arith
code_below code.NoParent = omega arith
code_below code.NotFound = omega arith
code_below code.Exists = omega arith
code_below code.IsDirectory = omega arith
code_below code.NotEmpty = omega arith
code_below code.IntoItself = omega arith
code_below code.Root = omega arith
code_below code.TooDeep = omega arith
code_below code.DirectoryFull = omega arith
code_below code.TooMany = omega arith

cause_named : ℕ → Cause
cause_named n =
    cond (eqb n 51) cause.TooLong (cond (eqb n 52) cause.Kind (cond (eqb n 53) cause.Short (cond (eqb n 54) cause.Extra
    (cond (eqb n 55) cause.Path (cond (eqb n 56) cause.Moment (cond (eqb n 57) cause.ClientZero cause.NumberZero))))))

cause_again : (c : Cause) → cause_named (from_le_bytes w16 (to_le_bytes w16 (cause_number c))) ≡ c
unfolding cause_named
cause_again cause.TooLong = refl
cause_again cause.Kind = refl
cause_again cause.Short = refl
cause_again cause.Extra = refl
cause_again cause.Path = refl
cause_again cause.Moment = refl
cause_again cause.ClientZero = refl
cause_again cause.NumberZero = refl

kind_named : ℕ → NodeKind
kind_named n = cond (eqb n 0) kind.File kind.Directory

kind_again : (k : NodeKind) → kind_named (kind_number k) ≡ k
unfolding kind_named
kind_again kind.File = refl
kind_again kind.Directory = refl

-- ---- listings

-- so many names, each with what it leads to
names_in : ℕ → List ℕ → List Listed
names_in zero bytes = []
names_in (suc n) bytes =
    let len : ℕ = from_le_bytes w16 (take 2 (drop 1 bytes)) in
    let after : List ℕ = drop 3 bytes in
    record { kind = kind_named (get_or bytes 0 0); name = take len after } ∷ names_in n (drop len after)

names_in_again : (names : List Listed) → All IsNamed names → names_in (length names) (flat_map listed_field names) ≡ names
unfolding names_in
names_in_again [] good = refl
names_in_again (listed ∷ names) good =
    let name : List ℕ = listed.name in
    let others : List ℕ = flat_map listed_field names in
    let short : length name < 2 ^ 16 = omega (arith, short_name name (All-head IsNamed listed names good)) in
    let grouped : flat_map listed_field (listed ∷ names) ≡ kind_number listed.kind ∷ (to_le_bytes w16 (length name) ++ (name ++ others)) = flat_map-cons listed_field listed names in
    ap (names_in (suc (length names))) grouped ∙ rw (from_le_bytes-to_le_bytes_2 (length name) short, take-append_seam name others, drop-append_seam name others, kind_again listed.kind, names_in_again names (All-tail IsNamed listed names good)) refl

length_of_names : (names : List Listed) → All IsNamed names → length (flat_map listed_field names) ≤ 1023 * length names
length_of_names [] good = omega arith
length_of_names (listed ∷ names) good =
    let more = length_of_names names (All-tail IsNamed listed names good) in
    let short = short_name listed.name (All-head IsNamed listed names good) in
    let grouped = ap length (flat_map-cons listed_field listed names) in
    omega (arith, more, short, grouped, length-append (listed_field listed) (flat_map listed_field names))

-- ---- answers

answer_in : ℕ → List ℕ → Answer
answer_in n body =
    cond (ltb n 11) (answer.Reply (record { code = code_named n; commit = from_le_bytes w32 body }))
    (cond (eqb n 32) (answer.Stale (from_le_bytes w64 body))
    (cond (eqb n 33) (answer.Gap (from_le_bytes w64 body))
    (cond (eqb n 34) answer.ClientsFull
    (cond (eqb n 35) answer.Full
    (cond (eqb n 36) answer.Fault
    (cond (eqb n 37) answer.Memory
    (cond (eqb n 38) (answer.Malformed (cause_named (from_le_bytes w16 body)))
    (cond (eqb n 39) answer.Damaged
    (cond (eqb n 64) (answer.Data (drop 4 body))
    (cond (eqb n 65) (answer.Names (names_in (from_le_bytes w16 (take 2 body)) (drop 2 body)))
    (cond (eqb n 66) (answer.Node (record { kind = kind_named (get_or body 0 0); moment = from_le_bytes w64 (take 8 (drop 1 body)); size = from_le_bytes w64 (drop 9 body) }))
    (cond (eqb n 96) answer.NotFound
    (cond (eqb n 97) answer.IsDirectory
    (cond (eqb n 98) answer.NotDirectory answer.TooLong))))))))))))))

answer_again : (a : Answer) → IsAnswer a → answer_in (answer_code a) (answer_body a) ≡ a
unfolding answer_in
answer_again (answer.Reply reply) good =
    rw (lt-ltb (code_number reply.code) 11 (code_below reply.code), code_again reply.code, from_le_bytes-to_le_bytes_4 reply.commit good) refl
answer_again (answer.Stale latest) good = rw (from_le_bytes-to_le_bytes_8 latest good) refl
answer_again (answer.Gap latest) good = rw (from_le_bytes-to_le_bytes_8 latest good) refl
answer_again answer.ClientsFull good = refl
answer_again answer.Full good = refl
answer_again answer.Fault good = refl
answer_again answer.Memory good = refl
answer_again (answer.Malformed cause) good = ap (λ (c : Cause). answer.Malformed c) (cause_again cause)
answer_again answer.Damaged good = refl
answer_again answer.NotFound good = refl
answer_again answer.IsDirectory good = refl
answer_again answer.NotDirectory good = refl
answer_again answer.TooLong good = refl
answer_again (answer.Data bytes) good = refl
answer_again (answer.Names names) good =
    let few : length names < 2 ^ 16 = omega (arith, good.few) in
    ap (λ (ns : List Listed). answer.Names ns) (rw (from_le_bytes-to_le_bytes_2 (length names) few) (names_in_again names good.named))
answer_again (answer.Node status) good =
    rw (kind_again status.kind, from_le_bytes-to_le_bytes_8 status.moment good.0, from_le_bytes-to_le_bytes_8 status.size good.1) refl

code_fits : (a : Answer) → answer_code a < 2 ^ 16
code_fits (answer.Reply reply) = omega (arith, code_below reply.code)
code_fits (answer.Stale latest) = omega arith
code_fits (answer.Gap latest) = omega arith
code_fits answer.ClientsFull = omega arith
code_fits answer.Full = omega arith
code_fits answer.Fault = omega arith
code_fits answer.Memory = omega arith
code_fits (answer.Malformed cause) = omega arith
code_fits answer.Damaged = omega arith
code_fits answer.NotFound = omega arith
code_fits answer.IsDirectory = omega arith
code_fits answer.NotDirectory = omega arith
code_fits answer.TooLong = omega arith
code_fits (answer.Data bytes) = omega arith
code_fits (answer.Names names) = omega arith
code_fits (answer.Node status) = omega arith

payload_fits : (a : Answer) → IsAnswer a → length (answer_payload a) < 2 ^ 32
payload_fits (answer.Reply reply) good = omega arith
payload_fits (answer.Stale latest) good = omega arith
payload_fits (answer.Gap latest) good = omega arith
payload_fits answer.ClientsFull good = omega arith
payload_fits answer.Full good = omega arith
payload_fits answer.Fault good = omega arith
payload_fits answer.Memory good = omega arith
payload_fits (answer.Malformed cause) good = omega arith
payload_fits answer.Damaged good = omega arith
payload_fits answer.NotFound good = omega arith
payload_fits answer.IsDirectory good = omega arith
payload_fits answer.NotDirectory good = omega arith
payload_fits answer.TooLong good = omega arith
payload_fits (answer.Data bytes) good = omega arith
payload_fits (answer.Names names) good = omega (arith, length_of_names names good.named, good.few)
payload_fits (answer.Node status) good = omega arith

-- the answer that a payload says
answer_of : List ℕ → Answer
answer_of payload = answer_in (from_le_bytes w16 (take 2 payload)) (drop 2 payload)

answer_of_again : (a : Answer) → IsAnswer a → answer_of (answer_payload a) ≡ a
unfolding answer_of
answer_of_again a good = rw (from_le_bytes-to_le_bytes_2 (answer_code a) (code_fits a)) (answer_again a good)

pub no_beginning : (a b : Answer) (x y : List ℕ) → IsAnswer a → IsAnswer b → answer_frame a ++ x ≡ answer_frame b ++ y → (a ≡ b) × (x ≡ y)
no_beginning a b x y a-good b-good e =
    let same = same_frames (answer_payload a) (answer_payload b) x y (payload_fits a a-good) (payload_fits b b-good) e in
    (sym (answer_of_again a a-good) ∙ ap answer_of same.0 ∙ answer_of_again b b-good, same.1)
