-- Frames of a stream: one reading, however the stream was cut.
use Rattle.std.proofs.Common.{◌≡◌, ℕ, ◌+◌, ◌^◌, ◌<◌, ◌≤◌, List, [], ◌∷◌, ◌++◌, length, take, drop, Option, Some, None, Result, refl, sym, ap, subst, ◌∙◌, append_assoc, arith, inl, inr, ◌⊎◌, length-append}
use Rattle.std.specs.Prelude.{IfSome, MatchOption, if◌then◌else◌, Bool, true, false}
use Rattle.std.specs.List.{AllZip}
use Rattle.std.specs.Int.{w32, from_le_bytes}
use Rattle.std.proofs.lemmas.List.{take-append-le, drop-drop}
use Rattle.std.proofs.lemmas.Nat.{from_le_bytes-to_le_bytes_4}
use Rattle.std.proofs.Math.Seq.{take-append_seam, drop-append_seam}
use Rattle.request.specs.declared.message.Cause.{Cause}
use Rattle.request.specs.declared.message.Message.{Message}
use Rattle.request.specs.declared.message.Message.TheVariants.{NoMemory}
use Rattle.request.specs.Spelling.{Said}
use Rattle.request.specs.Reading.{said_at}
use Rattle.request.specs.Payload.{told_by, DecodesPayload}
use Rattle.request.specs.Frames.{frame, length_at, IsOverlong, IsPartial, IsFramed, FirstIs, fed, IsFirstMessage, TakesMessage, IsIdle, MessagesAre, Agree}

length_of_frame : (payload rest : List ℕ) → length payload < 2 ^ 32 → length_at (frame payload ++ rest) ≡ length payload
length_of_frame payload rest lt = from_le_bytes-to_le_bytes_4 (length payload) lt

-- no frame begins another
pub same_frames : (p q x y : List ℕ) → length p < 2 ^ 32 → length q < 2 ^ 32 → frame p ++ x ≡ frame q ++ y → (p ≡ q) × (x ≡ y)
same_frames p q x y p-fits q-fits e =
    let lengths : length p ≡ length q = sym (length_of_frame p x p-fits) ∙ ap length_at e ∙ length_of_frame q y q-fits in
    let later : p ++ x ≡ q ++ y = ap (drop 4) e in
    let fronts : p ≡ take (length q) (q ++ y) = sym (take-append_seam p x) ∙ ap (take (length p)) later ∙ ap (λ (k : ℕ). take k (q ++ y)) lengths in
    let rests : x ≡ drop (length q) (q ++ y) = sym (drop-append_seam p x) ∙ ap (drop (length p)) later ∙ ap (λ (k : ℕ). drop k (q ++ y)) lengths in
    (fronts ∙ take-append_seam q y, rests ∙ drop-append_seam q y)

-- what is known of bytes that begin with a frame
record Whole (bytes payload : List ℕ) : Type 0 where
  has_length : 4 ≤ length bytes
  length_is : length_at bytes ≡ length payload
  within : 4 + length payload ≤ length bytes
  fits : length payload ≤ 1114112

is_whole : (bytes payload rest : List ℕ) → IsFramed bytes payload rest → Whole bytes payload
is_whole bytes payload rest b =
    let long : length bytes ≡ 4 + (length payload + length rest) = ap length b.whole ∙ omega (arith, length-append payload rest) in
    record {
      has_length = omega (arith, long);
      length_is = ap length_at b.whole ∙ length_of_frame payload rest (omega (arith, b.fits));
      within = omega (arith, long);
      fits = b.fits;
    }

whole_not_partial : (bytes payload : List ℕ) → Whole bytes payload → IsPartial bytes → ⊥
whole_not_partial bytes payload w p =
    elim p [
      | inl short ↦ absurd (omega (arith, short, w.has_length))
      | inr more ↦ absurd (omega (arith, more.1, w.length_is, w.within))
    ]

whole_not_overlong : (bytes payload : List ℕ) → Whole bytes payload → IsOverlong bytes → ⊥
whole_not_overlong bytes payload w o = absurd (omega (arith, o.1, w.length_is, w.fits))

overlong_not_partial : (bytes : List ℕ) → IsOverlong bytes → IsPartial bytes → ⊥
overlong_not_partial bytes o p =
    elim p [
      | inl short ↦ absurd (omega (arith, short, o.0))
      | inr more ↦ absurd (omega (arith, more.0, o.1))
    ]

overlong_more : (bytes piece : List ℕ) → IsOverlong bytes → IsOverlong (bytes ++ piece)
overlong_more bytes piece o =
    let same : length_at (bytes ++ piece) ≡ length_at bytes = ap (from_le_bytes w32) (take-append-le 4 bytes piece o.0) in
    (omega (arith, length-append bytes piece, o.0), omega (arith, same, o.1))

begins_more : (bytes payload rest piece : List ℕ) → IsFramed bytes payload rest → IsFramed (bytes ++ piece) payload (rest ++ piece)
begins_more bytes payload rest piece b =
    record { whole = ap (λ (x : List ℕ). x ++ piece) b.whole ∙ append_assoc (frame payload) rest piece; fits = b.fits }

pub feeding : (messages : List Message) (bytes piece : List ℕ) (reader : Option (List ℕ)) → MessagesAre bytes messages reader → MessagesAre (bytes ++ piece) messages (fed reader piece)
feeding [] bytes piece reader h = ap (λ (r : Option (List ℕ)). fed r piece) h
feeding (message ∷ messages) bytes piece reader h =
    elim h [
      | inl p ↦ inl (p.0 ++ piece, (p.1.0, begins_more bytes p.1.0 p.0 piece p.1.1, p.1.2), feeding messages p.0 piece reader p.2)
      | inr q ↦ inr (overlong_more bytes piece q.0, q.1, q.2, ap (λ (r : Option (List ℕ)). fed r piece) q.3)
    ]

first_taken : (bytes : List ℕ) (message : Message) (after : Option (List ℕ)) → TakesMessage (Some bytes) message after → MessagesAre bytes (message ∷ []) after
first_taken bytes message (Some rest) t = inl (rest, t, refl)
first_taken bytes message None t = inr (t.0, t.1, refl, refl)

pub taking : (messages : List Message) (bytes : List ℕ) (reader after : Option (List ℕ)) (message : Message) → MessagesAre bytes messages reader → TakesMessage reader message after → MessagesAre bytes (messages ++ message ∷ []) after
taking [] bytes reader after message h t = first_taken bytes message after (subst (λ (r : Option (List ℕ)). TakesMessage r message after) h t)
taking (first ∷ messages) bytes reader after message h t =
    elim h [
      | inl p ↦ inl (p.0, p.1, taking messages p.0 reader after message p.2 t)
      | inr q ↦ absurd (subst (λ (r : Option (List ℕ)). TakesMessage r message after) q.3 t)
    ]

tells_one : (a b : Option (Result Said Cause)) (payload : List ℕ) → IfSome a (λ t. t ≡ said_at payload) → IfSome b (λ t. t ≡ said_at payload) → (a ≡ None) ⊎ ((b ≡ None) ⊎ (a ≡ b))
tells_one None b payload h k = inl refl
tells_one (Some x) None payload h k = inr (inl refl)
tells_one (Some x) (Some y) payload h k = inr (inr (ap (λ (t : Result Said Cause). Some t) (h ∙ sym k)))

-- two first messages of one stream
first_agree : (bytes : List ℕ) (m n : Message) (x y : List ℕ) → FirstIs bytes m x → FirstIs bytes n y → Agree m n × (x ≡ y)
first_agree bytes m n x y p q =
    let same = same_frames p.0 q.0 x y (omega (arith, p.1.fits)) (omega (arith, q.1.fits)) (sym p.1.whole ∙ q.1.whole) in
    (tells_one (told_by m) (told_by n) q.0 (subst (DecodesPayload m) same.0 p.2) q.2, same.1)

-- a reader that gives a message is left in one way
taken_once : (reader x y : Option (List ℕ)) (m n : Message) → TakesMessage reader m x → TakesMessage reader n y → x ≡ y
taken_once None x y m n h k = absurd h
taken_once (Some bytes) None None m n h k = refl
taken_once (Some bytes) None (Some y) m n h k = absurd (whole_not_overlong bytes k.0 (is_whole bytes k.0 y k.1) h.0)
taken_once (Some bytes) (Some x) None m n h k = absurd (whole_not_overlong bytes h.0 (is_whole bytes h.0 x h.1) k.0)
taken_once (Some bytes) (Some x) (Some y) m n h k = ap (λ (rest : List ℕ). Some rest) (first_agree bytes m n x y h k).1

-- what is held begins with a frame
begins_held : (reader : Option (List ℕ)) (waiting payload rest : List ℕ) (message : Message) → MatchOption reader (waiting ≡ []) (λ bytes. waiting ≡ bytes)
    → IsFramed waiting payload rest → DecodesPayload message payload → TakesMessage reader message (Some rest)
begins_held None waiting payload rest message held b t = absurd (omega (arith, ap length held, (is_whole waiting payload rest b).has_length))
begins_held (Some bytes) waiting payload rest message held b t = (payload, subst (λ (bs : List ℕ). IsFramed bs payload rest) held b, t)

pub is_first : (reader : Option (List ℕ)) (waiting payload rest : List ℕ) (message : Message) → MatchOption reader (waiting ≡ []) (λ bytes. waiting ≡ bytes)
    → IsFramed waiting payload rest → DecodesPayload message payload → IsFirstMessage reader message
is_first reader waiting payload rest message held b t = (Some rest, begins_held reader waiting payload rest message held b t)

-- and is left so, where no other way is left
pub taken_first : (reader left : Option (List ℕ)) (message : Message) → IsFirstMessage reader message → ((m : Message) (after : Option (List ℕ)) → TakesMessage reader m after → left ≡ after) → TakesMessage reader message left
taken_first reader left message first skips = subst (TakesMessage reader message) (sym (skips message first.0 first.1)) first.1

-- letting a frame go lets the bytes go that it takes
pub skipped : (failed : Bool) (taken : ℕ) (bytes waiting payload : List ℕ) (reader : Option (List ℕ)) → (if failed then None else Some (drop taken bytes)) ≡ reader
    → MatchOption reader (waiting ≡ []) (λ held. waiting ≡ held) → IsFramed waiting payload (drop (4 + length payload) waiting)
    → (message : Message) (after : Option (List ℕ)) → TakesMessage reader message after → (if failed then None else Some (drop (taken + (4 + length payload)) bytes)) ≡ after
skipped true taken bytes waiting payload reader is held b message after t = absurd (subst (λ (r : Option (List ℕ)). TakesMessage r message after) (sym is) t)
skipped false taken bytes waiting payload reader is held b message after t =
    let used = 4 + length payload in
    let later : drop (taken + used) bytes ≡ drop used waiting = sym (drop-drop used taken bytes) ∙ ap (drop used) (sym (subst (λ (r : Option (List ℕ)). MatchOption r (waiting ≡ []) (λ bs. waiting ≡ bs)) (sym is) held)) in
    ap (λ (rest : List ℕ). Some rest) later
    ∙ taken_once reader (Some (drop used waiting)) after NoMemory message (begins_held reader waiting payload (drop used waiting) NoMemory held b tt) t

pub one_reading : (messages others : List Message) (bytes : List ℕ) (reader other : Option (List ℕ)) → MessagesAre bytes messages reader → IsIdle reader → MessagesAre bytes others other → IsIdle other
    → (reader ≡ other) × AllZip Agree messages others
one_reading [] [] bytes reader other h idle k still = (h ∙ sym k, tt)
one_reading [] (n ∷ ns) bytes reader other h idle k still =
    let partial : IsPartial bytes = subst IsIdle h idle in
    elim k [
      | inl p ↦ absurd (whole_not_partial bytes p.1.0 (is_whole bytes p.1.0 p.0 p.1.1) partial)
      | inr q ↦ absurd (overlong_not_partial bytes q.0 partial)
    ]
one_reading (m ∷ ms) [] bytes reader other h idle k still =
    let partial : IsPartial bytes = subst IsIdle k still in
    elim h [
      | inl p ↦ absurd (whole_not_partial bytes p.1.0 (is_whole bytes p.1.0 p.0 p.1.1) partial)
      | inr q ↦ absurd (overlong_not_partial bytes q.0 partial)
    ]
one_reading (m ∷ ms) (n ∷ ns) bytes reader other h idle k still =
    elim h [
      | inl p ↦ elim k [
        | inl q ↦
            let first = first_agree bytes m n p.0 q.0 p.1 q.1 in
            let more = one_reading ms ns p.0 reader other p.2 idle (subst (λ (rest : List ℕ). MessagesAre rest ns other) (sym first.1) q.2) still in
            (more.0, (first.0, more.1))
        | inr q ↦ absurd (whole_not_overlong bytes p.1.0 (is_whole bytes p.1.0 p.0 p.1.1) q.0)
      ]
      | inr p ↦ elim k [
        | inl q ↦ absurd (whole_not_overlong bytes q.1.0 (is_whole bytes q.1.0 q.0 q.1.1) p.0)
        | inr q ↦
            let none : AllZip Agree ms ns = subst (λ (xs : List Message). AllZip Agree xs ns) (sym p.2) (subst (λ (ys : List Message). AllZip Agree [] ys) (sym q.2) tt) in
            (p.3 ∙ sym q.3, (inr (inr (ap told_by (p.1 ∙ sym q.1))), none))
      ]
    ]
