-- What a counter of frames holds, and then a byte more.
use Rattle.std.proofs.Common.{◌≡◌, ℕ, ◌+◌, ◌-◌, ◌^◌, ◌<◌, ◌≤◌, min, Bool, true, false, List, [], ◌∷◌, ◌++◌, length, take, get_or, set, sym, ap, ◌∙◌, append_assoc, arith, inl, inr, ◌⊎◌}
use Rattle.std.specs.List.{flat_map}
use Rattle.std.specs.Int.{w32, to_le_bytes, from_le_bytes}
use Rattle.std.proofs.lemmas.List.{append-nil, length_push, take_more_set, length-set}
use Rattle.std.proofs.lemmas.List.Elements.{All-append, All-cons, All-nil}
use Rattle.std.proofs.lemmas.Grind.{flat_map-append}
use Rattle.std.proofs.lemmas.Nat.{le_bytes_4}
use Rattle.std.proofs.Math.Seq.{take-length}
use Rattle.request.specs.Frames.{frame, length_at}
use Rattle.programs.specs.declared.counting.FrameCount.{FrameCount}
use Rattle.programs.specs.Counting.{Splits, counted_to}
use Rattle.programs.specs.Counted.{Counted, IsOver, HoldsLength, AwaitsPayload}

split_more : (bytes rest : List ℕ) (payloads : List (List ℕ)) (byte : ℕ) → Splits bytes payloads rest → Splits (bytes ++ byte ∷ []) payloads (rest ++ byte ∷ [])
split_more bytes rest payloads byte h = record {
  whole = ap (λ (x : List ℕ). x ++ byte ∷ []) h.whole ∙ append_assoc (flat_map frame payloads) rest (byte ∷ []);
  each = h.each;
}

-- the rest is a whole frame now
split_whole : (bytes rest payload : List ℕ) (payloads : List (List ℕ)) → Splits bytes payloads rest → rest ≡ frame payload → length payload ≤ 1114112 → Splits bytes (payloads ++ payload ∷ []) []
split_whole bytes rest payload payloads h e fits = record {
  whole = h.whole ∙ ap (λ (x : List ℕ). flat_map frame payloads ++ x) (e ∙ sym (append-nil (frame payload)))
      ∙ sym (flat_map-append frame payloads (payload ∷ [])) ∙ sym (append-nil (flat_map frame (payloads ++ payload ∷ [])));
  each = All-append (λ (p : List ℕ). length p ≤ 1114112) payloads (payload ∷ []) h.each (All-cons (λ (p : List ℕ). length p ≤ 1114112) payload [] fits (All-nil (λ (p : List ℕ). length p ≤ 1114112)));
}

count_more : (now later frames : ℕ) → now ≡ counted_to frames → later ≡ min (now + 1) (2 ^ 64 - 1) → later ≡ counted_to (frames + 1)
count_more now later frames e more = omega (arith, e, more)

not_both : (b : Bool) → b ≡ true → b ≡ false → ⊥
not_both b over goes = cc

-- ---- in a payload

-- what is known where bytes of a payload are to come
awaits : (c : FrameCount) (frames : ℕ) (rest : List ℕ) → c.is_over ≡ false → 0 < c.left → IsOver c frames rest ⊎ (HoldsLength c frames rest ⊎ AwaitsPayload c frames rest) → AwaitsPayload c frames rest
awaits c frames rest goes_on left (inl o) = absurd (not_both c.is_over o.over goes_on)
awaits c frames rest goes_on left (inr (inl l)) = absurd (omega (arith, left, l.none_left))
awaits c frames rest goes_on left (inr (inr p)) = p

pub payload_more : (c d : FrameCount) (bytes : List ℕ) (byte : ℕ) → c.is_over ≡ false → d.is_over ≡ c.is_over → d.given ≡ c.given → d.count ≡ c.count → d.left + 1 ≡ c.left → 0 < d.left → Counted c bytes → Counted d (bytes ++ byte ∷ [])
payload_more c d bytes byte goes_on over given count left some h =
    let p = awaits c (length h.payloads) h.rest goes_on (omega (arith, left)) h.holds in
    let same : length p.came + c.left ≡ length (p.came ++ byte ∷ []) + d.left = omega (arith, left, length_push p.came byte) in
    record {
      payloads = h.payloads;
      rest = h.rest ++ byte ∷ [];
      splits = split_more bytes h.rest h.payloads byte h.splits;
      holds = inr (inr (record {
        goes_on = over ∙ goes_on;
        count = count ∙ p.count;
        some_left = some;
        none_given = given ∙ p.none_given;
        came = p.came ++ byte ∷ [];
        rest_is = ap (λ (x : List ℕ). x ++ byte ∷ []) p.rest_is ∙ append_assoc (to_le_bytes w32 (length p.came + c.left)) p.came (byte ∷ [])
            ∙ ap (λ (n : ℕ). to_le_bytes w32 n ++ (p.came ++ byte ∷ [])) same;
        fits = omega (arith, same, p.fits);
      }));
    }

pub payload_ends : (c d : FrameCount) (bytes : List ℕ) (byte : ℕ) → c.is_over ≡ false → d.is_over ≡ c.is_over → d.given ≡ c.given → d.count ≡ min (c.count + 1) (2 ^ 64 - 1) → c.left ≡ 1 → d.left ≡ 0 → Counted c bytes → Counted d (bytes ++ byte ∷ [])
payload_ends c d bytes byte goes_on over given count left none h =
    let p = awaits c (length h.payloads) h.rest goes_on (omega (arith, left)) h.holds in
    let payload = p.came ++ byte ∷ [] in
    let same : length p.came + c.left ≡ length (p.came ++ byte ∷ []) = omega (arith, left, length_push p.came byte) in
    let whole : h.rest ++ byte ∷ [] ≡ frame (p.came ++ byte ∷ []) =
    ap (λ (x : List ℕ). x ++ byte ∷ []) p.rest_is ∙ append_assoc (to_le_bytes w32 (length p.came + c.left)) p.came (byte ∷ [])
    ∙ ap (λ (n : ℕ). to_le_bytes w32 n ++ (p.came ++ byte ∷ [])) same in
    record {
      payloads = h.payloads ++ payload ∷ [];
      rest = [];
      splits = split_whole (bytes ++ byte ∷ []) (h.rest ++ byte ∷ []) payload h.payloads (split_more bytes h.rest h.payloads byte h.splits) whole (omega (arith, same, p.fits));
      holds = inr (inl (record {
        goes_on = over ∙ goes_on;
        count = count_more c.count d.count (length h.payloads) p.count count ∙ ap counted_to (sym (length_push h.payloads payload));
        none_left = none;
        rest_is = sym (ap (λ (n : ℕ). take n d.length) (given ∙ p.none_given));
      }));
    }

-- ---- in a length

-- what is known where no bytes of a payload are to come
in_length : (c : FrameCount) (frames : ℕ) (rest : List ℕ) → c.is_over ≡ false → c.left ≡ 0 → IsOver c frames rest ⊎ (HoldsLength c frames rest ⊎ AwaitsPayload c frames rest) → HoldsLength c frames rest
in_length c frames rest goes_on left (inl o) = absurd (not_both c.is_over o.over goes_on)
in_length c frames rest goes_on left (inr (inl l)) = l
in_length c frames rest goes_on left (inr (inr p)) = absurd (omega (arith, left, p.some_left))

-- the rest is a whole length now
rest_full : (c d : FrameCount) (rest : List ℕ) (byte : ℕ) → length c.length ≡ 4 → c.given ≡ 3 → d.length ≡ set c.length c.given byte → rest ≡ take c.given c.length → rest ++ byte ∷ [] ≡ d.length
rest_full c d rest byte four given put e =
    let last : c.given < length c.length = omega (arith, four, given) in
    let long : c.given + 1 ≡ length (set c.length c.given byte) = omega (arith, four, given, length-set c.length c.given byte) in
    ap (λ (x : List ℕ). x ++ byte ∷ []) e ∙ sym (take_more_set c.length c.given byte last)
    ∙ ap (λ (n : ℕ). take n (set c.length c.given byte)) long ∙ take-length (set c.length c.given byte) ∙ sym put

pub length_none : (c d : FrameCount) (bytes : List ℕ) (byte : ℕ) → c.is_over ≡ false → c.left ≡ 0 → length c.length ≡ 4 → c.given ≡ 3
    → d.length ≡ set c.length c.given byte → d.given ≡ 0 → d.left ≡ from_le_bytes w32 d.length → ((i : ℕ) → get_or d.length i 0 < 256)
    → d.count ≡ min (c.count + 1) (2 ^ 64 - 1) → d.is_over ≡ false → d.left ≡ 0 → Counted c bytes → Counted d (bytes ++ byte ∷ [])
length_none c d bytes byte goes_on left four given put again reads small count over none h =
    let l = in_length c (length h.payloads) h.rest goes_on left h.holds in
    let full : h.rest ++ byte ∷ [] ≡ d.length = rest_full c d h.rest byte four given put l.rest_is in
    let long : length d.length ≡ 4 = ap length put ∙ length-set c.length c.given byte ∙ four in
    let whole : h.rest ++ byte ∷ [] ≡ frame [] =
    full ∙ sym (le_bytes_4 d.length d.left long small reads) ∙ ap (to_le_bytes w32) none ∙ sym (append-nil (to_le_bytes w32 0)) in
    record {
      payloads = h.payloads ++ [] ∷ [];
      rest = [];
      splits = split_whole (bytes ++ byte ∷ []) (h.rest ++ byte ∷ []) [] h.payloads (split_more bytes h.rest h.payloads byte h.splits) whole (omega arith);
      holds = inr (inl (record {
        goes_on = over;
        count = count_more c.count d.count (length h.payloads) l.count count ∙ ap counted_to (sym (length_push h.payloads []));
        none_left = none;
        rest_is = sym (ap (λ (n : ℕ). take n d.length) again);
      }));
    }

pub length_over : (c d : FrameCount) (bytes : List ℕ) (byte : ℕ) → c.is_over ≡ false → c.left ≡ 0 → length c.length ≡ 4 → c.given ≡ 3
    → d.length ≡ set c.length c.given byte → d.left ≡ from_le_bytes w32 d.length
    → d.count ≡ min (c.count + 1) (2 ^ 64 - 1) → d.is_over ≡ true → 1114112 < d.left → Counted c bytes → Counted d (bytes ++ byte ∷ [])
length_over c d bytes byte goes_on left four given put reads count over long h =
    let l = in_length c (length h.payloads) h.rest goes_on left h.holds in
    let full : h.rest ++ byte ∷ [] ≡ d.length = rest_full c d h.rest byte four given put l.rest_is in
    let size : length d.length ≡ 4 = ap length put ∙ length-set c.length c.given byte ∙ four in
    let taken : take 4 d.length ≡ d.length = ap (λ (n : ℕ). take n d.length) (sym size) ∙ take-length d.length in
    let at_front : length_at (h.rest ++ byte ∷ []) ≡ d.left = ap length_at full ∙ ap (from_le_bytes w32) taken ∙ sym reads in
    record {
      payloads = h.payloads;
      rest = h.rest ++ byte ∷ [];
      splits = split_more bytes h.rest h.payloads byte h.splits;
      holds = inl (record {
        over = over;
        count = count_more c.count d.count (length h.payloads) l.count count;
        overlong = (omega (arith, ap length full, size), omega (arith, at_front, long));
      });
    }
