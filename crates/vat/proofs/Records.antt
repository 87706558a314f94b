-- The bytes of a record, and the record that bytes have.
use Rattle.std.proofs.Common.{◌≡◌, ℕ, zero, suc, ◌+◌, ◌-◌, ◌*◌, ◌/◌, ◌%◌, ◌^◌, ◌<◌, ◌≤◌, Bool, false, eqb, List, [], ◌∷◌, ◌++◌, length, take, drop, get_or, replicate, sym, ap, subst, ◌∙◌, refl, arith}
use Rattle.std.specs.Prelude.{IsTrue, ◌↔◌, Option, Some, None, IsSome, IfSome, IfNone, unwrap_or}
use Rattle.std.specs.Str.{bytes_eq}
use Rattle.std.specs.Int.{w64, to_le_bytes}
use Rattle.std.specs.List.{concat, flat_map, AllByRecursion}
use Rattle.std.proofs.lemmas.Bool.{ne_eqb}
use Rattle.std.proofs.lemmas.List.{length-append, length-replicate, take_all, take_at, drop_at}
use Rattle.std.proofs.lemmas.Slice.Eq.{bytes_eq-Decides}
use Rattle.ecma.specs.Numbers.{u64_at}
use Rattle.vat.specs.declared.record.Reply.{Reply}
use Rattle.vat.specs.declared.record.Record.{Record}
use Rattle.vat.specs.declared.table.Version.{Version}
use Rattle.vat.specs.declared.table.Version.TheVariants.{One, Two}
use Rattle.vat.specs.Version.{places, record_size}
use Rattle.vat.specs.Reply.{nothing, filled, reply_bytes, AreReplies, replies_in}
use Rattle.vat.specs.Record.{record_bytes, HasRoom, IsKept, SpellsRecord}
use Rattle.vat.specs.Rules.{places_in}

abbrev made : ℕ → ℕ → Reply
made code commit = record { code = code; commit = commit }

abbrev pub made_record : ℕ → ℕ → List Reply → Record
made_record client latest replies = record { client = client; latest = latest; replies = replies }

-- the first four
abbrev pub four : List Reply → List Reply
four xs = get_or xs 0 nothing ∷ get_or xs 1 nothing ∷ get_or xs 2 nothing ∷ get_or xs 3 nothing ∷ []

-- four are they, one by one
pub four_is : (xs : List Reply) → length xs ≡ 4 → four xs ≡ xs
four_is [] e = absurd (omega arith)
four_is (a ∷ []) e = absurd (omega arith)
four_is (a ∷ b ∷ []) e = absurd (omega arith)
four_is (a ∷ b ∷ c ∷ []) e = absurd (omega arith)
four_is (a ∷ b ∷ c ∷ d ∷ []) e = refl
four_is (a ∷ b ∷ c ∷ d ∷ x ∷ xs) e = absurd (omega arith)

-- what is written field by field is the record of the four places
pub record_written : (client latest : ℕ) (places replies : List Reply) (written : List ℕ)
    → written ≡ concat (to_le_bytes w64 client ∷ to_le_bytes w64 latest ∷ flat_map reply_bytes (four places) ∷ [])
    → length places ≡ 4 → places ≡ filled 4 replies
    → written ≡ concat (to_le_bytes w64 client ∷ to_le_bytes w64 latest ∷ flat_map reply_bytes (filled 4 replies) ∷ [])
record_written client latest places replies written put len is =
    put ∙ ap (λ (x : List Reply). concat (to_le_bytes w64 client ∷ to_le_bytes w64 latest ∷ flat_map reply_bytes x ∷ [])) (four_is places len ∙ is)

-- ---- sizes

pub length-replies : (xs : List Reply) → length (flat_map reply_bytes xs) ≡ 8 * length xs
length-replies [] = refl
length-replies (x ∷ xs) = omega (arith, length-append (reply_bytes x) (flat_map reply_bytes xs), length-replies xs)

pub length-filled : (n : ℕ) (replies : List Reply) → length replies ≤ n → length (filled n replies) ≡ n
length-filled n replies le = omega (arith, length-append replies (replicate (n - length replies) nothing), length-replicate (n - length replies) nothing)

sized : (version : Version) → 16 + 8 * places version ≡ record_size version
sized One = refl
sized Two = refl

pub length-record : (version : Version) (kept : Record) → HasRoom version kept → length (record_bytes version kept) ≡ record_size version
length-record version kept h =
    let all = flat_map reply_bytes (filled (places version) kept.replies) in
    omega (arith, length-append all [], length-replies (filled (places version) kept.replies), length-filled (places version) kept.replies h.room, sized version)

-- the beginning of a record of four places is the record
front_of : (version : Version) (client latest : ℕ) (replies : List Reply) → 0 < length replies → length replies ≤ places version
    → take (record_size version) (concat (to_le_bytes w64 client ∷ to_le_bytes w64 latest ∷ flat_map reply_bytes (filled 4 replies) ∷ []))
    ≡ concat (to_le_bytes w64 client ∷ to_le_bytes w64 latest ∷ flat_map reply_bytes (filled (places version) replies) ∷ [])
front_of One client latest [] some room = absurd (omega arith)
front_of One client latest (a ∷ []) some room = refl
front_of One client latest (a ∷ b ∷ replies) some room = absurd (omega arith)
front_of Two client latest replies some room =
    let all = flat_map reply_bytes (filled 4 replies) in
    take_all 48 (concat (to_le_bytes w64 client ∷ to_le_bytes w64 latest ∷ all ∷ []))
    (omega (arith, length-append all [], length-replies (filled 4 replies), length-filled 4 replies room))

pub record_front : (version : Version) (kept : Record) → HasRoom version kept → take (record_size version) (record_bytes Two kept) ≡ record_bytes version kept
record_front version kept h = front_of version kept.client kept.latest kept.replies h.some h.room

-- a text that was compared with the beginning of a record of four places
pub is_spelled : (version : Version) (kept : Record) (text written : List ℕ) (size : ℕ) (r : Bool) → HasRoom version kept → size ≡ record_size version → written ≡ record_bytes Two kept
    → r ≡ bytes_eq text (take size written) → IsTrue r ↔ (text ≡ record_bytes version kept)
is_spelled version kept text written size r h size-is written-is compared =
    let right : take size written ≡ record_bytes version kept = ap (λ (n : ℕ). take n written) size-is ∙ ap (take (record_size version)) written-is ∙ record_front version kept h in
    let test : r ≡ bytes_eq text (record_bytes version kept) = compared ∙ ap (bytes_eq text) right in
    let decides = bytes_eq-Decides text (record_bytes version kept) in
    (λ yes. decides.0 (sym test ∙ yes), λ same. test ∙ decides.1 same)

-- ---- reading

-- the record that is in the text, if one is
abbrev pub parsed : Version → List ℕ → Record
parsed version text = record { client = u64_at 0 text; latest = u64_at 8 text; replies = replies_in (places_in version text) }

-- a reply with a spelling
abbrev FitsReply : Reply → Type 0
FitsReply reply = (reply.code < 2 ^ 16) × (reply.commit < 2 ^ 32)

reply_again : (reply : Reply) → FitsReply reply → made (reply.code % 256 + reply.code / 256 % 256 * 2 ^ 8) (reply.commit % 256 + reply.commit / 256 % 256 * 2 ^ 8 + (reply.commit / 65536 % 256 + reply.commit / 16777216 % 256 * 2 ^ 8) * 2 ^ 16) ≡ reply
reply_again reply fits =
    let code : reply.code % 256 + reply.code / 256 % 256 * 2 ^ 8 ≡ reply.code = omega (arith, fits.0) in
    let commit : reply.commit % 256 + reply.commit / 256 % 256 * 2 ^ 8 + (reply.commit / 65536 % 256 + reply.commit / 16777216 % 256 * 2 ^ 8) * 2 ^ 16 ≡ reply.commit = omega (arith, fits.1) in
    rw (code, commit) refl

abbrev again : Reply → Reply
again reply = made (reply.code % 256 + reply.code / 256 % 256 * 2 ^ 8) (reply.commit % 256 + reply.commit / 256 % 256 * 2 ^ 8 + (reply.commit / 65536 % 256 + reply.commit / 16777216 % 256 * 2 ^ 8) * 2 ^ 16)

abbrev listed : Reply → Reply → Reply → Reply → List Reply
listed a b c d = a ∷ b ∷ c ∷ d ∷ []

four_again : (client latest : ℕ) (a b c d : Reply) → FitsReply a → FitsReply b → FitsReply c → FitsReply d
    → places_in Two (concat (to_le_bytes w64 client ∷ to_le_bytes w64 latest ∷ flat_map reply_bytes (a ∷ b ∷ c ∷ d ∷ []) ∷ [])) ≡ a ∷ b ∷ c ∷ d ∷ []
four_again client latest a b c d fa fb fc fd =
    ap (λ (x : Reply). listed x (again b) (again c) (again d)) (reply_again a fa)
    ∙ ap (λ (x : Reply). listed a x (again c) (again d)) (reply_again b fb)
    ∙ ap (λ (x : Reply). listed a b x (again d)) (reply_again c fc)
    ∙ ap (λ (x : Reply). listed a b c x) (reply_again d fd)

-- replies with commits above 0 are found again in their places
found_again : (limit k : ℕ) (replies : List Reply) → AreReplies limit replies → replies_in (replies ++ replicate k nothing) ≡ replies
found_again limit zero [] all = refl
found_again limit (suc k) [] all = refl
found_again limit k (reply ∷ replies) all =
    let no : eqb reply.commit 0 ≡ false = ne_eqb reply.commit 0 (omega (arith, all.1)) in
    rw no (ap (λ (x : List Reply). reply ∷ x) (found_again (reply.commit - 1) k replies all.3))

fits_of : (reply : Reply) (limit : ℕ) → limit < 2 ^ 32 → reply.code ≤ 10 → reply.commit ≤ limit → FitsReply reply
fits_of reply limit small code commit = (omega arith, omega arith)

nothing_fits : FitsReply nothing
nothing_fits = (omega arith, omega arith)

replies_again : (version : Version) (client latest limit : ℕ) (replies : List Reply) → limit < 2 ^ 32 → 0 < length replies → length replies ≤ places version → AreReplies limit replies
    → replies_in (places_in version (concat (to_le_bytes w64 client ∷ to_le_bytes w64 latest ∷ flat_map reply_bytes (filled (places version) replies) ∷ []))) ≡ replies
replies_again version client latest limit [] small some room all = absurd (omega arith)
replies_again One client latest limit (a ∷ []) small some room all =
    ap (λ (x : Reply). replies_in (x ∷ nothing ∷ nothing ∷ nothing ∷ [])) (reply_again a (fits_of a limit small all.0 all.2)) ∙ found_again limit 3 (a ∷ []) all
replies_again One client latest limit (a ∷ b ∷ replies) small some room all = absurd (omega arith)
replies_again Two client latest limit (a ∷ []) small some room all =
    ap replies_in (four_again client latest a nothing nothing nothing (fits_of a limit small all.0 all.2) nothing_fits nothing_fits nothing_fits) ∙ found_again limit 3 (a ∷ []) all
replies_again Two client latest limit (a ∷ b ∷ []) small some room all =
    ap replies_in (four_again client latest a b nothing nothing (fits_of a limit small all.0 all.2) (fits_of b (a.commit - 1) (omega (arith, all.2)) all.3.0 all.3.2) nothing_fits nothing_fits) ∙ found_again limit 2 (a ∷ b ∷ []) all
replies_again Two client latest limit (a ∷ b ∷ c ∷ []) small some room all =
    ap replies_in (four_again client latest a b c nothing (fits_of a limit small all.0 all.2) (fits_of b (a.commit - 1) (omega (arith, all.2)) all.3.0 all.3.2) (fits_of c (b.commit - 1) (omega (arith, all.2, all.3.2)) all.3.3.0 all.3.3.2) nothing_fits)
    ∙ found_again limit 1 (a ∷ b ∷ c ∷ []) all
replies_again Two client latest limit (a ∷ b ∷ c ∷ d ∷ []) small some room all =
    ap replies_in (four_again client latest a b c d (fits_of a limit small all.0 all.2) (fits_of b (a.commit - 1) (omega (arith, all.2)) all.3.0 all.3.2) (fits_of c (b.commit - 1) (omega (arith, all.2, all.3.2)) all.3.3.0 all.3.3.2) (fits_of d (c.commit - 1) (omega (arith, all.2, all.3.2, all.3.3.2)) all.3.3.3.0 all.3.3.3.2))
    ∙ found_again limit 0 (a ∷ b ∷ c ∷ d ∷ []) all
replies_again Two client latest limit (a ∷ b ∷ c ∷ d ∷ e ∷ replies) small some room all = absurd (omega arith)

number_again : (n : ℕ) → n < 2 ^ 64 → u64_at 0 (to_le_bytes w64 n) ≡ n
number_again n lt = omega arith

-- the client is first
pub client_again : (version : Version) (kept : Record) → kept.client < 2 ^ 64 → u64_at 0 (record_bytes version kept) ≡ kept.client
client_again version kept lt = number_again kept.client lt

-- a record is read again
pub parsed_again : (version : Version) (commits : ℕ) (kept : Record) → commits < 2 ^ 32 → IsKept version commits kept → parsed version (record_bytes version kept) ≡ kept
parsed_again version commits kept small is =
    let client : u64_at 0 (record_bytes version kept) ≡ kept.client = client_again version kept is.client_fits in
    let latest : u64_at 8 (record_bytes version kept) ≡ kept.latest = number_again kept.latest is.latest_fits in
    let replies = replies_again version kept.client kept.latest commits kept.replies small is.room.some is.room.room is.replies in
    rw (client, latest, replies) refl

-- ---- what a reader answered

pub spelled_at : (v w : Version) (m n : ℕ) (s t : List ℕ) → v ≡ w → m ≡ n → s ≡ t → SpellsRecord v m s → SpellsRecord w n t
spelled_at v w m n s t e f g is =
    subst (λ (x : Version). SpellsRecord x n t) e (subst (λ (x : ℕ). SpellsRecord v x t) f (subst (λ (x : List ℕ). SpellsRecord v m x) g is))

pub some_is : (o : Option Record) (P : Type 0) → IfNone o (P → ⊥) → P → IsSome o
some_is None P none p = absurd (none p)
some_is (Some kept) P none p = refl

pub some_spells : (o : Option Record) (version : Version) (commits : ℕ) (text : List ℕ) → IfSome o (λ kept. IsKept version commits kept × (text ≡ record_bytes version kept)) → IsSome o → SpellsRecord version commits text
some_spells None version commits text some e = absurd cc
some_spells (Some kept) version commits text some e = record { kept = kept; is_kept = some.0; whole = some.1 }

pub known_version : (o p : Option Version) (version : Version) → Some version ≡ o → o ≡ p → version ≡ unwrap_or p One
known_version o p version e f = ap (λ (x : Option Version). unwrap_or x One) (e ∙ f)

-- the record of what was read
pub read_record_is : (version : Version) (text : List ℕ) (client latest : ℕ) (replies places : List Reply) → client ≡ u64_at 0 text → latest ≡ u64_at 8 text → replies ≡ replies_in places → places ≡ places_in version text
    → made_record client latest replies ≡ parsed version text
read_record_is version text client latest replies places c l r p =
    ap (λ (x : ℕ). made_record x latest replies) c ∙ ap (λ (x : ℕ). made_record (u64_at 0 text) x replies) l ∙ ap (made_record (u64_at 0 text) (u64_at 8 text)) (r ∙ ap replies_in p)

-- what a text spells is what is read there
pub read_is : (version : Version) (commits : ℕ) (text : List ℕ) (s : SpellsRecord version commits text) → commits < 2 ^ 32 → parsed version text ≡ s.kept
read_is version commits text s small = ap (parsed version) s.whole ∙ parsed_again version commits s.kept small s.is_kept

-- ---- records one after the other

-- records with the same bytes are the same
pub same_records : (version : Version) (commits : ℕ) (rs ss : List Record) → commits < 2 ^ 32 → AllByRecursion (IsKept version commits) rs → AllByRecursion (IsKept version commits) ss
    → length rs ≡ length ss → flat_map (record_bytes version) rs ≡ flat_map (record_bytes version) ss → rs ≡ ss
same_records version commits [] [] small all others len e = refl
same_records version commits [] (s ∷ ss) small all others len e = absurd (omega arith)
same_records version commits (r ∷ rs) [] small all others len e = absurd (omega arith)
same_records version commits (r ∷ rs) (s ∷ ss) small all others len e =
    let n = record_size version in
    let left = length-record version r all.0.room in
    let right = length-record version s others.0.room in
    let front : record_bytes version r ≡ record_bytes version s =
    sym (take_at (record_bytes version r) (flat_map (record_bytes version) rs) n left) ∙ ap (take n) e ∙ take_at (record_bytes version s) (flat_map (record_bytes version) ss) n right in
    let back : flat_map (record_bytes version) rs ≡ flat_map (record_bytes version) ss =
    sym (drop_at (record_bytes version r) (flat_map (record_bytes version) rs) n left) ∙ ap (drop n) e ∙ drop_at (record_bytes version s) (flat_map (record_bytes version) ss) n right in
    let one : r ≡ s = sym (parsed_again version commits r small all.0) ∙ ap (parsed version) front ∙ parsed_again version commits s small others.0 in
    ap (λ (x : Record). x ∷ rs) one ∙ ap (λ (x : List Record). s ∷ x) (same_records version commits rs ss small all.1 others.1 (omega arith) back)

pub kept_push : (version : Version) (commits : ℕ) (rs : List Record) (r : Record) → AllByRecursion (IsKept version commits) rs → IsKept version commits r → AllByRecursion (IsKept version commits) (rs ++ r ∷ [])
kept_push version commits [] r all one = (one, tt)
kept_push version commits (x ∷ rs) r all one = (all.0, kept_push version commits rs r all.1 one)

-- each has its size
pub records_sized : (version : Version) (commits : ℕ) (rs : List Record) → AllByRecursion (IsKept version commits) rs → AllByRecursion (λ r. length (record_bytes version r) ≡ record_size version) rs
records_sized version commits [] all = tt
records_sized version commits (r ∷ rs) all = (length-record version r all.0.room, records_sized version commits rs all.1)
