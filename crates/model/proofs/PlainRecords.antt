-- The records of the plain program.
use Rattle.std.proofs.Common.{◌≡◌, ℕ, ◌+◌, ◌<◌, ◌==◌, Bool, true, false, cond, List, [], ◌∷◌, ◌++◌, map, take, drop, length, get_or, Some, refl, sym, ap, ◌∙◌, arith, option_map, eq-eqb, ne_eqb, if◌then◌else◌}
use Rattle.std.specs.Prelude.{slice_set}
use Rattle.std.specs.List.{find, list_any}
use Rattle.std.proofs.lemmas.List.{length-map, get_or-map, map-set, map_push, set-get_or}
use Rattle.std.proofs.lemmas.List.Edits.{map_over_more}
use Rattle.model.specs.Session.{Reply, ClientRecord, record_of, answered, answered_if, with_reply}
use Rattle.model.specs.Plain.{reply_in, record_in}
use Rattle.model.specs.declared.plain.records.Reply.{Reply as PlainReply}
use Rattle.model.specs.declared.plain.records.ClientRecord.{ClientRecord as PlainRecord}
use Rattle.model.proofs.Lists.{any-map, same_read}

pub find-records : (client : ℕ) (rs : List PlainRecord) → option_map record_in (find (λ (r : PlainRecord). r.client == client) rs) ≡ record_of client (map record_in rs)
find-records client [] = refl
find-records client (x ∷ rs) = go (x.client == client) (find-records client rs)
  where
    go : (b : Bool) → option_map record_in (find (λ (r : PlainRecord). r.client == client) rs) ≡ record_of client (map record_in rs)
        → option_map record_in (cond b (Some x) (find (λ (r : PlainRecord). r.client == client) rs)) ≡ cond b (Some (record_in x)) (record_of client (map record_in rs))
    go true rest = refl
    go false rest = rest

-- one more record is gone through
pub answered_more : (client number : ℕ) (reply : Reply) (rs start : List PlainRecord) (i : ℕ) (old e : PlainRecord) → i < length start → length rs ≡ length start
    → map record_in rs ≡ map (answered_if client number reply) (take i (map record_in start)) ++ drop i (map record_in start) → old ≡ get_or rs i old
    → record_in e ≡ answered_if client number reply (record_in old)
    → map record_in (slice_set rs i e) ≡ map (answered_if client number reply) (take (i + 1) (map record_in start)) ++ drop (i + 1) (map record_in start)
answered_more client number reply rs start i old e l size before at same =
    map-set record_in rs i e ∙ ap (slice_set (map record_in rs) i) same
    ∙ map_over_more (answered_if client number reply) (map record_in start) (map record_in rs) i (record_in old)
    (let long = length-map start record_in in omega arith) before (ap record_in at ∙ sym (get_or-map record_in rs i old (record_in old) (omega arith)))

-- it is the client's
pub answered_here : (client number : ℕ) (reply : Reply) (rs start : List PlainRecord) (i : ℕ) (seen old e : PlainRecord) → i < length start → length rs ≡ length start
    → map record_in rs ≡ map (answered_if client number reply) (take i (map record_in start)) ++ drop i (map record_in start) → seen ≡ get_or rs i seen → old ≡ get_or rs i old
    → seen.client ≡ client → record_in e ≡ answered number reply (record_in old)
    → map record_in (slice_set rs i e) ≡ map (answered_if client number reply) (take (i + 1) (map record_in start)) ++ drop (i + 1) (map record_in start)
answered_here client number reply rs start i seen old e l size before saw at is new =
    let one = same_read rs i seen old (omega arith) saw at in
    let yes : (old.client == client) ≡ true = eq-eqb old.client client (ap (λ (r : PlainRecord). r.client) (sym one) ∙ is) in
    answered_more client number reply rs start i old e l size before at (new ∙ sym (ap (λ b. cond b (answered number reply (record_in old)) (record_in old)) yes))

-- it is another's
pub answered_past : (client number : ℕ) (reply : Reply) (rs start : List PlainRecord) (i : ℕ) (seen : PlainRecord) → i < length start → length rs ≡ length start
    → map record_in rs ≡ map (answered_if client number reply) (take i (map record_in start)) ++ drop i (map record_in start) → seen ≡ get_or rs i seen
    → (seen.client ≡ client → ⊥)
    → map record_in rs ≡ map (answered_if client number reply) (take (i + 1) (map record_in start)) ++ drop (i + 1) (map record_in start)
answered_past client number reply rs start i seen l size before saw apart =
    let no : (seen.client == client) ≡ false = ne_eqb seen.client client apart in
    let kept : slice_set rs i seen ≡ rs = ap (slice_set rs i) saw ∙ set-get_or rs i seen in
    ap (map record_in) (sym kept)
    ∙ answered_more client number reply rs start i seen seen l size before saw (sym (ap (λ b. cond b (answered number reply (record_in seen)) (record_in seen)) no))

pub pushed_record : (client number : ℕ) (reply : PlainReply) (rs : List PlainRecord) (e : PlainRecord) → e.client ≡ client → e.latest ≡ number → e.replies.items ≡ reply ∷ []
    → list_any (λ (r : PlainRecord). r.client == client) rs ≡ false → map record_in (rs ++ e ∷ []) ≡ with_reply client number (reply_in reply) (map record_in rs)
pushed_record client number reply rs e a b c none =
    map_push record_in rs e
    ∙ ap (λ (r : ClientRecord). map record_in rs ++ r ∷ []) (λ i. record { client = a i; latest = b i; replies = map reply_in (c i) })
    ∙ sym (ap (λ t. if t then map (answered_if client number (reply_in reply)) (map record_in rs) else map record_in rs ++ record { client = client; latest = number; replies = reply_in reply ∷ [] } ∷ [])
    (sym (any-map (λ (r : ClientRecord). r.client == client) record_in rs) ∙ none))

pub answered_records : (client number : ℕ) (reply : Reply) (rs : List PlainRecord) → list_any (λ (r : PlainRecord). r.client == client) rs ≡ true
    → map (λ r. answered_if client number reply r) (map record_in rs) ≡ with_reply client number reply (map record_in rs)
answered_records client number reply rs some =
    sym (ap (λ t. if t then map (answered_if client number reply) (map record_in rs) else map record_in rs ++ record { client = client; latest = number; replies = reply ∷ [] } ∷ [])
    (sym (any-map (λ (r : ClientRecord). r.client == client) record_in rs) ∙ some))
