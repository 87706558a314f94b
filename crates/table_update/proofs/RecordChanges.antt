-- The clients' records with one more reply.
use Rattle.std.proofs.Common.{◌≡◌, ◌≢◌, ℕ, zero, suc, ◌+◌, ◌-◌, ◌^◌, ◌<◌, ◌≤◌, ◌==◌, cond, Bool, true, false, List, [], ◌∷◌, ◌++◌, length, take, map, set, get_or, refl, sym, ap, subst, ◌∙◌, arith, eq-eqb}
use Rattle.std.specs.Prelude.{Some, All, AllPairs}
use Rattle.std.specs.List.{list_any}
use Rattle.std.proofs.lemmas.Bool.{ne_eqb, eqb-true, true≢false}
use Rattle.std.proofs.lemmas.List.{length-take, length-map, length_push, get_or-map}
use Rattle.std.proofs.lemmas.List.Elements.{All-head, All-tail, All-map, All-push, All-weaker}
use Rattle.std.proofs.lemmas.List.Folds.{list_any_none, list_any_at}
use Rattle.std.proofs.lemmas.List.Quantifiers.{all_pairs_push}
use Rattle.limits.specs.declared.TheConstants.{PARTITION_START}
use Rattle.vat.specs.declared.record.Record.{Record}
use Rattle.vat.specs.declared.record.Reply.{Reply}
use Rattle.vat.specs.declared.table.Version.{Version}
use Rattle.vat.specs.declared.table.Version.TheVariants.{One, Two}
use Rattle.vat.specs.Version.{places}
use Rattle.vat.specs.Reply.{AreReplies}
use Rattle.vat.specs.Record.{IsKept}
use Rattle.vat.specs.Table.{Table, FitsTable}
use Rattle.table_update.specs.TableChange.{table_record_answered, table_record_answered_if, first_record, table_with_reply, IsNext}

abbrev Apart : Record → Record → Type 0
Apart a b = a.client ≢ b.client

-- what a commit keeps of the records
record Keeps (commits : ℕ) (rs : List Record) : Type 0 where
  clients : length rs ≤ 64
  records : All (IsKept Two commits) rs
  distinct : AllPairs Apart rs

-- ---- replies

replies_later : (limit later : ℕ) (replies : List Reply) → limit ≤ later → AreReplies limit replies → AreReplies later replies
replies_later limit later [] le all = tt
replies_later limit later (reply ∷ older) le all = (all.0, all.1, omega (arith, all.2), all.3)

replies_taken : (n limit : ℕ) (replies : List Reply) → AreReplies limit replies → AreReplies limit (take n replies)
replies_taken zero limit replies all = tt
replies_taken (suc n) limit [] all = tt
replies_taken (suc n) limit (reply ∷ older) all = (all.0, all.1, all.2, replies_taken n (reply.commit - 1) older all.3)

few : (version : Version) → places version ≤ 4
few One = omega arith
few Two = omega arith

kept_later : (version : Version) (commits : ℕ) (r : Record) → IsKept version commits r → IsKept Two (commits + 1) r
kept_later version commits r kept = record {
  client = kept.client;
  client_fits = kept.client_fits;
  latest = kept.latest;
  latest_fits = kept.latest_fits;
  room = record { some = kept.room.some; room = omega (arith, kept.room.room, few version) };
  numbers = kept.numbers;
  replies = replies_later commits (commits + 1) r.replies (omega arith) kept.replies;
}

module _ (client number : ℕ) (reply : Reply) where
  abbrev test : Record → Bool
  test r = r.client == client

  abbrev once : Record → Record
  once r = record { client = client; latest = number; replies = take 4 (reply ∷ r.replies) }

  as_it_was : (r : Record) → r.client ≢ client → table_record_answered_if client number reply r ≡ r
  as_it_was r apart = ap (λ (b : Bool). cond b (table_record_answered number reply r) r) (ne_eqb r.client client apart)

  is_answered : (r : Record) → r.client ≡ client → table_record_answered_if client number reply r ≡ once r
  is_answered r same =
      ap (λ (b : Bool). cond b (table_record_answered number reply r) r) (eq-eqb r.client client same)
      ∙ ap (λ (c : ℕ). record { client = c; latest = number; replies = take 4 (reply ∷ r.replies) }) same

  all_as_they_were : (rs : List Record) → All (λ r. r.client ≢ client) rs → map (table_record_answered_if client number reply) rs ≡ rs
  all_as_they_were [] others = refl
  all_as_they_were (r ∷ rs) others =
      ap (λ (x : Record). x ∷ map (table_record_answered_if client number reply) rs) (as_it_was r (All-head (λ r. r.client ≢ client) r rs others))
      ∙ ap (λ (xs : List Record). r ∷ xs) (all_as_they_were rs (All-tail (λ r. r.client ≢ client) r rs others))

  one_answered : (rs : List Record) (i : ℕ) (r : Record) → AllPairs Apart rs → i < length rs → r ≡ get_or rs i r → r.client ≡ client → set rs i (once r) ≡ map (table_record_answered_if client number reply) rs
  one_answered [] i r pairs lt is same = absurd (omega arith)
  one_answered (x ∷ rs) zero r pairs lt is same =
      let first : x.client ≡ client = ap (λ (y : Record). y.client) (sym is) ∙ same in
      let others : All (λ y. y.client ≢ client) rs = λ k d within e. pairs 0 (suc k) d (omega arith) (omega arith) (first ∙ sym e) in
      ap (λ (y : Record). y ∷ rs) (ap once is ∙ sym (is_answered x first))
      ∙ ap (λ (ys : List Record). table_record_answered_if client number reply x ∷ ys) (sym (all_as_they_were rs others))
  one_answered (x ∷ rs) (suc i) r pairs lt is same =
      let there : (get_or rs i r).client ≡ client = ap (λ (y : Record). y.client) (sym is) ∙ same in
      let apart : x.client ≢ client = λ e. pairs 0 (suc i) r (omega arith) (omega arith) (e ∙ sym there) in
      let afterwards : AllPairs Apart rs = λ j k d before within. pairs (suc j) (suc k) d (omega arith) (omega arith) in
      ap (λ (y : Record). y ∷ set rs i (once r)) (sym (as_it_was x apart))
      ∙ ap (λ (ys : List Record). table_record_answered_if client number reply x ∷ ys) (one_answered rs i r afterwards (omega arith) is same)

  known : (rs : List Record) (i : ℕ) (d : Record) → i < length rs → (get_or rs i d).client ≡ client → list_any test rs ≡ true
  known rs i d lt same = list_any_at test rs i d lt (eq-eqb (get_or rs i d).client client same)

  -- a record that is written anew
  pub reply_set : (rs : List Record) (i : ℕ) (r : Record) (replies : List Reply) → AllPairs Apart rs → i < length rs → r ≡ get_or rs i r → r.client ≡ client → replies ≡ take 4 (reply ∷ r.replies)
      → set rs i (record { client = client; latest = number; replies = replies }) ≡ table_with_reply client number reply rs
  reply_set rs i r replies pairs lt is same these =
      ap (λ (x : List Reply). set rs i (record { client = client; latest = number; replies = x })) these
      ∙ one_answered rs i r pairs lt is same
      ∙ ap (λ (b : Bool). cond b (map (table_record_answered_if client number reply) rs) (rs ++ first_record client number reply ∷ [])) (sym (known rs i r lt (ap (λ (y : Record). y.client) (sym is) ∙ same)))

  unknown : (rs : List Record) → All (λ r. r.client ≢ client) rs → list_any test rs ≡ false
  unknown rs others = list_any_none test rs (All-weaker (λ r. r.client ≢ client) (λ r. test r ≡ false) (λ r apart. ne_eqb r.client client apart) rs others)

  -- a record that is the first of its client
  pub reply_pushed : (rs : List Record) (replies : List Reply) → All (λ r. r.client ≢ client) rs → replies ≡ reply ∷ []
      → rs ++ record { client = client; latest = number; replies = replies } ∷ [] ≡ table_with_reply client number reply rs
  reply_pushed rs replies others these =
      ap (λ (x : List Reply). rs ++ record { client = client; latest = number; replies = x } ∷ []) these
      ∙ ap (λ (b : Bool). cond b (map (table_record_answered_if client number reply) rs) (rs ++ first_record client number reply ∷ [])) (sym (unknown rs others))

  same_client : (r : Record) → (table_record_answered_if client number reply r).client ≡ r.client
  same_client r = go (test r)
    where
      go : (b : Bool) → (cond b (table_record_answered number reply r) r).client ≡ r.client
      go true = refl
      go false = refl

  module _ (version : Version) (commits : ℕ) (code : reply.code ≤ 10) (commit : reply.commit ≡ commits + 1) (client_some : 0 < client) (client_fits : client < 2 ^ 64) (number_some : 0 < number) (number_fits : number < 2 ^ 64) where
    newest_first : (replies : List Reply) → AreReplies commits replies → AreReplies (commits + 1) (reply ∷ take 3 replies)
    newest_first replies all =
        (code, omega (arith, commit), omega (arith, commit), replies_later commits (reply.commit - 1) (take 3 replies) (omega (arith, commit)) (replies_taken 3 commits replies all))

    kept_once : (r : Record) → IsKept version commits r → (r.client ≡ client → number ≡ r.latest + 1) → IsKept Two (commits + 1) (table_record_answered_if client number reply r)
    kept_once r kept next = go (test r) refl
      where
        go : (b : Bool) → test r ≡ b → IsKept Two (commits + 1) (cond b (table_record_answered number reply r) r)
        go true e =
            let due = next (eqb-true r.client client e) in
            record {
              client = kept.client;
              client_fits = kept.client_fits;
              latest = number_some;
              latest_fits = number_fits;
              room = record { some = omega arith; room = omega (arith, length-take 3 r.replies) };
              numbers = omega (arith, length-take 3 r.replies, kept.numbers, due);
              replies = newest_first r.replies kept.replies;
            }
        go false e = kept_later version commits r kept

    kept_first : number ≡ 1 → IsKept Two (commits + 1) (first_record client number reply)
    kept_first is = record {
      client = client_some;
      client_fits = client_fits;
      latest = number_some;
      latest_fits = number_fits;
      room = record { some = omega arith; room = omega arith };
      numbers = omega arith;
      replies = newest_first [] tt;
    }

    kept_records : (rs : List Record) → length rs ≤ 64 → All (IsKept version commits) rs → AllPairs Apart rs → IsNext client number rs → Keeps (commits + 1) (table_with_reply client number reply rs)
    kept_records rs clients records distinct next = go (list_any test rs) refl
      where
        go : (b : Bool) → list_any test rs ≡ b → Keeps (commits + 1) (cond b (map (table_record_answered_if client number reply) rs) (rs ++ first_record client number reply ∷ []))
        go true e = record {
          clients = omega (arith, length-map rs (table_record_answered_if client number reply));
          records = All-map (IsKept Two (commits + 1)) (table_record_answered_if client number reply) rs (λ k d lt. kept_once (get_or rs k d) (records k d lt) (next.known k d lt));
          distinct = λ i j d before within same.
              let count = length-map rs (table_record_answered_if client number reply) in
              let left : (get_or (map (table_record_answered_if client number reply) rs) i d).client ≡ (get_or rs i d).client =
              ap (λ (y : Record). y.client) (get_or-map (table_record_answered_if client number reply) rs i d d (omega arith)) ∙ same_client (get_or rs i d) in
              let right : (get_or (map (table_record_answered_if client number reply) rs) j d).client ≡ (get_or rs j d).client =
              ap (λ (y : Record). y.client) (get_or-map (table_record_answered_if client number reply) rs j d d (omega arith)) ∙ same_client (get_or rs j d) in
              distinct i j d before (omega arith) (sym left ∙ same ∙ right);
        }
        go false e =
            let others : All (λ r. r.client ≢ client) rs = λ k d lt same. true≢false (sym (known rs k d lt same) ∙ e) in
            let first = next.unknown others in
            record {
              clients = omega (arith, length_push rs (first_record client number reply), first.1);
              records = All-push (IsKept Two (commits + 1)) rs (first_record client number reply) (All-weaker (IsKept version commits) (IsKept Two (commits + 1)) (kept_later version commits) rs records) (kept_first first.0);
              distinct = all_pairs_push Apart rs (first_record client number reply) distinct others;
            }

-- the next table has a spelling
pub fits_committed : (at client number code : ℕ) (t : Table) (rs : List Record) → FitsTable t → 261 ≤ at → at < 2 ^ 32 → code ≤ 10 → 0 < client → client < 2 ^ 64 → 0 < number → number < 2 ^ 64
    → t.commits + 1 < 2 ^ 32 → IsNext client number t.records → rs ≡ table_with_reply client number (record { code = code; commit = t.commits + 1 }) t.records
    → FitsTable (record { label = t.label; previous = Some (at - PARTITION_START); files = t.files; directories = t.directories; version = Two; next_unique = t.next_unique; commits = t.commits + 1; records = rs; entries = t.entries })
fits_committed at client number code t rs fits afterwards small known some client_fits first number_fits count next is =
    let kept : Keeps (t.commits + 1) rs =
    subst (Keeps (t.commits + 1)) (sym is)
    (kept_records client number (record { code = code; commit = t.commits + 1 }) t.version t.commits known refl some client_fits first number_fits t.records fits.clients fits.records fits.distinct next) in
    record {
      label = fits.label;
      first = (λ none. absurd cc, λ zero. absurd (omega arith));
      previous = omega arith;
      commits = count;
      next_unique = fits.next_unique;
      next_unique_fits = fits.next_unique_fits;
      clients = kept.clients;
      records = kept.records;
      distinct = kept.distinct;
      few = fits.few;
      many = fits.many;
      numbers = fits.numbers;
      file_set = fits.file_set;
      root = fits.root;
      used = fits.used;
    }
