-- Whole payloads: what is read is spelled so, and what is spelled so is read.
use Rattle.std.proofs.Common.{◌≡◌, ℕ, ◌^◌, ◌<◌, Bool, true, false, cond, eqb, ltb, List, [], ◌∷◌, ◌++◌, length, Option, Some, None, Result, Ok, Err, refl, sym, ap, subst, ◌∙◌, append_assoc, arith}
use Rattle.std.specs.Prelude.{IfSome}
use Rattle.std.specs.Int.{w32, w64, to_le_bytes}
use Rattle.std.proofs.lemmas.Bool.{eqb-true, ltb-true, lt-ltb}
use Rattle.std.proofs.lemmas.List.{append-nil, nil_from_length}
use Rattle.limits.specs.declared.TheConstants.{MOMENT_LIMIT}
use Rattle.request.specs.declared.message.Cause.{Cause}
use Rattle.request.specs.declared.message.Cause.TheVariants as cause
use Rattle.request.specs.declared.message.Op.{Op}
use Rattle.request.specs.declared.message.Op.TheVariants as op
use Rattle.request.specs.declared.message.Query.{Query}
use Rattle.request.specs.declared.message.Query.TheVariants as query
use Rattle.request.specs.declared.payload.Change.{Change}
use Rattle.request.specs.declared.payload.Change.TheVariants as change
use Rattle.request.specs.declared.payload.Question.{Question}
use Rattle.request.specs.declared.payload.Question.TheVariants as question
use Rattle.request.specs.declared.payload.Kind.{Kind}
use Rattle.request.specs.declared.payload.Kind.TheVariants as kind
use Rattle.request.specs.Spelling.{Said, path_field, data_field, op_kind, op_fields, query_kind, query_fields, payload_of, IsOp, IsQuery, IsChange, IsMessageInRange}
use Rattle.request.specs.Spelling.Said.{Changes, Asks}
use Rattle.request.specs.Reading.{◌>>=◌, number_at, client_at, number_above_zero_at, moment_at, path_at, data_at, appended_at, count_at, op_at, ended, change_at, query_at, question_at, message_kind, kind_at, fields_at, said_at}
use Rattle.request.specs.Payload.{IsSpelled}
use Rattle.request.proofs.Fields.{IsBytes, IsBytes-rest, bind_ok, guard_passed, guard_met, above_zero, not_zero, ok_is, Takes, Takes-then, wide64, number_takes, number_again}
use Rattle.request.proofs.Paths.{path_takes, path_again, data_takes, data_again, appended_takes, appended_again, count_takes, count_again}

-- ---- numbers in a range

-- a number that a field tests
record TakesNumber (bytes : List ℕ) (x : ℕ × List ℕ) : Type 0 where
  taken : Takes bytes (to_le_bytes w64 x.0) x.1
  fits : x.0 < 2 ^ 64

taken_number : (bytes : List ℕ) (x : ℕ × List ℕ) → IsBytes bytes → number_at w64 bytes ≡ Ok x → TakesNumber bytes x
taken_number bytes x fits e = let t = number_takes w64 (2 ^ 64) wide64 bytes x.0 x.1 fits e in record { taken = t.0; fits = t.1 }

client_takes : (bytes : List ℕ) (x : ℕ × List ℕ) → IsBytes bytes → client_at bytes ≡ Ok x → TakesNumber bytes x × (0 < x.0)
unfolding client_at
client_takes bytes x fits e =
    let b = bind_ok (number_at w64 bytes) (λ n. cond (eqb n.0 0) (Err cause.ClientZero) (Ok n)) x e in
    let g = guard_passed (eqb b.0.0 0) cause.ClientZero (Ok b.0) x b.2 in
    subst (λ (y : ℕ × List ℕ). TakesNumber bytes y × (0 < y.0)) (ok_is b.0 x g.1) (taken_number bytes b.0 fits b.1, above_zero b.0.0 g.0)

client_again : (n : ℕ) (rest : List ℕ) → n < 2 ^ 64 → 0 < n → client_at (to_le_bytes w64 n ++ rest) ≡ Ok (n, rest)
unfolding client_at
client_again n rest fits above = rw (number_again w64 (2 ^ 64) wide64 n rest fits, not_zero n above) refl

number_above_zero_takes : (bytes : List ℕ) (x : ℕ × List ℕ) → IsBytes bytes → number_above_zero_at bytes ≡ Ok x → TakesNumber bytes x × (0 < x.0)
unfolding number_above_zero_at
number_above_zero_takes bytes x fits e =
    let b = bind_ok (number_at w64 bytes) (λ n. cond (eqb n.0 0) (Err cause.NumberZero) (Ok n)) x e in
    let g = guard_passed (eqb b.0.0 0) cause.NumberZero (Ok b.0) x b.2 in
    subst (λ (y : ℕ × List ℕ). TakesNumber bytes y × (0 < y.0)) (ok_is b.0 x g.1) (taken_number bytes b.0 fits b.1, above_zero b.0.0 g.0)

number_above_zero_again : (n : ℕ) (rest : List ℕ) → n < 2 ^ 64 → 0 < n → number_above_zero_at (to_le_bytes w64 n ++ rest) ≡ Ok (n, rest)
unfolding number_above_zero_at
number_above_zero_again n rest fits above = rw (number_again w64 (2 ^ 64) wide64 n rest fits, not_zero n above) refl

moment_takes : (bytes : List ℕ) (x : ℕ × List ℕ) → IsBytes bytes → moment_at bytes ≡ Ok x → TakesNumber bytes x × (x.0 < MOMENT_LIMIT)
unfolding moment_at
moment_takes bytes x fits e =
    let b = bind_ok (number_at w64 bytes) (λ n. cond (ltb n.0 MOMENT_LIMIT) (Ok n) (Err cause.Moment)) x e in
    let g = guard_met (ltb b.0.0 MOMENT_LIMIT) cause.Moment (Ok b.0) x b.2 in
    subst (λ (y : ℕ × List ℕ). TakesNumber bytes y × (y.0 < MOMENT_LIMIT)) (ok_is b.0 x g.1) (taken_number bytes b.0 fits b.1, ltb-true _ _ g.0)

moment_again : (n : ℕ) (rest : List ℕ) → n < MOMENT_LIMIT → moment_at (to_le_bytes w64 n ++ rest) ≡ Ok (n, rest)
unfolding moment_at
moment_again n rest lt = rw (number_again w64 (2 ^ 64) wide64 n rest (omega arith), lt-ltb n MOMENT_LIMIT lt) refl

-- ---- operations

change_of : Op → Change
change_of (op.Create path bytes) = change.Create
change_of (op.Replace path bytes) = change.Replace
change_of (op.Append path offset bytes) = change.Append
change_of (op.MakeDir path) = change.MakeDir
change_of (op.Rename from to) = change.Rename
change_of (op.Remove path) = change.Remove

abbrev change_number : Change → ℕ
change_number change.Create = 1
change_number change.Replace = 2
change_number change.MakeDir = 3
change_number change.Rename = 4
change_number change.Remove = 5
change_number change.Append = 6

number_of_change : (o : Op) → change_number (change_of o) ≡ op_kind o
unfolding change_of
number_of_change (op.Create path bytes) = refl
number_of_change (op.Replace path bytes) = refl
number_of_change (op.Append path offset bytes) = refl
number_of_change (op.MakeDir path) = refl
number_of_change (op.Rename from to) = refl
number_of_change (op.Remove path) = refl

record TakesOp (change : Change) (bytes : List ℕ) (x : Op × List ℕ) : Type 0 where
  taken : Takes bytes (op_fields x.0) x.1
  in_range : IsOp x.0
  kind_is : op_kind x.0 ≡ change_number change

op_takes : (change : Change) (bytes : List ℕ) (x : Op × List ℕ) → IsBytes bytes → op_at change bytes ≡ Ok x → TakesOp change bytes x
unfolding op_at
op_takes change.Create bytes x fits e =
    let a = bind_ok (path_at bytes) (λ path. data_at path.1 >>= λ contents. Ok (op.Create path.0 contents.0, contents.1)) x e in
    let b = bind_ok (data_at a.0.1) (λ contents. Ok (op.Create a.0.0 contents.0, contents.1)) x a.2 in
    let path = path_takes bytes a.0 fits a.1 in
    let contents = data_takes a.0.1 b.0 path.0.rest_fits b.1 in
    subst (TakesOp change.Create bytes) (ok_is (op.Create a.0.0 b.0.0, b.0.1) x b.2) (record { taken = Takes-then bytes (path_field a.0.0) a.0.1 (data_field b.0.0) b.0.1 path.0 contents.0; in_range = (path.1, contents.1); kind_is = refl })
op_takes change.Replace bytes x fits e =
    let a = bind_ok (path_at bytes) (λ path. data_at path.1 >>= λ contents. Ok (op.Replace path.0 contents.0, contents.1)) x e in
    let b = bind_ok (data_at a.0.1) (λ contents. Ok (op.Replace a.0.0 contents.0, contents.1)) x a.2 in
    let path = path_takes bytes a.0 fits a.1 in
    let contents = data_takes a.0.1 b.0 path.0.rest_fits b.1 in
    subst (TakesOp change.Replace bytes) (ok_is (op.Replace a.0.0 b.0.0, b.0.1) x b.2) (record { taken = Takes-then bytes (path_field a.0.0) a.0.1 (data_field b.0.0) b.0.1 path.0 contents.0; in_range = (path.1, contents.1); kind_is = refl })
op_takes change.Append bytes x fits e =
    let a = bind_ok (path_at bytes) (λ path. number_at w64 path.1 >>= λ offset. appended_at offset.1 >>= λ contents. Ok (op.Append path.0 offset.0 contents.0, contents.1)) x e in
    let b = bind_ok (number_at w64 a.0.1) (λ offset. appended_at offset.1 >>= λ contents. Ok (op.Append a.0.0 offset.0 contents.0, contents.1)) x a.2 in
    let c = bind_ok (appended_at b.0.1) (λ contents. Ok (op.Append a.0.0 b.0.0 contents.0, contents.1)) x b.2 in
    let path = path_takes bytes a.0 fits a.1 in
    let offset = number_takes w64 (2 ^ 64) wide64 a.0.1 b.0.0 b.0.1 path.0.rest_fits b.1 in
    let contents = appended_takes b.0.1 c.0 offset.0.rest_fits c.1 in
    let later = Takes-then a.0.1 (to_le_bytes w64 b.0.0) b.0.1 (data_field c.0.0) c.0.1 offset.0 contents.0 in
    let taken = Takes-then bytes (path_field a.0.0) a.0.1 (to_le_bytes w64 b.0.0 ++ data_field c.0.0) c.0.1 path.0 later in
    subst (TakesOp change.Append bytes) (ok_is (op.Append a.0.0 b.0.0 c.0.0, c.0.1) x c.2) (record { taken = taken; in_range = (path.1, offset.1, contents.1, contents.2); kind_is = refl })
op_takes change.MakeDir bytes x fits e =
    let a = bind_ok (path_at bytes) (λ path. Ok (op.MakeDir path.0, path.1)) x e in
    let path = path_takes bytes a.0 fits a.1 in
    subst (TakesOp change.MakeDir bytes) (ok_is (op.MakeDir a.0.0, a.0.1) x a.2) (record { taken = path.0; in_range = path.1; kind_is = refl })
op_takes change.Rename bytes x fits e =
    let a = bind_ok (path_at bytes) (λ from. path_at from.1 >>= λ to. Ok (op.Rename from.0 to.0, to.1)) x e in
    let b = bind_ok (path_at a.0.1) (λ to. Ok (op.Rename a.0.0 to.0, to.1)) x a.2 in
    let from = path_takes bytes a.0 fits a.1 in
    let to = path_takes a.0.1 b.0 from.0.rest_fits b.1 in
    subst (TakesOp change.Rename bytes) (ok_is (op.Rename a.0.0 b.0.0, b.0.1) x b.2) (record { taken = Takes-then bytes (path_field a.0.0) a.0.1 (path_field b.0.0) b.0.1 from.0 to.0; in_range = (from.1, to.1); kind_is = refl })
op_takes change.Remove bytes x fits e =
    let a = bind_ok (path_at bytes) (λ path. Ok (op.Remove path.0, path.1)) x e in
    let path = path_takes bytes a.0 fits a.1 in
    subst (TakesOp change.Remove bytes) (ok_is (op.Remove a.0.0, a.0.1) x a.2) (record { taken = path.0; in_range = path.1; kind_is = refl })

op_again : (o : Op) (rest : List ℕ) → IsOp o → op_at (change_of o) (op_fields o ++ rest) ≡ Ok (o, rest)
unfolding op_at change_of
op_again (op.Create path bytes) rest good =
    ap (op_at change.Create) (append_assoc (path_field path) (data_field bytes) rest) ∙ rw (path_again path (data_field bytes ++ rest) good.0, data_again bytes rest good.1) refl
op_again (op.Replace path bytes) rest good =
    ap (op_at change.Replace) (append_assoc (path_field path) (data_field bytes) rest) ∙ rw (path_again path (data_field bytes ++ rest) good.0, data_again bytes rest good.1) refl
op_again (op.Append path offset bytes) rest good =
    let parts : op_fields (op.Append path offset bytes) ++ rest ≡ path_field path ++ (to_le_bytes w64 offset ++ (data_field bytes ++ rest)) =
    append_assoc (path_field path) (to_le_bytes w64 offset ++ data_field bytes) rest ∙ ap (λ (r : List ℕ). path_field path ++ r) (append_assoc (to_le_bytes w64 offset) (data_field bytes) rest) in
    ap (op_at change.Append) parts
    ∙ rw (path_again path (to_le_bytes w64 offset ++ (data_field bytes ++ rest)) good.0, number_again w64 (2 ^ 64) wide64 offset (data_field bytes ++ rest) good.1, appended_again bytes rest good.2 good.3) refl
op_again (op.MakeDir path) rest good = rw (path_again path rest good) refl
op_again (op.Rename from to) rest good =
    ap (op_at change.Rename) (append_assoc (path_field from) (path_field to) rest) ∙ rw (path_again from (path_field to ++ rest) good.0, path_again to rest good.1) refl
op_again (op.Remove path) rest good = rw (path_again path rest good) refl

-- ---- what ends with its last field

ended_is : {A : Type 0} (x y : A) (bytes : List ℕ) → ended x bytes ≡ Ok y → (x ≡ y) × (bytes ≡ [])
ended_is x y bytes e =
    let g = guard_met (eqb (length bytes) 0) cause.Extra (Ok x) y e in
    (ok_is x y g.1, nil_from_length bytes (eqb-true _ _ g.0))

-- the payload with this kind and these fields says it
record Spelled (kind : ℕ) (bytes : List ℕ) (said : Said) : Type 0 where
  in_range : IsMessageInRange said
  spelled : kind ∷ bytes ≡ payload_of said

-- a kind and fields with nothing after them
spelled_whole : (number kind : ℕ) (bytes fields rest : List ℕ) → bytes ≡ fields ++ rest → rest ≡ [] → kind ≡ number → number ∷ bytes ≡ kind ∷ fields
spelled_whole number kind bytes fields rest parts none is =
    let whole : bytes ≡ fields = parts ∙ ap (λ (r : List ℕ). fields ++ r) none ∙ append-nil fields in
    ap (λ (r : List ℕ). number ∷ r) whole ∙ ap (λ (k : ℕ). k ∷ fields) (sym is)

change_takes : (change : Change) (bytes : List ℕ) (said : Said) → IsBytes bytes → change_at change bytes ≡ Ok said → Spelled (change_number change) bytes said
unfolding change_at
change_takes change bytes said fits e =
    let a = bind_ok (client_at bytes) (λ client. number_above_zero_at client.1 >>= λ number. moment_at number.1 >>= λ moment. op_at change moment.1 >>= λ o. ended (Changes client.0 number.0 moment.0 o.0) o.1) said e in
    let b = bind_ok (number_above_zero_at a.0.1) (λ number. moment_at number.1 >>= λ moment. op_at change moment.1 >>= λ o. ended (Changes a.0.0 number.0 moment.0 o.0) o.1) said a.2 in
    let c = bind_ok (moment_at b.0.1) (λ moment. op_at change moment.1 >>= λ o. ended (Changes a.0.0 b.0.0 moment.0 o.0) o.1) said b.2 in
    let d = bind_ok (op_at change c.0.1) (λ o. ended (Changes a.0.0 b.0.0 c.0.0 o.0) o.1) said c.2 in
    let client = client_takes bytes a.0 fits a.1 in
    let number = number_above_zero_takes a.0.1 b.0 client.0.taken.rest_fits b.1 in
    let moment = moment_takes b.0.1 c.0 number.0.taken.rest_fits c.1 in
    let o = op_takes change c.0.1 d.0 moment.0.taken.rest_fits d.1 in
    let end = ended_is (Changes a.0.0 b.0.0 c.0.0 d.0.0) said d.0.1 d.2 in
    let e3 = Takes-then b.0.1 (to_le_bytes w64 c.0.0) c.0.1 (op_fields d.0.0) d.0.1 moment.0.taken o.taken in
    let e2 = Takes-then a.0.1 (to_le_bytes w64 b.0.0) b.0.1 (to_le_bytes w64 c.0.0 ++ op_fields d.0.0) d.0.1 number.0.taken e3 in
    let e1 = Takes-then bytes (to_le_bytes w64 a.0.0) a.0.1 (to_le_bytes w64 b.0.0 ++ (to_le_bytes w64 c.0.0 ++ op_fields d.0.0)) d.0.1 client.0.taken e2 in
    let made : Spelled (change_number change) bytes (Changes a.0.0 b.0.0 c.0.0 d.0.0) = record {
      in_range = record { client_above_zero = client.1; client_fits = client.0.fits; number_above_zero = number.1; number_fits = number.0.fits; moment_in_range = moment.1; op_in_range = o.in_range };
      spelled = spelled_whole (change_number change) (op_kind d.0.0) bytes (to_le_bytes w64 a.0.0 ++ (to_le_bytes w64 b.0.0 ++ (to_le_bytes w64 c.0.0 ++ op_fields d.0.0))) d.0.1 e1.parts end.1 o.kind_is;
    } in
    subst (Spelled (change_number change) bytes) end.0 made

change_again : (client number moment : ℕ) (o : Op) → IsChange client number moment o → change_at (change_of o) (to_le_bytes w64 client ++ (to_le_bytes w64 number ++ (to_le_bytes w64 moment ++ op_fields o))) ≡ Ok (Changes client number moment o)
unfolding change_at
change_again client number moment o good =
    let op-is : op_at (change_of o) (op_fields o) ≡ Ok (o, []) = ap (op_at (change_of o)) (sym (append-nil (op_fields o))) ∙ op_again o [] good.op_in_range in
    rw (client_again client (to_le_bytes w64 number ++ (to_le_bytes w64 moment ++ op_fields o)) good.client_fits good.client_above_zero, number_above_zero_again number (to_le_bytes w64 moment ++ op_fields o) good.number_fits good.number_above_zero, moment_again moment (op_fields o) good.moment_in_range, op-is) refl

-- ---- queries

question_of : Query → Question
question_of (query.Get path) = question.Get
question_of (query.List path) = question.List
question_of (query.Stat path) = question.Stat
question_of (query.Read path offset count) = question.Read

abbrev question_number : Question → ℕ
question_number question.Get = 16
question_number question.List = 17
question_number question.Stat = 18
question_number question.Read = 19

number_of_question : (q : Query) → question_number (question_of q) ≡ query_kind q
unfolding question_of
number_of_question (query.Get path) = refl
number_of_question (query.List path) = refl
number_of_question (query.Stat path) = refl
number_of_question (query.Read path offset count) = refl

record TakesQuery (question : Question) (bytes : List ℕ) (x : Query × List ℕ) : Type 0 where
  taken : Takes bytes (query_fields x.0) x.1
  in_range : IsQuery x.0
  kind_is : query_kind x.0 ≡ question_number question

query_takes : (question : Question) (bytes : List ℕ) (x : Query × List ℕ) → IsBytes bytes → query_at question bytes ≡ Ok x → TakesQuery question bytes x
unfolding query_at
query_takes question.Get bytes x fits e =
    let a = bind_ok (path_at bytes) (λ path. Ok (query.Get path.0, path.1)) x e in
    let path = path_takes bytes a.0 fits a.1 in
    subst (TakesQuery question.Get bytes) (ok_is (query.Get a.0.0, a.0.1) x a.2) (record { taken = path.0; in_range = path.1; kind_is = refl })
query_takes question.List bytes x fits e =
    let a = bind_ok (path_at bytes) (λ path. Ok (query.List path.0, path.1)) x e in
    let path = path_takes bytes a.0 fits a.1 in
    subst (TakesQuery question.List bytes) (ok_is (query.List a.0.0, a.0.1) x a.2) (record { taken = path.0; in_range = path.1; kind_is = refl })
query_takes question.Stat bytes x fits e =
    let a = bind_ok (path_at bytes) (λ path. Ok (query.Stat path.0, path.1)) x e in
    let path = path_takes bytes a.0 fits a.1 in
    subst (TakesQuery question.Stat bytes) (ok_is (query.Stat a.0.0, a.0.1) x a.2) (record { taken = path.0; in_range = path.1; kind_is = refl })
query_takes question.Read bytes x fits e =
    let a = bind_ok (path_at bytes) (λ path. number_at w64 path.1 >>= λ offset. count_at offset.1 >>= λ count. Ok (query.Read path.0 offset.0 count.0, count.1)) x e in
    let b = bind_ok (number_at w64 a.0.1) (λ offset. count_at offset.1 >>= λ count. Ok (query.Read a.0.0 offset.0 count.0, count.1)) x a.2 in
    let c = bind_ok (count_at b.0.1) (λ count. Ok (query.Read a.0.0 b.0.0 count.0, count.1)) x b.2 in
    let path = path_takes bytes a.0 fits a.1 in
    let offset = number_takes w64 (2 ^ 64) wide64 a.0.1 b.0.0 b.0.1 path.0.rest_fits b.1 in
    let count = count_takes b.0.1 c.0 offset.0.rest_fits c.1 in
    let numbers = Takes-then a.0.1 (to_le_bytes w64 b.0.0) b.0.1 (to_le_bytes w32 c.0.0) c.0.1 offset.0 count.0 in
    let taken = Takes-then bytes (path_field a.0.0) a.0.1 (to_le_bytes w64 b.0.0 ++ to_le_bytes w32 c.0.0) c.0.1 path.0 numbers in
    subst (TakesQuery question.Read bytes) (ok_is (query.Read a.0.0 b.0.0 c.0.0, c.0.1) x c.2) (record { taken = taken; in_range = (path.1, offset.1, count.1); kind_is = refl })

query_again : (q : Query) (rest : List ℕ) → IsQuery q → query_at (question_of q) (query_fields q ++ rest) ≡ Ok (q, rest)
unfolding query_at question_of
query_again (query.Get path) rest good = rw (path_again path rest good) refl
query_again (query.List path) rest good = rw (path_again path rest good) refl
query_again (query.Stat path) rest good = rw (path_again path rest good) refl
query_again (query.Read path offset count) rest good =
    let parts : query_fields (query.Read path offset count) ++ rest ≡ path_field path ++ (to_le_bytes w64 offset ++ (to_le_bytes w32 count ++ rest)) =
    append_assoc (path_field path) (to_le_bytes w64 offset ++ to_le_bytes w32 count) rest ∙ ap (λ (r : List ℕ). path_field path ++ r) (append_assoc (to_le_bytes w64 offset) (to_le_bytes w32 count) rest) in
    ap (query_at question.Read) parts
    ∙ rw (path_again path (to_le_bytes w64 offset ++ (to_le_bytes w32 count ++ rest)) good.0, number_again w64 (2 ^ 64) wide64 offset (to_le_bytes w32 count ++ rest) good.1, count_again count rest good.2) refl

question_takes : (question : Question) (bytes : List ℕ) (said : Said) → IsBytes bytes → question_at question bytes ≡ Ok said → Spelled (question_number question) bytes said
unfolding question_at
question_takes question bytes said fits e =
    let a = bind_ok (query_at question bytes) (λ q. ended (Asks q.0) q.1) said e in
    let q = query_takes question bytes a.0 fits a.1 in
    let end = ended_is (Asks a.0.0) said a.0.1 a.2 in
    let made : Spelled (question_number question) bytes (Asks a.0.0) = record {
      in_range = q.in_range;
      spelled = spelled_whole (question_number question) (query_kind a.0.0) bytes (query_fields a.0.0) a.0.1 q.taken.parts end.1 q.kind_is;
    } in
    subst (Spelled (question_number question) bytes) end.0 made

question_again : (q : Query) → IsQuery q → question_at (question_of q) (query_fields q) ≡ Ok (Asks q)
unfolding question_at
question_again q good =
    let query-is : query_at (question_of q) (query_fields q) ≡ Ok (q, []) = ap (query_at (question_of q)) (sym (append-nil (query_fields q))) ∙ query_again q [] good in
    rw query-is refl

-- ---- kinds

abbrev kind_number : Kind → ℕ
kind_number (kind.Change change) = change_number change
kind_number (kind.Question question) = question_number question

-- one row of the table of kinds
kind_row : (byte number : ℕ) (this found : Kind) (others : Result Kind Cause) → kind_number this ≡ number → (others ≡ Ok found → byte ≡ kind_number found) → cond (eqb byte number) (Ok this) others ≡ Ok found → byte ≡ kind_number found
kind_row byte number this found others is next =
    let rows : (b : Bool) → eqb byte number ≡ b → cond b (Ok this) others ≡ Ok found → byte ≡ kind_number found = λ b. elim b as (λ v. eqb byte number ≡ v → cond v (Ok this) others ≡ Ok found → byte ≡ kind_number found) [
      | true ↦ λ t h. eqb-true _ _ t ∙ sym is ∙ ap kind_number (ok_is this found h)
      | false ↦ λ t h. next h
    ] in
    rows (eqb byte number) refl

kind_is : (byte : ℕ) (found : Kind) → message_kind byte ≡ Ok found → byte ≡ kind_number found
kind_is byte found =
    kind_row byte 1 (kind.Change change.Create) found _ refl
    (kind_row byte 2 (kind.Change change.Replace) found _ refl
    (kind_row byte 3 (kind.Change change.MakeDir) found _ refl
    (kind_row byte 4 (kind.Change change.Rename) found _ refl
    (kind_row byte 5 (kind.Change change.Remove) found _ refl
    (kind_row byte 6 (kind.Change change.Append) found _ refl
    (kind_row byte 16 (kind.Question question.Get) found _ refl
    (kind_row byte 17 (kind.Question question.List) found _ refl
    (kind_row byte 18 (kind.Question question.Stat) found _ refl
    (kind_row byte 19 (kind.Question question.Read) found _ refl
    (λ e. absurd cc))))))))))

kind_takes : (payload : List ℕ) (x : Kind × List ℕ) → kind_at payload ≡ Ok x → payload ≡ kind_number x.0 ∷ x.1
unfolding kind_at
kind_takes [] x e = absurd cc
kind_takes (byte ∷ bytes) x e =
    let a = bind_ok (message_kind byte) (λ k. Ok (k, bytes)) x e in
    subst (λ (y : Kind × List ℕ). byte ∷ bytes ≡ kind_number y.0 ∷ y.1) (ok_is (a.0, bytes) x a.2) (ap (λ (k : ℕ). k ∷ bytes) (kind_is byte a.0 a.1))

kind_again : (k : Kind) (bytes : List ℕ) → kind_at (kind_number k ∷ bytes) ≡ Ok (k, bytes)
unfolding kind_at
kind_again (kind.Change change.Create) bytes = refl
kind_again (kind.Change change.Replace) bytes = refl
kind_again (kind.Change change.MakeDir) bytes = refl
kind_again (kind.Change change.Rename) bytes = refl
kind_again (kind.Change change.Remove) bytes = refl
kind_again (kind.Change change.Append) bytes = refl
kind_again (kind.Question question.Get) bytes = refl
kind_again (kind.Question question.List) bytes = refl
kind_again (kind.Question question.Stat) bytes = refl
kind_again (kind.Question question.Read) bytes = refl

-- ---- whole payloads

fields_take : (k : Kind) (bytes : List ℕ) (said : Said) → IsBytes bytes → fields_at k bytes ≡ Ok said → Spelled (kind_number k) bytes said
unfolding fields_at
fields_take (kind.Change change) bytes said fits e = change_takes change bytes said fits e
fields_take (kind.Question question) bytes said fits e = question_takes question bytes said fits e

said_takes : (payload : List ℕ) (said : Said) → IsBytes payload → said_at payload ≡ Ok said → IsMessageInRange said × (payload ≡ payload_of said)
unfolding said_at
said_takes payload said fits e =
    let a = bind_ok (kind_at payload) (λ k. fields_at k.0 k.1) said e in
    let begins = kind_takes payload a.0 a.1 in
    let rest_fits : IsBytes a.0.1 = IsBytes-rest (kind_number a.0.0) a.0.1 (subst IsBytes begins fits) in
    let s = fields_take a.0.0 a.0.1 said rest_fits a.2 in
    (s.in_range, begins ∙ s.spelled)

pub said_again : (said : Said) → IsMessageInRange said → said_at (payload_of said) ≡ Ok said
unfolding said_at fields_at
said_again (Changes client number moment o) good =
    let fields : List ℕ = to_le_bytes w64 client ++ (to_le_bytes w64 number ++ (to_le_bytes w64 moment ++ op_fields o)) in
    let starts : kind_at (op_kind o ∷ fields) ≡ Ok (kind.Change (change_of o), fields) = ap (λ (k : ℕ). kind_at (k ∷ fields)) (sym (number_of_change o)) ∙ kind_again (kind.Change (change_of o)) fields in
    rw starts (change_again client number moment o good)
said_again (Asks q) good =
    let fields : List ℕ = query_fields q in
    let starts : kind_at (query_kind q ∷ fields) ≡ Ok (kind.Question (question_of q), fields) = ap (λ (k : ℕ). kind_at (k ∷ fields)) (sym (number_of_question q)) ∙ kind_again (kind.Question (question_of q)) fields in
    rw starts (question_again q good)

-- ---- messages

spelled_from_told : (payload : List ℕ) (told : Result Said Cause) → IsBytes payload → told ≡ said_at payload → IsSpelled payload told
spelled_from_told payload (Ok said) fits e = said_takes payload said fits (sym e)
spelled_from_told payload (Err cause) fits e = tt

pub is_spelled : (told : Option (Result Said Cause)) (payload : List ℕ) → IsBytes payload → IfSome told (λ t. t ≡ said_at payload) → IfSome told (IsSpelled payload)
is_spelled None payload fits e = tt
is_spelled (Some told) payload fits e = spelled_from_told payload told fits e

pub tells_said : (told : Option (Result Said Cause)) (payload : List ℕ) (said : Said) → IsMessageInRange said → payload ≡ payload_of said → IfSome told (λ t. t ≡ said_at payload) → IfSome told (λ t. t ≡ Ok said)
tells_said None payload said good e told-is = tt
tells_said (Some told) payload said good e told-is = told-is ∙ ap said_at e ∙ said_again said good
