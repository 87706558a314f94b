use Rattle.std.proofs.Common.{◌≡◌, ℕ, ◌+◌, ◌*◌, ◌<◌, List, [], ◌∷◌, ◌++◌, length, take, drop, Option, sym, ap, subst, ◌∙◌, arith}
use Rattle.std.specs.Prelude.{IfSome}
use Rattle.std.specs.List.{flat_map, AllByRecursion}
use Rattle.std.proofs.lemmas.List.{append-nil, length-append}
use Rattle.std.proofs.lemmas.Grind.{flat_map-append}
use Rattle.vat.specs.declared.record.Record.{Record}
use Rattle.vat.specs.declared.table.Version.{Version}
use Rattle.vat.specs.Record.{record_bytes, IsKept, SpellsRecord}
use Rattle.vat.specs.Rules.{version_at, commits_at, count_at, record_size_at, record_text}
use Rattle.vat.proofs.Areas.{take_piece}
use Rattle.vat.proofs.Records.{spelled_at, some_is, kept_push}
use Rattle.vat.proofs.decode.read_records.Goals as goal

pub loop-i-init : goal.loop-i-init
loop-i-init c =
    let bytes = c.args.bytes.now in
    let nothing : record_size_at bytes * 0 ≡ 0 = omega arith in
    record {
      count = ap length c.in_ok-records.ensures.items;
      kept = subst (AllByRecursion (IsKept (version_at bytes) (commits_at bytes))) (sym c.in_ok-records.ensures.items) tt;
      whole = ap (flat_map (record_bytes (version_at bytes))) c.in_ok-records.ensures.items ∙ sym (ap (λ (n : ℕ). take n (drop 196 bytes)) nothing);
    }

pub unwrap-record-requires : goal.unwrap-record-requires
unwrap-record-requires c =
    let bytes = c.args.bytes.now in
    let there : c.loop-i.i < count_at bytes = omega (arith, c.loop-i-test.true, c.record_count-count.ensures) in
    some_is c.read_record.result (SpellsRecord c.version-version.result c.u32_at-commits.result c.record_text.result.now) c.read_record.ensures.none
    (spelled_at (version_at bytes) c.version-version.result (commits_at bytes) c.u32_at-commits.result (record_text bytes c.loop-i.i) c.record_text.result.now
    (sym c.version-version.ensures) (sym c.u32_at-commits.ensures) (sym c.record_text.ensures.value) (c.requires.kept.each c.loop-i.i there))

pub loop-i-preserved : goal.loop-i-preserved
loop-i-preserved c =
    let bytes = c.args.bytes.now in
    let r = c.unwrap-record.result in
    let i = c.loop-i.i in
    let items = c.loop-i.records.items in
    let some = subst (λ (o : Option Record). IfSome o (λ kept. IsKept c.version-version.result c.u32_at-commits.result kept × (c.record_text.result.now ≡ record_bytes c.version-version.result kept))) c.unwrap-record.ensures c.read_record.ensures.some in
    let kept : IsKept (version_at bytes) (commits_at bytes) r = subst (λ (v : Version). IsKept v (commits_at bytes) r) c.version-version.ensures (subst (λ (n : ℕ). IsKept c.version-version.result n r) c.u32_at-commits.ensures some.0) in
    let text : record_text bytes i ≡ record_bytes (version_at bytes) r = sym c.record_text.ensures.value ∙ some.1 ∙ ap (λ (v : Version). record_bytes v r) c.version-version.ensures in
    let f = record_bytes (version_at bytes) in
    let all : flat_map f (items ++ r ∷ []) ≡ take (record_size_at bytes * (i + 1)) (drop 196 bytes) =
    flat_map-append f items (r ∷ [])
    ∙ ap (λ (x : List ℕ). flat_map f items ++ x) (append-nil (f r) ∙ sym text)
    ∙ ap (λ (x : List ℕ). x ++ record_text bytes i) c.loop-i.invariant.whole
    ∙ sym (take_piece (record_size_at bytes) i 196 bytes) in
    record {
      count = omega (arith, c.loop-i.invariant.count, ap length c.in_ok-push.ensures.items, length-append items (r ∷ []));
      kept = subst (AllByRecursion (IsKept (version_at bytes) (commits_at bytes))) (sym c.in_ok-push.ensures.items) (kept_push (version_at bytes) (commits_at bytes) items r c.loop-i.invariant.kept kept);
      whole = ap (flat_map f) c.in_ok-push.ensures.items ∙ all;
    }

pub returns : goal.returns
returns c =
    let bytes = c.args.bytes.now in
    let end : c.loop-i.i ≡ count_at bytes = omega (arith, c.loop-i-test.false, c.loop-i.auto.i-end, c.record_count-count.ensures) in
    record {
      count = c.loop-i.invariant.count ∙ end;
      kept = c.loop-i.invariant.kept;
      whole = c.loop-i.invariant.whole ∙ ap (λ (n : ℕ). take (record_size_at bytes * n) (drop 196 bytes)) end;
    }
