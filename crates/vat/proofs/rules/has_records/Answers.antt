use Rattle.std.proofs.Common.{◌≡◌, ℕ, List, Option, Some, None, false, IfNone, is_some, ap, sym, ◌∙◌, below_more, arith}
use Rattle.std.specs.Prelude.{not}
use Rattle.vat.specs.declared.record.Record.{Record}
use Rattle.vat.specs.declared.table.Version.{Version}
use Rattle.vat.specs.Version.{version_of}
use Rattle.vat.specs.Record.{SpellsRecord}
use Rattle.vat.specs.Rules.{version_at, commits_at, record_text}
use Rattle.vat.proofs.Records.{spelled_at, some_spells, known_version}
use Rattle.vat.proofs.rules.has_records.Goals as goal

pub loop-i-preserved : goal.loop-i-preserved
loop-i-preserved c =
    let bytes = c.args.bytes.now in
    let version : c.in-Some.version ≡ version_at bytes = known_version _ _ c.in-Some.version c.in-Some.ensures (ap version_of c.u16_at.ensures) in
    let spells = some_spells c.read_record.result c.in-Some.version c.u32_at-commits.result c.record_text.result.now c.read_record.ensures.some (c.is_none.ensures ∙ ap not c.if-is_none.false) in
    below_more (λ k. SpellsRecord (version_at bytes) (commits_at bytes) (record_text bytes k)) c.loop-i.i c.loop-i.invariant
    (spelled_at c.in-Some.version (version_at bytes) c.u32_at-commits.result (commits_at bytes) c.record_text.result.now (record_text bytes c.loop-i.i) version c.u32_at-commits.ensures c.record_text.ensures.value spells)

none_spells : (o : Option Record) (version : Version) (commits : ℕ) (text : List ℕ) → IfNone o (SpellsRecord version commits text → ⊥) → is_some o ≡ false → SpellsRecord version commits text → ⊥
none_spells None version commits text none e = none
none_spells (Some kept) version commits text none e = absurd cc

pub returns-then-is_none : goal.returns-then-is_none
returns-then-is_none c =
    let bytes = c.args.bytes.now in
    let version : c.in-Some.version ≡ version_at bytes = known_version _ _ c.in-Some.version c.in-Some.ensures (ap version_of c.u16_at.ensures) in (
      (λ yes. absurd cc),
      (λ has. absurd (none_spells c.read_record.result c.in-Some.version c.u32_at-commits.result c.record_text.result.now c.read_record.ensures.none (c.is_none.ensures ∙ ap not c.if-is_none.true)
          (spelled_at (version_at bytes) c.in-Some.version (commits_at bytes) c.u32_at-commits.result (record_text bytes c.loop-i.i) c.record_text.result.now (sym version) (sym c.u32_at-commits.ensures) (sym c.record_text.ensures.value)
          (has.each c.loop-i.i (omega (arith, c.loop-i-test.true, c.record_count-i-end.ensures)))))),
    )
