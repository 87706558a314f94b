use Rattle.std.proofs.Common.{◌≡◌, ◌∙◌, ℕ, ◌≤◌, List, length, drop, Option, refl, sym, ap}
use Rattle.std.proofs.lemmas.Bool.{eq-eqb, ne_eqb, le-leb}
use Rattle.std.specs.List.{slice_index}
use Rattle.ecma.specs.declared.tag.TagFault.{TagFault}
use Rattle.ecma.specs.Crc.{crc_of}
use Rattle.ecma.specs.FirstFault.{first_fault}
use Rattle.ecma.specs.Numbers.{u16_at}
use Rattle.ecma.specs.Tag.{tag_sum, tag_faults}
use Rattle.ecma.proofs.Faults.{pass, tell}
use Rattle.ecma.proofs.tag.examine.Goals as goal

-- the first six rows hold
past_serial : (told : Option TagFault) (id loc : ℕ) (bytes : List ℕ) → 16 ≤ length bytes → u16_at 0 bytes ≡ id → u16_at 2 bytes ≡ 3 → slice_index bytes 4 ≡ tag_sum bytes
    → slice_index bytes 5 ≡ 0 → u16_at 6 bytes ≡ 1 → told ≡ first_fault (drop 6 (tag_faults id loc bytes)) → told ≡ first_fault (tag_faults id loc bytes)
past_serial told id loc bytes long identifier version checksum reserved serial rest =
    pass _ _ _ _ (le-leb _ _ long) (pass _ _ _ _ (eq-eqb _ _ identifier) (pass _ _ _ _ (eq-eqb _ _ version)
    (pass _ _ _ _ (eq-eqb _ _ checksum) (pass _ _ _ _ (eq-eqb _ _ reserved) (pass _ _ _ _ (eq-eqb _ _ serial) rest)))))

pub returns-then-crc_length-bytes-clause-fault : goal.returns-then-crc_length-bytes-clause-fault
returns-then-crc_length-bytes-clause-fault c =
    past_serial _ _ _ c.args.bytes.now c.if-bytes-lt-TAG_SIZE.false (sym c.u16_at.ensures ∙ c.if-u16_at-id.false) (sym c.u16_at-2.ensures ∙ c.if-u16_at-ne-VERSION.false)
    (c.if-bytes-checksum.false ∙ c.checksum.ensures) c.if-bytes-ne0.false (sym c.u16_at-3.ensures ∙ c.if-u16_at-ne-SERIAL_NUMBER.false)
    (tell _ _ _ (ne_eqb _ _ (λ e. c.if-crc_length-bytes.true (c.u16_at-crc_length.ensures ∙ e))))

pub returns-then-written-crc-clause-fault : goal.returns-then-written-crc-clause-fault
returns-then-written-crc-clause-fault c =
    past_serial _ _ _ c.args.bytes.now c.if-bytes-lt-TAG_SIZE.false (sym c.u16_at.ensures ∙ c.if-u16_at-id.false) (sym c.u16_at-2.ensures ∙ c.if-u16_at-ne-VERSION.false)
    (c.if-bytes-checksum.false ∙ c.checksum.ensures) c.if-bytes-ne0.false (sym c.u16_at-3.ensures ∙ c.if-u16_at-ne-SERIAL_NUMBER.false)
    (pass _ _ _ _ (eq-eqb _ _ (sym c.u16_at-crc_length.ensures ∙ c.if-crc_length-bytes.false))
    (tell _ _ _ (ne_eqb _ _ (λ e. c.if-written-crc.true (c.u16_at-written.ensures ∙ e ∙ sym (c.crc.ensures.value ∙ ap crc_of c.split_at.ensures.back))))))

pub returns-then-u32_at-loc-clause-fault : goal.returns-then-u32_at-loc-clause-fault
returns-then-u32_at-loc-clause-fault c =
    past_serial _ _ _ c.args.bytes.now c.if-bytes-lt-TAG_SIZE.false (sym c.u16_at.ensures ∙ c.if-u16_at-id.false) (sym c.u16_at-2.ensures ∙ c.if-u16_at-ne-VERSION.false)
    (c.if-bytes-checksum.false ∙ c.checksum.ensures) c.if-bytes-ne0.false (sym c.u16_at-3.ensures ∙ c.if-u16_at-ne-SERIAL_NUMBER.false)
    (pass _ _ _ _ (eq-eqb _ _ (sym c.u16_at-crc_length.ensures ∙ c.if-crc_length-bytes.false))
    (pass _ _ _ _ (eq-eqb _ _ (sym c.u16_at-written.ensures ∙ c.if-written-crc.false ∙ c.crc.ensures.value ∙ ap crc_of c.split_at.ensures.back))
    (tell _ _ _ (ne_eqb _ _ (λ e. c.if-u32_at-loc.true (c.u32_at.ensures ∙ e))))))

pub returns-clause-fault : goal.returns-clause-fault
returns-clause-fault c =
    past_serial _ _ _ c.args.bytes.now c.if-bytes-lt-TAG_SIZE.false (sym c.u16_at.ensures ∙ c.if-u16_at-id.false) (sym c.u16_at-2.ensures ∙ c.if-u16_at-ne-VERSION.false)
    (c.if-bytes-checksum.false ∙ c.checksum.ensures) c.if-bytes-ne0.false (sym c.u16_at-3.ensures ∙ c.if-u16_at-ne-SERIAL_NUMBER.false)
    (pass _ _ _ _ (eq-eqb _ _ (sym c.u16_at-crc_length.ensures ∙ c.if-crc_length-bytes.false))
    (pass _ _ _ _ (eq-eqb _ _ (sym c.u16_at-written.ensures ∙ c.if-written-crc.false ∙ c.crc.ensures.value ∙ ap crc_of c.split_at.ensures.back))
    (pass _ _ _ _ (eq-eqb _ _ (sym c.u32_at.ensures ∙ c.if-u32_at-loc.false)) refl)))
