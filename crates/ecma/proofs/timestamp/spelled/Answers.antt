use Rattle.std.proofs.Common.{FitsSigned, ℤ, ◌<◌, ap, ◌∙◌, arith}
use Rattle.std.proofs.lemmas.Int.{ints, to_z-of_z}
use Rattle.std.specs.Int.{w16, to_le_bytes, cast_unsigned}
use Rattle.ecma.proofs.Timestamps.{is_timestamp, byte_is, short_month}
use Rattle.ecma.proofs.timestamp.spelled.Goals as goal

pub returns : goal.returns
returns c =
    let dt = c.args.civil in
    let year : FitsSigned w16 c.year.result = omega (arith, ints, c.year.ensures, dt.date.year_in) in
    let month : dt.date.month < 128 = omega (arith, dt.date.month_in) in
    let day : dt.date.day < 128 = omega (arith, dt.date.day_in, short_month dt.date.year dt.date.month) in
    rw (c.copy_from_slice.ensures.after, c.write_i16.ensures, c.write_u16.ensures)
    (is_timestamp dt _ _ _ _ _ _ _
    (ap (λ (z : ℤ). to_le_bytes w16 (cast_unsigned w16 z)) (to_z-of_z w16 c.year.result year ∙ c.year.ensures))
    (byte_is _ _ _ month c.month.ensures c.byte.ensures) (byte_is _ _ _ day c.day.ensures c.byte-2.ensures)
    (byte_is _ _ _ (omega arith) c.hour.ensures c.byte-3.ensures) (byte_is _ _ _ (omega arith) c.minute.ensures c.byte-4.ensures) (byte_is _ _ _ (omega arith) c.second.ensures c.byte-5.ensures)
    c.microseconds-fraction.ensures.value)
