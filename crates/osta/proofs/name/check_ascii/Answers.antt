use Rattle.std.proofs.Common.{◌≡◌, ◌+◌, ◌==◌, true, false, nat_le, length, refl, sym, ap, ◌∙◌, arith}
use Rattle.std.specs.List.{list_any}
use Rattle.std.proofs.lemmas.Bool.{le-leb, lt-leb}
use Rattle.osta.proofs.Ascii.{ascii_faults}
use Rattle.osta.proofs.name.check_ascii.Goals as goal

pub returns-then-has_byte : goal.returns-then-has_byte
returns-then-has_byte c =
    let text = c.args.text.now in
    let slash : list_any (λ b. b == 47) text ≡ true = ap (list_any (λ b. b == 47)) (sym c.as_bytes-bytes.ensures.value) ∙ sym c.has_byte.ensures ∙ c.if-has_byte.true in
    sym (ascii_faults text true (list_any (λ b. b == 0) text) (nat_le (length text + 1) 255) c.requires (sym c.in_ok-check_dots.ensures) slash refl refl)

pub returns-then-has_byte-2 : goal.returns-then-has_byte-2
returns-then-has_byte-2 c =
    let text = c.args.text.now in
    let slash : list_any (λ b. b == 47) text ≡ false = ap (list_any (λ b. b == 47)) (sym c.as_bytes-bytes.ensures.value) ∙ sym c.has_byte.ensures ∙ c.if-has_byte.false in
    let zero : list_any (λ b. b == 0) text ≡ true = ap (list_any (λ b. b == 0)) (sym c.as_bytes-bytes.ensures.value) ∙ sym c.has_byte-2.ensures ∙ c.if-has_byte-2.true in
    sym (ascii_faults text false true (nat_le (length text + 1) 255) c.requires (sym c.in_ok-check_dots.ensures) slash zero refl)

pub returns-then-bytes-ge-NAME_ROOM : goal.returns-then-bytes-ge-NAME_ROOM
returns-then-bytes-ge-NAME_ROOM c =
    let text = c.args.text.now in
    let slash : list_any (λ b. b == 47) text ≡ false = ap (list_any (λ b. b == 47)) (sym c.as_bytes-bytes.ensures.value) ∙ sym c.has_byte.ensures ∙ c.if-has_byte.false in
    let zero : list_any (λ b. b == 0) text ≡ false = ap (list_any (λ b. b == 0)) (sym c.as_bytes-bytes.ensures.value) ∙ sym c.has_byte-2.ensures ∙ c.if-has_byte-2.false in
    sym (ascii_faults text false false false c.requires (sym c.in_ok-check_dots.ensures) slash zero
    (lt-leb _ _ (omega (arith, c.if-bytes-ge-NAME_ROOM.true, ap length c.as_bytes-bytes.ensures.value))))

pub returns : goal.returns
returns c =
    let text = c.args.text.now in
    let slash : list_any (λ b. b == 47) text ≡ false = ap (list_any (λ b. b == 47)) (sym c.as_bytes-bytes.ensures.value) ∙ sym c.has_byte.ensures ∙ c.if-has_byte.false in
    let zero : list_any (λ b. b == 0) text ≡ false = ap (list_any (λ b. b == 0)) (sym c.as_bytes-bytes.ensures.value) ∙ sym c.has_byte-2.ensures ∙ c.if-has_byte-2.false in
    sym (ascii_faults text false false true c.requires (sym c.in_ok-check_dots.ensures) slash zero
    (le-leb _ _ (omega (arith, c.if-bytes-ge-NAME_ROOM.false, ap length c.as_bytes-bytes.ensures.value))))
