use Rattle.std.proofs.Common.{◌≡◌, ◌++◌, ◌∷◌, ◌∙◌, [], length, List, ℕ, Option, Some, replicate, refl, ap, sym, arith, append_assoc, length-append}
use Rattle.std.proofs.lemmas.Result.{err_from_is_err_and}
use Rattle.drive.proofs.Packing.{stops_before}
use Rattle.durability.specs.Formats.{Block}
use Rattle.durability.specs.Plan.{zeros, packed}
use Rattle.lookup.specs.Extents.{full_size}
use Rattle.table_update.specs.Outside.{outside_after}
use Rattle.planning.specs.Plan.{file_list}
use Rattle.planning.specs.declared.layout.PlacedFile.{PlacedFile}
use Rattle.planning.proofs.Plans.{length-padded}
use Rattle.planning.proofs.Puttings.{takes_both, stops_first, stops_second}
use Rattle.planning.proofs.plan.write_file.Goals as goal

-- what is put are the blocks of the file
list_is : (file : Option PlacedFile) (p : PlacedFile) (out : List ℕ) (listed : List Block) → file ≡ Some p → out ≡ outside_after (full_size p.file.kept) p.file.bytes.now → listed ≡ p.listed.items
    → ((replicate p.gap zeros ++ packed out) ++ listed) ++ p.entry ∷ [] ≡ file_list file
list_is file p out listed is out-is listed-is = (λ i. ((replicate p.gap zeros ++ packed (out-is i)) ++ listed-is i) ++ p.entry ∷ []) ∙ sym (ap file_list is)

pub lend_bytes-requires-clause-fits : goal.lend_bytes-requires-clause-fits
lend_bytes-requires-clause-fits g c =
    let p = c.in-Some.placed in
    let out = c.outside_of.result.now in
    let front = replicate p.gap zeros ++ packed out in
    let listed : List Block = p.listed.items in
    let whole = list_is c.args.file.now p out listed c.in-Some.is c.outside_of.ensures.value refl in
    omega (arith, c.requires.fits, ap length whole, length-append (front ++ listed) (p.entry ∷ []), length-append front listed, length-padded p.gap out)

pub put_all-requires-clause-fits : goal.put_all-requires-clause-fits
put_all-requires-clause-fits g c =
    let p = c.in-Some.placed in
    let out = c.outside_of.result.now in
    let front = replicate p.gap zeros ++ packed out in
    let listed : List Block = c.as_slice.result.now in
    let whole = list_is c.args.file.now p out listed c.in-Some.is c.outside_of.ensures.value c.as_slice.ensures.value in
    omega (arith, c.requires.fits, ap length whole, length-append (front ++ listed) (p.entry ∷ []), length-append front listed, c.in_ok-lend_bytes.ensures.ok.ends, c.lend_bytes.ensures.writes.capacity)

pub put-requires-clause-fits : goal.put-requires-clause-fits
put-requires-clause-fits g c =
    let p = c.in-Some.placed in
    let out = c.outside_of.result.now in
    let front = replicate p.gap zeros ++ packed out in
    let listed : List Block = c.as_slice.result.now in
    let whole = list_is c.args.file.now p out listed c.in-Some.is c.outside_of.ensures.value c.as_slice.ensures.value in
    omega (
      arith,
      c.requires.fits,
      ap length whole,
      length-append (front ++ listed) (p.entry ∷ []),
      length-append front listed,
      c.in_ok-lend_bytes.ensures.ok.ends,
      c.lend_bytes.ensures.writes.capacity,
      c.in_ok-put_all.ensures.ok.ends,
      c.put_all.ensures.writes.capacity,
    )

pub returns-in_err-lend_bytes-clause-err : goal.returns-in_err-lend_bytes-clause-err
returns-in_err-lend_bytes-clause-err g c =
    let q = err_from_is_err_and c.from_residual.result c.from_residual.ensures.1 in
    let p = c.in-Some.placed in
    let out = c.outside_of.result.now in
    let front = replicate p.gap zeros ++ packed out in
    let listed : List Block = p.listed.items in
    let whole = list_is c.args.file.now p out listed c.in-Some.is c.outside_of.ensures.value refl in
    rw q.1 (stops_first c.args.drive.now c.lend_bytes.new.drive c.args.writer.now.packets front (listed ++ p.entry ∷ []) (file_list c.args.file.now) (sym (append_assoc front listed (p.entry ∷ [])) ∙ whole) c.in_err-lend_bytes.ensures.err)

pub returns-in_err-put_all-clause-err : goal.returns-in_err-put_all-clause-err
returns-in_err-put_all-clause-err g c =
    let q = err_from_is_err_and c.from_residual-in_err-put_all.result c.from_residual-in_err-put_all.ensures.1 in
    let p = c.in-Some.placed in
    let out = c.outside_of.result.now in
    let front = replicate p.gap zeros ++ packed out in
    let listed : List Block = c.as_slice.result.now in
    let whole = list_is c.args.file.now p out listed c.in-Some.is c.outside_of.ensures.value c.as_slice.ensures.value in
    let J = c.args.drive.now in
    let w = c.args.writer.now.packets in
    let stops = stops_second J c.lend_bytes.new.drive c.put_all.new.drive w c.lend_bytes.new.self.packets front listed (front ++ listed) refl c.in_ok-lend_bytes.ensures.ok c.in_err-put_all.ensures.err in
    rw q.1 (stops_first J c.put_all.new.drive w (front ++ listed) (p.entry ∷ []) (file_list c.args.file.now) whole stops)

pub returns-in_err-put-clause-err : goal.returns-in_err-put-clause-err
returns-in_err-put-clause-err g c =
    let q = err_from_is_err_and c.from_residual-in_err-put.result c.from_residual-in_err-put.ensures.1 in
    let p = c.in-Some.placed in
    let out = c.outside_of.result.now in
    let front = replicate p.gap zeros ++ packed out in
    let listed : List Block = c.as_slice.result.now in
    let whole = list_is c.args.file.now p out listed c.in-Some.is c.outside_of.ensures.value c.as_slice.ensures.value in
    let J = c.args.drive.now in
    let w = c.args.writer.now.packets in
    let w2 = c.put_all.new.self.packets in
    let taken = takes_both J c.lend_bytes.new.drive c.put_all.new.drive w c.lend_bytes.new.self.packets w2 front listed (front ++ listed) refl c.in_ok-lend_bytes.ensures.ok c.in_ok-put_all.ensures.ok in
    rw q.1 (stops_second J c.put_all.new.drive c.put.new.drive w w2 (front ++ listed) (p.entry ∷ []) (file_list c.args.file.now) whole taken (stops_before c.in_err-put.ensures.err))

pub returns-clause-ok : goal.returns-clause-ok
returns-clause-ok g c =
    let p = c.in-Some.placed in
    let out = c.outside_of.result.now in
    let front = replicate p.gap zeros ++ packed out in
    let listed : List Block = c.as_slice.result.now in
    let whole = list_is c.args.file.now p out listed c.in-Some.is c.outside_of.ensures.value c.as_slice.ensures.value in
    let J = c.args.drive.now in
    let w = c.args.writer.now.packets in
    let w2 = c.put_all.new.self.packets in
    let taken = takes_both J c.lend_bytes.new.drive c.put_all.new.drive w c.lend_bytes.new.self.packets w2 front listed (front ++ listed) refl c.in_ok-lend_bytes.ensures.ok c.in_ok-put_all.ensures.ok in
    takes_both J c.put_all.new.drive c.put.new.drive w w2 c.put.new.self.packets (front ++ listed) (p.entry ∷ []) (file_list c.args.file.now) whole taken c.in_ok-put.ensures.ok
