use Rattle.std.proofs.Common.{Some, slice_get, ◌≡◌, ◌+◌, ◌-◌, ◌*◌, ◌/◌, ◌%◌, ◌<◌, ◌≤◌, ◌∙◌, ◌++◌, List, ℕ, suc, ap, drop, refl, subst, sym, take, arith}
use Rattle.std.proofs.lemmas.Result.{IfOk-weaker}
use Rattle.limits.specs.declared.TheConstants.{FILE_BYTES, PARTITION_START}
use Rattle.drive.specs.Journal.{Event, Once, held}
use Rattle.icb.specs.Extents.{extent_size}
use Rattle.durability.specs.Volume.{AreListed, IsWithin, firsts_at}
use Rattle.udf.specs.Udf.{udf}
use Rattle.recover.specs.Blocks.{medium_bytes_at}
use Rattle.lookup.proofs.FileSizes.{extent_there, read_in_one, read_in_two}
use Rattle.lookup.proofs.Looking.{below_same, failed, looks_failed, looks_short, looks_then}
use Rattle.lookup.proofs.lookup.Lookup.extents_piece.Goals as goal

pub returns-in_err-first-clause-read : goal.returns-in_err-first-clause-read
returns-in_err-first-clause-read g c honest once listed h = failed c.from_residual.result _ _ _ c.from_residual.ensures.1 (c.in_err-first.ensures.read honest listed).1

pub returns-then-skip-count-clause-looks : goal.returns-then-skip-count-clause-looks
returns-then-skip-count-clause-looks g c = looks_then c.in_ok-first.ensures.looks c.extent_piece.ensures.looks

pub returns-then-skip-count-clause-read : goal.returns-then-skip-count-clause-read
returns-then-skip-count-clause-read g c honest once listed h =
    let J = g.D.Drive.journal c.args.self.now.drive.now in
    let at = c.args.self.now.nodes.vat_icb_address in
    let size = c.args.size in
    let index = c.args.offset / FILE_BYTES in
    let first = c.in_ok-first.first in
    let here = c.extent_size-here.result in
    let skip = c.args.offset % FILE_BYTES in
    let p = c.in_ok-first.ensures.looks in
    let q = c.extent_piece.ensures.looks in
    let firsts = firsts_at udf (take at (held J)) size c.args.descriptors.now in
    let e = (c.in_ok-first.ensures.read (q.reads.honest honest) listed).0 in
    let place : FILE_BYTES * index + skip ≡ c.args.offset = omega arith in
    let once1 = subst (λ (K : List Event). Once K) (sym p.reads.journal) once in
    let lies = extent_there at J firsts size once c.requires.whole h index first here e c.extent_size-here.ensures.size in
    let read = c.extent_piece.ensures.read honest once1 (subst (λ (M : List (List ℕ)). IsWithin M first here) (sym (below_same p)) lies) in (
      IfOk-weaker c.extent_piece.result _ _ (λ bytes is.
          read_in_one at J firsts size once c.requires.whole h index first here c.args.offset skip c.args.count bytes.items e c.extent_size-here.ensures.size place (omega (arith, c.if-skip-count.true))
          (is ∙ ap (λ (M : List (List ℕ)). take c.args.count (drop skip (medium_bytes_at M (first + PARTITION_START) here))) (below_same p))) read.0,
      read.1,
    )

pub returns-in_err-bytes-clause-looks : goal.returns-in_err-bytes-clause-looks
returns-in_err-bytes-clause-looks g c = looks_failed c.from_residual-in_err-bytes.result _ c.from_residual-in_err-bytes.ensures.1 (looks_then c.in_ok-first.ensures.looks c.in_err-bytes.ensures.looks)

pub returns-in_err-bytes-clause-read : goal.returns-in_err-bytes-clause-read
returns-in_err-bytes-clause-read g c honest once listed h =
    let J = g.D.Drive.journal c.args.self.now.drive.now in
    let at = c.args.self.now.nodes.vat_icb_address in
    let size = c.args.size in
    let first = c.in_ok-first.first in
    let here = c.extent_size-here.result in
    let p = c.in_ok-first.ensures.looks in
    let q = c.in_err-bytes.ensures.looks in
    let e = (c.in_ok-first.ensures.read (q.reads.honest honest) listed).0 in
    let once1 = subst (λ (K : List Event). Once K) (sym p.reads.journal) once in
    let lies = extent_there at J (firsts_at udf (take at (held J)) size c.args.descriptors.now) size once c.requires.whole h (c.args.offset / FILE_BYTES) first here e c.extent_size-here.ensures.size in
    let read = c.in_err-bytes.ensures.read honest once1 (subst (λ (M : List (List ℕ)). IsWithin M first here) (sym (below_same p)) lies) in
    failed c.from_residual-in_err-bytes.result _ _ _ c.from_residual-in_err-bytes.ensures.1 read.1

pub returns-in_err-next-clause-looks : goal.returns-in_err-next-clause-looks
returns-in_err-next-clause-looks g c =
    looks_failed c.from_residual-in_err-next.result _ c.from_residual-in_err-next.ensures.1 (looks_then c.in_ok-first.ensures.looks (looks_then c.in_ok-bytes.ensures.looks c.in_err-next.ensures.looks))

pub returns-in_err-more-clause-looks : goal.returns-in_err-more-clause-looks
returns-in_err-more-clause-looks g c =
    looks_failed c.from_residual-in_err-more.result _ c.from_residual-in_err-more.ensures.1
    (looks_then c.in_ok-first.ensures.looks (looks_then c.in_ok-bytes.ensures.looks (looks_then c.in_ok-next.ensures.looks c.in_err-more.ensures.looks)))

pub returns-in_err-more-clause-read : goal.returns-in_err-more-clause-read
returns-in_err-more-clause-read g c honest once listed h =
    let J = g.D.Drive.journal c.args.self.now.drive.now in
    let at = c.args.self.now.nodes.vat_icb_address in
    let d = c.args.descriptors.now in
    let size = c.args.size in
    let index = c.args.offset / FILE_BYTES in
    let next = c.in_ok-next.next in
    let there = c.extent_size-there.result in
    let two = looks_then c.in_ok-first.ensures.looks c.in_ok-bytes.ensures.looks in
    let three = looks_then two c.in_ok-next.ensures.looks in
    let listed2 = subst (λ (M : List (List ℕ)). AreListed udf M size d) (sym (below_same two)) listed in
    let one : suc index ≡ index + 1 = omega arith in
    let found = (c.in_ok-next.ensures.read (c.in_err-more.ensures.looks.reads.honest honest) listed2).0 in
    let f = ap (slice_get (firsts_at udf (take at (held J)) size d)) one ∙ subst (λ (M : List (List ℕ)). slice_get (firsts_at udf M size d) (index + 1) ≡ Some next) (below_same two) found in
    let there_is = c.extent_size-there.ensures.size ∙ ap (λ (n : ℕ). extent_size size n) (sym one) in
    let once3 = subst (λ (K : List Event). Once K) (sym three.reads.journal) once in
    let lies = extent_there at J (firsts_at udf (take at (held J)) size d) size once c.requires.whole h (suc index) next there f there_is in
    let read = c.in_err-more.ensures.read honest once3 (subst (λ (M : List (List ℕ)). IsWithin M next there) (sym (below_same three)) lies) in
    failed c.from_residual-in_err-more.result _ _ _ c.from_residual-in_err-more.ensures.1 read.1

pub returns-in_err-extend_from_slice-clause-looks : goal.returns-in_err-extend_from_slice-clause-looks
returns-in_err-extend_from_slice-clause-looks g c =
    looks_short c.from_residual-in_err-extend_from_slice.result _ c.from_residual-in_err-extend_from_slice.ensures.1 refl
    (looks_then c.in_ok-first.ensures.looks (looks_then c.in_ok-bytes.ensures.looks (looks_then c.in_ok-next.ensures.looks c.in_ok-more.ensures.looks)))

pub returns-clause-looks : goal.returns-clause-looks
returns-clause-looks g c = looks_then c.in_ok-first.ensures.looks (looks_then c.in_ok-bytes.ensures.looks (looks_then c.in_ok-next.ensures.looks c.in_ok-more.ensures.looks))

pub returns-clause-read : goal.returns-clause-read
returns-clause-read g c honest once listed h =
    let J = g.D.Drive.journal c.args.self.now.drive.now in
    let at = c.args.self.now.nodes.vat_icb_address in
    let d = c.args.descriptors.now in
    let size = c.args.size in
    let index = c.args.offset / FILE_BYTES in
    let skip = c.args.offset % FILE_BYTES in
    let first = c.in_ok-first.first in
    let here = c.extent_size-here.result in
    let here_is = c.extent_size-here.ensures.size in
    let next = c.in_ok-next.next in
    let there = c.extent_size-there.result in
    let rest = c.args.count - (here - skip) in
    let firsts = firsts_at udf (take at (held J)) size d in
    let p = c.in_ok-first.ensures.looks in
    let q = c.in_ok-bytes.ensures.looks in
    let r = c.in_ok-next.ensures.looks in
    let two = looks_then p q in
    let three = looks_then two r in
    let honest3 = c.in_ok-more.ensures.looks.reads.honest honest in
    let honest2 = r.reads.honest honest3 in
    let e = (c.in_ok-first.ensures.read (q.reads.honest honest2) listed).0 in
    let listed2 = subst (λ (M : List (List ℕ)). AreListed udf M size d) (sym (below_same two)) listed in
    let one : suc index ≡ index + 1 = omega arith in
    let found = (c.in_ok-next.ensures.read honest3 listed2).0 in
    let f = ap (slice_get firsts) one ∙ subst (λ (M : List (List ℕ)). slice_get (firsts_at udf M size d) (index + 1) ≡ Some next) (below_same two) found in
    let there_is = c.extent_size-there.ensures.size ∙ ap (λ (n : ℕ). extent_size size n) (sym one) in
    let past : FILE_BYTES * suc index < size = omega (arith, c.requires.within, c.requires.few, here_is, c.if-skip-count.false) in
    let full : here ≡ FILE_BYTES = omega (arith, here_is, past) in
    let place : FILE_BYTES * index + skip ≡ c.args.offset = omega arith in
    let ends : skip + (here - skip) ≡ here = omega (arith, full) in
    let within : rest ≤ there = omega (arith, full, there_is, c.requires.within, c.requires.few, place) in
    let sum : (here - skip) + rest ≡ c.args.count = omega (arith, full, c.if-skip-count.false) in
    let lies = extent_there at J firsts size once c.requires.whole h index first here e here_is in
    let once1 = subst (λ (K : List Event). Once K) (sym p.reads.journal) once in
    let read = c.in_ok-bytes.ensures.read honest2 once1 (subst (λ (M : List (List ℕ)). IsWithin M first here) (sym (below_same p)) lies) in
    let read_is = read.0 ∙ ap (λ (M : List (List ℕ)). take (here - skip) (drop skip (medium_bytes_at M (first + PARTITION_START) here))) (below_same p) in
    let lies_later = extent_there at J firsts size once c.requires.whole h (suc index) next there f there_is in
    let once3 = subst (λ (K : List Event). Once K) (sym three.reads.journal) once in
    let later = c.in_ok-more.ensures.read honest once3 (subst (λ (M : List (List ℕ)). IsWithin M next there) (sym (below_same three)) lies_later) in
    let later_is = later.0 ∙ ap (λ (M : List (List ℕ)). take rest (drop 0 (medium_bytes_at M (next + PARTITION_START) there))) (below_same three) in (
      c.in_ok-extend_from_slice.ensures.items ∙ (ap (λ (bytes : List ℕ). c.in_ok-bytes.bytes.items ++ bytes) c.deref.ensures.value
          ∙ read_in_two at J firsts size once c.requires.whole h index first here next there c.args.offset skip (here - skip) rest c.args.count c.in_ok-bytes.bytes.items c.in_ok-more.more.items e here_is f there_is place ends within sum read_is later_is),
      tt,
    )
