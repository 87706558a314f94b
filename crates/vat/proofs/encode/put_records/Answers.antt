use Rattle.std.proofs.Common.{◌≡◌, ℕ, ◌+◌, List, ◌++◌, take, sym, ap, subst, ◌∙◌, append_assoc}
use Rattle.std.specs.List.{flat_map}
use Rattle.ecma.proofs.Writing.{flat_map_more}
use Rattle.vat.specs.declared.record.Record.{Record}
use Rattle.vat.specs.Version.{record_size}
use Rattle.vat.specs.Record.{record_bytes, HasRoom}
use Rattle.vat.proofs.Records.{record_front}
use Rattle.vat.proofs.encode.put_records.Goals as goal

pub loop-kept-preserved : goal.loop-kept-preserved
loop-kept-preserved c =
    let version = c.args.version in
    let kept = c.kept-item.result in
    let i = c.loop-kept.kept-index in
    let f = record_bytes version in
    let front = flat_map f (take i c.args.records.now) in
    let text = take c.record_size.result c.record_bytes-bytes.result in
    let room : HasRoom version kept = subst (HasRoom version) (sym c.kept-item.is) (c.requires i kept c.loop-kept-test.true) in
    let is : text ≡ f kept = ap (λ (n : ℕ). take n c.record_bytes-bytes.result) c.record_size.ensures ∙ ap (take (record_size version)) c.record_bytes-bytes.ensures ∙ record_front version kept room in
    let more : flat_map f (take (i + 1) c.args.records.now) ≡ front ++ f kept = flat_map_more f c.args.records.now i kept c.loop-kept-test.true ∙ ap (λ (r : Record). front ++ f r) (sym c.kept-item.is) in
    c.in_ok-extend_from_slice.ensures.items
    ∙ ap (λ (x : List ℕ). x ++ text) c.loop-kept.invariant
    ∙ append_assoc c.args.out.now.items front text
    ∙ ap (λ (x : List ℕ). c.args.out.now.items ++ (front ++ x)) is
    ∙ ap (λ (x : List ℕ). c.args.out.now.items ++ x) (sym more)
