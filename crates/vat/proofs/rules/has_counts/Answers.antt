use Rattle.std.proofs.Common.{◌≡◌, ◌/◌, length, sym, ap, ◌∙◌, arith}
use Rattle.std.proofs.lemmas.Bool.{leb-true, le-leb}
use Rattle.vat.specs.Entry.{words}
use Rattle.vat.specs.Rules.{numbers_at, used_of}
use Rattle.vat.proofs.Words.{length-words}
use Rattle.vat.proofs.rules.has_counts.Goals as goal

pub returns-then-entries-gt-ADDRESSES : goal.returns-then-entries-gt-ADDRESSES
returns-then-entries-gt-ADDRESSES c =
    let same : length (numbers_at c.args.bytes.now) ≡ length c.entry_text-entries.result.now / 4 = ap (λ x. length (words x)) (sym c.entry_text-entries.ensures) ∙ length-words c.entry_text-entries.result.now in
    (λ no. absurd cc, λ counts. absurd (omega (arith, counts.many, same, c.if-entries-gt-ADDRESSES.true)))

pub returns : goal.returns
returns c =
    let same : length (numbers_at c.args.bytes.now) ≡ length c.entry_text-entries.result.now / 4 = ap (λ x. length (words x)) (sym c.entry_text-entries.ensures) ∙ length-words c.entry_text-entries.result.now in
    let used : c.used.result ≡ used_of (numbers_at c.args.bytes.now) = c.used.ensures.count ∙ ap (λ x. used_of (words x)) c.entry_text-entries.ensures in (
      λ yes. record {
        few = omega (arith, same, c.if-entries-lt2.false);
        many = omega (arith, same, c.if-entries-gt-ADDRESSES.false);
        used = omega (arith, used, c.if-used-nodes.false, c.u32_at.ensures, c.u32_at-2.ensures);
        next_unique = omega (arith, leb-true 16 c.u32_at-3.result yes, c.u32_at-3.ensures);
      },
      λ counts. le-leb 16 c.u32_at-3.result (omega (arith, counts.next_unique, c.u32_at-3.ensures)),
    )
