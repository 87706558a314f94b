use Rattle.std.proofs.Common.{◌≡◌, [], length, sym, ap, subst, ◌∙◌, arith}
use Rattle.vat.specs.declared.record.Record.{Record}
use Rattle.vat.specs.Reply.{replies_in}
use Rattle.vat.specs.Rules.{places_in}
use Rattle.vat.specs.Record.{IsKept, record_bytes}
use Rattle.vat.proofs.Records.{made_record, read_record_is, read_is}
use Rattle.vat.proofs.rules.read_record.Goals as goal

pub returns-in_default-clause-none : goal.returns-in_default-clause-none
returns-in_default-clause-none c s =
    let small = c.ranges.commits in
    let is = read_is c.args.version c.args.commits c.args.text.now s (omega arith) in
    let none : replies_in (places_in c.args.version c.args.text.now) ≡ [] = ap replies_in (sym c.places_at.ensures) ∙ c.in_default.ensures.none in
    omega (arith, s.is_kept.room.some, ap length (sym none ∙ ap (λ (r : Record). r.replies) is))

pub returns-then-not-is_kept-clause-none : goal.returns-then-not-is_kept-clause-none
returns-then-not-is_kept-clause-none c s =
    let small = c.ranges.commits in
    let is : made_record c.u64_at.result c.u64_at-2.result c.in-Some.replies ≡ s.kept =
    read_record_is c.args.version c.args.text.now c.u64_at.result c.u64_at-2.result c.in-Some.replies c.places_at.result c.u64_at.ensures c.u64_at-2.ensures c.in-Some.ensures.some c.places_at.ensures
    ∙ read_is c.args.version c.args.commits c.args.text.now s (omega arith) in
    let yes = c.is_kept.ensures.1 (subst (IsKept c.args.version c.args.commits) (sym is) s.is_kept) in
    cc

pub returns-then-not-spells-clause-none : goal.returns-then-not-spells-clause-none
returns-then-not-spells-clause-none c s =
    let small = c.ranges.commits in
    let is : made_record c.u64_at.result c.u64_at-2.result c.in-Some.replies ≡ s.kept =
    read_record_is c.args.version c.args.text.now c.u64_at.result c.u64_at-2.result c.in-Some.replies c.places_at.result c.u64_at.ensures c.u64_at-2.ensures c.in-Some.ensures.some c.places_at.ensures
    ∙ read_is c.args.version c.args.commits c.args.text.now s (omega arith) in
    let yes = c.spells.ensures.1 (s.whole ∙ ap (record_bytes c.args.version) (sym is)) in
    cc
