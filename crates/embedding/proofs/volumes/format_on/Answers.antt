use Rattle.std.proofs.Common.{List, ℕ, Err, inl, inr, ap, subst, arith}
use Rattle.formatting.specs.Beginning.{IsBegun, IsUnbegun}
use Rattle.formatting.specs.NewVolume.{FormatSurvivesPowerLoss, words_on}
use Rattle.drive.specs.Journal.{Event}
use Rattle.drive.specs.FileDrive.{journal_of, capacity_of, honest_of, writes_of}
use Rattle.embedding.specs.declared.fault.Fault.{Fault}
use Rattle.embedding.specs.Formats.{AreWordsRefused, Makes}
use Rattle.embedding.proofs.volumes.format_on.Goals as goal

pub returns-in-Err : goal.returns-in-Err
returns-in-Err c =
    let old = c.args.drive.now in
    inr (
      (c.in-Ok.ensures.cases.1, omega (arith, c.if-moment-ge-MOMENT_LIMIT.false)),
      inl (record {
        cause = c.in-Err.fault;
        told = ap (λ (f : Fault). Err f) c.fault_of.ensures;
        why = subst (λ (l : List ℕ). IsUnbegun (capacity_of old) l c.args.moment (journal_of old) c.require_beginning_of.new.look.part c.in-Err.fault) c.in-Ok.ensures.cases.0 c.in-Err.ensures.refused;
        journal = c.require_beginning_of.ensures.journal;
        writes = c.require_beginning_of.ensures.writes;
      }),
    )

pub returns : goal.returns
returns c =
    let old = c.args.drive.now in let seen = c.require_beginning_of.new.drive in let new = c.make.new.drive in
    let text = c.in-Ok.text.now in let same = c.in-Ok.ensures.cases.0 in let asked = c.require_beginning_of.ensures in
    let makes : List ℕ → ℕ → List Event → Type 0 = λ l n before. Makes l c.args.moment n c.make.result before (journal_of new) (honest_of new) in
    let sized = subst (λ (n : ℕ). makes text n (journal_of seen)) asked.capacity c.make.ensures.makes in
    let made = subst (λ (before : List Event). makes text (capacity_of old) before) asked.journal sized in
    let begun = subst (λ (l : List ℕ). IsBegun (capacity_of old) l c.args.moment (journal_of old) c.require_beginning_of.new.look.part) same c.in_default-require_beginning_of.ensures.begun in
    let left : List ℕ → ℕ → List Event → List (List (List ℕ)) → Type 0 = λ l n before given. FormatSurvivesPowerLoss n (words_on n l c.args.moment) before given (journal_of new) (writes_of new) (honest_of new) in
    let lost = subst (λ (n : ℕ). left text n (journal_of seen) (writes_of seen)) asked.capacity c.make.ensures.withstands in
    let here = subst (λ (before : List Event). left text (capacity_of old) before (writes_of seen)) asked.journal lost in
    let withstands = subst (λ (given : List (List (List ℕ))). left text (capacity_of old) (journal_of old) given) asked.writes here in
    let words = subst (λ (l : List ℕ). AreWordsRefused l (capacity_of old) c.make.result) same (subst (λ (n : ℕ). AreWordsRefused text n c.make.result) asked.capacity c.make.ensures.words) in
    inr ((c.in-Ok.ensures.cases.1, omega (arith, c.if-moment-ge-MOMENT_LIMIT.false)), inr (begun, words, subst (λ (l : List ℕ). makes l (capacity_of old) (journal_of old)) same made, subst (λ (l : List ℕ). left l (capacity_of old) (journal_of old) (writes_of old)) same withstands))
