use Rattle.std.proofs.Common.{ℕ, List, [], true, Err, inr, subst, arith}
use Rattle.std.specs.Prelude.{⊤}
use Rattle.drive.specs.Journal.{Event}
use Rattle.drive.specs.MemDrive.{journal_of}
use Rattle.embedding.specs.Formats.{AreWordsRefused, Makes}
use Rattle.embedding.proofs.volumes.format_memory.Goals as goal

pub returns-in-Err-clause-refused : goal.returns-in-Err-clause-refused
returns-in-Err-clause-refused c =
    let J = journal_of c.make.new.drive in let same = c.in-Ok.ensures.cases.0 in
    let Is : List ℕ → ℕ → List Event → Type 0 = λ l n K. AreWordsRefused {T = ⊤} l n (Err c.in-Err.fault) × Makes {T = ⊤} l c.args.moment n (Err c.in-Err.fault) K J true in
    let sized = subst (λ (n : ℕ). Is c.in-Ok.text.now n (journal_of c.new-drive.result)) c.new-drive.ensures.capacity (c.in-Err.ensures.words, c.in-Err.ensures.makes) in
    let blank = subst (λ (K : List Event). Is c.in-Ok.text.now c.args.capacity K) c.new-drive.ensures.journal sized in
    let here = subst (λ (l : List ℕ). Is l c.args.capacity []) same blank in
    inr (record { words = (c.in-Ok.ensures.cases.1, omega (arith, c.if-moment-ge-MOMENT_LIMIT.false)); refused = here.0; afterwards = J; makes = here.1 })
