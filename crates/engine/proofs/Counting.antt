-- How many reads of a stream failed, by why it was left.
use Rattle.std.proofs.Common.{◌≡◌, ℕ, List, Bool, false, Option, Result, Ok, Err, refl, sym, ap, ◌∙◌}
use Rattle.std.specs.Prelude.{IsErrAnd}
use Rattle.drive.specs.Journal.{counted}
use Rattle.request.specs.declared.answer.Answer.{Answer}
use Rattle.engine.specs.declared.serving.ServeFault.{ServeFault}
use Rattle.engine.specs.declared.serving.ServeFault.TheVariants as faults
use Rattle.engine.specs.Served.{LeftAt}
use Rattle.engine.specs.Streams.{is_read, is_read_fault}

-- messages that are there are left for no read
pub left_unread : (fault : ServeFault) (answers : List Answer) (reader output written : Option (List ℕ)) → LeftAt fault answers reader output written → is_read fault ≡ false
left_unread faults.Read answers reader output written h = absurd h
left_unread faults.Write answers reader output written h = refl
left_unread faults.Memory answers reader output written h = refl

-- a fault that is handed on is counted as it was
pub counted_on : {T : Type 0} (r : Result T ServeFault) (fault : ServeFault) (before between after : ℕ) → IsErrAnd r (λ e. e ≡ fault) → between ≡ before
    → after ≡ counted (is_read fault) between → after ≡ counted (is_read_fault r) before
counted_on (Ok x) fault before between after is same h = absurd is
counted_on (Err e) fault before between after is same h =
    h ∙ ap (λ (n : ℕ). counted (is_read fault) n) same ∙ ap (λ (x : ServeFault). counted (is_read x) before) (sym is)

-- and so is one after which no read failed
pub uncounted_on : {T : Type 0} (r : Result T ServeFault) (fault : ServeFault) (before after : ℕ) → IsErrAnd r (λ e. e ≡ fault) → is_read fault ≡ false → after ≡ before
    → after ≡ counted (is_read_fault r) before
uncounted_on r fault before after is unread same = counted_on r fault before before after is refl (same ∙ ap (λ (b : Bool). counted b before) (sym unread))
