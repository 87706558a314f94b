-- A read that fails is counted exactly where an outcome says so.
use Rattle.std.proofs.Common.{◌≡◌, ℕ, Result, Ok, Err, sym, ap, ◌∙◌}
use Rattle.std.specs.Prelude.{IsErrAnd}
use Rattle.drive.specs.Journal.{counted}
use Rattle.recover.specs.declared.fault.StoreFault.{StoreFault}
use Rattle.engine.specs.Streams.{is_read}
use Rattle.engine.specs.declared.serving.ServeFault.{ServeFault}
use Rattle.programs.specs.declared.fault.Fault.{Fault}
use Rattle.programs.specs.declared.fault.Fault.TheVariants.{Store, Stream}
use Rattle.programs.specs.Inputs.{CountsReads, is_read_refused}

-- a stream's fault that is handed on
pub counts_stream : {T : Type 0} (outcome : Result T Fault) (fault : ServeFault) (before after : ℕ) → IsErrAnd outcome (λ f. f ≡ Stream fault) → after ≡ counted (is_read fault) before → CountsReads outcome before after
counts_stream (Ok x) fault before after is h = absurd is
counts_stream {T} (Err f) fault before after is h = h ∙ ap (λ (x : Fault). counted (is_read_refused {T = T} (Err x)) before) (sym is)

-- a store's fault, before anything was read
pub counts_store : {T : Type 0} (outcome : Result T Fault) (told : Fault) (fault : StoreFault) (before : ℕ) → IsErrAnd outcome (λ f. f ≡ told) → told ≡ Store fault → CountsReads outcome before before
counts_store (Ok x) told fault before is same = absurd is
counts_store {T} (Err f) told fault before is same = ap (λ (x : Fault). counted (is_read_refused {T = T} (Err x)) before) (sym (is ∙ same))
