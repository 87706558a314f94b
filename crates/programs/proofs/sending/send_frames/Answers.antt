use Rattle.std.proofs.Common.{inl, refl}
use Rattle.engine.proofs.Messages.{if_err}
use Rattle.programs.proofs.sending.send_frames.Goals as goal

pub returns-in_err-count-clause-until : goal.returns-in_err-count-clause-until
returns-in_err-count-clause-until g c = if_err c.from_residual.result _ _ _ c.from_residual.ensures.1 refl (inl c.in_err-count.ensures.err)
