use Rattle.std.proofs.Common.{take}
use Rattle.request.proofs.FrameLaws.{skipped}
use Rattle.request.proofs.frames.Frames.skip.Goals as goal

pub returns-in-Whole-clause-taken : goal.returns-in-Whole-clause-taken
returns-in-Whole-clause-taken c =
    let held = c.self.inside in
    skipped held.failed held.taken (take held.end held.bytes.items) c.waiting.result.now c.in-Whole.payload.now c.args.self.now c.self.view_is c.waiting.ensures c.in-Whole.ensures
