use Rattle.std.proofs.Common.{rules, List, ℕ, sym, subst}
use Rattle.std.specs.Io.KnownBytes.{ReadConsumes}
use Rattle.request.proofs.Room.{between_cut}
use Rattle.request.proofs.frames.fill.Goals as goal

pub returns-clause-read : goal.returns-clause-read
returns-clause-read g c =
    subst (λ (x : List ℕ). ReadConsumes (g.R.Read.remaining c.args.reader.now) (g.R.Read.remaining c.read_some.new.reader) c.read_some.result x)
    (sym (between_cut c.args.bytes.now.len c.args.end c.args.most _ c.read_some.new.room _ _ (search rules) (search rules) (search rules)))
    c.read_some.ensures.read
