use Rattle.std.proofs.Common.{rules, ℕ, ◌+◌, List, Option, subst, ◌∙◌}
use Rattle.request.specs.Streams.{ReadsPiece}
use Rattle.request.proofs.Room.{reads_piece, held}
use Rattle.request.proofs.frames.Frames.read_from.Goals as goal

pub returns-in-Ok-clause-ok : goal.returns-in-Ok-clause-ok
returns-in-Ok-clause-ok g c =
    let s = c.self.inside in
    let before = g.R.Read.remaining c.args.reader.now in
    let after = g.R.Read.remaining c.fill.new.reader in
    subst (λ (reader : Option (List ℕ)). ReadsPiece c.in-Ok.count before after reader (held s.failed s.taken (s.end + c.in-Ok.count) c.fill.new.bytes.items))
    (c.self.view_is ∙ c.close_up.ensures)
    (reads_piece s.failed s.taken s.end c.in-Ok.count c.args.most c.fill.new.bytes.items s.bytes.items before after
    (search rules) (search rules) c.requires (search rules) c.in-Ok.ensures.bound (c.in-Ok.ensures.held ∙ c.make_room.ensures.held) c.in-Ok.ensures.read)
