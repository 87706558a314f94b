use Rattle.std.proofs.Common.{ap, not, ◌∙◌, string_bytes}
use Rattle.std.specs.Str.{bytes_eq}
use Rattle.model.proofs.Lists.{any-map}
use Rattle.model.proofs.plain.edits.is_other.Goals as goal

pub returns : goal.returns
returns c = ap not (c.is_among.ensures ∙ any-map (bytes_eq c.args.name.now) string_bytes c.args.names.now)
