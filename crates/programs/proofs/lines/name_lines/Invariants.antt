use Rattle.std.proofs.Common.{◌≡◌, take}
use Rattle.std.specs.Prelude.{string_bytes}
use Rattle.lookup.specs.Asked.{said_names}
use Rattle.programs.specs.Lines.{names_text}
use Rattle.programs.proofs.lines.name_lines.Given as goal

abbrev pub invariant-loop-listed : goal.invariant-loop-listed
invariant-loop-listed l = string_bytes l.text ≡ names_text (said_names (take l.listed-index l.names))
