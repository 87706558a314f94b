use Rattle.std.proofs.Common.{◌≡◌, ◌++◌, map, take, drop, length}
use Rattle.model.specs.Plain.{texts_in, entry_in, paths_moved}
use Rattle.model.proofs.plain.edits.paths_moved.Given as goal

abbrev pub invariant-loop-i : goal.invariant-loop-i
invariant-loop-i l =
    (length l.nodes.items ≡ length l.initial.nodes.items)
    × (map entry_in l.nodes.items ≡ paths_moved (texts_in l.from) (texts_in l.to) (take l.i (map entry_in l.initial.nodes.items)) ++ drop l.i (map entry_in l.initial.nodes.items))
