use Rattle.std.proofs.Common.{◌∙◌, ◌<◌, ap, refl, length, rules}
use Rattle.std.proofs.lemmas.List.{length-set}
use Rattle.model.specs.Operation.{moved}
use Rattle.model.specs.Plain.{texts_in, path_in}
use Rattle.model.specs.declared.plain.nodes.Entry.{Entry}
use Rattle.model.proofs.Lists.{same_read}
use Rattle.model.proofs.PlainEdits.{moved_more}
use Rattle.model.proofs.plain.edits.paths_moved.Goals as goal

pub loop-i-preserved : goal.loop-i-preserved
loop-i-preserved c =
    let from = texts_in c.args.from.now in
    let to = texts_in c.args.to.now in
    let within : c.loop-i.i < length c.args.nodes.items = search rules in
    let inside : c.loop-i.i < length c.loop-i.nodes.items = search rules in
    let one = same_read c.loop-i.nodes.items c.loop-i.i c.index.result.now c.index_mut.result.now inside c.index.ensures c.index_mut.ensures.value in (
      length-set c.loop-i.nodes.items c.loop-i.i _ ∙ c.loop-i.invariant.0,
      moved_more from to c.loop-i.nodes.items c.args.nodes.items c.loop-i.i c.index_mut.result.now _ within c.loop-i.invariant.0 c.loop-i.invariant.1 c.index_mut.ensures.value
          (c.in_ok-path.ensures ∙ ap (λ p. moved from to (texts_in p)) c.deref.ensures.value ∙ ap (λ (e : Entry). moved from to (path_in e)) one) refl,
    )
