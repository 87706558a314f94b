use Rattle.std.proofs.Common.{◌∙◌, ap, refl, String, string_bytes, rules}
use Rattle.std.specs.declared.alloc.Global.{Global}
use Rattle.std.proofs.lemmas.Fn.{filter_same}
use Rattle.model.specs.Operation.{is_other}
use Rattle.model.specs.Plain.{texts_in}
use Rattle.model.proofs.Lists.{map-filter}
use Rattle.model.proofs.plain.edits.keep_others.Goals as goal

pub returns : goal.returns
returns c =
    let others = λ (name : String Global). is_other (texts_in c.args.names.now) (string_bytes name) in
    ap texts_in (filter_same _ others _ (λ x b q k. search rules) c.args.list.now.items _ c.retain.ensures.filtered)
    ∙ map-filter string_bytes others (is_other (texts_in c.args.names.now)) c.args.list.now.items (λ x. refl)
