use Rattle.std.proofs.Common.{◌∙◌, List, ℕ, ap}
use Rattle.std.specs.Prelude.{nat_eq}
use Rattle.std.specs.Cmp.Lexicographic.{pointwise}
use Rattle.indexmap.specs.IndexMap.{insert_entry}
use Rattle.lookup.specs.declared.content.Content.{Content}
use Rattle.planning.proofs.change.Change.put_name.Goals as goal

pub returns-clause-put : goal.returns-clause-put
returns-clause-put c = (
  c.written.result,
  c.in_ok-push.ensures.items,
  record {
    address = c.written.ensures.address;
    unique = c.written.ensures.unique;
    moment_is = c.written.ensures.moment;
    parent = ap (λ (x : Content). x.dir.parent) c.written.ensures.content ∙ c.in_ok-add.ensures.parent;
    entries_are =
        ap (λ (x : Content). x.dir.entries.entries) c.written.ensures.content
        ∙ (c.in_ok-add.ensures.entries ∙ ap (λ (n : List ℕ). insert_entry (pointwise nat_eq) c.args.content.dir.entries.entries n c.args.entry) c.in_ok-clone.ensures.cases);
  },
)
