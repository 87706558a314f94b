use Rattle.std.proofs.Common.{◌∙◌, ap, inr, refl}
use Rattle.lookup.specs.declared.content.Content.{Content}
use Rattle.lookup.proofs.Looking.{failed, looks_short}
use Rattle.planning.proofs.before.StateBefore.take_name.Goals as goal

pub returns-in_err-content-clause-taken : goal.returns-in_err-content-clause-taken
returns-in_err-content-clause-taken g c k s there directory = failed c.from_residual.result _ _ _ c.from_residual.ensures.1 (c.in_err-content.ensures.opened k s there directory).1

pub returns-in_err-push-clause-taken : goal.returns-in_err-push-clause-taken
returns-in_err-push-clause-taken g c k s there directory = failed c.from_residual-in_err-push.result _ _ _ c.from_residual-in_err-push.ensures.1 (inr refl)

pub returns-in_err-push-clause-looks : goal.returns-in_err-push-clause-looks
returns-in_err-push-clause-looks g c = looks_short c.from_residual-in_err-push.result _ c.from_residual-in_err-push.ensures.1 refl c.in_ok-content.ensures.looks

pub returns-clause-taken : goal.returns-clause-taken
returns-clause-taken g c k s there directory = (
  record {
    placed = c.in_ok-content.field-0-0;
    content = c.in_ok-content.content;
    shown = (c.in_ok-content.ensures.opened k s there directory).0;
    found_is = c.remove-entry.ensures.described;
    written = (
      c.written.result,
      c.in_ok-push.ensures.items,
      record {
        address = c.written.ensures.address;
        unique = c.written.ensures.unique;
        moment_is = c.written.ensures.moment;
        parent = ap (λ (x : Content). x.dir.parent) c.written.ensures.content ∙ c.remove-entry.ensures.parent;
        entries_are = ap (λ (x : Content). x.dir.entries.entries) c.written.ensures.content ∙ c.remove-entry.ensures.entries;
      },
    );
  },
  tt,
)
