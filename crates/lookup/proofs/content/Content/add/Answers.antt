use Rattle.std.proofs.Common.{◌≡◌, ◌∙◌, ◌++◌, [], ◌∷◌, List, ℕ, nat_eq, sym, subst}
use Rattle.std.specs.Cmp.Lexicographic.{pointwise}
use Rattle.dir.proofs.Refusals.{none_of}
use Rattle.indexmap.proofs.CallerLemmas.{insert_entry-new}
use Rattle.dir.specs.declared.entry.Entry.{Entry}
use Rattle.dir.specs.Fronts.{IsIdentifierPrefix}
use Rattle.dir.proofs.Fronts.{front_longer}
use Rattle.lookup.proofs.content.Content.add.Goals as goal
use Rattle.lookup.proofs.content.Content.add.Goals.{then-is_some, else-is_some}

pub returns-clause-added : goal.returns-clause-added
returns-clause-added c none = c.in_ok-insert.ensures.entries ∙ insert_entry-new (pointwise nat_eq) c.args.self.now.dir.entries c.args.name c.args.entry none

pub fill-requires : goal.fill-requires
fill-requires c = elim c.if-is_some.branch [
  | then-is_some w ↦ rw w.self-is (record { front = w.clear.ensures c.insert.new.self.entries })
  | else-is_some w ↦
      let self = c.args.self.now in
      let none = sym c.in_ok-insert.ensures.old ∙ none_of c.in_ok-insert.field-0 w.if-is_some.ensures in
      let longer : c.insert.new.self.entries ≡ self.dir.entries.entries ++ (c.args.name, c.args.entry) ∷ [] =
      c.in_ok-insert.ensures.entries ∙ insert_entry-new (pointwise nat_eq) self.dir.entries c.args.name c.args.entry none in
      rw w.self-is (record { front = subst (λ (es : List (List ℕ × Entry)). IsIdentifierPrefix self.identifiers es) (sym longer) (front_longer self.dir.entries.entries ((c.args.name, c.args.entry) ∷ []) self.identifiers self.front) })
]
