use Rattle.std.proofs.Common.{◌∙◌, ℕ, List, is_some, nat_eq, ap, sym, subst, rules}
use Rattle.std.specs.Cmp.Lexicographic.{pointwise}
use Rattle.std.specs.Map.{lookup}
use Rattle.dir.proofs.Refusals.{none_of}
use Rattle.dir.specs.declared.entry.Entry.{Entry}
use Rattle.dir.specs.Fronts.{IsIdentifierPrefix}
use Rattle.lookup.proofs.Removals.{removed_at, removed_none}
use Rattle.lookup.proofs.content.Content.remove.Goals as goal
use Rattle.lookup.proofs.content.Content.remove.Goals.{in-Some, in_default}

pub invariant_of-self : goal.invariant_of-self
invariant_of-self c =
    let self = c.args.self.now in
    let es = self.dir.entries.entries in
    let test = pointwise nat_eq c.args.name.now in
    elim c.match-get_index_of.branch [
      | in-Some w ↦
          let gone = (rw w.self-is at c.shift_remove.ensures.entries) ∙ removed_at test es w.in-Some.index (sym c.get_index_of.ensures.index ∙ w.in-Some.is) in
          rw w.self-is (record {
            few = search rules;
            front = subst (λ (left : List (List ℕ × Entry)). IsIdentifierPrefix w.remove.new.self left) (sym gone) w.remove.ensures.front;
          })
      | in_default w ↦
          let stays = (rw w.self-is at c.shift_remove.ensures.entries) ∙ removed_none test es (none_of (lookup test es) (sym (ap is_some w.in_default.is) ∙ c.get_index_of.ensures.found)) in
          rw w.self-is (record { few = search rules; front = subst (λ (left : List (List ℕ × Entry)). IsIdentifierPrefix self.identifiers left) (sym stays) self.front })
    ]
