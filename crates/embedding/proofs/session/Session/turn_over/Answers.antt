use Rattle.std.proofs.Common.{◌≡◌, true, inr, refl, sym, ap, subst, ◌∙◌, rules, ◌++◌}
use Rattle.drive.specs.Gathering.{Gathering}
use Rattle.drive.specs.Journal.{next_of}
use Rattle.settling.specs.Phases.{two_phases}
use Rattle.engine.specs.Situation.{IsReady, Situation}
use Rattle.embedding.specs.Media.{gathering_on, in_groups, seen_by}
use Rattle.embedding.specs.Sessions.{gathering_in, seen}
use Rattle.embedding.proofs.session.Session.turn_over.Goals as goal

pub invariant_of-self-2 : goal.invariant_of-self-2
invariant_of-self-2 c = record {
  within = c.args.self.now.within;
  ready = subst (λ (s : Situation). IsReady s) (sym (c.begin_on.ensures.seen c.settle_on.new.engine)) c.settle_on.ensures.ready;
}

pub returns-in-Some-clause-ok : goal.returns-in-Some-clause-ok
returns-in-Some-clause-ok c =
    let e = c.settle_on.ensures in let b = c.begin_on.ensures in let old = c.args.self.now in
    let same : seen_by c.settle_on.new.engine c.settle_on.new.medium ≡ seen old = search rules in
    let given : in_groups old.medium ≡ true → (gathering_on c.settle_on.new.medium).phases ≡ (gathering_in old).phases ++ two_phases c.args.group.from c.args.group.marks.items (seen old).journal = search rules in
    let begins = c.in-Some.ensures.begun in
    inr (
      λ groups. (
        record {
          situation = b.seen c.settle_on.new.engine ∙ same;
          given = ap (λ (g : Gathering). g.phases) begins.2 ∙ given groups;
        },
        ap (λ (g : Gathering). g.gathers) begins.2,
        record { from = begins.0 ∙ ap (λ (s : Situation). next_of s.journal) same; marks = begins.1 },
      ),
      record { frames = refl; output = record { waits = refl; given = refl; kind = b.kind ∙ e.kind; groups = b.groups ∙ e.groups } },
    )
