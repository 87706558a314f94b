-- What groups leave, one after another, and what a power loss leaves of them.
use Rattle.std.proofs.Common.{◌≡◌, ◌⊎◌, inl, inr, ℕ, List, [], ◌∷◌, ◌++◌, length, IsTrue, refl, sym, ap, subst, ◌∙◌}
use Rattle.drive.specs.Journal.{Event, written}
use Rattle.drive.specs.Gathering.{Gathering}
use Rattle.model.specs.Session.{State, after}
use Rattle.gathering.specs.Groups.{with_marks, none_there}
use Rattle.group_losses.proofs.Enduring.{group_survives}
use Rattle.request.specs.declared.answer.Answer.{Answer}
use Rattle.request.specs.declared.message.Message.{Message}
use Rattle.engine.specs.Served.{AllAnswered, EachWithstands}
use Rattle.engine.specs.Situation.{Situation}
use Rattle.engine.specs.Steps.{HoldsState}
use Rattle.engine.proofs.Served.{answered_honest, served_withstand}
use Rattle.grouping.specs.Groups.{StartsAt}
use Rattle.grouping.specs.Phases.{marks_from}
use Rattle.grouping.specs.Served.{Group, IsSettledGroup, IsLoneGroup, AreGroups, GroupHolds, GroupsWithstand}
use Rattle.grouping.proofs.Back.{taking_back}
use Rattle.grouping.proofs.Phases.{phases_are_of_commits}

-- each message in turn leaves a recovered state
withstood : (volume : ℕ) (messages : List Message) (S : State) (before : Situation) (answers : List Answer) (afterwards : Situation) (all : AllAnswered messages before answers afterwards) (T : State)
    → HoldsState volume S before → EachWithstands volume messages S before answers afterwards all T → HoldsState volume T afterwards
withstood volume [] S before [] afterwards all T at each = subst (λ (R : State). HoldsState volume R afterwards) (sym each) (subst (λ (s : Situation). HoldsState volume S s) (sym all) at)
withstood volume [] S before (a ∷ answers) afterwards all T at each = absurd all
withstood volume (m ∷ messages) S before [] afterwards all T at each = absurd all
withstood volume (m ∷ messages) S before (a ∷ answers) afterwards all T at each = withstood volume messages each.0 all.0 answers afterwards all.2 T each.1.at each.3

-- what is honest after groups was so before
starts_honest : (before start : Situation) → StartsAt before start → IsTrue start.honest → IsTrue before.honest
starts_honest before start (inl same) honest = subst (λ (s : Situation). IsTrue s.honest) same honest
starts_honest before start (inr back) honest = back.honest honest

group_honest : (before : Situation) (begun : Gathering) (g : Group) → IsSettledGroup before begun g ⊎ IsLoneGroup before begun g → IsTrue g.afterwards.honest → IsTrue before.honest
group_honest before begun g (inl settled) honest = subst (λ (s : Situation). IsTrue s.honest) settled.starts (answered_honest g.messages g.start g.answers g.afterwards settled.answered honest)
group_honest before begun g (inr lone) honest = starts_honest before g.start lone.starts (answered_honest g.messages g.start g.answers g.afterwards lone.answered honest)

pub groups_honest : (groups : List Group) (before : Situation) (begun : Gathering) (afterwards : Situation) (ended : Gathering) → AreGroups groups before begun afterwards ended → IsTrue afterwards.honest → IsTrue before.honest
groups_honest [] before begun afterwards ended same honest = subst (λ (s : Situation). IsTrue s.honest) same.0 honest
groups_honest (g ∷ groups) before begun afterwards ended all honest = group_honest before begun g all.0 (groups_honest groups g.afterwards g.gathering afterwards ended all.1 honest)

-- one group
settled_holds : (volume : ℕ) (S : State) (before : Situation) (begun : Gathering) (g : Group) (settled : IsSettledGroup before begun g) → IsTrue g.afterwards.honest → HoldsState volume S before
    → (T : State) × GroupHolds volume S before begun g (inl settled) T × HoldsState volume T g.afterwards
settled_holds volume S before begun g settled honest at =
    let from : HoldsState volume S g.start = subst (λ (s : Situation). HoldsState volume S s) (sym settled.starts) at in
    let (requests, commits, are, ends, endures) = group_survives volume g.messages S g.start g.answers g.afterwards from honest settled.answered settled.none_failed in
    let given : g.gathering.phases ≡ begun.phases ++ written (length g.start.journal) (with_marks none_there commits) ∷ marks_from (length g.start.journal) commits ∷ [] =
    settled.settled.given ∙ ap (λ (two : List (List Event)). begun.phases ++ two) (phases_are_of_commits g.messages S g.start g.answers g.afterwards settled.answered requests commits are) in
    (after S requests, (requests, commits, are, refl, endures, given), ends)

lone_holds : (volume : ℕ) (S : State) (before : Situation) (begun : Gathering) (g : Group) (lone : IsLoneGroup before begun g) → IsTrue g.afterwards.honest → HoldsState volume S before
    → (T : State) × GroupHolds volume S before begun g (inr lone) T × HoldsState volume T g.afterwards
lone_holds volume S before begun g lone honest at =
    let from : HoldsState volume S g.start = (taking_back before g.start lone.starts).1 volume S at in
    let (T, each) = served_withstand g.messages g.start g.answers g.afterwards lone.answered volume S honest from in
    (T, (from, each), withstood volume g.messages S g.start g.answers g.afterwards lone.answered T from each)

group_holds : (volume : ℕ) (S : State) (before : Situation) (begun : Gathering) (g : Group) (is : IsSettledGroup before begun g ⊎ IsLoneGroup before begun g) → IsTrue g.afterwards.honest → HoldsState volume S before
    → (T : State) × GroupHolds volume S before begun g is T × HoldsState volume T g.afterwards
group_holds volume S before begun g (inl settled) honest at = settled_holds volume S before begun g settled honest at
group_holds volume S before begun g (inr lone) honest at = lone_holds volume S before begun g lone honest at

pub groups_withstand : (groups : List Group) (before : Situation) (begun : Gathering) (afterwards : Situation) (ended : Gathering) (all : AreGroups groups before begun afterwards ended) → GroupsWithstand groups before begun afterwards ended all
groups_withstand [] before begun afterwards ended all volume S honest at = (S, refl)
groups_withstand (g ∷ groups) before begun afterwards ended all volume S honest at =
    let (T, holds, then) = group_holds volume S before begun g all.0 (groups_honest groups g.afterwards g.gathering afterwards ended all.1 honest) at in
    let (S', rest) = groups_withstand groups g.afterwards g.gathering afterwards ended all.1 volume T honest then in
    (S', (T, holds, then, rest))
