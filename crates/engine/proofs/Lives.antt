-- Runs that ended, those that a power loss cut off, and runs after other runs.
use Rattle.std.proofs.Common.{◌≡◌, inl, ℕ, List, [], ◌∷◌, ◌++◌, length, refl, sym, ap, ◌∙◌, subst, arith, append_assoc, append-nil, IsTrue}
use Rattle.std.proofs.lemmas.List.{take_all}
use Rattle.drive.specs.Journal.{Event, held, Once}
use Rattle.request.specs.declared.answer.Answer.{Answer}
use Rattle.request.specs.declared.message.Message.{Message}
use Rattle.model.specs.Session.{State, Request, after}
use Rattle.model.proofs.Runs.{after-append}
use Rattle.durability.specs.Volume.{RecoversTo}
use Rattle.durability.specs.Commit.{need}
use Rattle.durability.specs.Journal.{Advances, HoldsOnJournal}
use Rattle.udf.specs.Udf.{udf, spelled_length}
use Rattle.engine.specs.Said.{model_answers}
use Rattle.engine.specs.Situation.{Situation}
use Rattle.engine.specs.Steps.{HoldsState}
use Rattle.engine.specs.Served.{AllAnswered, ServedWithstands, brought}
use Rattle.engine.specs.Losses.{AreCut, IsRunCutShort, IsStreamCut, Life, LosesStream}
use Rattle.engine.specs.Lives.{CutsJoin, IsLifeUntil, life_of}
use Rattle.engine.proofs.Losses.{served_reach}
use Rattle.engine.proofs.Running.{at_end}
use Rattle.engine.proofs.Served.{answered_steps}
use Rattle.engine.proofs.Withstanding.{held_ended, held_stands}

module _ (capacity volume : ℕ) where
  -- nothing is lost after a run that no power loss cut off
  pub advances_none : (T T' : State) (journal : List Event) → Once journal → RecoversTo udf capacity volume (held journal) T' → Advances udf capacity volume journal T journal T'
  advances_none T T' journal once stands = record {
    front = take_all (length journal) journal (omega arith);
    once = once;
    moves = record { more = ([], sym (append-nil (held journal))); fronts = λ k low high. absurd (omega (arith, low, high)); ends = stands; past = λ commits state was. was };
  }

  -- a run that ended
  unfoldable pub run_ended : (S : State) (before afterwards : List Event) (messages : List Message) (answers : List Answer) → HoldsOnJournal udf (need spelled_length) capacity volume S before afterwards (brought messages) (model_answers answers)
      → IsRunCutShort capacity volume S before (life_of messages answers) afterwards
  run_ended S before afterwards messages answers run =
      let committed : List Request = run.holds.committed in
      let ends : RecoversTo udf capacity volume (held afterwards) (after S committed) = held_stands volume capacity (brought messages) S before afterwards (model_answers answers) run in
      record {
        during = afterwards;
        run = run;
        few = inl refl;
        advances = advances_none (after S committed) (after S (committed ++ [])) afterwards run.once (subst (λ (D : List Request). RecoversTo udf capacity volume (held afterwards) (after S D)) (sym (append-nil committed)) ends);
      }

-- the medium has room for as many blocks as before
pub answered_room : (messages : List Message) (before : Situation) (answers : List Answer) (afterwards : Situation) → AllAnswered messages before answers afterwards → afterwards.capacity ≡ before.capacity
answered_room [] before [] afterwards same = ap (λ (s : Situation). s.capacity) same
answered_room [] before (a ∷ answers) afterwards h = absurd h
answered_room (m ∷ messages) before [] afterwards h = absurd h
answered_room (m ∷ messages) before (a ∷ answers) afterwards (during, one, rest) = answered_room messages during answers afterwards rest ∙ one.answered.follows.capacity

-- one that was cut off while a message was under way
pub run_lost : (volume : ℕ) (S : State) (before : Situation) (messages : List Message) (answers : List Answer) (afterwards : Situation) (all : AllAnswered messages before answers afterwards) → IsTrue afterwards.honest → HoldsState volume S before
    → ServedWithstands messages before answers afterwards all → (lost : List Event) → LosesStream messages before answers afterwards all lost
    → (life : Life) × IsLifeUntil messages answers life × IsRunCutShort before.capacity volume S before.journal life lost
run_lost volume S before messages answers afterwards all honest at withstands lost loses =
    let each = withstands volume S honest at in
    let c : IsStreamCut before.capacity volume S before.journal messages answers lost = served_reach volume messages S before answers afterwards at all each.0 each.1 lost loses in (
      record { said = brought c.done; answers = model_answers c.given; under = c.under },
      record { done = c.done; now = c.now; later = c.later; order = c.order; given = c.given; others = c.others; answers_are = c.answers_are; under = c.under; asked = c.asked; is = refl },
      c.cut,
    )

-- after messages that were answered the state after what they committed is recovered, and an open store keeps it
pub state_after : (volume : ℕ) (S : State) (before : Situation) (messages : List Message) (answers : List Answer) (afterwards : Situation) → AllAnswered messages before answers afterwards → IsTrue afterwards.honest → HoldsState volume S before
    → (run : HoldsOnJournal udf (need spelled_length) before.capacity volume S before.journal afterwards.journal (brought messages) (model_answers answers)) → HoldsState volume (after S run.holds.committed) afterwards
state_after volume S before messages answers afterwards all honest at run =
    let steps = answered_steps volume messages S before answers afterwards all honest at in
    let there : HoldsState volume steps.0 afterwards = at_end volume (brought messages) S before (model_answers answers) steps.0 afterwards at steps.1 in
    let stood : RecoversTo udf before.capacity volume (held afterwards.journal) steps.0 =
    subst (λ (c : ℕ). RecoversTo udf c volume (held afterwards.journal) steps.0) (answered_room messages before answers afterwards all) there.stands in
    let state : steps.0 ≡ after S run.holds.committed = held_ended volume before.capacity (brought messages) S before.journal afterwards.journal (model_answers answers) steps.0 run stood in
    subst (λ (T : State). HoldsState volume T afterwards) state there

pub cuts_join : CutsJoin
cuts_join capacity volume S before between afterwards [] second done more (none, same) s =
    let at : AreCut capacity volume S between second more afterwards = subst (λ (D : List Request). AreCut capacity volume (after S D) between second more afterwards) none s in
    subst (λ (D : List Request). AreCut capacity volume S before second (D ++ more) afterwards) (sym none) (subst (λ (j : List Event). AreCut capacity volume S j second more afterwards) same at)
cuts_join capacity volume S before between afterwards (life ∷ first) second done more (next, cut, rest, order, others) s =
    let now : List Request = cut.run.holds.committed ++ life.under in
    let state : after S done ≡ after (after S now) rest = ap (λ (D : List Request). after S D) order ∙ after-append now rest S in (
      next,
      cut,
      rest ++ more,
      ap (λ (D : List Request). D ++ more) order ∙ append_assoc now rest more,
      cuts_join capacity volume (after S now) next between afterwards first second rest more others (subst (λ (T : State). AreCut capacity volume T between second more afterwards) state s),
    )
