use Rattle.std.proofs.Common.{◌≡◌, ℕ, List, length, Bor, lit<, ap, ◌∙◌, arith}
use Rattle.std.proofs.lemmas.List.{length-map}
use Rattle.std.proofs.lemmas.Iterator.Splits.{YieldsList-from_str_split}
use Rattle.std.proofs.lemmas.Iterator.Consumers.{YieldsList-turn, YieldsList-end}
use Rattle.request.proofs.PathTexts.{parts, bad_part, bad_name}
use Rattle.request.proofs.path.Path.of_names.Goals as goal

pub returns-then-names-eq-MESSAGE_PATH_NAMES-clause-only : goal.returns-then-names-eq-MESSAGE_PATH_NAMES-clause-only
returns-then-names-eq-MESSAGE_PATH_NAMES-clause-only c = λ e good.
    let names = c.args.names.now in
    let yields = YieldsList-from_str_split 47 names (lit< tt) (cc) (cc) (cc) in
    let turn = YieldsList-turn yields c.loop-part.yielded _ c.loop-part.yielded_by _ _ c.in-Some.part c.in-Some.is c.next.ensures.steps in
    let same : length c.loop-part.path ≡ length c.loop-part.yielded = ap length c.loop-part.invariant ∙ length-map c.loop-part.yielded (λ (part : Bor (List ℕ)). part.now) in
    absurd (omega (arith, good.few, turn.0, same, ap length c.names.ensures.names, c.if-names-eq-MESSAGE_PATH_NAMES.true))

pub returns-in-Err : goal.returns-in-Err
returns-in-Err c =
    record {
      found = tt;
      only = λ e good.
          let names = c.args.names.now in
          let yields = YieldsList-from_str_split 47 names (lit< tt) (cc) (cc) (cc) in
          let turn = YieldsList-turn yields c.loop-part.yielded _ c.loop-part.yielded_by _ _ c.in-Some.part c.in-Some.is c.next.ensures.steps in
          bad_part (parts names) (length c.loop-part.yielded) c.in-Some.part.now turn.0 turn.1 (bad_name c.in-Err.fault c.in-Some.part.now c.in-Err.ensures.fault cc) good;
    }

pub returns-clause-found : goal.returns-clause-found
returns-clause-found c =
    let yields = YieldsList-from_str_split 47 c.args.names.now (lit< tt) (cc) (cc) (cc) in
    let end = YieldsList-end yields c.loop-part.yielded _ c.loop-part.yielded_by _ _ c.in-None.is c.next.ensures.steps in
    (c.names-names.ensures.path, c.loop-part.invariant ∙ end.0)
