use Rattle.std.proofs.Common.{rules, ◌≡◌, ◌≤◌, ℕ, List, length, drop, Option, Some, None, inr, subst}
use Rattle.request.specs.Frames.{IsIdle, fed}
use Rattle.embedding.specs.Media.{gathering_on, in_groups, seen_by}
use Rattle.embedding.specs.Sessions.{gathering_in, seen}
use Rattle.embedding.specs.Replies.{AnsweredBy, AnsweredSomeBy, Replies, RepliesButLast}
use Rattle.embedding.proofs.Replying.{replies, replies_but_last}
use Rattle.embedding.proofs.session.Session.take_in.Goals as goal

pub returns-then-is_err-2-clause-err : goal.returns-then-is_err-2-clause-err
returns-then-is_err-2-clause-err c =
    let old = c.args.self.now in let new = c.answer_on-told.new in
    let was_fed : c.feed.new.self ≡ fed old.frames c.args.bytes.now = search rules in
    let within : old.taken ≤ length old.answers.items = search rules in
    let groups : in_groups new.medium ≡ in_groups old.medium = search rules in
    let some : AnsweredSomeBy (in_groups old.medium) c.feed.new.self new.frames (seen old) (gathering_in old) (seen_by new.engine new.medium) (gathering_on new.medium) (Some old.answers.items) (Some new.answers.items) = search rules in
    inr (subst (λ (r : Option (List ℕ)). RepliesButLast (in_groups old.medium) r new.frames (seen old) (gathering_in old) (seen_by new.engine new.medium) (gathering_on new.medium) (drop old.taken old.answers.items) (drop old.taken new.answers.items)) was_fed
    (replies_but_last c.feed.new.self new.frames (seen old) (seen_by new.engine new.medium) old.answers.items new.answers.items old.taken within old.medium new.medium groups some))

pub returns-then-is_over-clause-err : goal.returns-then-is_over-clause-err
returns-then-is_over-clause-err c =
    let old = c.args.self.now in let new = c.answer_on-told.new in
    let was_fed : c.feed.new.self ≡ fed old.frames c.args.bytes.now = search rules in
    let within : old.taken ≤ length old.answers.items = search rules in
    let groups : in_groups new.medium ≡ in_groups old.medium = search rules in
    let all : AnsweredBy (in_groups old.medium) c.feed.new.self new.frames (seen old) (gathering_in old) (seen_by new.engine new.medium) (gathering_on new.medium) (Some old.answers.items) (Some new.answers.items) = search rules in
    let idle : IsIdle new.frames = search rules in
    let over : new.frames ≡ None = search rules in (
      subst (λ (r : Option (List ℕ)). Replies (in_groups old.medium) r new.frames (seen old) (gathering_in old) (seen_by new.engine new.medium) (gathering_on new.medium) (drop old.taken old.answers.items) (drop old.taken new.answers.items)) was_fed
          (replies c.feed.new.self new.frames (seen old) (seen_by new.engine new.medium) old.answers.items new.answers.items old.taken within old.medium new.medium groups all idle),
      over,
    )

pub returns-clause-ok : goal.returns-clause-ok
returns-clause-ok c =
    let old = c.args.self.now in let new = c.answer_on-told.new in
    let was_fed : c.feed.new.self ≡ fed old.frames c.args.bytes.now = search rules in
    let within : old.taken ≤ length old.answers.items = search rules in
    let groups : in_groups new.medium ≡ in_groups old.medium = search rules in
    let all : AnsweredBy (in_groups old.medium) c.feed.new.self new.frames (seen old) (gathering_in old) (seen_by new.engine new.medium) (gathering_on new.medium) (Some old.answers.items) (Some new.answers.items) = search rules in
    let idle : IsIdle new.frames = search rules in
    subst (λ (r : Option (List ℕ)). Replies (in_groups old.medium) r new.frames (seen old) (gathering_in old) (seen_by new.engine new.medium) (gathering_on new.medium) (drop old.taken old.answers.items) (drop old.taken new.answers.items)) was_fed
    (replies c.feed.new.self new.frames (seen old) (seen_by new.engine new.medium) old.answers.items new.answers.items old.taken within old.medium new.medium groups all idle)
