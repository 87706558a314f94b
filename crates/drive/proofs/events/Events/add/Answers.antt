use Rattle.std.proofs.Common.{◌<◌, ◌≡◌, ◌∙◌, ap, max, length, arith, ◌+◌}
use Rattle.std.proofs.lemmas.Bool.Decides.{nat_tests}
use Rattle.drive.proofs.Journals.{next_after_write}
use Rattle.drive.proofs.Once.{in_order_write}
use Rattle.drive.proofs.Whole.{whole-append, whole-written}
use Rattle.drive.specs.Journal.{written}
use Rattle.drive.proofs.events.Events.add.Goals as goal
use Rattle.drive.proofs.events.Events.add.Goals.{then-self, else-self}

pub invariant_of-self-then-not-is_empty : goal.invariant_of-self-then-not-is_empty
invariant_of-self-then-not-is_empty c =
    let some : 0 < length c.args.blocks.now = grind (arith, nat_tests, c.is_empty.ensures, c.if-not-is_empty.true) in
    record {
      next_is = rw (c.in_ok-push_all.ensures.ok, next_after_write c.args.self.now.list.items c.args.at c.args.blocks.now some) (c.max-self.ensures ∙ ap (λ n. max n (c.args.at + length c.args.blocks.now)) c.args.self.now.next_is);
      ordered = elim c.if-self.branch [
        | then-self w ↦ λ is.
            let here : c.args.at ≡ length c.args.self.now.list.items = grind (arith, nat_tests, is, w.self-is, c.len.ensures) in
            rw c.in_ok-push_all.ensures.ok (in_order_write c.args.self.now.list.items c.args.at c.args.blocks.now (c.args.self.now.ordered w.if-self.true) here)
        | else-self w ↦ λ is. cc (is, w.self-is, w.if-self.false)
      ];
      whole = rw c.in_ok-push_all.ensures.ok (whole-append c.args.self.now.list.items (written c.args.at c.args.blocks.now) c.args.self.now.whole (whole-written c.args.at c.args.blocks.now c.push_all.ensures.blocks));
    }
