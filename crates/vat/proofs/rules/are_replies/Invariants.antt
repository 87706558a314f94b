use Rattle.std.proofs.Common.{◌↔◌, drop}
use Rattle.vat.specs.Reply.{AreReplies}
use Rattle.vat.proofs.rules.are_replies.Given as goal

abbrev pub invariant-loop-reply : goal.invariant-loop-reply
invariant-loop-reply l = AreReplies l.commits l.replies ↔ AreReplies l.limit (drop l.reply-index l.replies)
