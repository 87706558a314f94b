-- Up to four replies in four places.
use Rattle.std.specs.Prelude.{◌≡◌, ℕ, ◌<◌, ◌≤◌, List, length, take}
use Rattle.std.proofs.Common.{sym, ap, ◌∙◌, arith, length-take}
use Rattle.limits.specs.declared.TheConstants.{KEPT_REPLIES}
use Rattle.vat.specs.declared.record.Reply.{Reply}
use Rattle.vat.specs.declared.record.Replies.TheInside.{Inside}
use Rattle.vat.specs.Reply.{filled}

abbrev pub replies_inside : Inside → List Reply
replies_inside r = take r.count r.kept

-- one to four, and nothing after them
pub record IsReplyArray (r : Inside) : Type 0 where
  pub some : 0 < r.count
  pub bound : r.count ≤ KEPT_REPLIES
  pub whole : r.kept ≡ filled KEPT_REPLIES (take r.count r.kept)
  pub places : length r.kept ≡ KEPT_REPLIES

abbrev pub filled_again : List Reply → Inside
filled_again replies = record { kept = filled KEPT_REPLIES replies; count = length replies }

pub inverse_again : (r : Inside) → IsReplyArray r → filled_again (replies_inside r) ≡ r
inverse_again r h =
    let count : length (take r.count r.kept) ≡ r.count = omega (arith, length-take r.count r.kept, h.bound, h.places) in
    ap (λ (kept : List Reply). same kept (length (replies_inside r))) (sym h.whole) ∙ ap (same r.kept) count
  where
    same : List Reply → ℕ → Inside
    same kept count = record { kept = kept; count = count }
