-- Laws of a journal in order, to which blocks are added and from which they are taken back.
use Rattle.std.proofs.Common.{◌≡◌, ℕ, ◌+◌, min, List, ◌++◌, length, take, ◌∙◌, arith, length-append}
use Rattle.std.proofs.lemmas.List.{length-take}
use Rattle.drive.specs.Journal.{Event, written, next_of, InOrder}
use Rattle.drive.proofs.Journals.{length-written}
use Rattle.drive.proofs.Once.{in_order_of, in_order_write, next_once, once-take, once_of}

-- the next address is the number of events
pub next_in_order : (J : List Event) → InOrder J → next_of J ≡ length J
next_in_order J h = next_once J (once_of J h)

-- the first events are in order
pub in_order_front : (n : ℕ) (J : List Event) → InOrder J → InOrder (take n J)
in_order_front n J h = in_order_of (take n J) (once-take n 0 J (once_of J h))

-- how many there are
pub next_front : (n : ℕ) (J : List Event) → InOrder J → next_of (take n J) ≡ min (next_of J) n
next_front n J h = next_in_order (take n J) (in_order_front n J h) ∙ omega (arith, length-take n J, next_in_order J h)

-- blocks at the next address keep the order
pub in_order_more : (J : List Event) (at : ℕ) (bs : List (List ℕ)) → InOrder J → at ≡ next_of J → InOrder (J ++ written at bs)
in_order_more J at bs h e = in_order_write J at bs h (e ∙ next_in_order J h)

-- and are counted
pub next_more : (J : List Event) (at : ℕ) (bs : List (List ℕ)) → InOrder J → at ≡ next_of J → next_of (J ++ written at bs) ≡ at + length bs
next_more J at bs h e =
    next_in_order (J ++ written at bs) (in_order_more J at bs h e) ∙ length-append J (written at bs) ∙ omega (arith, length-written at bs, next_in_order J h, e)
