-- What a commit leaves on the medium lies after what was there.
use Rattle.std.proofs.Common.{◌≡◌, inl, inr, false, ℕ, List, [], ◌++◌, take, sym, ◌∙◌, append-nil}
use Rattle.std.proofs.lemmas.Bool.{false≢true}
use Rattle.drive.specs.Journal.{Event, next_of, written}
use Rattle.recover.specs.declared.fault.StoreFault.{StoreFault}
use Rattle.request.specs.declared.answer.Reply.{Reply}
use Rattle.request.specs.declared.message.Request.{Request}
use Rattle.planning.specs.Plan.{plan_blocks}
use Rattle.store.specs.Putting.{IsCommitRefused, WritesPlan}
use Rattle.store.specs.declared.store.Store.{Store}

pub after_written : (before : Store) (request : Request) (capacity : ℕ) (J K : List Event) (store : Store) (reply : Reply) → WritesPlan before request capacity J K store reply → (more : List Event) × (K ≡ J ++ more)
after_written before request capacity J K store reply w = (written (next_of J) (plan_blocks w.plan), w.journal)

pub after_refused : (before : Store) (request : Request) (capacity : ℕ) (J K : List Event) (store : Store) (fault : StoreFault) → IsCommitRefused before request capacity J K store fault → (more : List Event) × (K ≡ J ++ more)
after_refused before request capacity J K store fault (inl left) = ([], left.journal ∙ sym (append-nil J))
after_refused before request capacity J K store fault (inr failed) = (written (next_of J) (take failed.front.front.0 (plan_blocks failed.front.plan)), failed.front.front.2)

-- where the store did not stop nothing was written
pub open_unwritten : (before : Store) (request : Request) (capacity : ℕ) (J K : List Event) (store : Store) (fault : StoreFault) → IsCommitRefused before request capacity J K store fault → store.is_stopped ≡ false → K ≡ J
open_unwritten before request capacity J K store fault (inl left) going = left.journal
open_unwritten before request capacity J K store fault (inr failed) going = absurd (false≢true (sym going ∙ failed.stopped))
