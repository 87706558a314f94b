-- The state of the plain program, at its start and after one request.
use Rattle.std.proofs.Common.{◌≡◌, ℕ, ◌+◌, max, ◌==◌, ◌&&◌, if◌then◌else◌, Bool, true, false, [], ◌∷◌, map, length, sym, ap, ◌∙◌, subst}
use Rattle.std.specs.FinMap.{len}
use Rattle.std.specs.List.{IsDistinct}
use Rattle.model.specs.Tree.{Tree}
use Rattle.model.specs.Operation.{Operation, code_of, done, tree_after}
use Rattle.model.specs.Session.{Reply, draws_identity, with_reply, reply_to, after_one, formatted}
use Rattle.model.specs.Laws.{IsSound}
use Rattle.model.specs.Plain.{record_in, tree_in, AreApart}
use Rattle.model.specs.PlainState.{state_in, request_in, IsWholeState}
use Rattle.model.specs.declared.plain.nodes.Entry.{Entry}
use Rattle.model.specs.declared.plain.state.Request.{Request as PlainRequest}
use Rattle.model.specs.declared.plain.state.State.{State as PlainState}
use Rattle.model.proofs.Runs.{sound_one, undrawn}
use Rattle.model.proofs.Fresh.{sound_fresh}
use Rattle.model.proofs.PlainLists.{apart_len}

one_apart : (e : Entry) → AreApart (e ∷ [])
unfolding IsDistinct
one_apart e = (tt, tt)

pub fresh_whole : (s : PlainState) (e : Entry) (moment : ℕ) → s.nodes.items ≡ e ∷ [] → state_in s ≡ formatted moment → IsWholeState s
fresh_whole s e moment nodes is = record { apart = subst AreApart (sym nodes) (one_apart e); sound = subst IsSound (sym is) (sound_fresh moment) }

-- what a refused operation leaves
pub refused_tree : (op : Operation) (moment next : ℕ) (tree : Tree) → (code_of op tree == 0) ≡ false → tree ≡ tree_after op moment next tree
refused_tree op moment next tree e = sym (ap (λ b. if b then done op moment next tree else tree) e)

pub refused_next : (op : Operation) (next : ℕ) (tree : Tree) → (code_of op tree == 0) ≡ false → next ≡ (if draws_identity op && (code_of op tree == 0) then next + 1 else next)
refused_next op next tree e = undrawn (draws_identity op) next ∙ sym (ap (λ b. if draws_identity op && b then next + 1 else next) e)

pub done_tree : (op : Operation) (moment next : ℕ) (tree : Tree) → (code_of op tree == 0) ≡ true → done op moment next tree ≡ tree_after op moment next tree
done_tree op moment next tree e = sym (ap (λ b. if b then done op moment next tree else tree) e)

pub done_next : (op : Operation) (next : ℕ) (tree : Tree) (draws : Bool) → (code_of op tree == 0) ≡ true → draws_identity op ≡ draws
    → (if draws then next + 1 else next) ≡ (if draws_identity op && (code_of op tree == 0) then next + 1 else next)
done_next op next tree true e f = sym (ap (λ b. if draws_identity op && b then next + 1 else next) e ∙ ap (λ b. if b && true then next + 1 else next) f)
done_next op next tree false e f = sym (ap (λ b. if b && (code_of op tree == 0) then next + 1 else next) f)

-- field by field
pub state_after : (s new : PlainState) (r : PlainRequest) → AreApart new.nodes.items
    → tree_in new.nodes.items ≡ tree_after (request_in r).operation r.moment s.next_identity (tree_in s.nodes.items)
    → (reply : Reply) → reply ≡ reply_to (state_in s) (request_in r) → map record_in new.records.items ≡ with_reply r.client r.number reply (map record_in s.records.items)
    → new.commits ≡ s.commits + 1
    → new.next_identity ≡ (if draws_identity (request_in r).operation && (code_of (request_in r).operation (tree_in s.nodes.items) == 0) then s.next_identity + 1 else s.next_identity)
    → new.table_length ≡ max s.table_length (1 + length new.nodes.items) → new.moment ≡ r.moment
    → state_in new ≡ after_one (state_in s) (request_in r)
state_after s new r apart tree reply answer records commits next table moment =
    let size : len (tree_in new.nodes.items) ≡ length new.nodes.items = apart_len new.nodes.items apart in
    λ i. record {
      tree = tree i;
      records = (records ∙ ap (λ (x : Reply). with_reply r.client r.number x (map record_in s.records.items)) answer) i;
      commits = commits i;
      next_identity = next i;
      table_length = (table ∙ ap (λ n. max s.table_length (1 + n)) (sym size) ∙ ap (λ (t : Tree). max s.table_length (1 + len t)) tree) i;
      moment = moment i;
    }

pub whole_after : (s new : PlainState) (r : PlainRequest) → IsWholeState s → AreApart new.nodes.items → state_in new ≡ after_one (state_in s) (request_in r) → IsWholeState new
whole_after s new r whole apart same = record { apart = apart; sound = subst IsSound (sym same) (sound_one (state_in s) (request_in r) whole.sound) }
