-- What a query is answered of the state that a store knows, and what the store knows afterwards.
use Rattle.std.proofs.Common.{◌≡◌, ◌⊎◌, inl, inr, ℕ, Bool, true, false, cond, ltb, List, length}
use Rattle.std.specs.FinMap.{get}
use Rattle.std.specs.Prelude.{IfOk, IfErr, Option, Some, None, Result, Ok, Err}
use Rattle.limits.specs.declared.TheConstants.{FILE_BYTES}
use Rattle.model.specs.Tree.{Content, Node, Path, Tree}
use Rattle.model.specs.Tree.Content.{File, Directory}
use Rattle.model.specs.Session.{State}
use Rattle.durability.specs.Runs.{Answer, got, listed, answer_to_stat, piece_read, told}
use Rattle.durability.specs.Runs as runs
use Rattle.durability.specs.Runs.Query.{Get, List_, Stat, Read}
use Rattle.recover.specs.declared.fault.StoreFault.{StoreFault}
use Rattle.request.specs.declared.answer.Listed.{Listed}
use Rattle.request.specs.declared.answer.NodeStatus.{NodeStatus}
use Rattle.lookup.specs.Asked.{is_directory, said_names}
use Rattle.store.specs.Calls.{GetRefuses, Gets, ListRefuses, Lists, ReadRefuses, Reads, StatRefuses, Stats}
use Rattle.lookup.specs.Queries.{IsQueryRefused}

-- ---- the answers that each query has

whole_elsewhere : (long : Bool) (bytes : List ℕ) → cond long runs.Answer.TooLong (runs.Answer.Data bytes) ≡ runs.Answer.NotDirectory → ⊥
whole_elsewhere true bytes e = cc
whole_elsewhere false bytes e = cc

got_elsewhere : (o : Option Node) → got o ≡ runs.Answer.NotDirectory → ⊥
got_elsewhere None e = cc
got_elsewhere (Some node) e = go node.content e
  where
    go : (c : Content) → got (Some (record { identity = node.identity; moment = node.moment; content = c })) ≡ runs.Answer.NotDirectory → ⊥
    go (File bytes) h = whole_elsewhere (ltb FILE_BYTES (length bytes)) bytes h
    go (Directory names) h = cc

-- the answers that are told of no piece
abbrev IsNoPiece : Answer → Type 0
IsNoPiece answer = (answer ≡ runs.Answer.NotDirectory) ⊎ (answer ≡ runs.Answer.TooLong)

piece_elsewhere : (offset count : ℕ) (o : Option Node) → IsNoPiece (piece_read offset count o) → ⊥
piece_elsewhere offset count None (inl e) = cc
piece_elsewhere offset count None (inr e) = cc
piece_elsewhere offset count (Some node) e = go node.content e
  where
    go : (c : Content) → IsNoPiece (piece_read offset count (Some (record { identity = node.identity; moment = node.moment; content = c }))) → ⊥
    go (File bytes) (inl h) = cc
    go (File bytes) (inr h) = cc
    go (Directory names) (inl h) = cc
    go (Directory names) (inr h) = cc

-- the answers that are told of no list
abbrev IsNoList : Answer → Type 0
IsNoList answer = (answer ≡ runs.Answer.IsDirectory) ⊎ (answer ≡ runs.Answer.TooLong)

listed_elsewhere : (tree : Tree) (path : Path) (o : Option Node) → IsNoList (listed tree path o) → ⊥
listed_elsewhere tree path None (inl e) = cc
listed_elsewhere tree path None (inr e) = cc
listed_elsewhere tree path (Some node) e = go node.content e
  where
    go : (c : Content) → IsNoList (listed tree path (Some (record { identity = node.identity; moment = node.moment; content = c }))) → ⊥
    go (File bytes) (inl h) = cc
    go (File bytes) (inr h) = cc
    go (Directory names) (inl h) = cc
    go (Directory names) (inr h) = cc

-- the answers that are told of no status
abbrev IsNoStatus : Answer → Type 0
IsNoStatus answer = (answer ≡ runs.Answer.IsDirectory) ⊎ ((answer ≡ runs.Answer.NotDirectory) ⊎ (answer ≡ runs.Answer.TooLong))

shown_elsewhere : (o : Option Node) → IsNoStatus (answer_to_stat o) → ⊥
shown_elsewhere None (inl e) = cc
shown_elsewhere None (inr (inl e)) = cc
shown_elsewhere None (inr (inr e)) = cc
shown_elsewhere (Some node) e = go node.content e
  where
    go : (c : Content) → IsNoStatus (answer_to_stat (Some (record { identity = node.identity; moment = node.moment; content = c }))) → ⊥
    go (File bytes) (inl h) = cc
    go (File bytes) (inr (inl h)) = cc
    go (File bytes) (inr (inr h)) = cc
    go (Directory names) (inl h) = cc
    go (Directory names) (inr (inl h)) = cc
    go (Directory names) (inr (inr h)) = cc

-- ---- each query at a state

pub gets : (S : State) (path : Path) (result : Result (List ℕ) StoreFault) → IfOk result (λ bytes. told S.tree (Get path) ≡ runs.Answer.Data bytes) → IfErr result (IsQueryRefused (told S.tree (Get path))) → Gets S path result
gets S path (Ok bytes) is refused = is
gets S path (Err fault) is refused = by refused
  where
    by : IsQueryRefused (told S.tree (Get path)) fault → GetRefuses (told S.tree (Get path)) fault
    by (inl missing) = inr (inl missing)
    by (inr (inl directory)) = inr (inr (inl directory))
    by (inr (inr (inl other))) = absurd (got_elsewhere (get S.tree path) other.1)
    by (inr (inr (inr (inl long)))) = inr (inr (inr long))
    by (inr (inr (inr (inr short)))) = inl short

pub reads : (S : State) (path : Path) (offset count : ℕ) (result : Result (List ℕ) StoreFault) → IfOk result (λ bytes. told S.tree (Read path offset count) ≡ runs.Answer.Data bytes) → IfErr result (IsQueryRefused (told S.tree (Read path offset count)))
    → Reads S path offset count result
reads S path offset count (Ok bytes) is refused = is
reads S path offset count (Err fault) is refused = by refused
  where
    by : IsQueryRefused (told S.tree (Read path offset count)) fault → ReadRefuses (told S.tree (Read path offset count)) fault
    by (inl missing) = inr (inl missing)
    by (inr (inl directory)) = inr (inr directory)
    by (inr (inr (inl other))) = absurd (piece_elsewhere offset count (get S.tree path) (inl other.1))
    by (inr (inr (inr (inl long)))) = absurd (piece_elsewhere offset count (get S.tree path) (inr long.1))
    by (inr (inr (inr (inr short)))) = inl short

pub lists : (S : State) (path : Path) (result : Result (List Listed) StoreFault) → IfOk result (λ names. told S.tree (List_ path) ≡ runs.Answer.Names (said_names names)) → IfErr result (IsQueryRefused (told S.tree (List_ path))) → Lists S path result
lists S path (Ok names) is refused = is
lists S path (Err fault) is refused = by refused
  where
    by : IsQueryRefused (told S.tree (List_ path)) fault → ListRefuses (told S.tree (List_ path)) fault
    by (inl missing) = inr (inl missing)
    by (inr (inl other)) = absurd (listed_elsewhere S.tree path (get S.tree path) (inl other.1))
    by (inr (inr (inl file))) = inr (inr file)
    by (inr (inr (inr (inl long)))) = absurd (listed_elsewhere S.tree path (get S.tree path) (inr long.1))
    by (inr (inr (inr (inr short)))) = inl short

pub stats : (S : State) (path : Path) (result : Result NodeStatus StoreFault) → IfOk result (λ status. told S.tree (Stat path) ≡ runs.Answer.NodeIs (is_directory status.kind) status.moment status.size) → IfErr result (IsQueryRefused (told S.tree (Stat path))) → Stats S path result
stats S path (Ok status) is refused = is
stats S path (Err fault) is refused = by refused
  where
    by : IsQueryRefused (told S.tree (Stat path)) fault → StatRefuses (told S.tree (Stat path)) fault
    by (inl missing) = inr missing
    by (inr (inl other)) = absurd (shown_elsewhere (get S.tree path) (inl other.1))
    by (inr (inr (inl other))) = absurd (shown_elsewhere (get S.tree path) (inr (inl other.1)))
    by (inr (inr (inr (inl long)))) = absurd (shown_elsewhere (get S.tree path) (inr (inr long.1)))
    by (inr (inr (inr (inr short)))) = inl short
