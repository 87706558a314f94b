-- What the directories that an operation touches list afterwards.
use Rattle.std.proofs.Common.{◌≡◌, ℕ, ◌≤◌, true, [], ◌∷◌, ◌++◌, length, filter, refl, sym, ◌∙◌, ap, subst, append-nil}
use Rattle.std.specs.FinMap.{get}
use Rattle.model.specs.Tree.{Name, Path, Content, Tree, IsTree, Has, names_in, names_at, is_directory_at, parent_of, last_of}
use Rattle.model.specs.Tree.Content.{File, Directory}
use Rattle.model.specs.Operation.{Operation, code_of, added, name_taken_out, is_other, done}
use Rattle.model.specs.Operation.Operation.{Create, Replace, Append, MakeDir, Rename, Remove}
use Rattle.std.specs.FinMap.{remove}
use Rattle.model.proofs.Codes.{MayAdd, may_add, MayRemove, may_remove, MayRename, may_rename}
use Rattle.model.proofs.Paths.{ends, parent-push, last-push}
use Rattle.model.proofs.Moving.{stays_short}
use Rattle.model.proofs.Operations.{not_into}
use Rattle.model.proofs.Add
use Rattle.model.proofs.Remove
use Rattle.model.proofs.Rename

-- a renamed node's two directories, and what is at its new path
pub record ListsRenamed (from to : Path) (tree tree' : Tree) : Type 0 where
  pub beside : parent_of from ≡ parent_of to → names_at tree' (parent_of to) ≡ filter (is_other (last_of from)) (names_at tree (parent_of from)) ++ last_of to
  pub loses : (parent_of from ≡ parent_of to → ⊥) → names_at tree' (parent_of from) ≡ filter (is_other (last_of from)) (names_at tree (parent_of from))
  pub gets : (parent_of from ≡ parent_of to → ⊥) → names_at tree' (parent_of to) ≡ names_at tree (parent_of to) ++ last_of to
  pub moved : get tree' to ≡ get tree from

-- the names that the directories above the operation's paths list afterwards
abbrev pub ListsAfter : Operation → Tree → Tree → Type 0
ListsAfter (Create path bytes) tree tree' = names_at tree' (parent_of path) ≡ names_at tree (parent_of path) ++ last_of path
ListsAfter (MakeDir path) tree tree' = names_at tree' (parent_of path) ≡ names_at tree (parent_of path) ++ last_of path
ListsAfter (Replace path bytes) tree tree' = Unit {0}
ListsAfter (Append path offset bytes) tree tree' = Unit {0}
ListsAfter (Rename from to) tree tree' = ListsRenamed from to tree tree'
ListsAfter (Remove path) tree tree' = names_at tree' (parent_of path) ≡ filter (is_other (last_of path)) (names_at tree (parent_of path))

module _ (moment identity : ℕ) (tree : Tree) (is : IsTree tree) where
  lists_added : (path : Path) (content : Content) → names_in content ≡ [] → MayAdd path tree → names_at (added path content moment identity tree) (parent_of path) ≡ names_at tree (parent_of path) ++ last_of path
  lists_added path content bare may = subst (λ p. names_at (added p content moment identity tree) (parent_of p) ≡ names_at tree (parent_of p) ++ last_of p) (sym end.2)
      (ap (names_at (added (end.0 ++ end.1 ∷ []) content moment identity tree)) (parent-push end.0 end.1)
      ∙ Add.names_front end.0 end.1 content bare moment identity tree is there.short directory there.new
      ∙ sym (λ i. names_at tree (parent-push end.0 end.1 i) ++ last-push end.0 end.1 i))
    where
      end : (front : Path) × (name : Name) × (path ≡ front ++ name ∷ [])
      end = ends path may.named

      there : MayAdd (end.0 ++ end.1 ∷ []) tree
      there = subst (λ p. MayAdd p tree) end.2 may

      directory : is_directory_at tree end.0 ≡ true
      directory = ap (is_directory_at tree) (sym (parent-push end.0 end.1)) ∙ there.directory

  lists_removed : (path : Path) → MayRemove path tree → names_at (name_taken_out path moment (remove tree path)) (parent_of path) ≡ filter (is_other (last_of path)) (names_at tree (parent_of path))
  lists_removed path may = subst (λ p. names_at (name_taken_out p moment (remove tree p)) (parent_of p) ≡ filter (is_other (last_of p)) (names_at tree (parent_of p))) (sym end.2)
      (ap (names_at (name_taken_out (end.0 ++ end.1 ∷ []) moment (remove tree (end.0 ++ end.1 ∷ [])))) (parent-push end.0 end.1)
      ∙ Remove.names_front end.0 end.1 moment tree is there.here there.empty
      ∙ sym (λ i. filter (is_other (last-push end.0 end.1 i)) (names_at tree (parent-push end.0 end.1 i))))
    where
      end : (front : Path) × (name : Name) × (path ≡ front ++ name ∷ [])
      end = ends path may.named

      there : MayRemove (end.0 ++ end.1 ∷ []) tree
      there = subst (λ p. MayRemove p tree) end.2 may

  lists_renamed : (from to : Path) → MayRename from to tree → ListsRenamed from to tree (done (Rename from to) moment identity tree)
  lists_renamed from to may =
      subst (λ p. ListsRenamed p to tree (done (Rename p to) moment identity tree)) (sym start.2)
      (subst (λ p. ListsRenamed (start.0 ++ start.1 ∷ []) p tree (done (Rename (start.0 ++ start.1 ∷ []) p) moment identity tree)) (sym end.2) (record {
        beside = λ e.
            let same : start.0 ≡ end.0 = sym (parent-push start.0 start.1) ∙ e ∙ parent-push end.0 end.1 in
            ap (names_at tree') (parent-push end.0 end.1)
            ∙ Rename.names_beyond start.0 start.1 end.0 end.1 moment tree is there.here directory there.new into short
            ∙ ap (λ ns. ns ++ end.1 ∷ []) (ap (names_at without_it) (sym same) ∙ Rename.names_front start.0 start.1 end.0 end.1 moment tree is there.here directory there.new into short)
            ∙ sym (λ i. filter (is_other (last-push start.0 start.1 i)) (names_at tree (parent-push start.0 start.1 i)) ++ last-push end.0 end.1 i);
        loses = λ apart.
            ap (names_at tree') (parent-push start.0 start.1)
            ∙ Rename.names_beside start.0 start.1 end.0 end.1 moment tree is there.here directory there.new into short start.0 (λ e. apart (parents e))
            ∙ Rename.names_front start.0 start.1 end.0 end.1 moment tree is there.here directory there.new into short
            ∙ sym (λ i. filter (is_other (last-push start.0 start.1 i)) (names_at tree (parent-push start.0 start.1 i)));
        gets = λ apart.
            ap (names_at tree') (parent-push end.0 end.1)
            ∙ Rename.names_beyond start.0 start.1 end.0 end.1 moment tree is there.here directory there.new into short
            ∙ ap (λ ns. ns ++ end.1 ∷ [])
            (Rename.names_without start.0 start.1 end.0 end.1 moment tree is there.here directory there.new into short end.0 (λ e. apart (parents (sym e)))
            (Rename.beyond_not_from start.0 start.1 end.0 end.1 moment tree is there.here directory there.new into short)
            (λ rest. Rename.never_to start.0 start.1 end.0 end.1 moment tree is there.here directory there.new into short end.0 rest
            (Rename.has_beyond start.0 start.1 end.0 end.1 moment tree is there.here directory there.new into short)))
            ∙ sym (λ i. names_at tree (parent-push end.0 end.1 i) ++ last-push end.0 end.1 i);
        moved = ap (get tree') (sym (append-nil (end.0 ++ end.1 ∷ [])))
            ∙ Rename.at_to start.0 start.1 end.0 end.1 moment tree is there.here directory there.new into short []
            ∙ ap (get tree) (append-nil (start.0 ++ start.1 ∷ []));
      }))
    where
      start : (front : Path) × (name : Name) × (from ≡ front ++ name ∷ [])
      start = ends from may.from_named

      end : (front : Path) × (name : Name) × (to ≡ front ++ name ∷ [])
      end = ends to may.to_named

      tree' : Tree
      tree' = done (Rename (start.0 ++ start.1 ∷ []) (end.0 ++ end.1 ∷ [])) moment identity tree

      there : MayRename (start.0 ++ start.1 ∷ []) (end.0 ++ end.1 ∷ []) tree
      there = subst (λ p. MayRename p (end.0 ++ end.1 ∷ []) tree) start.2 (subst (λ p. MayRename from p tree) end.2 may)

      directory : is_directory_at tree end.0 ≡ true
      directory = ap (is_directory_at tree) (sym (parent-push end.0 end.1)) ∙ there.directory

      into : (rest : Path) → end.0 ++ end.1 ∷ [] ≡ (start.0 ++ start.1 ∷ []) ++ rest → ⊥
      into = not_into moment identity tree is (start.0 ++ start.1 ∷ []) (end.0 ++ end.1 ∷ []) there

      short : (rest : Path) → Has tree ((start.0 ++ start.1 ∷ []) ++ rest) → length ((end.0 ++ end.1 ∷ []) ++ rest) ≤ 16
      short = stays_short (start.0 ++ start.1 ∷ []) (end.0 ++ end.1 ∷ []) tree there.shallow

      without_it : Tree
      without_it = Rename.without_it start.0 start.1 end.0 end.1 moment tree is there.here directory there.new into short

      parents : start.0 ≡ end.0 → parent_of (start.0 ++ start.1 ∷ []) ≡ parent_of (end.0 ++ end.1 ∷ [])
      parents e = parent-push start.0 start.1 ∙ e ∙ sym (parent-push end.0 end.1)

  -- what an operation that is answered 0 leaves in the directories above its paths
  pub lists_after : (op : Operation) → code_of op tree ≡ 0 → ListsAfter op tree (done op moment identity tree)
  lists_after (Create path bytes) e = lists_added path (File bytes) refl (may_add path tree e)
  lists_after (MakeDir path) e = lists_added path (Directory []) refl (may_add path tree e)
  lists_after (Replace path bytes) e = tt
  lists_after (Append path offset bytes) e = tt
  lists_after (Rename from to) e = lists_renamed from to (may_rename from to tree e)
  lists_after (Remove path) e = lists_removed path (may_remove path tree e)
