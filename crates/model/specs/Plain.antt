-- What the values of the plain program stand for.
use Rattle.std.specs.Prelude.{◌≡◌, ℕ, List, map, String, string_bytes}
use Rattle.std.specs.List.{IsDistinct}
use Rattle.std.specs.FinMap.{from_entries}
use Rattle.std.specs.declared.alloc.Global.{Global}
use Rattle.model.specs.Tree.{Name, Path, Node, Content, Tree, paths_eq}
use Rattle.model.specs.Tree.Content.{File, Directory}
use Rattle.model.specs.Operation.{Operation, moved}
use Rattle.model.specs.Operation.Operation.{Create, Replace, Append, MakeDir, Rename, Remove}
use Rattle.model.specs.declared.plain.Operation.{Operation as PlainOperation}
use Rattle.model.specs.declared.plain.Operation.TheVariants as operation
use Rattle.model.specs.Session.{Reply, ClientRecord, Due}
use Rattle.model.specs.Session.Due.{Repeat, Stale, Gap, ClientsFull, New}
use Rattle.model.specs.declared.plain.records.Reply.{Reply as PlainReply}
use Rattle.model.specs.declared.plain.records.ClientRecord.{ClientRecord as PlainRecord}
use Rattle.model.specs.declared.plain.records.Due.{Due as PlainDue}
use Rattle.model.specs.declared.plain.records.Due.TheVariants as due
use Rattle.model.specs.declared.plain.codes.Code.{Code}
use Rattle.model.specs.declared.plain.codes.Code.TheVariants as code
use Rattle.model.specs.declared.plain.nodes.Content.{Content as PlainContent}
use Rattle.model.specs.declared.plain.nodes.Content.TheVariants as content
use Rattle.model.specs.declared.plain.nodes.Node.{Node as PlainNode}
use Rattle.model.specs.declared.plain.nodes.Entry.{Entry}

abbrev pub texts_in : List (String Global) → List Name
texts_in names = map string_bytes names

abbrev pub plain_content : PlainContent → Content
plain_content (content.File bytes) = File bytes.items
plain_content (content.Directory names) = Directory (texts_in names.items)

abbrev pub node_in : PlainNode → Node
node_in node = record { identity = node.identity; moment = node.moment; content = plain_content node.content }

abbrev pub path_in : Entry → Path
path_in entry = texts_in entry.path.items

abbrev pub entry_in : Entry → Path × Node
entry_in entry = (path_in entry, node_in entry.node)

-- the tree of a list of entries: the first entry of a path counts
abbrev pub tree_in : List Entry → Tree
tree_in nodes = from_entries (map entry_in nodes)

-- no path comes twice
abbrev pub AreApart : List Entry → Type 0
AreApart nodes = IsDistinct paths_eq (map path_in nodes)

abbrev pub operation_in : PlainOperation → Operation
operation_in (operation.Create path bytes) = Create (texts_in path.items) bytes.items
operation_in (operation.Replace path bytes) = Replace (texts_in path.items) bytes.items
operation_in (operation.Append path offset bytes) = Append (texts_in path.items) offset bytes.items
operation_in (operation.MakeDir path) = MakeDir (texts_in path.items)
operation_in (operation.Rename from to) = Rename (texts_in from.items) (texts_in to.items)
operation_in (operation.Remove path) = Remove (texts_in path.items)

abbrev pub code_in : Code → ℕ
code_in code.Done = 0
code_in code.NoParent = 1
code_in code.NotFound = 2
code_in code.Exists = 3
code_in code.IsDirectory = 4
code_in code.NotEmpty = 5
code_in code.IntoItself = 6
code_in code.Root = 7
code_in code.TooDeep = 8
code_in code.DirectoryFull = 9
code_in code.TooMany = 10

-- the list stands for the tree, and has no path twice
pub record ListsTree (nodes : List Entry) (tree : Tree) : Type 0 where
  pub apart : AreApart nodes
  pub is : tree_in nodes ≡ tree

-- each path with the prefix `from` replaced by `to`
abbrev pub paths_moved : Path → Path → List (Path × Node) → List (Path × Node)
paths_moved from to nodes = map (λ entry. (moved from to entry.0, entry.1)) nodes

abbrev pub reply_in : PlainReply → Reply
reply_in reply = record { code = code_in reply.code; commit = reply.commit }

abbrev pub record_in : PlainRecord → ClientRecord
record_in kept = record { client = kept.client; latest = kept.latest; replies = map reply_in kept.replies.items }

abbrev pub due_in : PlainDue → Due
due_in (due.Repeat reply) = Repeat (reply_in reply)
due_in (due.Stale latest) = Stale latest
due_in (due.Gap latest) = Gap latest
due_in due.ClientsFull = ClientsFull
due_in due.New = New
