-- What a table becomes: by a reply that is kept, and by a node that is made, moved or removed.
use Rattle.std.specs.Prelude.{◌≡◌, ◌≢◌, ℕ, ◌+◌, ◌-◌, ◌<◌, ◌≤◌, ◌==◌, if◌then◌else◌, List, [], ◌∷◌, ◌++◌, length, take, drop, map, slice_get, Option, Some, None, All, ◌⊎◌}
use Rattle.std.specs.List.{list_any}
use Rattle.limits.specs.declared.TheConstants.{PARTITION_START, ADDRESSES, CLIENTS, KEPT_REPLIES}
use Rattle.dir.specs.declared.entry.Kind.{Kind}
use Rattle.dir.specs.declared.entry.Kind.TheVariants.{File, Directory}
use Rattle.vat.specs.declared.record.Record.{Record}
use Rattle.vat.specs.declared.record.Reply.{Reply}
use Rattle.vat.specs.declared.table.Version.TheVariants.{Two}
use Rattle.vat.specs.declared.table.Vat.{Vat}
use Rattle.vat.specs.Table.{Table, view}
use Rattle.recover.specs.Below.{IsUsed}
use Rattle.table_update.specs.Needs.{table_need}

-- the record of a client that was answered once more
abbrev pub table_record_answered : ℕ → Reply → Record → Record
table_record_answered number reply kept = record { client = kept.client; latest = number; replies = take KEPT_REPLIES (reply ∷ kept.replies) }

-- and any other client's record as it was
abbrev pub table_record_answered_if : ℕ → ℕ → Reply → Record → Record
table_record_answered_if client number reply r = if r.client == client then table_record_answered number reply r else r

-- the record of a client that was answered for the first time
abbrev pub first_record : ℕ → ℕ → Reply → Record
first_record client number reply = record { client = client; latest = number; replies = reply ∷ [] }

abbrev pub table_with_reply : ℕ → ℕ → Reply → List Record → List Record
table_with_reply client number reply records =
    if list_any (λ r. r.client == client) records
    then map (table_record_answered_if client number reply) records
    else records ++ first_record client number reply ∷ []

-- the number is the client's next one, and a client with no record finds room for one
pub record IsNext (client number : ℕ) (records : List Record) : Type 0 where
  pub known : All (λ r. r.client ≡ client → number ≡ r.latest + 1) records
  pub unknown : All (λ r. r.client ≢ client) records → (number ≡ 1) × (length records < CLIENTS)

-- it is answered with a code that may be kept
pub record AnswersNext (client number code : ℕ) (records : List Record) : Type 0 where
  pub greatest : code ≤ 10
  pub some_client : 0 < client
  pub some_number : 0 < number
  pub next : IsNext client number records

-- the table of the next commit, which answered a client's request, where the entry of the table before is at an address
abbrev pub committed : ℕ → ℕ → ℕ → ℕ → Table → Table
committed at client number code t = record {
  label = t.label;
  previous = Some (at - PARTITION_START);
  files = t.files;
  directories = t.directories;
  version = Two;
  next_unique = t.next_unique;
  commits = t.commits + 1;
  records = table_with_reply client number (record { code = code; commit = t.commits + 1 }) t.records;
  entries = t.entries;
}

-- the entries with another at an address: in the place of the one that is there, or after them all
abbrev pub with_number : ℕ → Option ℕ → List (Option ℕ) → List (Option ℕ)
with_number address entry entries = take address entries ++ entry ∷ drop (address + 1) entries

abbrev pub with_nodes : ℕ → ℕ → ℕ → List (Option ℕ) → Table → Table
with_nodes files directories next_unique entries t = record {
  label = t.label;
  previous = t.previous;
  files = files;
  directories = directories;
  version = t.version;
  next_unique = next_unique;
  commits = t.commits;
  records = t.records;
  entries = entries;
}

-- an entry is there and unused, or the next after the last may be
abbrev pub IsFree : ℕ → List (Option ℕ) → Type 0
IsFree address entries = (slice_get entries address ≡ Some None) ⊎ ((address ≡ length entries) × (address < ADDRESSES))

-- a node was made
abbrev pub with_node : Kind → ℕ → ℕ → Table → Table
with_node File address number t = with_nodes (t.files + 1) t.directories (t.next_unique + 1) (with_number address (Some number) t.entries) t
with_node Directory address number t = with_nodes t.files (t.directories + 1) (t.next_unique + 1) (with_number address (Some number) t.entries) t

-- a node's entry was written anew
abbrev pub placed : ℕ → ℕ → Table → Table
placed address number t = with_nodes t.files t.directories t.next_unique (with_number address (Some number) t.entries) t

-- a node that is not the root is counted
abbrev pub CountsNode : Kind → Table → Type 0
CountsNode File t = 0 < t.files
CountsNode Directory t = 1 < t.directories

-- an address after the root's leads to a node, and one of that kind is counted
pub record IsRemovable (kind : Kind) (address : ℕ) (t : Table) : Type 0 where
  pub afterwards : 2 ≤ address
  pub used : IsUsed address t.entries
  pub counted : CountsNode kind t

-- a node was removed
abbrev pub removed : Kind → ℕ → Table → Table
removed File address t = with_nodes (t.files - 1) t.directories t.next_unique (with_number address None t.entries) t
removed Directory address t = with_nodes t.files (t.directories - 1) t.next_unique (with_number address None t.entries) t

-- nothing but the nodes of the table changes, and it may need as many blocks
pub record OnlyNodesChange (old new : Vat) : Type 0 where
  pub previous : new.previous ≡ old.previous
  pub commits : new.sessions.commits ≡ old.sessions.commits
  pub unique : new.sessions.next_unique ≡ old.sessions.next_unique
  pub need : table_need (view new) ≡ table_need (view old)
