-- What a payload can say, and the bytes that say it.
use Rattle.std.specs.Prelude.{ℕ, ◌<◌, ◌≤◌, ◌^◌, List, ◌∷◌, ◌++◌, length}
use Rattle.std.specs.List.{flat_map}
use Rattle.std.specs.Int.{w16, w32, w64, to_le_bytes}
use Rattle.limits.specs.declared.TheConstants.{FILE_BYTES, MOMENT_LIMIT}
use Rattle.request.specs.Path.{IsPath}
use Rattle.request.specs.declared.message.Op.{Op}
use Rattle.request.specs.declared.message.Op.TheVariants.{Create, Replace, Append, MakeDir, Rename, Remove}
use Rattle.request.specs.declared.message.Query.{Query}
use Rattle.request.specs.declared.message.Query.TheVariants as query

-- a request, or a query
pub data Said : Type 0 where
  Changes : (client number moment : ℕ) (op : Op) → Said
  Asks : (query : Query) → Said

-- the length in two bytes, and the name in UTF-8
abbrev pub name_field : List ℕ → List ℕ
name_field name = to_le_bytes w16 (length name) ++ name

-- the count of names in one byte, and the names from the root on
abbrev pub path_field : List (List ℕ) → List ℕ
path_field path = length path ∷ flat_map name_field path

-- the length in four bytes, and the bytes
abbrev pub data_field : List ℕ → List ℕ
data_field bytes = to_le_bytes w32 (length bytes) ++ bytes

abbrev pub op_kind : Op → ℕ
op_kind (Create path bytes) = 1
op_kind (Replace path bytes) = 2
op_kind (MakeDir path) = 3
op_kind (Rename from to) = 4
op_kind (Remove path) = 5
op_kind (Append path offset bytes) = 6

abbrev pub op_fields : Op → List ℕ
op_fields (Create path bytes) = path_field path ++ data_field bytes
op_fields (Replace path bytes) = path_field path ++ data_field bytes
op_fields (Append path offset bytes) = path_field path ++ (to_le_bytes w64 offset ++ data_field bytes)
op_fields (MakeDir path) = path_field path
op_fields (Rename from to) = path_field from ++ path_field to
op_fields (Remove path) = path_field path

abbrev pub query_kind : Query → ℕ
query_kind (query.Get path) = 16
query_kind (query.List path) = 17
query_kind (query.Stat path) = 18
query_kind (query.Read path offset count) = 19

abbrev pub query_fields : Query → List ℕ
query_fields (query.Get path) = path_field path
query_fields (query.List path) = path_field path
query_fields (query.Stat path) = path_field path
query_fields (query.Read path offset count) = path_field path ++ (to_le_bytes w64 offset ++ to_le_bytes w32 count)

-- the kind in one byte, and the fields
abbrev pub payload_of : Said → List ℕ
payload_of (Changes client number moment op) =
    op_kind op ∷ (to_le_bytes w64 client ++ (to_le_bytes w64 number ++ (to_le_bytes w64 moment ++ op_fields op)))
payload_of (Asks query) = query_kind query ∷ query_fields query

abbrev pub IsOp : Op → Type 0
IsOp (Create path bytes) = IsPath path × (length bytes ≤ FILE_BYTES)
IsOp (Replace path bytes) = IsPath path × (length bytes ≤ FILE_BYTES)
IsOp (Append path offset bytes) = IsPath path × (offset < 2 ^ 64) × (0 < length bytes) × (length bytes ≤ FILE_BYTES)
IsOp (MakeDir path) = IsPath path
IsOp (Rename from to) = IsPath from × IsPath to
IsOp (Remove path) = IsPath path

abbrev pub IsQuery : Query → Type 0
IsQuery (query.Get path) = IsPath path
IsQuery (query.List path) = IsPath path
IsQuery (query.Stat path) = IsPath path
IsQuery (query.Read path offset count) = IsPath path × (offset < 2 ^ 64) × (count ≤ FILE_BYTES)

pub record IsChange (client number moment : ℕ) (op : Op) : Type 0 where
  pub client_above_zero : 0 < client
  pub client_fits : client < 2 ^ 64
  pub number_above_zero : 0 < number
  pub number_fits : number < 2 ^ 64
  pub moment_in_range : moment < MOMENT_LIMIT
  pub op_in_range : IsOp op

-- what can be said
abbrev pub IsMessageInRange : Said → Type 0
IsMessageInRange (Changes client number moment op) = IsChange client number moment op
IsMessageInRange (Asks query) = IsQuery query
