-- What is kept of a client, and its bytes.
use Rattle.std.specs.Prelude.{◌≡◌, ℕ, ◌^◌, ◌<◌, ◌≤◌, List, [], ◌∷◌, length}
use Rattle.std.specs.Int.{w64, to_le_bytes}
use Rattle.std.specs.List.{concat, flat_map}
use Rattle.vat.specs.declared.record.Record.{Record}
use Rattle.vat.specs.declared.table.Version.{Version}
use Rattle.vat.specs.Version.{places}
use Rattle.vat.specs.Reply.{filled, reply_bytes, AreReplies}

abbrev pub record_bytes : Version → Record → List ℕ
record_bytes version kept = concat (
    to_le_bytes w64 kept.client  -- 0
    ∷ to_le_bytes w64 kept.latest  -- 8
    ∷ flat_map reply_bytes (filled (places version) kept.replies)  -- 16
    ∷ [])

-- the version has room for the replies
pub record HasRoom (version : Version) (kept : Record) : Type 0 where
  pub some : 0 < length kept.replies
  pub room : length kept.replies ≤ places version

-- what may be kept of a client after so many commits
pub record IsKept (version : Version) (commits : ℕ) (kept : Record) : Type 0 where
  pub client : 0 < kept.client
  pub client_fits : kept.client < 2 ^ 64
  pub latest : 0 < kept.latest
  pub latest_fits : kept.latest < 2 ^ 64
  pub room : HasRoom version kept
  -- no reply is to a number below 1
  pub numbers : length kept.replies ≤ kept.latest
  pub replies : AreReplies commits kept.replies

-- the bytes are those of a record
pub record SpellsRecord (version : Version) (commits : ℕ) (text : List ℕ) : Type 0 where
  pub kept : Record
  pub is_kept : IsKept version commits kept
  pub whole : text ≡ record_bytes version kept
