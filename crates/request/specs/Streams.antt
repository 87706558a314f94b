-- What a reader of frames reads of a stream whose bytes are known.
use Rattle.std.specs.Prelude.{◌≡◌, ℕ, List, length, Option}
use Rattle.std.specs.Io.KnownBytes.{Consumes, IsAtEnd}
use Rattle.request.specs.Frames.{fed}

-- so many bytes were read, none at the end alone, and the reader of frames was fed them
pub record ReadsPiece (count : ℕ) (before after reader later : Option (List ℕ)) : Type 0 where
  pub piece : List ℕ
  pub long : length piece ≡ count
  pub consumed : Consumes before after piece
  pub end : count ≡ 0 → IsAtEnd after
  pub taken : later ≡ fed reader piece
