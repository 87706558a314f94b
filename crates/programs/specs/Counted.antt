-- What a counter of frames holds of the bytes that it was given.
use Rattle.std.specs.Prelude.{◌≡◌, ◌⊎◌, ℕ, ◌+◌, ◌<◌, ◌≤◌, true, false, List, ◌++◌, length, take}
use Rattle.std.specs.Int.{w32, to_le_bytes}
use Rattle.request.specs.Frames.{IsOverlong}
use Rattle.programs.specs.declared.counting.FrameCount.{FrameCount}
use Rattle.programs.specs.Counting.{Splits, counted_to}

-- the rest begins with a length above the limit, which was counted as the last frame
pub record IsOver (counter : FrameCount) (frames : ℕ) (rest : List ℕ) : Type 0 where
  pub over : counter.is_over ≡ true
  pub count : counter.count ≡ counted_to (frames + 1)
  pub overlong : IsOverlong rest

-- the rest is some bytes of a length
pub record HoldsLength (counter : FrameCount) (frames : ℕ) (rest : List ℕ) : Type 0 where
  pub goes_on : counter.is_over ≡ false
  pub count : counter.count ≡ counted_to frames
  pub none_left : counter.left ≡ 0
  pub rest_is : rest ≡ take counter.given counter.length

-- the rest is a length within the limit, and some bytes of its payload
pub record AwaitsPayload (counter : FrameCount) (frames : ℕ) (rest : List ℕ) : Type 0 where
  pub goes_on : counter.is_over ≡ false
  pub count : counter.count ≡ counted_to frames
  pub some_left : 0 < counter.left
  pub none_given : counter.given ≡ 0
  pub came : List ℕ
  pub rest_is : rest ≡ to_le_bytes w32 (length came + counter.left) ++ came
  pub fits : length came + counter.left ≤ 1114112

-- The counter was given these bytes: it counted their whole frames, and holds what it needs of the rest.
pub record Counted (counter : FrameCount) (bytes : List ℕ) : Type 0 where
  pub payloads : List (List ℕ)
  pub rest : List ℕ
  pub splits : Splits bytes payloads rest
  pub holds : IsOver counter (length payloads) rest ⊎ (HoldsLength counter (length payloads) rest ⊎ AwaitsPayload counter (length payloads) rest)
