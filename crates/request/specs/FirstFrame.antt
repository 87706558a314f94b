-- What the reader finds at the beginning of a stream.
use Rattle.std.specs.Prelude.{ℕ, ◌+◌, List, length, drop}
use Rattle.request.specs.declared.frames.FirstFrame.{FirstFrame}
use Rattle.request.specs.declared.frames.FirstFrame.TheVariants as first
use Rattle.request.specs.Frames.{IsPartial, IsOverlong, IsFramed}

abbrev pub IsFirstFrame : FirstFrame → List ℕ → Type 0
IsFirstFrame first.Partial bytes = IsPartial bytes
IsFirstFrame first.Overlong bytes = IsOverlong bytes
IsFirstFrame (first.Whole payload) bytes = IsFramed bytes payload.now (drop (4 + length payload.now) bytes)
