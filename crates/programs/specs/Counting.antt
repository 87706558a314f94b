-- How many frames the bytes of a stream have.
use Rattle.std.specs.Prelude.{◌≡◌, ◌⊎◌, ℕ, ◌+◌, ◌-◌, ◌^◌, ◌≤◌, min, List, ◌++◌, length, Option}
use Rattle.std.specs.List.{All, flat_map}
use Rattle.request.specs.declared.message.Message.{Message}
use Rattle.request.specs.Frames.{Frames, frame, IsOverlong, IsPartial}

-- the bytes are the frames of these payloads, and a rest
pub record Splits (bytes : List ℕ) (payloads : List (List ℕ)) (rest : List ℕ) : Type 0 where
  pub whole : bytes ≡ flat_map frame payloads ++ rest
  pub each : All (λ payload. length payload ≤ 1114112) payloads

-- So many frames: those that are whole, and one whose length is above the limit, which is the last. A rest that is no whole
-- frame is none.
abbrev pub HasFrames : List ℕ → ℕ → Type 0
HasFrames bytes count =
    (payloads : List (List ℕ)) × (rest : List ℕ) × Splits bytes payloads rest
    × (((count ≡ length payloads) × IsPartial rest) ⊎ ((count ≡ length payloads + 1) × IsOverlong rest))

-- as far as 64 bits can count them
abbrev pub counted_to : ℕ → ℕ
counted_to frames = min frames (2 ^ 64 - 1)

abbrev pub IsCountOf : List ℕ → ℕ → Type 0
IsCountOf bytes count = (frames : ℕ) × HasFrames bytes frames × (count ≡ counted_to frames)

-- What came has no fewer frames than what was sent, where that has fewer than 2 ^ 64; and 2 ^ 64 - 1 or more, where it has more.
abbrev pub IsAnsweredBy : List ℕ → List ℕ → Type 0
IsAnsweredBy sent came = (frames : ℕ) × (answers : ℕ) × HasFrames sent frames × HasFrames came answers × (counted_to frames ≤ answers)

-- A stream has as many frames as a reader of frames takes messages of it.
abbrev pub FramesAreMessages : Type 0
FramesAreMessages =
    (bytes : List ℕ) (frames : ℕ) (messages : List Message) (reader : Option (List ℕ)) → HasFrames bytes frames → Frames bytes messages reader → frames ≡ length messages
