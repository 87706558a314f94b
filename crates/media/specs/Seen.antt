-- What image files are taken to hold: a list of journals by their paths, the last one that was put back first.
use Rattle.std.specs.Prelude.{ℕ, ◌==◌, ◌&&◌, Bool, true, false, if◌then◌else◌, List, [], ◌∷◌, Option, Some, None, bytes_eq}
use Rattle.drive.specs.Journal.{Event, event_blocks}

abbrev pub ImageJournals : Type 0
ImageJournals = List (List ℕ × List Event)

-- the first journal at this path
abbrev pub lookup : ImageJournals → List ℕ → Option (List Event)
lookup [] path = None
lookup (image ∷ images) path = if bytes_eq path image.0 then Some image.1 else lookup images path

-- what was found after the last whole block of images, by their paths, the last look first
abbrev pub LookLog : Type 0
LookLog = List (List ℕ × Option (List ℕ))

-- what the last look at the image at this path found
abbrev pub found_by : LookLog → List ℕ → Option (List ℕ)
found_by [] path = None
found_by (look ∷ looks) path = if bytes_eq path look.0 then look.1 else found_by looks path

-- What is taken to be known of image files: what each holds, how often something else was found, what looks found, and how
-- many calls failed.
pub record FileRecord : Type 0 where
  pub images : ImageJournals
  pub misses : ℕ
  pub looks : LookLog
  pub failures : ℕ

-- of no image anything
pub blank_record : FileRecord
blank_record = record { images = []; misses = 0; looks = []; failures = 0 }

-- the blocks that an image is taken to hold
abbrev pub held_blocks : Option (List Event) → List (List ℕ)
held_blocks None = []
held_blocks (Some journal) = event_blocks journal

-- the same events, in the same order
abbrev pub same_events : List Event → List Event → Bool
same_events [] [] = true
same_events [] (f ∷ found) = false
same_events (e ∷ held) [] = false
same_events (e ∷ held) (f ∷ found) = (e.0 == f.0) && (bytes_eq e.1 f.1 && same_events held found)

-- one where what was found is not what is held
abbrev pub missed : Option (List Event) → List Event → ℕ
missed None found = 1
missed (Some held) found = if same_events held found then 0 else 1

-- the images, with one of no blocks at this path where none is held there
abbrev pub with_new_image : Option (List Event) → List ℕ → ImageJournals → ImageJournals
with_new_image None path images = (path, []) ∷ images
with_new_image (Some journal) path images = images
