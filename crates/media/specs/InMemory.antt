-- What images in memory hold: each is at a path, until its drive is taken out.
use Rattle.std.specs.Prelude.{◌≡◌, ℕ, ◌<◌, ◌≤◌, Bool, true, false, if◌then◌else◌, List, [], ◌∷◌, length, slice_index_or, Option, None, Some, ⊤, bytes_eq, is_none}
use Rattle.std.specs.Option.{option_map}
use Rattle.drive.specs.Journal.{Event, Once, next_of}
use Rattle.settling.specs.Gathered.{journal_of}
use Rattle.media.specs.declared.memory.Slot.{Slot}
use Rattle.media.specs.declared.memory.MemMedia.{MemMedia}

-- what the first slot of this path has, and else another value
abbrev pub slot_at : {A : Type 0} → (Slot → A) → A → List Slot → List ℕ → A
slot_at of other [] path = other
slot_at of other (slot ∷ slots) path = if bytes_eq path slot.path.items then of slot else slot_at of other slots path

-- the journal of a drive that is not out
abbrev pub journal_in : Slot → Option (List Event)
journal_in slot = option_map journal_of slot.drive

abbrev pub is_empty : Slot → Bool
is_empty slot = is_none slot.drive

abbrev pub held_by : MemMedia → List ℕ → Option (List Event)
held_by media = slot_at journal_in None media.slots.items

-- whether its drive is out
abbrev pub is_out : MemMedia → List ℕ → Bool
is_out media = slot_at is_empty false media.slots.items

-- the blocks were each written once, in order, and are no more than the capacity
abbrev pub IsFit : ℕ → List Event → Type 0
IsFit capacity journal = Once journal × (next_of journal ≤ capacity)

-- why an image is not taken out: it is missing or out, or it is not fit
abbrev pub IsUnfit : ℕ → Option (List Event) → Type 0
IsUnfit capacity None = ⊤
IsUnfit capacity (Some journal) = IsFit capacity journal → ⊥

-- no slot before this index is of this path
abbrev pub AreOthers : List Slot → List ℕ → ℕ → Type 0
AreOthers slots path place = (i : ℕ) (d : Slot) → i < place → bytes_eq path (slice_index_or slots i d).path.items ≡ false

-- the first slot of this path is at this index
pub record IsPlace (slots : List Slot) (path : List ℕ) (place : ℕ) : Type 0 where
  pub below : place < length slots
  pub others : AreOthers slots path place
  pub here : (d : Slot) → bytes_eq path (slice_index_or slots place d).path.items ≡ true
