-- What a caller has at the pointer that it gets.
use Rattle.std.specs.Prelude.{◌≡◌, ℤ, pos, Option, Some, None}
use Rattle.std.specs.Box.Ownership.{box_owns}
use Rattle.std.specs.contracts.impls.GlobalAllocator.TheImpl.{ghosts}
use base.Fml.{Fml, ftrue}
use denote.RawPtr.{Ptr}
use Rattle.embedding.specs.declared.fault.Fault.TheVariants.{Memory}
use Rattle.embedding.specs.declared.session.Session.{Session}
use Rattle.embedding.specs.contracts.session.Session.{the_row}
use Rattle.embedding.specs.Calls.{Ended}
use Rattle.embedding.specs.Numbers.{number_of}

-- a session lies there, with the right to free its block; or nothing is handed out
abbrev pub handed_at : Ptr → Option Session → Fml
handed_at at (Some s) = box_owns (ghosts.dealloc_token s.alloc) the_row at s
handed_at at None = ftrue

-- A session was made that holds nothing, and the number says so; or memory was short, and the pointer is as it was.
abbrev pub HandsOut : ℤ → Ptr → Ptr → Option Session → Type 0
HandsOut number before after (Some s) = (number ≡ pos 0) × Ended s
HandsOut number before after None = (number ≡ number_of Memory) × (after ≡ before)
