-- What a copy from one stream to another does, where their bytes are known.
use Rattle.std.specs.Prelude.{◌≡◌, ◌⊎◌, ℕ, ◌≤◌, List, [], ◌++◌, length, take, Option, Result, Ok, Err}
use Rattle.std.specs.Io.KnownBytes.{Appends, Consumes, IsAtEnd, Keeps}
use Rattle.engine.specs.Streams.{PutsPrefix}
use Rattle.engine.specs.declared.serving.ServeFault.TheVariants as stream
use Rattle.recover.specs.declared.fault.StoreFault.TheVariants as store
use Rattle.programs.specs.declared.fault.Fault.{Fault}
use Rattle.programs.specs.declared.fault.Fault.TheVariants.{Usage, Path, Socket, Store, Stream}
use Rattle.programs.specs.Counting.{IsAnsweredBy, IsCountOf}

-- what was read was written
pub record CopiesRead (input left output written : Option (List ℕ)) : Type 0 where
  pub bytes : List ℕ
  pub consumed : Consumes input left bytes
  pub copied : Appends output written bytes

-- all that was left to read was written
pub record CopiesAll (input left output written : Option (List ℕ)) : Type 0 where
  pub bytes : List ℕ
  pub consumed : Consumes input left bytes
  pub copied : Appends output written bytes
  pub end : IsAtEnd left

-- the same, and so many frames ended in it
pub record CopiesFrames (count : ℕ) (input left output written : Option (List ℕ)) : Type 0 where
  pub all : CopiesAll input left output written
  pub counted : IsCountOf all.bytes count

-- A piece was read after what was written, and so many bytes of it were.
pub record CopiesPart (input left output written : Option (List ℕ)) : Type 0 where
  pub copied : List ℕ
  pub piece : List ℕ
  pub count : ℕ
  pub some : piece ≡ [] → ⊥
  pub short : length piece ≤ 65536
  pub consumed : Consumes input left (copied ++ piece)
  pub front : Appends output written (copied ++ take count piece)

-- Why a copy ended early. A read fails where what was read is written, a write where something was read, and memory is short
-- before anything is.
abbrev pub CopiesUntil : Fault → Option (List ℕ) → Option (List ℕ) → Option (List ℕ) → Option (List ℕ) → Type 0
CopiesUntil Usage input left output written = ⊥
CopiesUntil Path input left output written = ⊥
CopiesUntil Socket input left output written = ⊥
CopiesUntil (Store fault) input left output written = (fault ≡ store.Memory) × (left ≡ input) × (written ≡ output)
CopiesUntil (Stream stream.Read) input left output written = CopiesRead input left output written
CopiesUntil (Stream stream.Write) input left output written = CopiesPart input left output written
CopiesUntil (Stream stream.Memory) input left output written = ⊥

-- the same, or all was copied, and then the sending half of a stream could not be ended
abbrev pub SendsUntil : Fault → Option (List ℕ) → Option (List ℕ) → Option (List ℕ) → Option (List ℕ) → Type 0
SendsUntil fault input left output written = CopiesUntil fault input left output written ⊎ ((fault ≡ Stream stream.Write) × CopiesAll input left output written)

-- All that was left to read was sent, and all that came back was written: not fewer answers than frames.
pub record SendsAll (input left output written : Option (List ℕ)) : Type 0 where
  pub sent : List ℕ
  pub consumed : Consumes input left sent
  pub end : IsAtEnd left
  pub came : List ℕ
  pub copied : Appends output written came
  pub answered : IsAnsweredBy sent came

-- Some of it was read, and of what came back a prefix was written.
pub record SendsSome (input left output written : Option (List ℕ)) : Type 0 where
  pub sent : List ℕ
  pub consumed : Consumes input left sent
  pub came : List ℕ
  pub front : PutsPrefix output written came

-- By the outcome. Nothing was done where no daemon is there. Memory is short before anything is read of the input, or before
-- anything is written.
abbrev pub SendsFrames : {T : Type 0} → Result T Fault → Option (List ℕ) → Option (List ℕ) → Option (List ℕ) → Option (List ℕ) → Type 0
SendsFrames (Ok x) input left output written = SendsAll input left output written
SendsFrames (Err Usage) input left output written = ⊥
SendsFrames (Err Path) input left output written = ⊥
SendsFrames (Err Socket) input left output written = (left ≡ input) × Keeps output written
SendsFrames (Err (Store fault)) input left output written = (fault ≡ store.Memory) × ((left ≡ input) ⊎ Keeps output written) × SendsSome input left output written
SendsFrames (Err (Stream stream.Read)) input left output written = SendsSome input left output written
SendsFrames (Err (Stream stream.Write)) input left output written = SendsSome input left output written
SendsFrames (Err (Stream stream.Memory)) input left output written = ⊥
