-- What is printed, as bytes.
use Rattle.std.specs.Prelude.{ℕ, Bool, true, false, List, ◌++◌, codes, decimal, Option, Result, Ok, Err}
use Rattle.std.specs.List.{flat_map}
use Rattle.std.specs.Io.KnownBytes.{Appends}
use Rattle.model.specs.Tree.{Name}
use Rattle.store.specs.declared.history.Commit.{Commit}
use Rattle.engine.specs.Streams.{PutsPrefix}
use Rattle.engine.specs.declared.serving.ServeFault.TheVariants as stream
use Rattle.programs.specs.declared.fault.Fault.{Fault}
use Rattle.programs.specs.declared.fault.Fault.TheVariants.{Usage, Path, Socket, Store, Stream}

-- whether a name leads to a directory
abbrev pub letter : Bool → List ℕ
letter true = codes "d"
letter false = codes "f"

-- a name in a line
abbrev pub name_line : Bool × Name → List ℕ
name_line named = letter named.0 ++ codes " " ++ named.1 ++ codes "\n"

-- names, each in a line
abbrev pub names_text : List (Bool × Name) → List ℕ
names_text names = flat_map name_line names

-- a commit in a line
abbrev pub commit_line : Commit → List ℕ
commit_line c = decimal c.commit ++ codes " " ++ decimal c.vat_icb_address ++ codes " " ++ decimal c.files ++ codes " " ++ decimal c.directories ++ codes "\n"

-- commits, each in a line
abbrev pub commits_text : List Commit → List ℕ
commits_text commits = flat_map commit_line commits

-- that all is sound, with the number of commits
abbrev pub sound_text : ℕ → List ℕ
sound_text commits = codes "sound " ++ decimal commits ++ codes "\n"

-- that a volume was made
abbrev pub formatted_text : List ℕ
formatted_text = codes "formatted\n"

-- bytes were written, all of them or, where a write failed, a prefix
abbrev pub PutsBytes : {T : Type 0} → Result T Fault → Option (List ℕ) → Option (List ℕ) → List ℕ → Type 0
PutsBytes (Ok x) output written bytes = Appends output written bytes
PutsBytes (Err Usage) output written bytes = ⊥
PutsBytes (Err Path) output written bytes = ⊥
PutsBytes (Err Socket) output written bytes = ⊥
PutsBytes (Err (Store fault)) output written bytes = ⊥
PutsBytes (Err (Stream stream.Read)) output written bytes = ⊥
PutsBytes (Err (Stream stream.Write)) output written bytes = PutsPrefix output written bytes
PutsBytes (Err (Stream stream.Memory)) output written bytes = ⊥
