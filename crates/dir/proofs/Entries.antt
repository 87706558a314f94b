-- What identifiers of directories can say.
use Rattle.std.proofs.Common.{◌≡◌, ℕ, ◌^◌, ◌<◌, true, false, List, [], refl, sym, arith, inl, inr}
use Rattle.osta.proofs.Names.{name_few}
use Rattle.dir.specs.declared.entry.Entry.{Entry}
use Rattle.dir.specs.declared.entry.Kind.{Kind}
use Rattle.dir.specs.declared.entry.Kind.TheVariants.{File, Directory}
use Rattle.dir.specs.Directory.{of_parent, of_name, characteristics_of, IsDirectoryEntry}
use Rattle.dir.specs.Identifier.{Identifier}
use Rattle.dir.specs.Kinds.{IsKind}
use Rattle.dir.specs.Reads.{IsInPlace}
use Rattle.dir.specs.Split.{FitsIdentifier}
use Rattle.dir.proofs.Reading.{same_said}

pub kind_of_name : (k : Kind) → IsKind (characteristics_of k)
kind_of_name File = inl refl
kind_of_name Directory = inr (inl refl)

pub name_in_place : (text : List ℕ) (e : Entry) → IsInPlace false (of_name text e)
name_in_place text e = apart e.kind
  where
    apart : (k : Kind) → characteristics_of k ≡ 0x0A → ⊥
    apart File same = omega arith
    apart Directory same = omega arith

pub name_Fits : (text : List ℕ) (e : Entry) → IsDirectoryEntry (text, e) → FitsIdentifier (of_name text e)
name_Fits text e entry = record { name = name_few text entry.name; kind = kind_of_name e.kind; icb = entry.icb; unique = entry.unique }

pub parent_in_place : (icb : ℕ) → IsInPlace true (of_parent icb)
parent_in_place icb = (refl, refl, refl)

pub parent_Fits : (icb : ℕ) → icb < 2 ^ 32 → FitsIdentifier (of_parent icb)
parent_Fits icb fits = record { name = omega arith; kind = inr (inr refl); icb = fits; unique = omega arith }

-- an identifier in the parent's place says what a parent's does
pub parent_said : (x : Identifier) → IsInPlace true x → x ≡ of_parent x.icb
parent_said x place = sym (same_said x [] 0x0A x.icb 0 (sym place.1) (sym place.0) refl (sym place.2))
