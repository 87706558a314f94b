-- Why a medium is not opened.
use Rattle.std.specs.Prelude.{⊤, ℕ, ◌≤◌, List}
use Rattle.limits.specs.declared.TheConstants.{PARTITION_START}
use Rattle.model.specs.Session.{State}
use Rattle.durability.specs.Volume.{RecoversTo}
use Rattle.recover.specs.declared.fault.StoreFault.{StoreFault}
use Rattle.recover.specs.declared.fault.StoreFault.TheVariants.{Device, Memory, NotFormatted, Damaged}
use Rattle.recover.specs.Tables.{HasVatIcb, HasNoneFrom}
use Rattle.udf.specs.Udf.{udf}

-- nothing is recovered on the medium, on a drive of this capacity
abbrev pub RecoversToNothingHere : ℕ → List (List ℕ) → Type 0
RecoversToNothingHere capacity medium = (volume : ℕ) (S : State) → RecoversTo udf capacity volume medium S → ⊥

-- a VAT ICB is on the medium
abbrev pub HasSomeEntry : List (List ℕ) → Type 0
HasSomeEntry medium = (at : ℕ) × (PARTITION_START ≤ at) × HasVatIcb medium at

-- the drive failed, memory was short, no VAT ICB is there, or one is and nothing is recovered
abbrev pub IsOpenRefused : ℕ → List (List ℕ) → StoreFault → Type 0
IsOpenRefused capacity medium Device = ⊤
IsOpenRefused capacity medium Memory = ⊤
IsOpenRefused capacity medium NotFormatted = HasNoneFrom medium PARTITION_START
IsOpenRefused capacity medium (Damaged block cause) = HasSomeEntry medium × RecoversToNothingHere capacity medium
IsOpenRefused capacity medium _ = ⊥
