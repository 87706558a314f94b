-- Virtual addresses, and where they lead to.
use Rattle.std.specs.Prelude.{◌≡◌, ℕ, ◌+◌, ◌<◌, List, slice_get, Option, Some, IfSome, All}
use Rattle.limits.specs.declared.TheConstants.{PARTITION_START}

-- each block number is that of a block below an address
abbrev pub AreBelow : ℕ → List (Option ℕ) → Type 0
AreBelow at entries = All (λ e. IfSome e (λ n. n + PARTITION_START < at)) entries

-- the virtual address leads somewhere
abbrev pub IsUsed : ℕ → List (Option ℕ) → Type 0
IsUsed address entries = (number : ℕ) × (slice_get entries address ≡ Some (Some number))
