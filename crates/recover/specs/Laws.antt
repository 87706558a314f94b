-- What follows from what was read, each the contract of a public function.
use Rattle.std.specs.Prelude.{ℕ, List, Some}
use Rattle.durability.specs.Volume.{RecoversTo}
use Rattle.udf.specs.Udf.{udf}
use Rattle.recover.specs.declared.state.State.{State}
use Rattle.recover.specs.State.{IsShown}
use Rattle.recover.specs.Tables.{IsLastVatIcb}

-- what was read at the last VAT ICB is what the medium recovers to
abbrev pub LastRecovers : Type 0
LastRecovers =
    (capacity : ℕ) (medium : List (List ℕ)) (at : ℕ) (state : State) (shown : IsShown capacity medium at state) → IsLastVatIcb medium (Some at)
    → RecoversTo udf capacity state.capacity medium shown.said
