-- A program that has a command's words does not end with the status of other words.
use Rattle.std.proofs.Common.{◌≡◌, ◌↔◌, ◌≤◌, ℕ, List, Result, Ok, Err, arith}
use Rattle.std.specs.Prelude.{IfErr}
use Rattle.command_line.specs.declared.command.Command.{Command}
use Rattle.command_line.specs.declared.command.Command.TheVariants.{Format, Apply, List as Listing, Get, Log, Check, Send}
use Rattle.command_line.specs.declared.command.Storage.TheVariants.{Image, Memory}
use Rattle.command_line.specs.Commands.{Asks}
use Rattle.programs.specs.Asked.{IsInRange}
use Rattle.programs.specs.declared.fault.Fault.{Fault}
use Rattle.programs.specs.Status.{status_of, IsRefusal}

asked_status : {T : Type 0} (outcome : Result T Fault) → IfErr outcome IsRefusal → status_of outcome ≤ 1
asked_status (Ok x) h = omega arith
asked_status (Err fault) h = omega (arith, h)

pub asked : {T : Type 0} (outcome : Result T Fault) (status : ℕ) (Is : Command → Type 0) (command : Command) → status ≡ status_of outcome
    → IfErr outcome IsRefusal → Is command → (status ≡ 2) ↔ ((other : Command) → Is other → ⊥)
asked outcome status Is command e h asks =
    let low : status_of outcome ≤ 1 = asked_status outcome h in
    (λ two. absurd (omega (arith, low, e, two)), λ none. absurd (none command asks))

-- the numbers of a command that was read are within their limits
pub in_range : (words : List (List ℕ)) (command : Command) → Asks words command → IsInRange command
in_range words (Format image label moment capacity) h = h.2.4
in_range words (Apply (Image path)) h = tt
in_range words (Apply (Memory capacity)) h = h.2.2.3.1
in_range words (Listing image path) h = tt
in_range words (Get image path) h = tt
in_range words (Log image) h = tt
in_range words (Check image) h = tt
in_range words (Send socket) h = tt
