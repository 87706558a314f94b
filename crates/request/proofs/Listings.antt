-- Listings and paths that grow.
use Rattle.std.proofs.Common.{ℕ, ◌<◌, List, [], ◌∷◌, ◌++◌, length, arith, length-append}
use Rattle.std.proofs.lemmas.List.Elements.{All-push}
use Rattle.limits.specs.declared.TheConstants.{DIRECTORY_NAMES}
use Rattle.request.specs.declared.answer.Listed.{Listed}
use Rattle.osta.specs.Name.{IsName}
use Rattle.request.specs.Path.{IsPath}
use Rattle.request.specs.Listing.{IsNamed, IsListing}

pub listing_push : (names : List Listed) (listed : Listed) → IsListing names → length names < DIRECTORY_NAMES → IsNamed listed → IsListing (names ++ listed ∷ [])
listing_push names listed good lt named =
    record { few = omega (arith, length-append names (listed ∷ [])); named = All-push IsNamed names listed good.named named }

pub path_push : (names : List (List ℕ)) (name : List ℕ) → IsPath names → length names < 255 → IsName name → IsPath (names ++ name ∷ [])
path_push names name good lt named =
    record { few = omega (arith, length-append names (name ∷ [])); names = All-push IsName names name good.names named }
