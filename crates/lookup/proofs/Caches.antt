-- What is kept lies there, whatever is put in and taken out.
use Rattle.std.proofs.Common.{◌≡◌, ◌==◌, ◌&&◌, ◌∙◌, inl, inr, Bool, true, false, List, Contains, Some, refl, sym, subst}
use Rattle.std.specs.Prelude.{Result, Ok, Err, OnOk, OnErr}
use Rattle.std.specs.Map.{lookup, remove_entry}
use Rattle.std.proofs.lemmas.Bool.{eqb-true}
use Rattle.drive.specs.Journal.{Event}
use Rattle.lru.specs.LruCache.{LruCache, lru_cache, put_entries}
use Rattle.lru.proofs.CallerLemmas.{Contains-lookup, Contains-remove_entry, Contains-put_entries}
use Rattle.lookup.specs.declared.content.Content.{Content}
use Rattle.lookup.specs.declared.nodes.EntryAt.{EntryAt}
use Rattle.lookup.specs.declared.nodes.Placed.{Placed}
use Rattle.lookup.specs.Cache.{LiesThere}

-- what is kept under a place is there
abbrev pub StandsAt : List Event → EntryAt → Placed × Content → Type 0
StandsAt journal at kept = (kept.0.at ≡ at) × LiesThere journal kept.0 kept.1

abbrev pub Kept : List Event → List (EntryAt × (Placed × Content)) → Type 0
Kept journal es = (at : EntryAt) (kept : Placed × Content) → Contains es (at, kept) → StandsAt journal at kept

-- equal by the test is the same
abbrev pub IsExact : (EntryAt → EntryAt → Bool) → Type 0
IsExact eq = (x y : EntryAt) → eq x y ≡ true → x ≡ y

-- as places are compared
abbrev pub same_place : EntryAt → EntryAt → Bool
same_place x y = (x.number == y.number) && (x.address == y.address)

both : (a b : Bool) → (a && b) ≡ true → (a ≡ true) × (b ≡ true)
both true b e = (refl, e)
both false b e = cc

pub places_exact : IsExact same_place
places_exact x y e =
    let each = both (x.number == y.number) (x.address == y.address) e in
    let number : x.number ≡ y.number = eqb-true x.number y.number each.0 in
    let address : x.address ≡ y.address = eqb-true x.address y.address each.1 in
    λ i. record { number = number i; address = address i }

pub kept_without : (journal : List Event) (test : EntryAt → Bool) (c c' : LruCache EntryAt (Placed × Content)) → c' ≡ lru_cache (remove_entry test c.entries) c.cap → Kept journal c.entries → Kept journal c'.entries
kept_without journal test c c' e kept at here there =
    kept at here (Contains-remove_entry test c.entries (at, here) (subst (λ (x : LruCache EntryAt (Placed × Content)). Contains x.entries (at, here)) e there))

pub kept_found : (journal : List Event) (eq : EntryAt → EntryAt → Bool) (es : List (EntryAt × (Placed × Content))) (at : EntryAt) (here : Placed × Content) → IsExact eq → lookup (eq at) es ≡ Some here → Kept journal es → StandsAt journal at here
kept_found journal eq es at here exact e kept =
    let found = Contains-lookup (eq at) es here e in
    let lies = kept found.0 here found.1 in
    (lies.0 ∙ sym (exact at found.0 found.2), lies.1)

pub kept_with : (journal : List Event) (eq : EntryAt → EntryAt → Bool) (c c' : LruCache EntryAt (Placed × Content)) (placed : Placed) (content : Content) → IsExact eq → c' ≡ lru_cache (put_entries eq c placed.at (placed, content)) c.cap
    → LiesThere journal placed content → Kept journal c.entries → Kept journal c'.entries
kept_with journal eq c c' placed content exact e lies kept x y there =
    elim (Contains-put_entries eq c placed.at (placed, content) (x, y) (subst (λ (z : LruCache EntryAt (Placed × Content)). Contains z.entries (x, y)) e there)) [
      | inl was ↦ kept x y was
      | inr put ↦
          let key : x ≡ placed.at = elim put.1 [ inl same ↦ same | inr other ↦ sym (exact placed.at x other.2) ] in
          subst (λ (z : Placed × Content). StandsAt journal x z) (sym put.0) (sym key, lies)
    ]

pub kept_put : {X E : Type 0} (r : Result X E) (journal : List Event) (eq : EntryAt → EntryAt → Bool) (c c' : LruCache EntryAt (Placed × Content)) (placed : Placed) (content : Content) → IsExact eq
    → OnOk r (c' ≡ lru_cache (put_entries eq c placed.at (placed, content)) c.cap) → OnErr r (c' ≡ c) → LiesThere journal placed content → Kept journal c.entries → Kept journal c'.entries
kept_put (Ok _) journal eq c c' placed content exact ok err lies kept = kept_with journal eq c c' placed content exact ok lies kept
kept_put (Err _) journal eq c c' placed content exact ok err lies kept = subst (λ (z : LruCache EntryAt (Placed × Content)). Kept journal z.entries) (sym err) kept
