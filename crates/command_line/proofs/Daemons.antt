-- What clap makes of the daemon's words.
use Rattle.std.proofs.Common.{ℕ, List, Option, Some, None, Result, Ok, Err, [], ◌≡◌, ◌∙◌, ap, refl, subst, true}
use Rattle.std.specs.Prelude.{IfErr, IfSome}
use Rattle.clap.specs.Words.{App, HasMatchesOf, fault_of, first_of, first_value, found_of, is_simple, is_simple_and_free, matches_of, rows_of}
use Rattle.clap.specs.declared.parser.matches.ArgMatches.{ArgMatches}
use Rattle.clap.specs.declared.parser.matches.Found.{Found}
use Rattle.clap.proofs.OnLiterals.{clap_on_literals}
use Rattle.clap.proofs.WalkLemmas.{first_value-rows}
use Rattle.command_line.specs.Daemon.{daemon_app}

pub simple : is_simple daemon_app ≡ true
unfolding clap_on_literals
simple = refl

pub simple_and_free : is_simple_and_free daemon_app ≡ true
unfolding clap_on_literals
simple_and_free = refl

-- what the words have under a name
pub value_is : (words : List (List ℕ)) (f : Found) (id : List ℕ) → rows_of f ≡ matches_of daemon_app words → first_value f id ≡ first_of id (matches_of daemon_app words)
value_is words f id e = first_value-rows f id ∙ ap (first_of id) e

-- where clap gave matches, the words have no fault
pub taken_is : (a : App) (words : List (List ℕ)) → a ≡ daemon_app → (is_simple_and_free a ≡ true → fault_of a words ≡ []) → fault_of daemon_app words ≡ []
taken_is a words e h = subst (λ (x : App). is_simple_and_free x ≡ true → fault_of x words ≡ []) e h simple_and_free

pub rows_are : (a : App) (words : List (List ℕ)) (m : ArgMatches) → a ≡ daemon_app → HasMatchesOf a words m → rows_of (found_of m) ≡ matches_of daemon_app words
rows_are a words m e h = (subst (λ (x : App). HasMatchesOf x words m) e h simple).0

pub not_absent : (o : Option (List ℕ)) (x : List ℕ) → None ≡ o → o ≡ Some x → ⊥
not_absent o x e f = subst (λ (it : Option (List ℕ)). IfSome it (λ _. ⊥)) (e ∙ f) tt

pub if_err_all : {T E : Type 0} (r : Result T E) (P : E → Type 0) → ((fault : E) → P fault) → IfErr r P
if_err_all (Ok x) P h = tt
if_err_all (Err fault) P h = h fault
