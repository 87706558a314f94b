-- A commit that is told is the next one in the history.
use Rattle.std.proofs.Common.{◌≡◌, ℕ, ◌+◌, inl, inr, List, [], ◌∷◌, Some, sym, ap, subst, ◌∙◌}
use Rattle.std.proofs.lemmas.Option.{none-some, same_Some}
use Rattle.drive.specs.Journal.{Event, held}
use Rattle.durability.specs.Formats.{Table_}
use Rattle.vat.specs.Table.{Table}
use Rattle.recover.specs.Tables.{HasTableAt, IsBefore}
use Rattle.recover.proofs.Told.{one_read}
use Rattle.store.specs.declared.history.Commit.{Commit}
use Rattle.store.specs.History.{IsChain, IsHistory, report_of}
use Rattle.embedding.specs.declared.told.CommitStatus.{CommitStatus}
use Rattle.embedding.specs.Commits.{FollowsIn, IsNewest, IsInTurn, TellsCommit, TellsNext, commit_of}

abbrev told_by : ℕ → Table_ → Commit
told_by at t = record { commit = t.commits; vat_icb_address = at; files = t.files; directories = t.directories }

module _ (M : List (List ℕ)) where
  one_told : (at : ℕ) (t u : Table) → HasTableAt M at t → HasTableAt M at u → report_of at t ≡ report_of at u
  one_told at t u h k = ap (told_by at) (one_read M at t u h k)

  -- it is what is told of the table there
  said : (at here : ℕ) (t : Table) (told : CommitStatus) → TellsCommit M at told → at ≡ here → HasTableAt M here t → report_of here t ≡ commit_of told
  said at here t told tells same has =
      one_told here t tells.table has (subst (λ (a : ℕ). HasTableAt M a tells.table) same tells.there) ∙ ap (λ (a : ℕ). report_of a tells.table) (sym same) ∙ sym tells.commit

  first : (newest at : ℕ) (told : CommitStatus) → TellsCommit M at told → at ≡ newest → (commits : List Commit) → IsHistory M newest commits → IsNewest commits (commit_of told)
  first newest at told tells same commits (t, has, earlier, is, chain) =
      subst (λ (cs : List Commit). IsNewest cs (commit_of told)) (sym is) (said at newest t told tells same has)

  module _ (after at : ℕ) (told : CommitStatus) (tells : TellsCommit M at told) (before : IsBefore M after (Some at)) where
    -- the link of a table there
    linked : (here : ℕ) (s : Table) → HasTableAt M here s → here ≡ after → s.previous ≡ Some before.2
    linked here s has same =
        ap (λ (x : Table_). x.previous) (one_read M after s before.0 (subst (λ (a : ℕ). HasTableAt M a s) same has) before.1) ∙ before.3

    chained : (here : ℕ) (s : Table) (earlier : List Commit) → HasTableAt M here s → IsChain M s.previous s.commits earlier → FollowsIn (report_of here s ∷ earlier) after (commit_of told)
    chained here s [] has (none, count) = (λ same. none-some before.2 (sym none ∙ linked here s has same), tt)
    chained here s (e ∷ earlier) has (n, is, v, there, fewer, says, chain) =
        let next : here ≡ after → e ≡ commit_of told = λ same.
        let one : n ≡ before.2 = same_Some n before.2 (sym is ∙ linked here s has same) in
        says ∙ said at (n + 257) v told tells (before.4 ∙ ap (λ (k : ℕ). k + 257) (sym one)) there in
        (next, subst (λ (d : Commit). FollowsIn (d ∷ earlier) after (commit_of told)) (sym says) (chained (n + 257) v earlier there chain))

    follows : (newest : ℕ) (commits : List Commit) → IsHistory M newest commits → FollowsIn commits after (commit_of told)
    follows newest commits (t, has, earlier, is, chain) = subst (λ (cs : List Commit). FollowsIn cs after (commit_of told)) (sym is) (chained newest t earlier has chain)

pub in_turn : (J : List Event) (newest after : ℕ) (told : CommitStatus) → TellsNext J newest after told → (commits : List Commit) → IsHistory (held J) newest commits → IsInTurn commits after (commit_of told)
in_turn J newest after told (at, next, tells) commits history =
    elim next [
      | inl newest_one ↦ (λ zero. first (held J) newest at told tells newest_one.1 commits history, λ other. absurd (other newest_one.0))
      | inr earlier ↦ (λ zero. absurd (earlier.0 zero), λ other. follows (held J) after at told tells earlier.1 newest commits history)
    ]
