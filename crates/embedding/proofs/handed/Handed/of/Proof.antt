-- `of` hands over what the loose box owns.
use Rattle.std.proofs.Common.{◌≡◌, List, [], ◌∷◌, ◌++◌, refl, w32}
use mir.Val.{Val}
use mir.ValLaws.{of_z_fits}
use base.Logic.{SProp, emp, id⊢}
use base.Fml.{ftrue}
use prog.Wp.{WpFn}
use contract.Monad.{fact, fact_i}
use contract.Running.{tables}
use types.Kit.{‵, raw, ◌⊛◌, prop, ◌$◌, ◌∵◌, !, qed, by, move, keep, use0, use1, split, regoal, fsplit, fjoin}
use types.Part.{agg, sub, whole}
use types.Run.{stop, fld, of_opd, no_more, and_then, returns, enter}
use types.ByLocal.{alloc_all, pass_all, free_all, look_at, get, get_in, sets}
use denote.Builtin.{i32}
use denote.Exit.{yes}
use denote.RattleType.{RattleType, owns}
use denote.RawPtr.{block_ptr}
use denote.Signature.{types_at, plain}
use denote.Steps.{nothing}
use denote.Triple.Entry.{alive}
use denote.Triple.Walked.{Stays, stay_dropped, walk_of, Goes-dropped}
use Rattle.std.proofs.alloc.Calls.{Goes-blank}
use Rattle.std.proofs.raw_atomic.Walks.{proved_at, leaves}
use Rattle.std.specs.Prelude.{Some}
use Rattle.std.specs.contracts.alloc.Global as heap
use Rattle.std.specs.contracts.impls.GlobalAllocator.TheImpl.{ghosts}
use Rattle.std.proofs.alloc.Global.TheLaws as heap_laws
use Rattle.embedding.specs.contracts.session.Session as session
use Rattle.embedding.specs.contracts.loose.Loose as loose
use Rattle.embedding.specs.Handing as handing
use Rattle.embedding.proofs.Boxes.{loose_good, loose_out}
use Rattle.embedding.proofs.Handing.{word, word_own, word_made, word_typed}
use Rattle.embedding.specs.contracts.handed.Handed as handed
use Rattle.embedding.specs.contracts.handed.Handed.of.{ended, clauses}
use Rattle.embedding.specs.contracts.handed.Handed.of.Key.{name as #self}
use Rattle.embedding.proofs.handed.Handed.of.Statement.{statement}
use Rattle.embedding.proofs.handed.Handed.of.Code as code

abbrev Box_ : RattleType
Box_ = loose.the_row session.the_row heap.the_row ghosts

abbrev stayed : Stays ended.signature.params ended.kept
stayed = (stay_dropped (plain (λ _. Box_)) yes, (stay_dropped (plain (λ _. i32)) yes, tt))

pub of_spec : {M : Type 1} → statement M
of_spec 𝓤 𝓛 𝓜 𝓡 wired =
    let c = clauses 𝓛 𝓜.mem 𝓡.returns in let 𝓣 = tables 𝓤 𝓛.H 𝓜 𝓡 𝓡.env in
    proved_at 𝓛 ended stayed c 𝓜 𝓡 (Goes-blank 𝓛 0 (plain (λ _. Box_)) yes (λ κs x w. tt), (Goes-dropped 𝓛 0 (plain (λ _. i32)) yes (λ κs x w. refl), tt))
    #self code.function (code.unfolded 𝓤 𝓛.H 𝓜 𝓡 wired) (λ z are.
    let Post : Val → SProp 𝓤 = (walk_of 𝓛 ended stayed c).post z in let d = z.0.3.0 in let n = z.0.3.1.0 in let fits = are.1.0 in let told = d.value in
    let ok = of_z_fits w32 n (record { sfits = fits.1 }) in
    qed 𝓛 ((raw (alive 𝓛 ended.signature z.0.0 z.0.1) ⊛ ‵ (owns (types_at ended.signature.params z.0.0) z.0.3 z.0.4)) ∷ ‵ ftrue ∷ []) ∵ split ! $ keep ! (1 ∷ 0 ∷ []) $ fsplit ! $
    -- [the box; the number; what lives]
    loose_out session.the_row heap.the_row heap_laws.the_row_laws ghosts ! d z.0.4.0 (λ b o h e ws good.
    -- [the box's memory; its allocator; the number; what lives]
    keep ! (0 ∷ 3 ∷ []) $ let p = block_ptr b o in
    let x : (handed.the_row).Denot = record { at = p; status = n; core = Some told } in let Told : Type 0 = (n ≡ n) × (x.core ≡ Some told) in
    regoal ! (λ (us : List Val). prop (WpFn 𝓤 𝓛.H 𝓣.C 𝓣.Λ code.function us Post)) (λ i. ws i ++ (fits.0 i ++ [])) refl $
    enter ! _ _ _ _ _ $ alloc_all ! (λ l. pass_all ! refl (loose_good session.the_row heap.the_row heap_laws.the_row_laws ghosts b o h good, ((tt, ok), tt)) $
    sets ! (of_opd ! (get_in ! (fld ! refl (stop !)) (sub ! 0 refl (whole !)))) refl (tt, tt) $
    sets ! (agg ! (and_then ! (get ! refl) (and_then ! (get ! refl) (no_more !)))) refl (word_typed p n (refl, fits.1)) $
    returns ! (look_at ! 0 refl) $ free_all ! refl $
    use1 𝓛 (‵ (handing.handed_at p (Some told))) (id⊢ 𝓤 _) $
    use0 𝓛 (‵ (word_own p n (word p n ∷ []))) (word_made p n 𝓛 (refl, fits.1)) $ fjoin ! $
    use0 𝓛 (raw (fact 𝓤 Told)) (fact_i 𝓤 Told (emp 𝓤) (refl, refl)) $ nothing ! $ nothing ! $ fjoin ! $ nothing ! $ fjoin ! $ move ! (3 ∷ 0 ∷ 2 ∷ 1 ∷ []) $
    by ! (leaves 𝓛 ended stayed c z (word p n) x (tt, (tt, tt)) (tt, (tt, tt))))))
