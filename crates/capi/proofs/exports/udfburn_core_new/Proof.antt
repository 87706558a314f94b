-- `udfburn_core_new` writes the address that it got, and hands over what lies there.
use Rattle.std.proofs.Common.{List, [], ◌∷◌, ◌++◌, refl, ap, w32}
use mir.Syntax.{impl, tnil, dnil, named}
use mir.Val.{Val, vint, of_z}
use mir.ValLaws.{of_z_fits}
use base.Fraction.{full_share}
use base.Logic.{SProp, id⊢}
use base.Fml.{ftrue, flft}
use prog.Wp.{WpFn}
use contract.Monad.{fact}
use contract.Running.{tables}
use types.Kit.{‵, raw, ◌⊛◌, some, later, prop, ◌$◌, ◌∵◌, !, qed, by, move, keep, drop, use1, use2, split, join, fsplit, fsplit3, fjoin, feq_i, feq_l, fpack, pick, await, rewrite, regoal}
use types.Part.{sub, whole}
use types.Run.{stop, fld, of_opd, load, look, store, no_more, and_then, assigns, returns, enter}
use types.ByLocal.{alloc_all, pass_all, free_all, look_at, get, get_in, through, sets, lands_as}
use denote.Builtin.{i32}
use denote.Exit.{yes}
use denote.Laws.{Is, shows}
use denote.Memory.{cell_at}
use denote.RattleType.{owns}
use denote.RawPtr.{RawPtr, ptr_val}
use denote.Ref.{mut_Tells}
use denote.Signature.{types_at, plain}
use denote.Signed.{sint_Makes}
use denote.Steps.{nothing, owned, opens, closes, heard, peeks, only}
use denote.Triple.Call.{calls_at}
use denote.Triple.Clauses.{lasts}
use denote.Triple.Spec.{triple_of}
use denote.Triple.Table.{framed}
use denote.Triple.Walked.{Stays, stay_dropped, stay_ref, walk_of, Goes-ref}
use Rattle.std.proofs.alloc.Calls.{Al, Goes-blank, handle_tells}
use Rattle.std.proofs.raw_atomic.Walks.{proved_at, leaves}
use Rattle.std.specs.Prelude.{Option}
use Rattle.std.specs.contracts.alloc.Global as heap
use Rattle.std.specs.contracts.impls.GlobalAllocator.TheImpl.{ghosts}
use Rattle.std.proofs.alloc.Global.TheLaws as heap_laws
use Rattle.embedding.specs.declared.session.Session.{Session}
use Rattle.embedding.specs.Handing.{HandsOut}
use Rattle.embedding.specs.Handing as handing
use Rattle.embedding.specs.contracts.handed.Handed as handed
use Rattle.embedding.proofs.Handing.{ptr_typed, word_told, word_typed}
use Rattle.capi.specs.contracts.exports.udfburn_core_new as f
use Rattle.capi.proofs.exports.udfburn_core_new.Statement.{statement}
use Rattle.capi.proofs.exports.udfburn_core_new.Code as code
use Rattle.embedding.specs.contracts.calls.hand_out as g
use Rattle.embedding.proofs.calls.hand_out.Met.{met}

abbrev stayed : Stays f.ended.signature.params f.ended.kept
stayed = (stay_dropped (plain (λ _. heap.the_row)) yes, (stay_ref (0 ∷ []) tt (plain (λ _. RawPtr)), tt))

abbrev al : Al
al = record { row = heap.the_row; laws = heap_laws.the_row_laws; g = ghosts; d = impl [] tnil dnil; drops = impl [] tnil dnil }

pub udfburn_core_new_spec : {M : Type 1} → statement M
udfburn_core_new_spec 𝓤 𝓛 𝓜 𝓡 wired =
    let c = f.clauses 𝓛 𝓜.mem 𝓡.returns in let 𝓣 = tables 𝓤 𝓛.H 𝓜 𝓡 𝓡.env in
    proved_at 𝓛 f.ended stayed c 𝓜 𝓡 (Goes-blank 𝓛 1 (plain (λ _. heap.the_row)) yes (λ κs x w. tt), (Goes-ref 𝓛 1 0 tt (plain (λ _. RawPtr)), tt))
    f.Key.name code.function (code.unfolded 𝓤 𝓛.H 𝓜 𝓡 wired) (λ z are.
    let Post : Val → SProp 𝓤 = (walk_of 𝓛 f.ended stayed c).post z in
    let κ = z.0.0.0 in let q = z.0.1.0 in let alloc = z.0.3.0 in let r = z.0.3.1.0 in let b = r.ref_ptr.0 in let o = r.ref_ptr.1 in let before = r.now in
    qed 𝓛 (((‵ (flft κ q) ⊛ ‵ ftrue) ⊛ ‵ (owns (types_at f.ended.signature.params z.0.0) z.0.3 z.0.4)) ∷ ‵ ftrue ∷ []) ∵
    split ! $ split ! $ keep ! (2 ∷ 0 ∷ []) $ fsplit ! $ handle_tells al ! alloc z.0.4.0 (λ h eh good.
    -- [the allocator; the other parameter; its token]
    move ! (1 ∷ []) $ fsplit ! $ let er = mut_Tells (named 0) κ RawPtr r z.0.4.1.0 are.1.0 in
    keep ! (0 ∷ 2 ∷ 3 ∷ []) $
    -- [the reference; the allocator; the token]
    regoal ! (λ (us : List Val). prop (WpFn 𝓤 𝓛.H 𝓣.C 𝓣.Λ code.function us Post)) (λ i. eh i ++ (er i ++ [])) refl $
    enter ! _ _ _ _ _ $ alloc_all ! (λ l. pass_all ! refl (good, ((tt, tt), tt)) $
    fsplit3 ! $ move ! (1 ∷ 2 ∷ 4 ∷ []) $ opens ! tt RawPtr b o (λ us. move ! (1 ∷ []) $ feq_l ! (λ e.
    rewrite ! 0 (λ (ws : List Val). ‵ (cell_at full_share RawPtr.mir ws b o)) e refl $
    -- [the pointer; the open borrow, in three entries; the reference's first part; the allocator; the locals]
    sets ! (of_opd ! (load ! (through ! refl (stop !)) (look ! 0 refl))) refl (ptr_typed before) $
    let G = triple_of 𝓛 g.signature (g.spec 𝓛 𝓜.mem 𝓡.returns) in
    let y : G.Ghost = ((tt, tt, tt, (alloc, (before, tt)), (h ∷ [], (ptr_val before ∷ [], tt))), tt) in
    nothing ! $ feq_i ! (List Val) (ptr_val before ∷ []) (ptr_val before ∷ []) refl $ join ! $ move ! (6 ∷ 0 ∷ []) $ join ! $ nothing ! $ join ! $ nothing ! $ move ! (1 ∷ 0 ∷ []) $
    use2 𝓛 (raw (G.pre y)) (id⊢ 𝓤 _) $
    calls_at ! (framed 𝓤 𝓛.H 𝓜 𝓣) G (met 𝓤 𝓛 𝓜 𝓡 (code.calls-embedding::calls::hand_out 𝓡.env wired)) y
    (and_then ! (get ! refl) (and_then ! (get ! refl) (no_more !))) (λ v.
    use1 𝓛 (later (some (λ (u : (handed.the_row).Denot). (‵ ftrue ⊛ ‵ ((handed.the_row).own_val u (v ∷ []))) ⊛
    some (λ (ws : Unit {0} × (Unit {0} × Unit {0})). ‵ (lasts g.ended y.0.0 y.0.3 ws) ⊛ raw (fact 𝓤 (HandsOut u.status before u.at u.core)))))) (id⊢ 𝓤 _) $
    await ! tt $ pick ! (λ u. split ! $ split ! $ drop ! $
    peeks ! handed.the_row (Is handed.the_row) (shows 𝓛 handed.the_row) u (v ∷ []) (λ is. let told = word_told u.at u.status (v ∷ []) is.0 in
    fsplit ! $ drop ! $ lands_as ! (ap only told.0) refl (word_typed u.at u.status told.1) $
    move ! (1 ∷ []) $ pick ! (λ ws. split ! $ drop ! $ heard ! (HandsOut u.status before u.at u.core) (λ known.
    -- [what was handed over; the pointer; the open borrow, in three entries; the reference's first part; the locals]
    let fits = of_z_fits w32 u.status (record { sfits = told.1.1 }) in
    sets ! (of_opd ! (get_in ! (fld ! refl (stop !)) (sub ! 0 refl (whole !)))) refl (ptr_typed u.at) $
    sets ! (of_opd ! (get_in ! (fld ! refl (stop !)) (sub ! 1 refl (whole !)))) refl (tt, fits) $
    assigns ! (of_opd ! (get ! refl)) (through ! refl (stop !)) (store ! 1 refl (ptr_typed u.at)) $
    sets ! (of_opd ! (get ! refl)) refl (tt, fits) $
    feq_i ! (List Val) (ptr_val u.at ∷ []) (ptr_val u.at ∷ []) refl $ move ! (2 ∷ 0 ∷ 3 ∷ 4 ∷ 5 ∷ []) $ closes ! tt RawPtr u.at (ptr_val u.at ∷ []) b o $
    returns ! (look_at ! 0 refl) $ free_all ! refl $
    -- [two parts of the reference; its token; what was handed over; the reference's first part]
    owned ! i32 _ (sint_Makes 𝓛 w32) u.status _ told.1 $ move ! (4 ∷ []) $
    fpack ! ((core : Option Session) × HandsOut u.status before u.at core) (λ k. handing.handed_at u.at k.0) (u.core, known) $
    move ! (2 ∷ 3 ∷ []) $ fjoin ! $ move ! (4 ∷ 0 ∷ []) $ fjoin ! $ nothing ! $ move ! (1 ∷ 0 ∷ []) $ fjoin ! $ nothing ! $ fjoin ! $
    nothing ! $ move ! (4 ∷ 0 ∷ []) $ join ! $ move ! (0 ∷ 1 ∷ 3 ∷ 2 ∷ []) $
    by ! (leaves 𝓛 f.ended stayed c z (vint w32 (of_z w32 u.status)) u.status (tt, (u.at, tt)) (tt, (tt, tt)))))))))))))
